-- Operations are within their limits if their shapes and their contents are.
use Rattle.std.proofs.Common.{◌≡◌, ℕ, suc, ◌<◌, ◌&&◌, Bool, true, false, List, [], ◌∷◌, length, get_or, map, refl, sym, ap, ◌∙◌}
use Rattle.std.specs.Prelude.{nat_lt}
use Rattle.std.specs.List.{list_all}
use Rattle.std.proofs.lemmas.Bool.{lt-ltb}
use Rattle.std.proofs.lemmas.List.{length-map}
use Rattle.base.specs.declared.operation.Op.{Op}
use Rattle.base.specs.formats.Records.{is_content_allowed}
use Rattle.base.specs.history.Plans.{shape_of, is_shape_allowed}
use Rattle.records.specs.Records.{is_op_allowed, are_ops_allowed}

-- the bytes of a write are bytes
pub all_bytes : (bytes : List ℕ) → ((i : ℕ) → get_or bytes i 0 < 256) → list_all (λ b. nat_lt b 256) bytes ≡ true
all_bytes [] h = refl
all_bytes (b ∷ bytes) h = rw (lt-ltb b 256 (h 0), all_bytes bytes (λ i. h (suc i))) refl

four : (a b c d : Bool) → (a && b && (c && d)) ≡ (a && c && (b && d))
four true true c d = refl
four true false true d = refl
four true false false d = refl
four false b c d = refl

each_allowed : (ops : List Op) → list_all is_op_allowed ops ≡ (list_all is_shape_allowed (map shape_of ops) && list_all is_content_allowed ops)
each_allowed [] = refl
each_allowed (op ∷ ops) =
    ap (λ (b : Bool). is_shape_allowed (shape_of op) && is_content_allowed op && b) (each_allowed ops)
    ∙ four (is_shape_allowed (shape_of op)) (is_content_allowed op) (list_all is_shape_allowed (map shape_of ops)) (list_all is_content_allowed ops)

three : (a b c : Bool) → (a && (b && c)) ≡ (a && b && c)
three true b c = refl
three false b c = refl

pub some_allowed : (ops : List Op) → (nat_lt 0 (length ops) && list_all is_op_allowed ops) ≡ are_ops_allowed ops
some_allowed ops =
    ap (λ (b : Bool). nat_lt 0 (length ops) && b) (each_allowed ops)
    ∙ three (nat_lt 0 (length ops)) (list_all is_shape_allowed (map shape_of ops)) (list_all is_content_allowed ops)
    ∙ ap (λ (n : ℕ). nat_lt 0 n && list_all is_shape_allowed (map shape_of ops) && list_all is_content_allowed ops) (sym (length-map ops shape_of))

pub some_are_allowed : (ops : List Op) {test : Bool} → nat_lt 0 (length ops) ≡ true → test ≡ list_all is_op_allowed ops → test ≡ are_ops_allowed ops
some_are_allowed ops some each = each ∙ ap (λ (b : Bool). b && list_all is_op_allowed ops) (sym some) ∙ some_allowed ops

-- a write of bytes
pub write_is_allowed : (bytes : List ℕ) (shape test : Bool) → ((i : ℕ) → get_or bytes i 0 < 256) → test ≡ shape → test ≡ (shape && list_all (λ b. nat_lt b 256) bytes)
write_is_allowed bytes true test h same = same ∙ sym (all_bytes bytes h)
write_is_allowed bytes false test h same = same
