-- An operation that is read is the one that was written, and what was written is read again.
use Rattle.std.proofs.Common.{◌≡◌, ℕ, zero, suc, ◌+◌, ◌^◌, ◌<◌, ◌&&◌, Bool, true, false, cond, eqb, List, [], ◌∷◌, ◌++◌, length, Some, None, refl, sym, ap, subst, ◌∙◌, append_assoc, arith, inl, inr}
use Rattle.std.specs.Prelude.{nat_lt, nat_le}
use Rattle.std.specs.List.{flat_map, list_all}
use Rattle.std.specs.Int.{w32, w64, to_le_bytes}
use Rattle.std.proofs.lemmas.Bool.{and_parts, eqb-true, leb-true}
use Rattle.std.proofs.lemmas.List.Concat.{flat_map-cons}
use Rattle.base.specs.declared.operation.Op.{Op}
use Rattle.base.specs.declared.operation.Op.TheVariants.{Create, Remove, Write, SetLength, SetName}
use Rattle.base.specs.formats.Limits.{object_count, max_length, max_name}
use Rattle.base.specs.formats.Records.{op_bytes, is_content_allowed}
use Rattle.base.specs.history.Plans.{shape_of, is_shape_allowed}
use Rattle.base.proofs.common.Choices.{chosen}
use Rattle.base.proofs.formats.RecordSpelling.{below_objects, name_part}
use Rattle.records.specs.Records.{is_op_allowed}
use Rattle.records.specs.Reading.{◌>>=◌, number_in, string_in, create_in, remove_in, write_in, set_length_in, set_name_in, tagged_in, op_in, ops_in}
use Rattle.records.proofs.Fields.{IsBytes, bind_some, bind-some, some_is, Takes, Takes-then, wide32, wide64, number_takes, number_again, string, string_takes, string_again}

-- the bytes of an operation after its tag
abbrev fields : Op → List ℕ
fields (Create n) = to_le_bytes w32 n.0
fields (Remove n) = to_le_bytes w32 n.0
fields (Write n offset bytes) = to_le_bytes w32 n.0 ++ (to_le_bytes w64 offset ++ string bytes)
fields (SetLength n new) = to_le_bytes w32 n.0 ++ to_le_bytes w64 new
fields (SetName bytes) = string bytes

abbrev tag_of : Op → ℕ
tag_of (Create n) = 1
tag_of (Remove n) = 2
tag_of (Write n offset bytes) = 3
tag_of (SetLength n new) = 4
tag_of (SetName bytes) = 5

tag-fields : (op : Op) → tag_of op ∷ fields op ≡ op_bytes op
tag-fields (Create n) = refl
tag-fields (Remove n) = refl
tag-fields (Write n offset bytes) = refl
tag-fields (SetLength n new) = refl
tag-fields (SetName bytes) = refl

-- bytes are those of an operation of this tag after its tag, and a rest
abbrev TakesOp : ℕ → List ℕ → Op × List ℕ → Type 0
TakesOp tag bytes x = Takes bytes (fields x.0) x.1 × (tag_of x.0 ≡ tag)

create_takes : (bytes : List ℕ) (x : Op × List ℕ) → IsBytes bytes → create_in bytes ≡ Some x → TakesOp 1 bytes x
unfolding create_in
create_takes bytes x fits e =
    let a = bind_some (number_in w32 bytes) (λ n. Some (Create (record { 0 = n.0 }), n.1)) x e in
    let t = number_takes w32 (2 ^ 32) wide32 bytes a.0.0 a.0.1 fits a.1 in
    let made : Op × List ℕ = (Create (record { 0 = a.0.0 }), a.0.1) in
    subst (λ (y : Op × List ℕ). TakesOp 1 bytes y) (some_is made x a.2) (t.0, refl)

remove_takes : (bytes : List ℕ) (x : Op × List ℕ) → IsBytes bytes → remove_in bytes ≡ Some x → TakesOp 2 bytes x
unfolding remove_in
remove_takes bytes x fits e =
    let a = bind_some (number_in w32 bytes) (λ n. Some (Remove (record { 0 = n.0 }), n.1)) x e in
    let t = number_takes w32 (2 ^ 32) wide32 bytes a.0.0 a.0.1 fits a.1 in
    let made : Op × List ℕ = (Remove (record { 0 = a.0.0 }), a.0.1) in
    subst (λ (y : Op × List ℕ). TakesOp 2 bytes y) (some_is made x a.2) (t.0, refl)

write_takes : (bytes : List ℕ) (x : Op × List ℕ) → IsBytes bytes → write_in bytes ≡ Some x → TakesOp 3 bytes x
unfolding write_in
write_takes bytes x fits e =
    let a = bind_some (number_in w32 bytes) (λ n. number_in w64 n.1 >>= λ offset. string_in offset.1 >>= λ content. Some (Write (record { 0 = n.0 }) offset.0 content.0, content.1)) x e in
    let b = bind_some (number_in w64 a.0.1) (λ offset. string_in offset.1 >>= λ content. Some (Write (record { 0 = a.0.0 }) offset.0 content.0, content.1)) x a.2 in
    let c = bind_some (string_in b.0.1) (λ content. Some (Write (record { 0 = a.0.0 }) b.0.0 content.0, content.1)) x b.2 in
    let t0 = number_takes w32 (2 ^ 32) wide32 bytes a.0.0 a.0.1 fits a.1 in
    let t1 = number_takes w64 (2 ^ 64) wide64 a.0.1 b.0.0 b.0.1 t0.0.rest_fits b.1 in
    let t2 = string_takes b.0.1 c.0.0 c.0.1 t1.0.rest_fits c.1 in
    let e12 = Takes-then a.0.1 (to_le_bytes w64 b.0.0) b.0.1 (string c.0.0) c.0.1 t1.0 t2 in
    let e02 = Takes-then bytes (to_le_bytes w32 a.0.0) a.0.1 (to_le_bytes w64 b.0.0 ++ string c.0.0) c.0.1 t0.0 e12 in
    let made : Op × List ℕ = (Write (record { 0 = a.0.0 }) b.0.0 c.0.0, c.0.1) in
    subst (λ (y : Op × List ℕ). TakesOp 3 bytes y) (some_is made x c.2) (e02, refl)

set_length_takes : (bytes : List ℕ) (x : Op × List ℕ) → IsBytes bytes → set_length_in bytes ≡ Some x → TakesOp 4 bytes x
unfolding set_length_in
set_length_takes bytes x fits e =
    let a = bind_some (number_in w32 bytes) (λ n. number_in w64 n.1 >>= λ new. Some (SetLength (record { 0 = n.0 }) new.0, new.1)) x e in
    let b = bind_some (number_in w64 a.0.1) (λ new. Some (SetLength (record { 0 = a.0.0 }) new.0, new.1)) x a.2 in
    let t0 = number_takes w32 (2 ^ 32) wide32 bytes a.0.0 a.0.1 fits a.1 in
    let t1 = number_takes w64 (2 ^ 64) wide64 a.0.1 b.0.0 b.0.1 t0.0.rest_fits b.1 in
    let both = Takes-then bytes (to_le_bytes w32 a.0.0) a.0.1 (to_le_bytes w64 b.0.0) b.0.1 t0.0 t1.0 in
    let made : Op × List ℕ = (SetLength (record { 0 = a.0.0 }) b.0.0, b.0.1) in
    subst (λ (y : Op × List ℕ). TakesOp 4 bytes y) (some_is made x b.2) (both, refl)

set_name_takes : (bytes : List ℕ) (x : Op × List ℕ) → IsBytes bytes → set_name_in bytes ≡ Some x → TakesOp 5 bytes x
unfolding set_name_in
set_name_takes bytes x fits e =
    let a = bind_some (string_in bytes) (λ name. Some (SetName name.0, name.1)) x e in
    let t = string_takes bytes a.0.0 a.0.1 fits a.1 in
    let made : Op × List ℕ = (SetName a.0.0, a.0.1) in
    subst (λ (y : Op × List ℕ). TakesOp 5 bytes y) (some_is made x a.2) (t, refl)

tagged_takes : (tag : ℕ) (bytes : List ℕ) (x : Op × List ℕ) → IsBytes bytes → tagged_in tag bytes ≡ Some x → TakesOp tag bytes x
unfolding tagged_in
tagged_takes tag bytes x fits e =
    elim (chosen (eqb tag 1) _ _ _ e) [
      | inl here ↦ subst (λ (t : ℕ). TakesOp t bytes x) (sym (eqb-true tag 1 here.0)) (create_takes bytes x fits here.1)
      | inr past_1 ↦ elim (chosen (eqb tag 2) _ _ _ past_1.1) [
        | inl here ↦ subst (λ (t : ℕ). TakesOp t bytes x) (sym (eqb-true tag 2 here.0)) (remove_takes bytes x fits here.1)
        | inr past_2 ↦ elim (chosen (eqb tag 3) _ _ _ past_2.1) [
          | inl here ↦ subst (λ (t : ℕ). TakesOp t bytes x) (sym (eqb-true tag 3 here.0)) (write_takes bytes x fits here.1)
          | inr past_3 ↦ elim (chosen (eqb tag 4) _ _ _ past_3.1) [
            | inl here ↦ subst (λ (t : ℕ). TakesOp t bytes x) (sym (eqb-true tag 4 here.0)) (set_length_takes bytes x fits here.1)
            | inr past_4 ↦ elim (chosen (eqb tag 5) _ _ _ past_4.1) [
              | inl here ↦ subst (λ (t : ℕ). TakesOp t bytes x) (sym (eqb-true tag 5 here.0)) (set_name_takes bytes x fits here.1)
              | inr none ↦ let no = none.1 in absurd cc
            ]
          ]
        ]
      ]
    ]

IsBytes-rest : (b : ℕ) (bytes : List ℕ) → IsBytes (b ∷ bytes) → IsBytes bytes
IsBytes-rest b bytes h i = h (suc i)

test_ok : {A : Type 0} (b : Bool) (x y : A) → cond b (Some x) None ≡ Some y → (b ≡ true) × (x ≡ y)
test_ok true x y e = (refl, cc)
test_ok false x y e = absurd cc

pub op_takes : (bytes : List ℕ) (x : Op × List ℕ) → IsBytes bytes → op_in bytes ≡ Some x → Takes bytes (op_bytes x.0) x.1 × (is_op_allowed x.0 ≡ true)
unfolding op_in
op_takes [] x fits e = absurd cc
op_takes (tag ∷ bytes) x fits e =
    let a = bind_some (tagged_in tag bytes) (λ op. cond (is_op_allowed op.0) (Some op) None) x e in
    let g = test_ok (is_op_allowed a.0.0) a.0 x a.2 in
    let t = tagged_takes tag bytes a.0 (IsBytes-rest tag bytes fits) a.1 in
    let parts : tag ∷ bytes ≡ op_bytes a.0.0 ++ a.0.1 = (λ i. sym t.1 i ∷ t.0.parts i) ∙ ap (λ (l : List ℕ). l ++ a.0.1) (tag-fields a.0.0) in
    subst (λ (y : Op × List ℕ). Takes (tag ∷ bytes) (op_bytes y.0) y.1 × (is_op_allowed y.0 ≡ true)) g.1 (record { parts = parts; rest_fits = t.0.rest_fits }, g.0)

-- what is written is read again
create_again : (n : ℕ) (rest : List ℕ) → n < 2 ^ 32 → create_in (to_le_bytes w32 n ++ rest) ≡ Some (Create (record { 0 = n }), rest)
unfolding create_in
create_again n rest h = bind-some (number_in w32 (to_le_bytes w32 n ++ rest)) (λ n. Some (Create (record { 0 = n.0 }), n.1)) (n, rest) (number_again w32 (2 ^ 32) wide32 n rest h)

remove_again : (n : ℕ) (rest : List ℕ) → n < 2 ^ 32 → remove_in (to_le_bytes w32 n ++ rest) ≡ Some (Remove (record { 0 = n }), rest)
unfolding remove_in
remove_again n rest h = bind-some (number_in w32 (to_le_bytes w32 n ++ rest)) (λ n. Some (Remove (record { 0 = n.0 }), n.1)) (n, rest) (number_again w32 (2 ^ 32) wide32 n rest h)

write_again : (n offset : ℕ) (content rest : List ℕ) → n < 2 ^ 32 → offset < 2 ^ 64 → length content < 2 ^ 32
    → write_in (to_le_bytes w32 n ++ (to_le_bytes w64 offset ++ (string content ++ rest))) ≡ Some (Write (record { 0 = n }) offset content, rest)
unfolding write_in
write_again n offset content rest h k l =
    bind-some (number_in w32 (to_le_bytes w32 n ++ (to_le_bytes w64 offset ++ (string content ++ rest))))
    (λ n. number_in w64 n.1 >>= λ offset. string_in offset.1 >>= λ content. Some (Write (record { 0 = n.0 }) offset.0 content.0, content.1))
    (n, to_le_bytes w64 offset ++ (string content ++ rest)) (number_again w32 (2 ^ 32) wide32 n (to_le_bytes w64 offset ++ (string content ++ rest)) h)
    ∙ bind-some (number_in w64 (to_le_bytes w64 offset ++ (string content ++ rest)))
    (λ offset. string_in offset.1 >>= λ content. Some (Write (record { 0 = n }) offset.0 content.0, content.1))
    (offset, string content ++ rest) (number_again w64 (2 ^ 64) wide64 offset (string content ++ rest) k)
    ∙ bind-some (string_in (string content ++ rest)) (λ content. Some (Write (record { 0 = n }) offset content.0, content.1)) (content, rest) (string_again content rest l)

set_length_again : (n new : ℕ) (rest : List ℕ) → n < 2 ^ 32 → new < 2 ^ 64
    → set_length_in (to_le_bytes w32 n ++ (to_le_bytes w64 new ++ rest)) ≡ Some (SetLength (record { 0 = n }) new, rest)
unfolding set_length_in
set_length_again n new rest h k =
    bind-some (number_in w32 (to_le_bytes w32 n ++ (to_le_bytes w64 new ++ rest)))
    (λ n. number_in w64 n.1 >>= λ new. Some (SetLength (record { 0 = n.0 }) new.0, new.1))
    (n, to_le_bytes w64 new ++ rest) (number_again w32 (2 ^ 32) wide32 n (to_le_bytes w64 new ++ rest) h)
    ∙ bind-some (number_in w64 (to_le_bytes w64 new ++ rest)) (λ new. Some (SetLength (record { 0 = n }) new.0, new.1)) (new, rest) (number_again w64 (2 ^ 64) wide64 new rest k)

set_name_again : (content rest : List ℕ) → length content < 2 ^ 32 → set_name_in (string content ++ rest) ≡ Some (SetName content, rest)
unfolding set_name_in
set_name_again content rest l = bind-some (string_in (string content ++ rest)) (λ name. Some (SetName name.0, name.1)) (content, rest) (string_again content rest l)

tagged_again : (op : Op) (rest : List ℕ) → is_shape_allowed (shape_of op) ≡ true → tagged_in (tag_of op) (fields op ++ rest) ≡ Some (op, rest)
unfolding tagged_in
tagged_again (Create n) rest a = create_again n.0 rest (below_objects n.0 a)
tagged_again (Remove n) rest a = remove_again n.0 rest (below_objects n.0 a)
tagged_again (Write n offset bytes) rest a =
    let in_limits = and_parts (nat_lt n.0 object_count && nat_lt 0 (length bytes)) (nat_le (offset + length bytes) max_length) a in
    let number = and_parts (nat_lt n.0 object_count) (nat_lt 0 (length bytes)) in_limits.0 in
    let end = leb-true (offset + length bytes) max_length in_limits.1 in
    write_again n.0 offset bytes rest (below_objects n.0 number.0) (omega (arith, end)) (omega (arith, end))
tagged_again (SetLength n new) rest a =
    let in_limits = and_parts (nat_lt n.0 object_count) (nat_le new max_length) a in
    let end = leb-true new max_length in_limits.1 in
    set_length_again n.0 new rest (below_objects n.0 in_limits.0) (omega (arith, end))
tagged_again (SetName bytes) rest a =
    let end = leb-true (length bytes) max_name (name_part (length bytes) a) in
    set_name_again bytes rest (omega (arith, end))

pub op_again : (op : Op) (rest : List ℕ) → is_op_allowed op ≡ true → op_in (op_bytes op ++ rest) ≡ Some (op, rest)
unfolding op_in
op_again op rest allowed =
    let parts = and_parts (is_shape_allowed (shape_of op)) (is_content_allowed op) allowed in
    ap (λ (l : List ℕ). op_in (l ++ rest)) (sym (tag-fields op))
    ∙ bind-some (tagged_in (tag_of op) (fields op ++ rest)) (λ op. cond (is_op_allowed op.0) (Some op) None) (op, rest) (tagged_again op rest parts.0)
    ∙ ap (λ (b : Bool). cond b (Some (op, rest)) None) allowed

pub ops_take : (n : ℕ) (bytes : List ℕ) (x : List Op × List ℕ) → IsBytes bytes → ops_in n bytes ≡ Some x → Takes bytes (flat_map op_bytes x.0) x.1 × (length x.0 ≡ n) × (list_all is_op_allowed x.0 ≡ true)
unfolding ops_in
ops_take zero bytes x fits e =
    subst (λ (y : List Op × List ℕ). Takes bytes (flat_map op_bytes y.0) y.1 × (length y.0 ≡ 0) × (list_all is_op_allowed y.0 ≡ true)) (some_is ([], bytes) x e) (record { parts = refl; rest_fits = fits }, refl, refl)
ops_take (suc n) bytes x fits e =
    let a = bind_some (op_in bytes) (λ first. ops_in n first.1 >>= λ others. Some (first.0 ∷ others.0, others.1)) x e in
    let b = bind_some (ops_in n a.0.1) (λ others. Some (a.0.0 ∷ others.0, others.1)) x a.2 in
    let first = op_takes bytes a.0 fits a.1 in
    let second = ops_take n a.0.1 b.0 first.0.rest_fits b.1 in
    let both = Takes-then bytes (op_bytes a.0.0) a.0.1 (flat_map op_bytes b.0.0) b.0.1 first.0 second.0 in
    let made : List Op × List ℕ = (a.0.0 ∷ b.0.0, b.0.1) in
    let allowed : list_all is_op_allowed (a.0.0 ∷ b.0.0) ≡ true = rw (first.1, second.2) refl in
    subst (λ (y : List Op × List ℕ). Takes bytes (flat_map op_bytes y.0) y.1 × (length y.0 ≡ suc n) × (list_all is_op_allowed y.0 ≡ true)) (some_is made x b.2) (rw flat_map-cons both, ap suc second.1, allowed)

pub ops_again : (ops : List Op) (rest : List ℕ) → list_all is_op_allowed ops ≡ true → ops_in (length ops) (flat_map op_bytes ops ++ rest) ≡ Some (ops, rest)
unfolding ops_in
ops_again [] rest allowed = refl
ops_again (op ∷ ops) rest allowed =
    let parts = and_parts (is_op_allowed op) (list_all is_op_allowed ops) allowed in
    let regrouped : flat_map op_bytes (op ∷ ops) ++ rest ≡ op_bytes op ++ (flat_map op_bytes ops ++ rest) = ap (λ (x : List ℕ). x ++ rest) (flat_map-cons op_bytes op ops) ∙ append_assoc (op_bytes op) (flat_map op_bytes ops) rest in
    ap (ops_in (suc (length ops))) regrouped
    ∙ bind-some (op_in (op_bytes op ++ (flat_map op_bytes ops ++ rest))) (λ first. ops_in (length ops) first.1 >>= λ others. Some (first.0 ∷ others.0, others.1)) (op, flat_map op_bytes ops ++ rest) (op_again op (flat_map op_bytes ops ++ rest) parts.0)
    ∙ bind-some (ops_in (length ops) (flat_map op_bytes ops ++ rest)) (λ others. Some (op ∷ others.0, others.1)) (ops, rest) (ops_again ops rest parts.1)
