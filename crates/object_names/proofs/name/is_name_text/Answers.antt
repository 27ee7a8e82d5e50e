use Rattle.std.proofs.Common.{◌≡◌, ℕ, List, Bool, false, ap, ◌∙◌, refl}
use Rattle.std.specs.Str.{IsUtf8, chars, is_utf8}
use Rattle.std.specs.List.{list_all}
use Rattle.std.proofs.lemmas.Str.{IsUtf8-from_is_utf8, is_utf8-from_IsUtf8}
use Rattle.std.proofs.lemmas.Bool.{false_from_ne_true}
use Rattle.object_names.specs.Names.{is_name_char, is_name_text}
use Rattle.object_names.proofs.name.is_name_text.Goals as goal

text : (bytes shown : List ℕ) (answer : Bool) → shown ≡ bytes → IsUtf8 bytes → answer ≡ list_all is_name_char (chars shown) → answer ≡ is_name_text bytes
text bytes shown answer same is e = rw (is_utf8-from_IsUtf8 bytes is) (e ∙ ap (λ (l : List ℕ). list_all is_name_char (chars l)) same)

no_text : (bytes : List ℕ) → (IsUtf8 bytes → ⊥) → false ≡ is_name_text bytes
no_text bytes none = rw (false_from_ne_true (is_utf8 bytes) (λ yes. none (IsUtf8-from_is_utf8 bytes yes))) refl

pub returns-in-Ok : goal.returns-in-Ok
returns-in-Ok c = text c.args.bytes.now c.in-Ok.text.now c.are_name_chars.result c.in-Ok.ensures.cases.0 c.in-Ok.ensures.cases.1 c.are_name_chars.ensures

pub returns-in-Err : goal.returns-in-Err
returns-in-Err c = no_text c.args.bytes.now c.in-Err.ensures.cases.0
