-- A name is text.
use Rattle.std.proofs.Common.{◌≡◌, ◌<◌, ◌≤◌, ◌&&◌, ◌⊎◌, ◌∷◌, ℕ, List, [], arith, inl, inr, length, refl, suc, sym, zero, ◌∙◌}
use Rattle.std.specs.Prelude.{IsUtf8, false, true, slice_index, nat_lt, nat_le}
use Rattle.std.specs.List.{list_all}
use Rattle.std.specs.Str.{IsAscii}
use Rattle.std.proofs.lemmas.Bool.{and_parts, cases_lt, false≢true, leb-true, le-leb, lt-leb, ne_eqb}
use Rattle.std.proofs.lemmas.Str.{IsUtf8-from_ascii}
use Rattle.base.specs.formats.Limits.{max_name}
use Rattle.base.specs.formats.Names.{IsName, is_letter, is_name_byte, is_name_length}

-- no byte of a name is 128 or above
not_above : (c : ℕ) → 128 ≤ c → is_name_byte c ≡ false
not_above c large =
    rw (
      le-leb 65 c (omega (arith, large)),
      lt-leb c 90 (omega (arith, large)),
      le-leb 97 c (omega (arith, large)),
      lt-leb c 122 (omega (arith, large)),
      le-leb 48 c (omega (arith, large)),
      lt-leb c 57 (omega (arith, large)),
      ne_eqb c 45 (λ is. omega (arith, large, is)),
      ne_eqb c 95 (λ is. omega (arith, large, is)),
      ne_eqb c 46 (λ is. omega (arith, large, is)),
    ) refl

is_small : (c : ℕ) → is_name_byte c ≡ true → c < 128
is_small c is = go (cases_lt c 128)
  where
    go : (c < 128) ⊎ (128 ≤ c) → c < 128
    go (inl small) = small
    go (inr large) = absurd (false≢true (sym (not_above c large) ∙ is))

all_ascii : (name : List ℕ) → list_all is_name_byte name ≡ true → IsAscii name
all_ascii [] all i = omega arith
all_ascii (c ∷ name) all zero = is_small c (and_parts (is_name_byte c) (list_all is_name_byte name) all).0
all_ascii (c ∷ name) all (suc i) = all_ascii name (and_parts (is_name_byte c) (list_all is_name_byte name) all).1 i

-- a name is text
pub name_is_text : (name : List ℕ) → IsName name → IsUtf8 name
name_is_text name is =
    IsUtf8-from_ascii name (all_ascii name (and_parts (is_name_length (length name) && is_letter (slice_index name 0)) (list_all is_name_byte name) is).1)

-- and it has at most 64 bytes
pub IsName-length : (name : List ℕ) → IsName name → length name ≤ 64
IsName-length name is =
    let long : is_name_length (length name) ≡ true = (and_parts _ _ (and_parts _ _ is).0).0 in
    leb-true (length name) 64 (and_parts (nat_lt 0 (length name)) (nat_le (length name) max_name) long).1
