-- How long a name is.
use Rattle.std.proofs.Common.{ℕ, ◌≤◌, List, length}
use Rattle.std.specs.Prelude.{nat_le, nat_lt}
use Rattle.std.proofs.lemmas.Bool.{and_parts, leb-true}
use Rattle.object_names.specs.Names.{IsName, is_name_length, is_name_text}

pub IsName-length : (name : List ℕ) → IsName name → length name ≤ 254
IsName-length name is =
    leb-true (length name) 254
    (and_parts (nat_lt 0 (length name)) (nat_le (length name) 254) (and_parts (is_name_length (length name)) (is_name_text name) is).0).1
