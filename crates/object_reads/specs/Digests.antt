-- What the digest of a pool's contents has of their objects.
use Rattle.std.specs.Prelude.{ℕ, List, [], ◌++◌}
use Rattle.std.specs.Option.{option_map_or}
use Rattle.std.specs.Ordering.{nat_cmp}
use Rattle.std.specs.FinMap as finite
use Rattle.std.specs.FinMap.{FinMap}
use Rattle.sha2.specs.Hashers.{Holds256}
use Rattle.sha2.specs.declared.Sha256.{Sha256}
use Rattle.base.specs.formats.Digest.{object_text}

-- a hasher takes in these bytes after the message that it has
abbrev pub Feeds : List ℕ → Sha256 → Sha256 → Type 0
Feeds bytes old new = (m : List ℕ) → Holds256 old m → Holds256 new (m ++ bytes)

-- of object n, if it is there: its number, its length and its bytes
abbrev pub text_at : FinMap nat_cmp (List ℕ) → ℕ → List ℕ
text_at objects n = option_map_or (λ bytes. object_text (n, bytes)) (finite.get objects n) []
