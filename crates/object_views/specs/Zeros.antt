-- Objects of zeros, by their lengths.
use Rattle.std.specs.Prelude.{ℕ, ◌≡◌, ◌==◌, List, [], ◌∷◌, Option, None, Some, if◌then◌else◌}
use Rattle.base.specs.declared.names.ObjectId.{ObjectId}
use Rattle.tree_blocks.specs.Sources.{object_length}
use Rattle.object_views.specs.declared.zeros.ZeroObjects.{ZeroObjects}

-- the length that a list gives object n, if it has it
abbrev pub length_among : List (ObjectId × ℕ) → ℕ → Option ℕ
length_among [] n = None
length_among (o ∷ others) n = if n == o.0.0 then Some o.1 else length_among others n

-- the length of object n
abbrev pub length_at : ZeroObjects → ℕ → Option ℕ
length_at z n = object_length z.told.value n

-- there are objects of these lengths, and no other
abbrev pub HasListedLengths : List (ObjectId × ℕ) → ZeroObjects → Type 0
HasListedLengths entries z = (n : ℕ) → length_at z n ≡ length_among entries n
