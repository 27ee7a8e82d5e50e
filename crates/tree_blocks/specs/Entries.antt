-- The entries of a directory, by the lengths of its objects.
use Rattle.std.specs.Prelude.{ℕ, ◌≡◌, Bool, false, List, Option, None, Some, nat_lt, replicate, if◌then◌else◌}
use Rattle.std.specs.Option.{option_map_or}
use Rattle.base.specs.declared.pointer.Pointer.{Pointer}
use Rattle.base.specs.formats.Fields.{entry_length, entry_pointer, entry_present}
use Rattle.base.specs.formats.Limits.{entry_size, one_level_length}

-- whether an object of this length has two levels of indirect blocks, where an absent one has none
abbrev pub is_long_size : Option ℕ → Bool
is_long_size size = option_map_or (λ (bytes : ℕ). nat_lt one_level_length bytes) size false

-- the levels of indirect blocks of an object of this length
abbrev pub levels_of : ℕ → ℕ
levels_of size = if is_long_size (Some size) then 2 else 1

-- an entry of a directory, for an object of this length
abbrev pub IsEntryOfLength : List ℕ → Pointer → Option ℕ → Type 0
IsEntryOfLength entry pointer None = entry ≡ replicate entry_size 0
IsEntryOfLength entry pointer (Some size) = (entry_present entry ≡ levels_of size) × (entry_length entry ≡ size) × (entry_pointer entry ≡ pointer)
