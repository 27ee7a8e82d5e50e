-- Which table of names a read of object 0 gives.
use Rattle.std.specs.Prelude.{ℕ, ◌≡◌, ◌⊎◌, ◌+◌, ◌*◌, IsOkAnd, List, [], None, Ok, Err, Option, Result, Some}
use Rattle.base.specs.declared.error.PoolError.{PoolError}
use Rattle.base.specs.declared.error.PoolError.TheVariants.{NoObject}
use Rattle.base.specs.declared.range.Range.{Range}
use Rattle.base.specs.formats.Limits.{object_count}
use Rattle.base.specs.history.Contents.{Contents}
use Rattle.base.specs.tree.Mount.{MountsTo}
use Rattle.object_names.specs.NameTables.{IsNameTable}
use Rattle.object_names.specs.Slots.{slot_size}
use Rattle.read_commands.specs.PathReads.{IsCheckedRange, IsUnseen}
use Rattle.tree_blocks.specs.Sources.{object_bytes}

-- the range of object 0 that is read: one byte more than the longest table has
abbrev pub table_range : Range
table_range = record { low = 0; high = slot_size * object_count + 1 }

-- the table that these bytes are, or none
abbrev pub IsTableOf : List ℕ → Option (List ℕ) → Type 0
IsTableOf bytes (Some table) = (table ≡ bytes) × IsNameTable bytes
IsTableOf bytes None = IsNameTable bytes → ⊥

-- That of the bytes that a read of object 0 gave. An object 0 that isn't there has none. Each other refusal is that of
-- the read.
abbrev pub IsTableRead : Result (List ℕ) PoolError → Result (Option (List ℕ)) PoolError → Type 0
IsTableRead (Ok bytes) result = IsOkAnd result (IsTableOf bytes)
IsTableRead (Err NoObject) result = IsOkAnd result (IsTableOf [])
IsTableRead (Err e) result = result ≡ Err e

-- that of object 0 in what the image mounts
abbrev pub IsTableIn : List ℕ → Option (List ℕ) → Type 0
IsTableIn image table = (contents : Contents) × MountsTo image contents × IsTableOf (object_bytes contents.objects 0) table

-- that of checked bytes of object 0, or of none if the blocks that lead to it say that it isn't there
abbrev pub IsTableChecked : List ℕ → Option (List ℕ) → Type 0
IsTableChecked image table = ((bytes : List ℕ) × IsCheckedRange image 0 table_range bytes × IsTableOf bytes table) ⊎ (IsUnseen image 0 × IsTableOf [] table)
