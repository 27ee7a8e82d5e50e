-- What `get` writes: bytes of an object in what the image mounts.
use Rattle.std.specs.Prelude.{ℕ, ◌≡◌, ◌≢◌, ◌+◌, IsSome, List, Option, None, Some, min}
use Rattle.std.specs.FinMap as finite
use Rattle.std.specs.Io.KnownBytes.{Appends}
use Rattle.base.specs.tree.Mount.{MountsTo}
use Rattle.base.specs.declared.error.PoolError.{PoolError}
use Rattle.base.specs.declared.error.PoolError.TheVariants.{Flush, Write}
use Rattle.base.specs.declared.range.Range.{Range}
use Rattle.base.specs.formats.Limits.{max_length}
use Rattle.base.specs.history.Contents.{Contents}
use Rattle.tree_blocks.specs.Sources.{object_length, range_in}
use Rattle.command_arguments.specs.declared.arguments.GetArguments.{GetArguments}

-- the range that is asked for, up to the greatest length
abbrev pub asked_high : ℕ → Option ℕ → ℕ
asked_high offset None = max_length
asked_high offset (Some length) = min (offset + length) max_length

abbrev pub asked_range : GetArguments → Range
asked_range given = record { low = given.offset; high = asked_high given.offset given.length }

-- the object is in the contents that the image mounts, and these are the bytes of a range of it
abbrev pub IsMountedRange : List ℕ → ℕ → Range → List ℕ → Type 0
IsMountedRange image object range bytes = (contents : Contents) × MountsTo image contents × IsSome (finite.get contents.objects object)
    × (bytes ≡ range_in contents.objects (record { 0 = object }) range)

-- there are such bytes
abbrev pub MountsRange : List ℕ → ℕ → Range → Type 0
MountsRange image object range = (bytes : List ℕ) × IsMountedRange image object range bytes

-- they were written after what the writer had, if that is known
abbrev pub WritesMounted : List ℕ → ℕ → Range → Option (List ℕ) → Option (List ℕ) → Type 0
WritesMounted image object range old new = (bytes : List ℕ) × IsMountedRange image object range bytes × Appends old new bytes

-- the image mounts contents without this object
abbrev pub IsAbsentIn : List ℕ → ℕ → Type 0
IsAbsentIn image object = (contents : Contents) × MountsTo image contents × (object_length contents.objects object ≡ None)

-- a refusal of what only reads: no write and no flush was refused
abbrev pub IsReadersRefusal : PoolError → Type 0
IsReadersRefusal e = (e ≢ Write) × (e ≢ Flush)
