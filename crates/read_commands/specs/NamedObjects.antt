-- What `get` of a name writes: bytes of the object that has the name in what the image mounts.
use Rattle.std.specs.Prelude.{ℕ, ◌≡◌, List, Option, Some}
use Rattle.base.specs.declared.range.Range.{Range}
use Rattle.base.specs.history.Contents.{Contents}
use Rattle.base.specs.tree.Mount.{MountsTo}
use Rattle.command_arguments.specs.declared.arguments.GetNamedArguments.{GetNamedArguments}
use Rattle.command_arguments.specs.declared.reports.Scope.{Scope}
use Rattle.command_arguments.specs.declared.reports.Scope.TheVariants.{Path}
use Rattle.object_names.specs.NameTables.{IsNameTable, IsNamed}
use Rattle.read_commands.specs.ReadScopes.{WritesRange}
use Rattle.read_commands.specs.Reads.{asked_high}
use Rattle.read_commands.specs.Scopes.{IsAssured}
use Rattle.read_commands.specs.NamedTables.{IsTableChecked}
use Rattle.tree_blocks.specs.Sources.{object_bytes}

-- no object has this name in a table
abbrev pub IsUnknown : List ℕ → List ℕ → Type 0
IsUnknown table name = (n : ℕ) → IsNamed table n name → ⊥

-- object 0 of the contents is a table of names, in which this object has this name
abbrev pub HasName : Contents → List ℕ → ℕ → Type 0
HasName contents name n = IsNameTable (object_bytes contents.objects 0) × IsNamed (object_bytes contents.objects 0) n name

-- so it is of the contents that the image mounts
abbrev pub IsMountedName : List ℕ → List ℕ → ℕ → Type 0
IsMountedName image name n = (contents : Contents) × MountsTo image contents × HasName contents name n

-- the range that is asked for, up to the greatest length
abbrev pub named_range : GetNamedArguments → Range
named_range given = record { low = given.offset; high = asked_high given.offset given.length }

-- so it is of a table of checked bytes
abbrev pub IsCheckedName : List ℕ → List ℕ → ℕ → Type 0
IsCheckedName image name n = (table : List ℕ) × IsTableChecked image (Some table) × IsNamed table n name

-- The bytes of this range of the object that has the name were written after what the writer had, if that is known. The
-- name is one in what the image mounts, if that is assured. If it was read by path, it is checked.
pub record WritesNamed (scope : Scope) (keeps : Type 0) (image name : List ℕ) (range : Range) (old new : Option (List ℕ)) : Type 0 where
  pub object : ℕ
  pub mounted : IsAssured scope keeps image → IsMountedName image name object
  pub checked : scope ≡ Path → keeps → IsCheckedName image name object
  pub writes : WritesRange scope keeps image object range old new
