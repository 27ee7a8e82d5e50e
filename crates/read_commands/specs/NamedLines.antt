-- What `ls` writes: a line for each object, with the name that it has.
use Rattle.std.specs.Prelude.{ℕ, ◌≡◌, ◌++◌, ◌&&◌, Bool, true, false, codes, List, [], ◌∷◌, None, Option, Some, nat_lt}
use Rattle.std.specs.Fmt.{decimal}
use Rattle.std.specs.Io.KnownBytes.{Appends}
use Rattle.std.specs.List.{flat_map}
use Rattle.base.specs.declared.names.ObjectId.{ObjectId}
use Rattle.base.specs.formats.Limits.{object_count}
use Rattle.command_arguments.specs.declared.reports.Scope.{Scope}
use Rattle.command_arguments.specs.declared.reports.Scope.TheVariants.{Path}
use Rattle.read_commands.specs.declared.named_lists.NamedList.{NamedList}
use Rattle.read_commands.specs.NamedTables.{IsTableChecked, IsTableIn}
use Rattle.object_names.specs.NameTables.{has_object, name_at}
use Rattle.read_commands.specs.ReadScopes.{AreCheckedObjects, AreMountedObjects}
use Rattle.read_commands.specs.Scopes.{IsAssured}

-- objects from 1 on may have a name
abbrev pub may_have_name : ℕ → Bool
may_have_name n = nat_lt 0 n && nat_lt n object_count

-- a name with a byte at least, of an object that may have one
abbrev pub name_if : Bool → List ℕ → Option (List ℕ)
name_if false name = None
name_if true [] = None
name_if true (byte ∷ bytes) = Some (byte ∷ bytes)

-- the name of an object by a table, if there is one
abbrev pub name_shown : Option (List ℕ) → ℕ → Option (List ℕ)
name_shown None n = None
name_shown (Some table) n = name_if (may_have_name n) (name_at table n)

-- how a line ends: with the name, if there is one
abbrev pub line_end : Option (List ℕ) → List ℕ
line_end None = codes "\n"
line_end (Some name) = codes " " ++ (name ++ codes "\n")

-- the line of an object: its number, its length and its name
abbrev pub named_line : ObjectId → ℕ → Option (List ℕ) → List ℕ
named_line object size name = decimal object.0 ++ (codes " " ++ (decimal size ++ line_end name))

-- the line of an object by a table
abbrev pub line_by : Option (List ℕ) → ObjectId × ℕ → List ℕ
line_by table object = named_line object.0 object.1 (name_shown table object.0.0)

abbrev pub lines_by : Option (List ℕ) → List (ObjectId × ℕ) → List ℕ
lines_by table = flat_map (line_by table)

-- the lines of a list
abbrev pub list_lines : NamedList → List ℕ
list_lines list = lines_by list.table list.objects.items

-- The objects and their names are those in what the image mounts, if that is assured. If they were read by path, they are
-- checked, whatever the image mounts. If there is an object 0, the table is that of object 0, and else there is none.
pub record IsListedIn (scope : Scope) (keeps : Type 0) (image : List ℕ) (list : NamedList) : Type 0 where
  pub mounted : IsAssured scope keeps image → AreMountedObjects image list.objects.items
  pub checked : scope ≡ Path → keeps → AreCheckedObjects image list.objects.items
  pub named : has_object list.objects.items 0 ≡ true → IsAssured scope keeps image → IsTableIn image list.table
  pub checked_named : has_object list.objects.items 0 ≡ true → scope ≡ Path → keeps → IsTableChecked image list.table
  pub unnamed : has_object list.objects.items 0 ≡ false → list.table ≡ None

-- the lines of such a list were written
pub record WritesNames (scope : Scope) (keeps : Type 0) (image : List ℕ) (old new : Option (List ℕ)) : Type 0 where
  pub list : NamedList
  pub listed : IsListedIn scope keeps image list
  pub writes : Appends old new (list_lines list)
