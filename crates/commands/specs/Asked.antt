-- What a command that makes or changes a pool may be asked for.
use Rattle.std.specs.Option.{option_copied}
use Rattle.std.specs.Prelude.{ℕ, ◌≡◌, List, true}
use Rattle.base.specs.formats.Geometry.{is_geometry}
use Rattle.base.specs.formats.Names as pools
use Rattle.command_arguments.specs.declared.arguments.ChangeCommand.{ChangeCommand}
use Rattle.command_arguments.specs.declared.arguments.ChangeCommand.TheVariants as command
use Rattle.commands.specs.NameRefusals.{is_named_target}
use Rattle.commands.specs.Puts.{is_target}
use Rattle.commands.specs.Replaced.{new_name}
use Rattle.object_names.specs.Names as objects
use Rattle.read_commands.specs.Failures.{sector_bytes}

-- a pool may have this size and this name
abbrev pub MayBeMade : ℕ → List ℕ → Type 0
MayBeMade size name = (is_geometry (sector_bytes size) ≡ true) × (pools.is_name name ≡ true)

-- What was given to the command is within its limits: the size and the name of a new pool, the object's name, and the place
-- of some bytes in the object.
abbrev pub MayBeDone : ChangeCommand → Type 0
MayBeDone (command.Create given) = MayBeMade given.size given.name.now
MayBeDone (command.CreateSized given) = MayBeMade given.size (new_name (option_copied given.name) given.file.now)
MayBeDone (command.Put given) = (bytes : List ℕ) × (is_target given.object given.offset bytes ≡ true)
MayBeDone (command.PutNamed given) = (bytes : List ℕ) × (is_named_target given.name.now given.offset bytes ≡ true)
MayBeDone (command.Remove given) = Unit {0}
MayBeDone (command.RemoveNamed given) = objects.is_name given.name.now ≡ true
