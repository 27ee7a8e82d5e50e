-- What a session keeps of its run over creates, imports, crashes and commands, whatever moment the power goes.
use Rattle.std.specs.Prelude.{ℕ, ◌≡◌, IsTrue, List, Result, Ok, Err}
use Rattle.base.specs.declared.piece.Piece.{Piece}
use Rattle.base.specs.declared.step.Reply.TheVariants.{Done}
use Rattle.base.specs.disk.Crashes.{crash_image}
use Rattle.base.specs.disk.Disk.{moments}
use Rattle.base.specs.disk.Fairness.{IsFairOn}
use Rattle.base.specs.history.Past.{Past, new_past}
use Rattle.device_model.specs.MemState.{MemState}
use Rattle.device_model.specs.contracts.memory.MemDeviceSectorDevice.TheImpl.{ghosts}
use Rattle.device_model.specs.declared.device.SectorDevice as sector
use Rattle.import_replay.specs.OwnCreations.{first_contents}
use Rattle.base.specs.kept.LeftDisks.{IsLeft}
use Rattle.script_lines.specs.declared.answer.Answer.{Answer}
use Rattle.script_lines.specs.declared.answer.Answer.TheVariants as answer
use Rattle.script_lines.specs.declared.command.Command.{Command}
use Rattle.script_lines.specs.declared.command.Command.TheVariants as command
use Rattle.scripts.specs.declared.mounted_pool.MountedPool as mounted
use Rattle.scripts.specs.declared.place.Place.{Place}
use Rattle.scripts.specs.declared.place.Place.TheVariants.{Nothing, Device, Pool}
use Rattle.scripts.specs.declared.session.BadCommand.{BadCommand}

-- no place that the crash leaves of this device passes its check by chance
abbrev pub IsFairCrash : List Piece → Past → MemState → Type 0
IsFairCrash pieces past device = IsFairOn device.disk past.created (crash_image pieces device.disk.now)

module _ {Dev P : Type 0} (V : sector.Ghosts Dev) where
  -- a new pool of this name is left on the device, one in whose past nothing happened; its create began at this moment
  abbrev pub LeavesNew : List ℕ → ℕ → Place Dev P → Type 0
  LeavesNew name created (Device device) = IsLeft (new_past (first_contents name) created 0) (V.disk device)
  LeavesNew name created place = ⊥

  -- a create that was answered Ok leaves a new pool, whatever was written to the device before
  abbrev pub StartsKept : List ℕ → Dev → Answer → Place Dev P → Type 0
  StartsKept name old told new = told ≡ answer.Reply Done → LeavesNew name (moments (V.disk old)) new

module _ {Dev R P : Type 0} (V : sector.Ghosts Dev) (G : mounted.Ghosts P Dev R) where
  -- a run with this past left the device, or has come to the pool as it is
  abbrev pub IsRunIn : Past → Place Dev P → Type 0
  IsRunIn past Nothing = ⊥
  IsRunIn past (Device device) = G.left past (V.disk device)
  IsRunIn past (Pool pool) = G.runs past pool

  -- an import begins such a run, or it is refused, and what the run before it left is left still
  abbrev pub FindsRun : Past → ℕ → Place Dev P → Type 0
  FindsRun earlier dirty_max Nothing = ⊥
  FindsRun earlier dirty_max (Device device) = G.left earlier (V.disk device)
  FindsRun earlier dirty_max (Pool pool) = ∥ G.begins earlier dirty_max pool ∥₁

  -- from what each run left an import begins one, or leaves it
  abbrev pub KeepsOverImport : ℕ → Place Dev P → Place Dev P → Type 0
  KeepsOverImport dirty_max old new = IsTrue V.keeps_model → (past : Past) → IsRunIn past old → FindsRun past dirty_max new

-- the run of a pool goes on in the pool
abbrev pub GoesOnInPool : {Dev R P : Type 0} (G : mounted.Ghosts P Dev R) → Past → Place Dev P → Place Dev P → Type 0
GoesOnInPool G past (Pool old) (Pool new) = G.goes_on past old new
GoesOnInPool G past old new = ⊥

module _ {R P : Type 0} (G : mounted.Ghosts P MemState R) where
  -- what each run left is left by a crash of this device that is fair, and by one that is none
  abbrev pub KeepsOverCrash : List Piece → MemState → Place MemState P → Result Answer BadCommand → Place MemState P → Type 0
  KeepsOverCrash pieces device old (Ok told) new = (past : Past) → IsRunIn ghosts G past old → IsFairCrash pieces past device → IsRunIn ghosts G past new
  KeepsOverCrash pieces device old (Err e) new = (past : Past) → IsRunIn ghosts G past old → IsRunIn ghosts G past new

  -- What a plan to fail and a command of the pool keep, of each past with which a run is there. (What a create, an
  -- import and a crash keep is said with what they do, of one device.)
  abbrev pub KeepsRun : Command → Place MemState P → Result Answer BadCommand → Place MemState P → Type 0
  KeepsRun (command.Fail fault n) old told new = (past : Past) → IsRunIn ghosts G past old → IsRunIn ghosts G past new
  KeepsRun (command.Pool asked) old (Ok told) new = (past : Past) → IsRunIn ghosts G past old → GoesOnInPool G past old new
  KeepsRun asked old told new = Unit {0}
