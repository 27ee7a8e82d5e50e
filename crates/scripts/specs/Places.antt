-- What a session has: nothing, a device or a pool, whichever kind of pool; and what a command needs of it and makes of
-- it.
use Rattle.std.specs.Prelude.{ℕ, ◌≡◌, ◌<◌, ◌≤◌, Bool, true, false, List, Option, Some, None, Result, Ok, Err, IsSomeAnd, length}
use Rattle.base.specs.declared.piece.Piece.{Piece}
use Rattle.base.specs.declared.step.Reply as declared_reply
use Rattle.base.specs.declared.step.Reply.TheVariants.{Done}
use Rattle.device_model.specs.declared.fault.Fault.{Fault}
use Rattle.device_model.specs.MemState.{MemState, after_crash}
use Rattle.device_model.specs.Plans.{with_plan}
use Rattle.script_lines.specs.declared.answer.Answer.{Answer}
use Rattle.script_lines.specs.declared.answer.Answer.TheVariants.{Crashed, Reply}
use Rattle.script_lines.specs.declared.command.Command.{Command}
use Rattle.script_lines.specs.declared.command.Command.TheVariants as command
use Rattle.scripts.specs.declared.mounted_pool.MountedPool.{Ghosts}
use Rattle.scripts.specs.declared.place.Place.{Place}
use Rattle.scripts.specs.declared.place.Place.TheVariants.{Nothing, Device, Pool}
use Rattle.scripts.specs.declared.session.BadCommand.{BadCommand}

abbrev pub is_crash : Command → Bool
is_crash (command.Create name guid) = false
is_crash (command.Import dirty_max cache_blocks) = false
is_crash (command.Crash pieces) = true
is_crash (command.Fail fault n) = false
is_crash (command.Pool asked) = false

module _ {Dev P : Type 0} where
  abbrev pub has_device : Place Dev P → Bool
  has_device Nothing = false
  has_device (Device device) = true
  has_device (Pool pool) = true

  abbrev pub has_pool : Place Dev P → Bool
  has_pool Nothing = false
  has_pool (Device device) = false
  has_pool (Pool pool) = true

  -- there is the device or the pool that the command needs
  abbrev pub has_what_it_needs : Command → Place Dev P → Bool
  has_what_it_needs (command.Create name guid) place = true
  has_what_it_needs (command.Import dirty_max cache_blocks) place = has_device place
  has_what_it_needs (command.Crash pieces) place = has_device place
  has_what_it_needs (command.Fail fault n) place = has_device place
  has_what_it_needs (command.Pool asked) place = has_pool place

  -- there is the device or the pool that the command needs, on a device that commands can't crash or make fail
  abbrev pub has_on_device : Command → Place Dev P → Bool
  has_on_device (command.Create name guid) place = has_device place
  has_on_device (command.Import dirty_max cache_blocks) place = has_device place
  has_on_device (command.Crash pieces) place = false
  has_on_device (command.Fail fault n) place = false
  has_on_device (command.Pool asked) place = has_pool place

  -- the pool that is there replies, and this is so of it
  abbrev pub AsksIn : (declared_reply.Reply → P → P → Type 0) → Place Dev P → Answer → Place Dev P → Type 0
  AsksIn Asked (Pool old) (Reply reply) (Pool new) = Asked reply old new
  AsksIn Asked old told new = ⊥

module _ {Dev R P : Type 0} (G : Ghosts P Dev R) where
  -- the device that is taken of a place, if there is one; that of a pool is the one that the pool gives back
  abbrev pub IsTakenFrom : Place Dev P → Option Dev → Type 0
  IsTakenFrom Nothing taken = taken ≡ None
  IsTakenFrom (Device device) taken = taken ≡ Some device
  IsTakenFrom (Pool pool) taken = IsSomeAnd taken (G.gives pool)

  -- the device of a place is taken, and this holds of it
  abbrev pub TakesDevice : Place Dev P → (Dev → Type 0) → Type 0
  TakesDevice place Holds = (device : Dev) × IsTakenFrom place (Some device) × Holds device

module _ {P : Type 0} where
  -- a crash of a device leaves the pieces of its unflushed writes and returns their number; it is refused if there are
  -- more pieces
  abbrev pub CrashesOn : List Piece → MemState → Result Answer BadCommand → Place MemState P → Type 0
  CrashesOn pieces device (Ok told) new =
      (length pieces ≤ length device.disk.now.unflushed) × (told ≡ Crashed (length device.disk.now.unflushed)) × (new ≡ Device (after_crash pieces device))
  CrashesOn pieces device (Err e) new = (length device.disk.now.unflushed < length pieces) × (new ≡ Device device)

  -- the n-th such call of the device is planned to fail; if a pool is on it, this is so of the pool
  abbrev pub PlansFault : (Fault → ℕ → P → P → Type 0) → Fault → ℕ → Place MemState P → Answer → Place MemState P → Type 0
  PlansFault Planned fault n (Device old) told new = (told ≡ Reply Done) × (new ≡ Device (with_plan fault n old))
  PlansFault Planned fault n (Pool old) told (Pool new) = (told ≡ Reply Done) × Planned fault n old new
  PlansFault Planned fault n old told new = ⊥
