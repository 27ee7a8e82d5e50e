-- What a command does in a session and leaves of it.
use Rattle.std.specs.Prelude.{ℕ, ◌≡◌, ◌⊎◌, ◌/◌, false, IsErr, IsOk, IsTrue, List, Some, Result, Ok, Err, is_ok}
use Rattle.base.specs.declared.error.PoolError.{PoolError}
use Rattle.base.specs.declared.piece.Piece.{Piece}
use Rattle.base.specs.declared.step.Reply.TheVariants.{Refused}
use Rattle.base.specs.history.Past.{Past}
use Rattle.base.specs.kept.LeftDisks.{IsLeft}
use Rattle.device_model.specs.MemState.{MemState, new_state}
use Rattle.device_model.specs.contracts.memory.MemDeviceSectorDevice.TheImpl.{ghosts}
use Rattle.device_model.specs.declared.device.SectorDevice as sector
use Rattle.device_model.specs.declared.fault.Fault.{Fault}
use Rattle.script_lines.specs.declared.answer.Answer.{Answer}
use Rattle.script_lines.specs.declared.answer.Answer.TheVariants as answer
use Rattle.script_lines.specs.declared.command.Command.{Command}
use Rattle.script_lines.specs.declared.command.Command.TheVariants as command
use Rattle.scripts.specs.Devices.{CreatesOn, IsLeftByMount, IsMountedBy, MakesNoDevice}
use Rattle.scripts.specs.Kept.{KeepsOverCrash, KeepsOverImport, KeepsRun, StartsKept}
use Rattle.scripts.specs.Places.{AsksIn, CrashesOn, IsTakenFrom, PlansFault, TakesDevice, has_device, has_on_device, has_pool, has_what_it_needs, is_crash}
use Rattle.scripts.specs.declared.mounted_pool.MountedPool as mounted
use Rattle.scripts.specs.declared.place.Place.{Place}
use Rattle.scripts.specs.declared.place.Place.TheVariants.{Nothing, Device, Pool}
use Rattle.scripts.specs.declared.session.BadCommand.{BadCommand}
use Rattle.scripts.specs.declared.session.Session.{Session}

module _ {R Dev P : Type 0} where
  -- what the session has: nothing, a device or a pool
  abbrev pub place_in : Session R Dev P → Place Dev P
  place_in s = s.place

  -- the moment of its uberblocks
  abbrev pub session_moment : Session R Dev P → ℕ
  session_moment s = s.moment

  -- a session with no device yet, whose new devices have this size, and whose uberblocks this moment
  pub record IsNewSession (size moment : ℕ) (s : Session R Dev P) : Type 0 where
    pub place : s.place ≡ Nothing
    pub moment_is : s.moment ≡ moment
    pub size_is : s.size ≡ size

  -- the size of new devices and the moment of uberblocks stay
  abbrev pub IsSameRun : Session R Dev P → Session R Dev P → Type 0
  IsSameRun old new = (new.moment ≡ old.moment) × (new.size ≡ old.size)

-- whether there is a device and a pool after a command
abbrev pub Leaves : {Dev P : Type 0} → Command → Place Dev P → Place Dev P → Type 0
Leaves (command.Create name guid) old new = (IsTrue (has_device old) → IsTrue (has_device new)) × (has_pool new ≡ false)
Leaves (command.Import dirty_max cache_blocks) old new = has_device new ≡ has_device old
Leaves (command.Crash pieces) old new = (has_device new ≡ has_device old) × (has_pool new ≡ false)
Leaves (command.Fail fault n) old new = (has_device new ≡ has_device old) × (has_pool new ≡ has_pool old)
Leaves (command.Pool asked) old new = has_pool new ≡ has_pool old

module _ {R Dev P : Type 0} (V : sector.Ghosts Dev) (G : mounted.Ghosts P Dev R) where
  -- A refusal is the answer, and there is the device: as the import left it, which is refused so, or as it was
  -- imported, if its mount is refused so.
  pub record IsImportRefused (dirty_max cache_blocks moment : ℕ) (old : Dev) (told : Answer) (new : Dev) : Type 0 where
    pub error : PoolError
    pub told_is : told ≡ answer.Reply (Refused error)
    pub still : IsTrue V.keeps_model → (past : Past) → IsLeft past (V.disk old) → IsLeft past (V.disk new)
    pub left : IsLeftByMount V G.refuses dirty_max cache_blocks moment old error new

  -- an import of a device mounts its pool, or it is refused
  abbrev pub Imports : ℕ → ℕ → ℕ → Dev → Answer → Place Dev P → Type 0
  Imports dirty_max cache_blocks moment old told Nothing = ⊥
  Imports dirty_max cache_blocks moment old told (Device new) = IsImportRefused dirty_max cache_blocks moment old told new
  Imports dirty_max cache_blocks moment old told (Pool pool) = IsMountedBy V G.mounts dirty_max cache_blocks moment old pool told

  -- so it does with the device that is taken, and a run keeps it
  abbrev pub ImportsIn : ℕ → ℕ → ℕ → Place Dev P → Answer → Place Dev P → Type 0
  ImportsIn dirty_max cache_blocks moment old told new = TakesDevice G old (λ device. Imports dirty_max cache_blocks moment device told new × KeepsOverImport V G dirty_max old new)

  -- a create works on the device that is taken
  abbrev pub CreatesOnTaken : List ℕ → ℕ → Session R Dev P → Answer → Place Dev P → Type 0
  CreatesOnTaken name guid s told new = TakesDevice G s.place (λ device. CreatesOn V name guid s.moment device told new)

  -- what a command does on a device that commands can't crash or make fail; a bad command changes nothing
  abbrev pub DoesOnDevice : Command → Session R Dev P → Result Answer BadCommand → Session R Dev P → Type 0
  DoesOnDevice (command.Create name guid) s (Ok told) new = CreatesOnTaken name guid s told new.place
  DoesOnDevice (command.Import dirty_max cache_blocks) s (Ok told) new = ImportsIn dirty_max cache_blocks s.moment s.place told new.place
  DoesOnDevice (command.Crash pieces) s (Ok told) new = ⊥
  DoesOnDevice (command.Fail fault n) s (Ok told) new = ⊥
  DoesOnDevice (command.Pool asked) s (Ok told) new = AsksIn (G.asks asked s.moment) s.place told new.place
  DoesOnDevice asked s (Err e) new = new.place ≡ s.place

  -- A command is answered if the device has what it needs, and does what it asks for.
  pub record RunsOnDevice (asked : Command) (old : Session R Dev P) (told : Result Answer BadCommand) (new : Session R Dev P) : Type 0 where
    pub answered : is_ok told ≡ has_on_device asked old.place
    pub done : DoesOnDevice asked old told new
    pub same_run : IsSameRun old new

module _ {R P : Type 0} (G : mounted.Ghosts P MemState R) where
  -- the device that a create works on: the one that is taken, or a new one of zeros
  abbrev pub IsDeviceFor : Session R MemState P → MemState → Type 0
  IsDeviceFor s device = IsTakenFrom G s.place (Some device) ⊎ ((has_device s.place ≡ false) × (device ≡ new_state (s.size / 512)))

  -- A create works on that device, and leaves a new pool in whose past nothing happened if it is answered so. Or there
  -- is no device and no new one.
  abbrev pub Creates : List ℕ → ℕ → Session R MemState P → Answer → Place MemState P → Type 0
  Creates name guid s told new =
      ((device : MemState) × IsDeviceFor s device × CreatesOn ghosts name guid s.moment device told new × StartsKept ghosts name device told new)
      ⊎ ((has_device s.place ≡ false) × MakesNoDevice s.size told new)

  -- a crash of the device that is taken, which a run keeps; or it is refused if none is there
  abbrev pub Crashes : List Piece → Place MemState P → Result Answer BadCommand → Place MemState P → Type 0
  Crashes pieces old told new =
      TakesDevice G old (λ device. CrashesOn pieces device told new × KeepsOverCrash G pieces device old told new)
      ⊎ (IsErr told × (has_device old ≡ false) × (new ≡ old))

  module _ (Plans : Fault → ℕ → P → P → Type 0) where
    -- what a command does that is answered, and a crash; one that is not answered leaves what is there
    abbrev pub Does : Command → Session R MemState P → Result Answer BadCommand → Session R MemState P → Type 0
    Does (command.Create name guid) s (Ok told) new = Creates name guid s told new.place
    Does (command.Import dirty_max cache_blocks) s (Ok told) new = ImportsIn ghosts G dirty_max cache_blocks s.moment s.place told new.place
    Does (command.Crash pieces) s told new = Crashes pieces.items s.place told new.place
    Does (command.Fail fault n) s (Ok told) new = PlansFault Plans fault n s.place told new.place
    Does (command.Pool asked) s (Ok told) new = AsksIn (G.asks asked s.moment) s.place told new.place
    Does asked s (Err e) new = new.place ≡ s.place

    -- A command is answered if the session has what it needs, and does what it asks for. What is kept of its run is
    -- kept.
    pub record Runs (asked : Command) (old : Session R MemState P) (told : Result Answer BadCommand) (new : Session R MemState P) : Type 0 where
      pub needs : IsOk told → IsTrue (has_what_it_needs asked old.place)
      pub answered : is_crash asked ≡ false → is_ok told ≡ has_what_it_needs asked old.place
      pub left : Leaves asked old.place new.place
      pub done : Does asked old told new
      pub kept : KeepsRun G asked old.place told new.place
      pub same_run : IsSameRun old new
