-- What a thread sees of a pool that runs, and how it goes on by steps.
use Rattle.std.specs.Prelude.{ℕ, ◌≡◌, ◌++◌, IsTrue, false, List, [], ◌∷◌, None}
use Rattle.std.proofs.Common.{refl, ◌∙◌}
use Rattle.std.specs.FinMap as finite
use Rattle.std.specs.FinSet as set
use Rattle.std.proofs.Math.Logic.{∥∥₁_map, ∥∥₁_elim, ∥∥₁_prop}
use Rattle.base.specs.declared.step.Step as declared_step
use Rattle.base.specs.declared.step.Step.TheVariants.{LogFlush, LogWrite, SyncStep}
use Rattle.base.specs.declared.step.Reply as declared_reply
use Rattle.base.specs.disk.Disk.{Disk, bytes_of}
use Rattle.base.specs.formats.Fields.{no_pointer}
use Rattle.base.specs.history.Contents.{Contents}
use Rattle.base.specs.history.Past.{Past, new_past}
use Rattle.base.proofs.disk.Moments.{joins, starts}
use Rattle.base.specs.steps.Additions.{past_after}
use Rattle.base.specs.steps.Tables.{GoesOn, AreTablesExplained}
use Rattle.base.specs.steps.Explains.{WereSafe}
use Rattle.base.specs.steps.Runs.{Step, Run}
use Rattle.base.specs.steps.Steps.{State}
use Rattle.base.specs.steps.Shown.{Shown}
use Rattle.base.specs.kept.Stored.{IsHeld}
use Rattle.device_model.specs.declared.device.SectorDevice.{Ghosts}
use Rattle.pool_core.specs.declared.state.PoolState.{PoolState}
use Rattle.pool_tables.specs.Told.{held_with, state_with}
use Rattle.pool_core.specs.KeptSafe.{IsKeptSafe, IsSafeStep, OnDisk, disk_of, on_disk}
use Rattle.pool_core.specs.NewStates.{first_past}
use Rattle.pool_core.specs.States.{cache_room_of, shown, told}
use Rattle.pool_core.specs.StepReplies.{IsStep}
use Rattle.base.specs.kept.LeftDisks.{GoesOnFrom, IsLeft}

-- Whether the crash rule is followed: not at all; in a run of the pool whose create began at this moment; or in one
-- after whatever run left the disk that the pool was imported from.
pub data CrashRule : Type 0 where
  NotFollowed : CrashRule
  Since : (began : ℕ) → CrashRule
  Behind : (disk : Disk) → CrashRule

-- so the rule is followed, in a run of a pool whose create began at this moment
abbrev pub IsFollowed : CrashRule → (created : ℕ) → Type 0
IsFollowed NotFollowed created = ⊥
IsFollowed (Since began) created = created ≡ began
IsFollowed (Behind disk) created = ∥ ((past : Past) × (past.created ≡ created) × IsLeft past disk) ∥₁

-- What is seen of a pool: what it shows, with the past of its run, whether the run follows the crash rule, the disk of
-- its device, and how many tree blocks that were read may stay in memory.
pub record SeenPool : Type 0 where
  pub shown : Shown
  pub past : Past
  pub rule : CrashRule
  pub disk : Disk
  pub cache_room : ℕ

-- a past, of a pool whose create began at this moment
abbrev pub since : ℕ → Past → Past
since created past = record past { created = created }

-- the state that is seen
abbrev pub viewed_state : SeenPool → State
viewed_state v = record { shown = v.shown; past = v.past }

-- so it is, of a pool whose create began at this moment
abbrev pub state_since : ℕ → SeenPool → State
state_since created v = record { shown = v.shown; past = since created v.past }

module _ {Dev : Type 0} {G : Ghosts Dev} where
  -- the view of a pool with this past
  abbrev pub view_of : PoolState Dev G → Past → CrashRule → SeenPool
  view_of p past rule = record { shown = shown p; past = past; rule = rule; disk = disk_of p; cache_room = cache_room_of p }

  -- the view of a pool in whose run nothing happened yet, after whichever run left this disk
  abbrev pub view_behind_disk : PoolState Dev G → Disk → SeenPool
  view_behind_disk p old = view_of p (first_past (shown p) 0) (Behind old)

  -- The view is of this pool and its disk, and its past explains it. If the device keeps the disk model it holds what
  -- it should, and if the crash rule is followed too, it stands.
  pub record Explains (p : PoolState Dev G) (v : SeenPool) : Type 0 where
    pub state : viewed_state v ≡ state_with (told p) v.past
    pub disk_is : v.disk ≡ disk_of p
    pub explained : ∥ AreTablesExplained (shown p) v.past ∥₁
    pub held : IsTrue G.keeps_model → ∥ IsHeld (held_with (told p) v.past) ∥₁
    pub safe : IsTrue G.keeps_model → (created : ℕ) → IsFollowed v.rule created → ∥ IsKeptSafe (on_disk p (since created v.past)) ∥₁

  -- the view after a step that left this pool
  abbrev pub view_after : declared_step.Step → declared_reply.Reply → SeenPool → PoolState Dev G → SeenPool
  view_after s r v p = view_of p (past_after s r (viewed_state v)) v.rule

-- the step is one over the bytes of this disk
abbrev pub IsStepOn : Disk → declared_step.Step → declared_reply.Reply → State → State → Type 0
IsStepOn disk s r old new = Step (Unit {0}) (bytes_of disk.now) s r old new

-- A step of a sync or of the log may add moments to the disk, and no other step changes it.
abbrev pub MovesDisk : declared_step.Step → Disk → Disk → Type 0
MovesDisk SyncStep old new = GoesOnFrom old new
MovesDisk LogWrite old new = GoesOnFrom old new
MovesDisk LogFlush old new = GoesOnFrom old new
MovesDisk s old new = new ≡ old

-- A safe step between two views, of a pool whose create began at this moment. The disks before and after it are those
-- of the views.
pub record IsSafeBetween (s : declared_step.Step) (r : declared_reply.Reply) (created : ℕ) (v w : SeenPool) : Type 0 where
  pub before : OnDisk
  pub after : OnDisk
  pub state_before : before.held.state ≡ state_since created v
  pub state_after : after.held.state ≡ state_since created w
  pub disk_before : before.disk ≡ v.disk
  pub disk_after : after.disk ≡ w.disk
  pub kept : IsKeptSafe before
  pub made : IsSafeStep s r before after

-- At each moment from the one view's disk to the other's, every fair image that a crash leaves mounts a cut of the
-- later history with all that the earlier one has acknowledged. So it is of a pool whose create began at this moment.
abbrev pub WereSafeBetween : (created : ℕ) → SeenPool → SeenPool → Type 0
WereSafeBetween created v w = WereSafe v.disk w.disk (since created v.past) (since created w.past)

-- the past as it is within such a step: what it acknowledges is told from its end on
abbrev pub past_between : (created : ℕ) → SeenPool → SeenPool → Past
past_between created v w = record (since created w.past) { acknowledged = v.past.acknowledged }

-- A step with its reply, from a view that is explained. If the device keeps the disk model it is one over the bytes of
-- the view's disk, and if the crash rule is followed too, it is a safe one.
pub record IsPoolStep (keeps : Type 0) (s : declared_step.Step) (r : declared_reply.Reply) (v w : SeenPool) : Type 0 where
  pub explained : ∥ AreTablesExplained (viewed_state v).shown v.past ∥₁
  pub step : ∥ IsStep s r (viewed_state v) (viewed_state w) ∥₁
  pub over : keeps → ∥ IsStepOn v.disk s r (viewed_state v) (viewed_state w) ∥₁
  pub moves : keeps → MovesDisk s v.disk w.disk
  pub safe : keeps → (created : ℕ) → IsFollowed v.rule created → ∥ IsSafeBetween s r created v w ∥₁
  pub rule : w.rule ≡ v.rule

-- Steps lead from one view to another. If the device keeps the disk model the later disk goes on from the earlier one.
pub record GrowsTo (keeps : Type 0) (v w : SeenPool) : Type 0 where
  pub goes_on : ∥ GoesOn (viewed_state v) (viewed_state w) ∥₁
  pub on : keeps → GoesOnFrom v.disk w.disk
  pub rule : w.rule ≡ v.rule

-- what is seen where there is no pool
abbrev pub no_contents : Contents
no_contents = record { objects = finite.empty; name = [] }

abbrev pub no_pool : Shown
no_pool = record {
  suspended = false;
  guid = 0;
  blocks = 0;
  import_number = 0;
  dirty_max = 0;
  locks = [];
  next_lock = 0;
  line = record { synced = 0; syncing = None; middle = None; open_group = 0 };
  transactions = [];
  next_tx = 0;
  contents = no_contents;
  next_ordinal = 0;
  dirty = finite.empty;
  reserved = finite.empty;
  free = set.empty;
  log = record { unsynced = []; begun = None; pending = []; kept = []; next = record { address = 0; number = 0 } };
  root = no_pointer;
  synced_contents = no_contents;
  lengths = [];
  sync = None;
}

abbrev pub blank_disk : Disk
blank_disk = record { now = record { flushed = []; unflushed = []; kept = [] }; past = [] }

abbrev pub blank_view : SeenPool
blank_view = record { shown = no_pool; past = new_past no_contents 0 0; rule = NotFollowed; disk = blank_disk; cache_room = 0 }

pub grows_same : (keeps : Type 0) (v : SeenPool) → GrowsTo keeps v v
grows_same keeps v = record { goes_on = ∣ ([], [], refl) ∣₁; on = λ _. starts (λ m. Unit {0}) v.disk tt; rule = refl }

abbrev One : declared_step.Step → declared_reply.Reply → State → State → Type 0
One s r old new = (now : List ℕ) × Step ⊥ now s r old new

many_more : (ss tt : List declared_step.Step) (rs us : List declared_reply.Reply) (a b c : State) → Run One ss rs a b → Run One tt us b c
    → Run One (ss ++ tt) (rs ++ us) a c
many_more [] ts [] us a b c same rest = rw same at rest
many_more (s ∷ ss) ts (r ∷ rs) us a b c (middle, one, more) rest = (middle, one, many_more ss ts rs us middle b c more rest)
many_more [] ts (r ∷ rs) us a b c h rest = absurd h
many_more (s ∷ ss) ts [] us a b c h rest = absurd h

pub grows_onward : (keeps : Type 0) (a b c : SeenPool) → GrowsTo keeps a b → GrowsTo keeps b c → GrowsTo keeps a c
grows_onward keeps a b c x y = record {
  goes_on = ∥∥₁_elim x.goes_on ∥∥₁_prop (λ p. ∥∥₁_map y.goes_on (λ q. (p.0 ++ q.0, p.1 ++ q.1, many_more p.0 q.0 p.1 q.1 (viewed_state a) (viewed_state b) (viewed_state c) p.2 q.2)));
  on = λ k. joins (λ m. Unit {0}) a.disk b.disk c.disk (x.on k) (y.on k);
  rule = y.rule ∙ x.rule;
}
