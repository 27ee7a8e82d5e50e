-- A pool that was imported from what a run left begins its own run safely, and the disk goes on over its steps.
use Rattle.std.proofs.Common.{◌≡◌, ◌∙◌, ℕ, List, [], ◌∷◌, ap, subst, sym}
use Rattle.std.specs.Prelude.{IsTrue}
use Rattle.base.specs.kept.CrashRule.{KeepsOwn}
use Rattle.base.specs.kept.LeftDisks.{GoesOnFrom, IsLeft}
use Rattle.base.specs.kept.PoolViews.{IsPoolDisk}
use Rattle.base.specs.declared.step.Step as declared_step
use Rattle.base.specs.declared.step.Reply as declared_reply
use Rattle.base.specs.disk.Disk.{Disk, disk_size}
use Rattle.base.specs.history.Contents.{Contents}
use Rattle.base.specs.history.Past.{Past, new_past}
use Rattle.base.specs.steps.Runs.{Run}
use Rattle.base.specs.steps.Shown.{Shown}
use Rattle.base.proofs.crash.LeftDisks.{IsLeftOnceFlushed, IsStillLeft, import_left, left_flushed}
use Rattle.base.proofs.disk.Moments.{joins, starts, weaker}
use Rattle.base.proofs.steps.Additions.{step_grows}
use Rattle.device_model.specs.declared.device.SectorDevice.{Ghosts}
use Rattle.mounted.specs.ShownMounted.{shown_of_import}
use Rattle.import_replay.specs.RunStarts.{IsRunStart, StartsRun}
use Rattle.mounted.specs.declared.mounted.Mounted.{Mounted}
use Rattle.contents.specs.ContentsShown.{contents_of}
use Rattle.pool_core.specs.KeptSafe.{BeginsSafe, IsKeptSafe, IsSafeStep, OnDisk, disk_of, on_disk}
use Rattle.pool_core.specs.NewStates.{IsHeldAtFirst, first_past}
use Rattle.pool_core.specs.States.{shown, told}
use Rattle.pool_core.specs.declared.state.PoolState.{PoolState}

-- the disk goes on over safe steps, and the past is of the same create
pub steps_go_on : (ss : List declared_step.Step) (rs : List declared_reply.Reply) (old new : OnDisk) → Run IsSafeStep ss rs old new → GoesOnFrom old.disk new.disk
steps_go_on [] [] old new same = subst (λ (x : OnDisk). GoesOnFrom old.disk x.disk) (sym same) (starts (λ m. Unit {0}) old.disk tt)
steps_go_on (s ∷ ss) (r ∷ rs) old new (middle, one, rest) =
    joins (λ m. Unit {0}) old.disk middle.disk new.disk (weaker _ (λ m. Unit {0}) old.disk middle.disk (λ m here. tt) one.were) (steps_go_on ss rs middle new rest)
steps_go_on [] (r ∷ rs) old new h = absurd h
steps_go_on (s ∷ ss) [] old new h = absurd h

pub steps_same_create : (ss : List declared_step.Step) (rs : List declared_reply.Reply) (old new : OnDisk) → Run IsSafeStep ss rs old new → new.held.state.past.created ≡ old.held.state.past.created
steps_same_create [] [] old new same = ap (λ (x : OnDisk). x.held.state.past.created) same
steps_same_create (s ∷ ss) (r ∷ rs) old new (middle, one, rest) =
    steps_same_create ss rs middle new rest ∙ (step_grows (Unit {0}) old.held.now s r old.held.state middle.held.state one.step).created
steps_same_create [] (r ∷ rs) old new h = absurd h
steps_same_create (s ∷ ss) [] old new h = absurd h

-- An import that was not refused begins a run.
module _ {Dev : Type 0} {G : Ghosts Dev} (keep : IsTrue G.keeps_model) (dirty_max : ℕ) (past : Past) (old : Disk) (m : Mounted) (state : PoolState Dev G)
    (was : IsLeft past old) (kept : KeepsOwn old (disk_of state)) (starts_run : StartsRun old dirty_max (disk_of state) m) (shows : shown state ≡ shown_of_import m)
    (limit : (shown_of_import m).dirty_max ≡ dirty_max) (sized : disk_size (disk_of state) ≡ m.geometry) (held : IsHeldAtFirst (told state)) (begins : BeginsSafe state) where
  pub found : IsLeftOnceFlushed past old
  found = left_flushed past old was

  left_then : IsStillLeft past old (disk_of state)
  left_then = import_left past old (disk_of state) was kept

  pub run_start : IsRunStart past.created found.guid found.contents dirty_max m (disk_of state).now
  run_start = starts_run past.created found.guid found.contents found.own

  abbrev first : Past
  first = new_past (contents_of m.contents) past.created dirty_max

  first_is : first_past (shown state) past.created ≡ first
  first_is =
      ap (λ (s : Shown). first_past s past.created) shows ∙ ap (λ (k : ℕ). new_past (contents_of m.contents) past.created k) limit

  pub safe_at_first : IsKeptSafe (on_disk state (first_past (shown state) past.created))
  safe_at_first =
      let laid : IsPoolDisk (disk_size (disk_of state)) (disk_of state).now (shown state) (first_past (shown state) past.created) =
      subst (λ (n : ℕ). IsPoolDisk n (disk_of state).now (shown state) (first_past (shown state) past.created)) (sym sized)
      (subst (λ (s : Shown). IsPoolDisk m.geometry (disk_of state).now s (first_past (shown state) past.created)) (sym shows)
      (subst (λ (p : Past). IsPoolDisk m.geometry (disk_of state).now (shown_of_import m) p) (sym first_is) run_start.disk)) in
      begins past.created held left_then.left.1.began laid run_start.settled

  safe_first : IsKeptSafe (on_disk state first)
  safe_first = subst (λ (p : Past). IsKeptSafe (on_disk state p)) first_is safe_at_first

  of_found : first ≡ new_past found.contents past.created dirty_max
  of_found = ap (λ (c : Contents). new_past c past.created dirty_max) run_start.contents_are

  pub safe_found : IsKeptSafe (on_disk state (new_past found.contents past.created dirty_max))
  safe_found = subst (λ (p : Past). IsKeptSafe (on_disk state p)) of_found safe_first
