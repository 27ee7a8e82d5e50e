-- Each write of a sync is of a whole place that the format checks. So what a read gives stays fair at each moment of
-- each call.
use Rattle.std.proofs.Common.{◌≡◌, inl, inr, ℕ, ◌+◌, ◌≤◌, length, Option, Some, None, Result, refl, sym, subst, arith}
use Rattle.std.specs.Prelude.{IfSome}
use Rattle.base.specs.declared.error.PoolError.{PoolError}
use Rattle.base.specs.formats.Geometry.{slot_place}
use Rattle.base.specs.disk.Disk.{Moment, Disk, EachMoment, moments}
use Rattle.base.specs.disk.Fairness.{HasFairBytes, IsCheckedPlace}
use Rattle.base.specs.disk.SyncOrder.{DeviceCall}
use Rattle.base.specs.disk.SyncOrder.DeviceCall.{Block, Config, Uberblock, Flush}
use Rattle.base.proofs.disk.FairBytes.{fair_bytes_wrote, fair_bytes_settled}
use Rattle.base.proofs.disk.Moments.{starts, each_write, each_flush}
use Rattle.base.proofs.common.KeptLists.{mapped}
use Rattle.sync.specs.declared.run.SyncRun.{SyncRun}
use Rattle.sync.specs.Calls.{Target, config_target, target_of, MakesCall, TargetFits}
use Rattle.sync.proofs.Targets.{InLabels, IsSound, WritesTarget, block_lies}

-- a target is a whole place that the format checks
pub target_checked : (run : SyncRun) → IsSound run → (call : DeviceCall) (t : Target) → InLabels call → target_of run call ≡ Some t → IsCheckedPlace run.geometry t.place t.size
target_checked run sound (Block k) t within is =
    let (b, at, below, same) = block_lies run sound k t is in
    subst (λ (u : Target). IsCheckedPlace run.geometry u.place u.size) same (inl (refl, inl (b.index, below, refl)))
target_checked run sound (Config label) t within is =
    let (stages, at, same) = mapped (config_target run.geometry label) run.stages t is in
    subst (λ (u : Target). IsCheckedPlace run.geometry u.place u.size) same (inl (refl, inr (label, within, refl)))
target_checked run sound (Uberblock label) t within is =
    let same : record { place = slot_place run.geometry label run.slot; size = 1024; content = run.uberblock } ≡ t = cc in
    subst (λ (u : Target). IsCheckedPlace run.geometry u.place u.size) same (inr (refl, (label, run.slot, within, sound.slot, refl)))
target_checked run sound Flush t within is = absurd (let no_way : None ≡ Some t = is in cc)

module _ (run : SyncRun) (sound : IsSound run) (t : ℕ) (before after : Disk) (began : t ≤ moments before) (fair : HasFairBytes run.geometry t before.now) (r : Result (Unit {0}) PoolError) where
  abbrev Fair : Moment → Type 0
  Fair m = HasFairBytes run.geometry t m

  fair_write : (call : DeviceCall) → InLabels call → (o : Option Target) → target_of run call ≡ o → IfSome o (λ u. (length u.content ≡ u.size) × (u.place + u.size ≤ run.geometry))
      → WritesTarget o before r after → EachMoment Fair before after
  fair_write call within None is fits makes = absurd makes
  fair_write call within (Some u) is fits makes =
      let checked : IsCheckedPlace run.geometry u.place (length u.content) = subst (λ (n : ℕ). IsCheckedPlace run.geometry u.place n) (sym fits.0) (target_checked run sound call u within is) in
      each_write Fair before before after u.place u.content r (starts Fair before fair) makes
      (λ done here. fair_bytes_wrote run.geometry sound.geometry t (moments before) u.place u.content done before.now began checked (omega (arith, fits.0, fits.1)) here)

  -- what a read gives stays fair
  pub call_fair : (call : DeviceCall) → InLabels call → TargetFits run call → MakesCall run call before r after → EachMoment Fair before after
  call_fair (Block k) within fits makes = fair_write (Block k) within (target_of run (Block k)) refl fits makes
  call_fair (Config l) within fits makes = fair_write (Config l) within (target_of run (Config l)) refl fits makes
  call_fair (Uberblock l) within fits makes = fair_write (Uberblock l) within (target_of run (Uberblock l)) refl fits makes
  call_fair Flush within fits makes = each_flush Fair before before after r (starts Fair before fair) makes (λ here. fair_bytes_settled run.geometry sound.geometry t before.now here)
