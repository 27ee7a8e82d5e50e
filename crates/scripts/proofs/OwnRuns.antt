-- A pool that its session steps itself keeps its run over commands, and begins one as an import mounted it.
use Rattle.std.proofs.Common.{◌≡◌, ◌∙◌, ℕ, ◌++◌, [], ◌∷◌, refl, sym, ap, subst}
use Rattle.std.specs.Prelude.{IsTrue}
use Rattle.std.proofs.Math.Logic.{∥∥₁_map}
use Rattle.base.specs.declared.step.Step.{Step}
use Rattle.base.specs.declared.step.Reply.{Reply}
use Rattle.base.specs.kept.CrashRule.{KeepsOwn}
use Rattle.base.specs.disk.Disk.{Disk, disk_size}
use Rattle.base.specs.history.Past.{Past}
use Rattle.device_model.specs.declared.device.SectorDevice.{Ghosts}
use Rattle.mounted.specs.ShownMounted.{shown_of_import}
use Rattle.import_replay.specs.RunStarts.{StartsRun}
use Rattle.mounted.specs.declared.mounted.Mounted.{Mounted}
use Rattle.pool_core.specs.KeptSafe.{BeginsSafe, IsKeptSafe, IsSafeStep, on_disk}
use Rattle.pool_core.specs.NewStates.{IsHeldAtFirst}
use Rattle.pool_core.specs.States.{device_of, told}
use Rattle.pool_core.specs.declared.state.PoolState.{PoolState}
use Rattle.pool_core.proofs.crash.LeftDisks.{found, run_start, safe_found}
use Rattle.base.specs.kept.LeftDisks.{IsLeft}
use Rattle.script_lines.specs.declared.command.PoolCommand.{PoolCommand}
use Rattle.scripts.proofs.CommandSteps.{by_command}
use Rattle.scripts.proofs.JoinedRuns.{runs_join}
use Rattle.scripts.specs.OwnPools.{BeginsRun, IsImportedPool, IsMadeSafely, IsStepOf, open_plan}
use Rattle.scripts.specs.PoolSteps.{Asks}

module _ {Dev : Type 0} {V : Ghosts Dev} (keep : IsTrue V.keeps_model) where
  -- from each past with the crash rule the pool goes on safely
  abbrev Goes : PoolState Dev V → PoolState Dev V → Type 0
  Goes old new = (past : Past) → IsKeptSafe (on_disk old past) → IsMadeSafely old new past

  goes_nowhere : (a : PoolState Dev V) → Goes a a
  goes_nowhere a past kept = record { steps = []; replies = []; later = past; run = refl; kept = kept }

  goes_onward : (a b c : PoolState Dev V) → Goes a b → Goes b c → Goes a c
  goes_onward a b c first then past kept =
      let made = first past kept in
      let rest = then made.later made.kept in
      record {
        steps = made.steps ++ rest.steps;
        replies = made.replies ++ rest.replies;
        later = rest.later;
        run = runs_join IsSafeStep made.steps rest.steps made.replies rest.replies (on_disk a past) (on_disk b made.later) (on_disk c rest.later) made.run rest.run;
        kept = rest.kept;
      }

  goes_by_one : (s : Step) (r : Reply) (a b : PoolState Dev V) → Unit {0} → IsStepOf s r a b → Goes a b
  goes_by_one s r a b it made past kept =
      let one = made.safe keep past kept in
      record { steps = s ∷ []; replies = r ∷ []; later = _; run = (on_disk b _, one, refl); kept = one.kept }

  pub goes_safely : (asked : PoolCommand) (moment : ℕ) (reply : Reply) (old new : PoolState Dev V) → Asks IsStepOf open_plan asked moment reply old new → Goes old new
  goes_safely = by_command IsStepOf Goes goes_nowhere goes_onward (λ s. Unit {0}) goes_by_one (λ s. tt) open_plan

  -- what an import gave begins a run after each that left its disk
  pub begins_run : (past : Past) (old : Disk) (m : Mounted) (cache_blocks : ℕ) (device : Dev) (pool : PoolState Dev V) → IsLeft past old
      → StartsRun old (shown_of_import m).dirty_max (V.disk device) m → KeepsOwn old (V.disk device) → disk_size (V.disk device) ≡ m.geometry
      → IsImportedPool device m cache_blocks pool → ∥ IsHeldAtFirst (told pool) ∥₁ → BeginsSafe pool → ∥ BeginsRun past (shown_of_import m).dirty_max pool ∥₁
  begins_run past old m cache_blocks device pool was starts own sized imported held begins =
      let same : device ≡ device_of pool = sym imported.device_is in
      let limit : ℕ = (shown_of_import m).dirty_max in
      let keeps_it : KeepsOwn old (V.disk (device_of pool)) = subst (λ (d : Dev). KeepsOwn old (V.disk d)) same own in
      let starts_it : StartsRun old limit (V.disk (device_of pool)) m = subst (λ (d : Dev). StartsRun old limit (V.disk d) m) same starts in
      let sized_it : disk_size (V.disk (device_of pool)) ≡ m.geometry = subst (λ (d : Dev). disk_size (V.disk d) ≡ m.geometry) same sized in
      ∥∥₁_map held (λ held.
      let of = found keep limit past old m pool was keeps_it starts_it imported.shown_is refl sized_it held begins in
      record {
        base = of.contents;
        left = of.left;
        shows = ap (λ s. s.contents) imported.shown_is ∙ (run_start keep limit past old m pool was keeps_it starts_it imported.shown_is refl sized_it held begins).contents_are;
        kept = safe_found keep limit past old m pool was keeps_it starts_it imported.shown_is refl sized_it held begins;
      })
