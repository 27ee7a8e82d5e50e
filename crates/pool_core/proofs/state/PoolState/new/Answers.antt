use Rattle.std.proofs.Common.{◌≡◌, ◌∙◌, ℕ, List, ap, refl, subst, sym}
use Rattle.std.proofs.Math.Logic.{∥∥₁_elim, ∥∥₁_map, ∥∥₁_prop}
use Rattle.base.specs.disk.Disk.{bytes_of}
use Rattle.base.specs.formats.Geometry.{block_count}
use Rattle.block_cache.specs.CachedDevices.{device_in}
use Rattle.pool_tables.specs.Shows.{pool_shown}
use Rattle.pool_tables.specs.Told.{pool_told}
use Rattle.pool_core.proofs.NewStates.{explained_as, held_as, mounted_within}
use Rattle.std.specs.Prelude.{None, Option, option_map}
use Rattle.pool_tables.specs.declared.pool.RunningSync.{RunningSync}
use Rattle.base.specs.steps.Shown.{Shown}
use Rattle.pool_tables.specs.SyncPhases.{run_in}
use Rattle.pool_core.specs.NewStates.{IsHeldAtFirst, first_past}
use Rattle.pool_core.proofs.crash.SafeMoments.{idle_kept}
use Rattle.pool_core.proofs.state.PoolState.new.Goals as goal

pub new-requires : goal.new-requires
new-requires g c = mounted_within c.args.imported.mounted c.args.imported.explained

pub returns-clause-explained : goal.returns-clause-explained
returns-clause-explained g c = ∥∥₁_map c.args.imported.explained (explained_as c.args.imported.mounted (pool_shown c.new.result) c.new.ensures.shown)

pub returns-clause-held : goal.returns-clause-held
returns-clause-held g c =
    let m = c.args.imported.mounted in
    let now : List ℕ = bytes_of (g.D.SectorDevice.disk c.args.imported.device).now in
    let same : bytes_of (g.D.SectorDevice.disk (device_in c.new-device.result)).now ≡ now = ap (λ d. bytes_of (g.D.SectorDevice.disk d).now) c.new-device.ensures.device in
    ∥∥₁_elim c.args.imported.stands ∥∥₁_prop (λ stands. ∥∥₁_elim c.args.imported.labels ∥∥₁_prop (λ labels. ∥∥₁_map c.args.imported.explained (λ explained keeps.
    let sized = ap (λ (n : ℕ). block_count n) (sym (g.met.D.SectorDevice.sized keeps c.args.imported.device ∙ c.args.imported.sized)) in
    subst (λ (l : List ℕ). IsHeldAtFirst (pool_told c.new.result l)) (sym same)
    (held_as m c.new.result now c.new.ensures.shown c.new.ensures.tree c.new.ensures.idle sized (stands keeps) (labels keeps) explained))))

pub returns-clause-safe : goal.returns-clause-safe
returns-clause-safe g c = λ created held began kept quiet.
    let shown : Shown = pool_shown c.new.result in
    let none : run_in c.new.result ≡ None = ap (λ (o : Option RunningSync). option_map (λ (r : RunningSync). r.run) o) c.new.ensures.idle in
    let idle : shown.line.syncing ≡ None = ap (λ (s : Shown). s.line.syncing) c.new.ensures.shown in
    record {
      held = held created;
      same_bytes = refl;
      began = began;
      kept = idle_kept (run_in c.new.result) (g.D.SectorDevice.disk (device_in c.new-device.result)) shown (first_past shown created) none idle kept quiet;
    }
