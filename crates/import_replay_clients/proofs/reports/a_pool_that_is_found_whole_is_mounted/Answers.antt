use Rattle.std.proofs.Common.{ℕ, List, subst}
use Rattle.base.specs.disk.Disk.{bytes_of}
use Rattle.inspections.specs.declared.damages.Soundness.{Soundness}
use Rattle.inspections.specs.PoolDamages.{IsSoundnessOf}
use Rattle.import_replay_clients.proofs.reports.a_pool_that_is_found_whole_is_mounted.Goals as goal

pub returns-in-Whole : goal.returns-in-Whole
returns-in-Whole g c = λ keeps.
    let image : List ℕ = bytes_of (g.D.SectorDevice.disk c.args.device.now).now in
    let (contents, told, mounted) = (subst (λ (s : Soundness). IsSoundnessOf image s) c.in-Whole.is (c.in_ok-inspected.ensures.found keeps)).0 in
    (contents, (mounted.u, mounted.chain, mounted.mounts), told.name_is)
