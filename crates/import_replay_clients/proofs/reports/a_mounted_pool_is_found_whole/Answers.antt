use Rattle.std.proofs.Common.{ℕ, List, subst}
use Rattle.base.specs.disk.Disk.{bytes_of}
use Rattle.inspections.specs.declared.damages.Soundness.{Soundness}
use Rattle.inspections.specs.PoolDamages.{IsSoundnessOf}
use Rattle.inspections.proofs.PoolDamages.{mounted_whole}
use Rattle.import_replay_clients.proofs.reports.a_mounted_pool_is_found_whole.Goals as goal

pub returns : goal.returns
returns g c = λ keeps contents mounts.
    let image : List ℕ = bytes_of (g.D.SectorDevice.disk c.args.device.now).now in
    absurd (mounted_whole image contents c.in-Damaged.field-0.items mounts
    (subst (λ (s : Soundness). IsSoundnessOf image s) c.in-Damaged.is (c.in_ok-find_damages.ensures.found keeps)))
