use Rattle.std.proofs.Common.{ℕ, List, subst}
use Rattle.base.specs.disk.Disk.{bytes_of}
use Rattle.inspections.specs.declared.damages.Soundness.{Soundness}
use Rattle.inspections.specs.PoolDamages.{IsSoundnessOf}
use Rattle.inspections.proofs.PoolDamages.{listed_in_tree, listed_log}
use Rattle.import_replay_clients.proofs.reports.a_damage_that_is_found_is_one.Goals as goal

pub returns-in-Damaged-clause-log : goal.returns-in-Damaged-clause-log
returns-in-Damaged-clause-log g c = λ keeps.
    let image : List ℕ = bytes_of (g.D.SectorDevice.disk c.args.device.now).now in
    listed_log image c.in-Damaged.damages.items (subst (λ (s : Soundness). IsSoundnessOf image s) c.in-Damaged.is (c.in_ok-damages.ensures.found keeps))

pub returns-in-Damaged-clause-tree : goal.returns-in-Damaged-clause-tree
returns-in-Damaged-clause-tree g c = λ keeps.
    let image : List ℕ = bytes_of (g.D.SectorDevice.disk c.args.device.now).now in
    listed_in_tree image c.in-Damaged.damages.items (subst (λ (s : Soundness). IsSoundnessOf image s) c.in-Damaged.is (c.in_ok-damages.ensures.found keeps))
