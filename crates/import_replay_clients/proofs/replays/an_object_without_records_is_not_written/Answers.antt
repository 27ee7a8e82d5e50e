use Rattle.std.proofs.Common.{arith, refl}
use Rattle.base.proofs.tree.Strips.{indirect-count}
use Rattle.import_replay.proofs.Configs.{ok_both, ok_weaker}
use Rattle.import_replay_clients.proofs.TakenBlocks.{other_indirect, other_record}
use Rattle.import_replay_clients.proofs.replays.an_object_without_records_is_not_written.Goals as goal

pub returns-clause-data : goal.returns-clause-data
returns-clause-data g c = λ keeps. ok_weaker c.import.result _ _
    (λ i told u chain contents mounts none k low. other_record (g.D.SectorDevice.disk c.args.device) (g.D.SectorDevice.disk i.device) 0 1048576 i.mounted told.0 told.1 u chain contents mounts 7 (omega arith) none 7 2 k (omega (arith, indirect-count)) refl (omega arith) low)
    (ok_both c.import.result _ _ (c.import.ensures.imported keeps) (c.import.ensures.written keeps))

pub returns-clause-pointers : goal.returns-clause-pointers
returns-clause-pointers g c = λ keeps. ok_weaker c.import.result _ _
    (λ i told u chain contents mounts none k low. other_indirect (g.D.SectorDevice.disk c.args.device) (g.D.SectorDevice.disk i.device) 0 1048576 i.mounted told.0 told.1 u chain contents mounts 7 (omega arith) none 7 k (omega (arith, indirect-count)) refl low)
    (ok_both c.import.result _ _ (c.import.ensures.imported keeps) (c.import.ensures.written keeps))
