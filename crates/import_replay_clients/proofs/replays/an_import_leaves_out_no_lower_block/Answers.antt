use Rattle.import_replay.proofs.Configs.{ok_both, ok_weaker}
use Rattle.import_replay_clients.proofs.TakenBlocks.{changed_in_tree, lower_in_tree}
use Rattle.import_replay_clients.proofs.replays.an_import_leaves_out_no_lower_block.Goals as goal

pub returns-clause-there : goal.returns-clause-there
returns-clause-there g c = λ keeps. ok_weaker c.import.result _ _
    (λ i told. changed_in_tree (g.D.SectorDevice.disk c.args.device) (g.D.SectorDevice.disk i.device) 0 1048576 i.mounted told.0 told.1)
    (ok_both c.import.result _ _ (c.import.ensures.imported keeps) (c.import.ensures.written keeps))

pub returns-clause-lower : goal.returns-clause-lower
returns-clause-lower g c = λ keeps. ok_weaker c.import.result _ _
    (λ i told. lower_in_tree (g.D.SectorDevice.disk c.args.device) (g.D.SectorDevice.disk i.device) 0 1048576 i.mounted told.0 told.1)
    (ok_both c.import.result _ _ (c.import.ensures.imported keeps) (c.import.ensures.written keeps))
