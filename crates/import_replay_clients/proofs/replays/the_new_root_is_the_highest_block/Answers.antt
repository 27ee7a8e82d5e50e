use Rattle.import_replay.proofs.Configs.{ok_both, ok_weaker}
use Rattle.import_replay_clients.proofs.TakenBlocks.{root_highest}
use Rattle.import_replay_clients.proofs.replays.the_new_root_is_the_highest_block.Goals as goal

pub returns : goal.returns
returns g c = λ keeps. ok_weaker c.import.result _ _
    (λ i told. root_highest (g.D.SectorDevice.disk c.args.device) (g.D.SectorDevice.disk i.device) 0 1048576 i.mounted told.0 told.1)
    (ok_both c.import.result _ _ (c.import.ensures.imported keeps) (c.import.ensures.written keeps))
