use Rattle.import_replay.proofs.Configs.{ok_both, ok_weaker}
use Rattle.import_replay_clients.proofs.TakenBlocks.{nothing_written}
use Rattle.import_replay_clients.proofs.replays.an_import_without_records_writes_no_block.Goals as goal

pub returns : goal.returns
returns g c = λ keeps. ok_weaker c.import.result _ _
    (λ i told u chain contents mounts none. nothing_written (g.D.SectorDevice.disk c.args.device) (g.D.SectorDevice.disk i.device) 0 1048576 i.mounted told.0 told.1 u chain contents mounts none)
    (ok_both c.import.result _ _ (c.import.ensures.imported keeps) (c.import.ensures.written keeps))
