use Rattle.std.proofs.lemmas.Result.{IfOk-weaker}
use Rattle.base.specs.disk.Disk.{bytes_of}
use Rattle.intent_log_clients.proofs.ReadChains.{one_block_alone}
use Rattle.intent_log_clients.proofs.chained.version_1_has_no_long_record.Goals as goal

pub returns : goal.returns
returns g c = λ keeps.
    let image = bytes_of (g.D.SectorDevice.disk c.args.device.now).now in
    IfOk-weaker c.chain.result _ _ (λ pieces is. one_block_alone image c.args.frame.now c.args.header.now c.requires.version pieces.items is) (c.chain.ensures.chain keeps)
