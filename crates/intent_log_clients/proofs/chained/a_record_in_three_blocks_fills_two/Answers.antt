use Rattle.std.proofs.lemmas.Result.{IfOk-weaker}
use Rattle.base.specs.disk.Disk.{bytes_of}
use Rattle.intent_log_clients.proofs.ReadChains.{fills_two}
use Rattle.intent_log_clients.proofs.chained.a_record_in_three_blocks_fills_two.Goals as goal

pub returns : goal.returns
returns g c = λ keeps.
    let image = bytes_of (g.D.SectorDevice.disk c.args.device.now).now in
    IfOk-weaker c.chain.result _ _ (λ pieces is. fills_two image c.args.frame.now c.args.header.now pieces.items is) (c.chain.ensures.chain keeps)
