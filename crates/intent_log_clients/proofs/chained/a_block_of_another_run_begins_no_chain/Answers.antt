use Rattle.std.proofs.lemmas.Result.{IfOk-weaker}
use Rattle.base.specs.disk.Disk.{bytes_of}
use Rattle.intent_log_clients.proofs.ReadChains.{none_of_run}
use Rattle.intent_log_clients.proofs.chained.a_block_of_another_run_begins_no_chain.Goals as goal

pub returns : goal.returns
returns g c = λ keeps r has.
    let image = bytes_of (g.D.SectorDevice.disk c.args.device.now).now in
    IfOk-weaker c.chain.result _ _ (λ pieces is. none_of_run image c.args.frame.now c.args.header.now r c.requires.run has pieces.items is) (c.chain.ensures.chain keeps)
