use Rattle.std.proofs.lemmas.Result.{IfOk-weaker}
use Rattle.base.specs.disk.Disk.{bytes_of}
use Rattle.intent_log_clients.proofs.ReadChains.{none_past_one_level}
use Rattle.intent_log_clients.proofs.chained.version_1_has_no_record_past_one_level.Goals as goal

pub returns : goal.returns
returns g c = λ keeps r has past.
    let image = bytes_of (g.D.SectorDevice.disk c.args.device.now).now in
    IfOk-weaker c.chain.result _ _ (λ pieces is. none_past_one_level image c.args.frame.now c.args.header.now r c.requires.version has past pieces.items is) (c.chain.ensures.chain keeps)
