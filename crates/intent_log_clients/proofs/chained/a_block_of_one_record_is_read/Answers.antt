use Rattle.std.proofs.lemmas.Result.{IfOk-weaker}
use Rattle.base.specs.disk.Disk.{bytes_of}
use Rattle.intent_log_clients.proofs.ReadChains.{one_record, some_piece}
use Rattle.intent_log_clients.proofs.chained.a_block_of_one_record_is_read.Goals as goal

pub returns : goal.returns
returns g c = λ keeps r has of_version.
    let image = bytes_of (g.D.SectorDevice.disk c.args.device.now).now in
    let piece = one_record image c.args.frame.now c.args.header.now r has of_version in
    IfOk-weaker c.chain.result _ _ (λ pieces is. some_piece image c.args.frame.now c.args.header.now piece.0 pieces.items piece.1 is) (c.chain.ensures.chain keeps)
