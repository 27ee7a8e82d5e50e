use Rattle.std.proofs.Common.{◌≡◌, ◌+◌, ℕ, List, arith, length, subst}
use Rattle.std.proofs.lemmas.Result.{IfOk-weaker}
use Rattle.base.specs.disk.Disk.{bytes_of}
use Rattle.base.specs.formats.Chain.{LogPiece, addresses_of}
use Rattle.intent_log.specs.Chains.{HasOneRecord, IsChainFrom}
use Rattle.intent_log.specs.declared.chains.ChainHeader.{ChainHeader}
use Rattle.intent_log_clients.proofs.ReadChains.{one_record}
use Rattle.intent_log_clients.proofs.chained.a_chain_goes_on_with_the_next_number.Goals as goal

pub returns : goal.returns
returns g c = λ keeps.
    let image = bytes_of (g.D.SectorDevice.disk c.args.device.now).now in
    let h = c.args.header.now in
    IfOk-weaker c.chain.result _ _ (λ pieces is piece r one has of_version.
    let number : h.number + 1 + length piece.behind ≡ h.number + length (addresses_of piece) = omega arith in
    let next : ChainHeader = record { address = piece.next; number = h.number + length (addresses_of piece); import_number = h.import_number; version = h.version } in
    let second = one_record image c.args.frame.now next r (subst (λ (n : ℕ). HasOneRecord image c.args.frame.now h.import_number piece.next n r) number has) of_version in
    (subst (λ (ps : List LogPiece). IsChainFrom image c.args.frame.now h ps) one is).1 second.0 second.1) (c.chain.ensures.chain keeps)
