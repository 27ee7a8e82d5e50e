use Rattle.std.proofs.Common.{◌≡◌, ◌∙◌, true, false, sym, arith}
use Rattle.std.proofs.lemmas.Bool.{le-leb}
use Rattle.intent_log.specs.Receipts.{ends_of}
use Rattle.intent_log.proofs.Receipts.{none_outside}
use Rattle.intent_log.proofs.kept_block.KeptBlock.has.Goals as goal
use Rattle.intent_log.proofs.kept_block.KeptBlock.has.Goals.{then-self-receipt, else-self-receipt}

pub returns-else-receipt-self : goal.returns-else-receipt-self
returns-else-receipt-self c =
    c.if-receipt-self.false ∙ sym (none_outside c.args.receipt c.args.self.now.first.0 c.args.self.now.last.0 (ends_of c.args.self.now.holds) c.args.self.now.between
    (λ low high. elim c.if-self-receipt.branch [
      | then-self-receipt w ↦
          let yes = le-leb c.args.receipt.ordinal.0 c.args.self.now.last.0 high in
          let e : true ≡ false = sym yes ∙ sym w.value-is ∙ c.if-receipt-self.false in cc
      | else-self-receipt w ↦ omega (arith, low, w.if-self-receipt.false)
    ]))
