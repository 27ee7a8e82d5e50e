use Rattle.std.proofs.Common.{◌∙◌, ap, sym}
use Rattle.transactions.specs.Open.{is_too_many}
use Rattle.transactions.proofs.OpenOrder.{length-admissions_at}
use Rattle.transactions.proofs.open.OpenTransactions.is_full.Goals as goal

pub returns : goal.returns
returns c =
    let inside = c.self.inside in
    rw (← c.self.view_is) (c.is_too_many.ensures ∙ ap (λ n. is_too_many n inside.next) (c.len.ensures ∙ inside.order.ok.0 ∙ sym (length-admissions_at inside.slots inside.order.items c.self.invariant.present)))
