use Rattle.std.proofs.Common.{◌∙◌}
use Rattle.transactions.proofs.OpenOrder.{owned_at}
use Rattle.transactions.proofs.open.OpenTransactions.has_one_open.Goals as goal

pub returns : goal.returns
returns c = rw (← c.self.view_is) ((rw c.deref.ensures.value at c.any_of_owner.ensures) ∙ owned_at c.self.inside.slots c.self.inside.order.items c.self.invariant.allowed c.args.owner.0)
