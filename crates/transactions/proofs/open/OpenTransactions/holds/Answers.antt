use Rattle.std.proofs.Common.{◌∙◌}
use Rattle.transactions.proofs.OpenOrder.{holds_at}
use Rattle.transactions.proofs.open.OpenTransactions.holds.Goals as goal

pub returns : goal.returns
returns c = rw (← c.self.view_is) ((rw c.deref.ensures.value at c.count_of_group.ensures) ∙ holds_at c.args.group.0 c.self.inside.slots c.self.inside.order.items)
