use Rattle.std.proofs.Common.{◌∙◌}
use Rattle.base.specs.history.Plans.{number_range}
use Rattle.transactions.proofs.OpenOrder.{in_use_at}
use Rattle.transactions.proofs.open.OpenTransactions.is_lock_in_use.Goals as goal

pub returns : goal.returns
returns c =
    rw (← c.self.view_is) ((rw c.deref.ensures.value at c.any_lies_in.ensures) ∙ in_use_at c.self.inside.slots c.self.inside.order.items c.self.invariant.allowed (number_range c.args.range.now))
