use Rattle.std.proofs.Common.{◌∙◌}
use Rattle.transactions.proofs.OpenOrder.{blocked_at, kept_blocked_at}
use Rattle.transactions.proofs.open.OpenTransactions.is_blocked.Goals as goal

pub returns-clause-blocked : goal.returns-clause-blocked
returns-clause-blocked c = λ allowed.
    rw (← c.self.view_is) ((rw c.deref.ensures.value at c.any_blocks.ensures) ∙ blocked_at c.self.inside.slots c.self.inside.order.items c.self.invariant.allowed c.args.plan.now allowed)

pub returns-clause-kept : goal.returns-clause-kept
returns-clause-kept c =
    rw (← c.self.view_is) ((rw c.deref.ensures.value at c.any_blocks.ensures) ∙ kept_blocked_at c.self.inside.slots c.self.inside.order.items c.self.invariant.allowed c.args.plan.now)
