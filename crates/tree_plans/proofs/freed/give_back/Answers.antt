use Rattle.std.proofs.Common.{◌≢◌, rules}
use Rattle.base.specs.formats.Fields.{no_pointer}
use Rattle.tree_plans.proofs.Once.{once_pushed}
use Rattle.tree_plans.proofs.freed.give_back.Goals as goal

pub returns-then-not-is_none-clause-once : goal.returns-then-not-is_none-clause-once
returns-then-not-is_none-clause-once c =
    let named : c.args.replaced.now ≢ no_pointer = λ none. (let no = c.if-not-is_none.true in let is = c.is_none.ensures.1 none in search rules) in
    rw c.push_reserved.ensures.items (once_pushed c.args.freed.now.items c.args.replaced.now named)
