use Rattle.std.proofs.Common.{◌≡◌, ◌∷◌, [], rules, subst}
use Rattle.base.specs.declared.operation.Op.TheVariants.{Remove}
use Rattle.pool_threads.specs.Transacts.{TransactsOrLacks}
use Rattle.running_pools.specs.Commits.{command_owner}
use Rattle.commands.proofs.changes.remove.Goals as goal

pub returns : goal.returns
returns g c =
    let are : c.new-ops.result ≡ Remove c.args.object ∷ [] = search rules in
    subst (λ ops. TransactsOrLacks command_owner ops c.transact.result c.args.handle.now c.transact.new.self) are c.transact.ensures.made
