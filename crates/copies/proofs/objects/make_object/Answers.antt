use Rattle.std.proofs.Common.{◌≡◌, ◌∷◌, [], List, Ok, rules, subst}
use Rattle.base.specs.declared.operation.Op.{Op}
use Rattle.base.specs.declared.operation.Op.TheVariants.{Create, SetLength}
use Rattle.running_pools.specs.Commits.{command_owner}
use Rattle.pool_threads.specs.Transacts.{TransactsOrLacks}
use Rattle.copies.proofs.Steps.{one_made}
use Rattle.copies.proofs.objects.make_object.Goals as goal

pub returns-clause-made : goal.returns-clause-made
returns-clause-made g c =
    let all : List Op = Create c.args.object ∷ SetLength c.args.object c.args.length ∷ [] in
    let are : c.new-ops.result ≡ all = search rules in
    (one_made all c.in_ok-transact.field-0 c.args.new.now c.transact.new.self
    (subst (λ (ops : List Op). TransactsOrLacks command_owner ops (Ok c.in_ok-transact.field-0) c.args.new.now c.transact.new.self) are c.in_ok-transact.ensures.made))
