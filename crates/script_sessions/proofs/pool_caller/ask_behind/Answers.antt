use Rattle.std.proofs.Common.{refl}
use Rattle.script_sessions.proofs.Asked.{asked_of, steps_grow}
use Rattle.script_sessions.specs.Plans.{plan_seen}
use Rattle.script_sessions.proofs.pool_caller.ask_behind.Goals as goal

pub returns-clause-own : goal.returns-clause-own
returns-clause-own g c = (asked_of _ _ c.leave.result _ _ _ _ c.run_pool_command-reply.new.pool c.requires.own c.requires.only c.requires.plans c.handle_after.ensures c.run_pool_command-reply.ensures c.leave.ensures).own

pub returns-clause-only : goal.returns-clause-only
returns-clause-only g c = (asked_of _ _ c.leave.result _ _ _ _ c.run_pool_command-reply.new.pool c.requires.own c.requires.only c.requires.plans c.handle_after.ensures c.run_pool_command-reply.ensures c.leave.ensures).only

pub returns-clause-next : goal.returns-clause-next
returns-clause-next g c = (asked_of _ _ c.leave.result _ _ _ _ c.run_pool_command-reply.new.pool c.requires.own c.requires.only c.requires.plans c.handle_after.ensures c.run_pool_command-reply.ensures c.leave.ensures).next

pub returns-clause-asked : goal.returns-clause-asked
returns-clause-asked g c =
    let asked = asked_of _ _ c.leave.result _ _ _ _ c.run_pool_command-reply.new.pool c.requires.own c.requires.only c.requires.plans c.handle_after.ensures c.run_pool_command-reply.ensures c.leave.ensures in
    record {
      before = _;
      after = c.run_pool_command-reply.new.pool;
      back = c.handle_after.ensures;
      plans_are = refl;
      asks = c.run_pool_command-reply.ensures;
      onward = steps_grow _ plan_seen _ _ _ _ _ asked.next;
      only = c.requires.only;
      still_only = asked.only;
      left = c.leave.ensures;
    }
