use Rattle.std.proofs.Common.{refl}
use Rattle.script_sessions.proofs.CommandPlans.{plans_kept}
use Rattle.script_sessions.proofs.SharedRuns.{asked_on, seen_still}
use Rattle.script_sessions.proofs.shared_pool.SharedPoolMountedPoolMemDevice.run_command.Goals as goal

pub invariant_of-result : goal.invariant_of-result
invariant_of-result g c =
    let last = c.ask_behind-last in
    record {
      own = last.ensures.own;
      only = last.ensures.only;
      plans_are = plans_kept _ c.args.command c.args.moment last.result.1 _ _ _ _ _ c.in-Ok.change c.args.self.plans_are last.ensures.next c.in-Ok.ensures.change c.change_of.ensures.unchanged c.change.ensures;
    }

pub returns-in-Err-clause-kept : goal.returns-in-Err-clause-kept
returns-in-Err-clause-kept g c = λ keep past run. seen_still past c.args.self _ run refl

pub returns-clause-kept : goal.returns-clause-kept
returns-clause-kept g c = λ keep past run. asked_on past c.args.self _ run _ c.args.command c.args.moment c.ask_behind-last.result.1 c.ask_behind-last.ensures.next
