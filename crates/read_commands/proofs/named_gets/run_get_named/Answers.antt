use Rattle.std.proofs.Common.{subst}
use Rattle.std.specs.Prelude.{IfOk}
use Rattle.base.specs.disk.Disk.{bytes_of}
use Rattle.read_commands.specs.NamedObjects.{IsCheckedName, IsMountedName, named_range}
use Rattle.read_commands.proofs.NamedUndone.{find_undone, got_undone, unopened_undone}
use Rattle.read_commands.proofs.OpenedReads.{named_written}
use Rattle.read_commands.proofs.named_gets.run_get_named.Goals as goal

pub returns-in-Ok-found-clause-written : goal.returns-in-Ok-found-clause-written
returns-in-Ok-found-clause-written g c = λ zero.
    let D = g.D.SectorDevice in
    let name = c.args.arguments.name.now in
    let look = c.find_object-found in
    named_written D c.args.opened c.in-Ok.device look.result.1 c.in-Ok.is look.ensures.only_read c.args.scope name c.in-Ok-found.object.0 (named_range c.args.arguments)
    (g.W.Write.contents c.args.out.now) (g.W.Write.contents c.run_get.new.out)
    (λ assured. subst (λ r. IfOk r (λ n. IsMountedName (bytes_of (D.disk c.in-Ok.device).now) name n.0)) c.in-Ok-found.is (look.ensures.found assured))
    (λ path keeps. subst (λ r. IfOk r (λ n. IsCheckedName (bytes_of (D.disk c.in-Ok.device).now) name n.0)) c.in-Ok-found.is (look.ensures.checked path keeps))
    (c.run_get.ensures.written zero)

pub returns-in-Err-clause-undone : goal.returns-in-Err-clause-undone
returns-in-Err-clause-undone g c = λ some.
    unopened_undone g.D.SectorDevice c.args.scope c.args.arguments.name.now (named_range c.args.arguments) c.args.opened _ c.in-Err.cause c.report_failure.result c.in-Err.is c.report_failure.ensures.status

pub returns-in-Ok-found-clause-undone : goal.returns-in-Ok-found-clause-undone
returns-in-Ok-found-clause-undone g c = λ some.
    let D = g.D.SectorDevice in
    let name = c.args.arguments.name.now in
    let look = c.find_object-found in
    got_undone D c.in-Ok.device look.result.1 look.ensures.only_read.disk c.args.scope name c.in-Ok-found.object.0 (named_range c.args.arguments) c.args.opened c.run_get.result.1 c.run_get.result.0 c.in-Ok.is
    (record {
      mounted = λ assured. subst (λ r. IfOk r (λ n. IsMountedName (bytes_of (D.disk c.in-Ok.device).now) name n.0)) c.in-Ok-found.is (look.ensures.found assured);
      checked = λ path keeps. subst (λ r. IfOk r (λ n. IsCheckedName (bytes_of (D.disk c.in-Ok.device).now) name n.0)) c.in-Ok-found.is (look.ensures.checked path keeps);
    }) (c.run_get.ensures.undone some)

pub returns-in-Err-found-clause-undone : goal.returns-in-Err-found-clause-undone
returns-in-Err-found-clause-undone g c = λ some.
    let look = c.find_object-found in
    find_undone g.D.SectorDevice c.args.scope c.in-Ok.device look.result.1 c.args.arguments.name.now (named_range c.args.arguments) c.args.opened look.result.0 c.in-Err-found.failure c.report_name_failure-status.result
    c.in-Ok.is c.in-Err-found.is look.ensures.failed c.report_name_failure-status.ensures.status
