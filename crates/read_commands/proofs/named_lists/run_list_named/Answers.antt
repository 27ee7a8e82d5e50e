use Rattle.std.proofs.Common.{ap, inl, inr, subst, ◌∙◌}
use Rattle.std.specs.Prelude.{IfErr, IfOk, IsTrue}
use Rattle.base.specs.disk.Disk.{bytes_of}
use Rattle.read_commands.specs.NamedLines.{IsListedIn, WritesNames}
use Rattle.read_commands.specs.Failures.{failure_status}
use Rattle.read_commands.specs.NamedUndone.{HasNames, IsNamesRefused}
use Rattle.read_commands.proofs.NamedUndone.{unopened}
use Rattle.read_commands.proofs.OnlyRead.{of_opened}
use Rattle.read_commands.proofs.Undone.{look_refused}
use Rattle.read_commands.proofs.named_lists.run_list_named.Goals as goal

pub returns-in-Ok-write_names-clause-listed : goal.returns-in-Ok-write_names-clause-listed
returns-in-Ok-write_names-clause-listed g c = λ zero.
    let D = g.D.SectorDevice in
    let scope = c.args.scope in
    let before = g.W.Write.contents c.args.out.now in
    let after = g.W.Write.contents c.write_names.new.out in
    of_opened c.args.opened c.in-Ok.device c.in-Ok.is (λ device. WritesNames scope (IsTrue D.keeps_model) (bytes_of (D.disk device).now) before after) (record {
      list = c.in-Ok-listed.list;
      listed = subst (λ r. IfOk r (IsListedIn scope (IsTrue D.keeps_model) (bytes_of (D.disk c.in-Ok.device).now))) c.in-Ok-listed.is c.list_names-listed.ensures.listed;
      writes = c.in-Ok-write_names.ensures.written;
    })

pub returns-in-Err-clause-undone : goal.returns-in-Err-clause-undone
returns-in-Err-clause-undone g c = λ some.
    unopened (IsNamesRefused g.D.SectorDevice c.args.scope) (HasNames g.D.SectorDevice c.args.scope) c.args.opened _ c.in-Err.cause c.report_failure.result c.in-Err.is c.report_failure.ensures.status

pub returns-in-Err-listed-clause-undone : goal.returns-in-Err-listed-clause-undone
returns-in-Err-listed-clause-undone g c = λ some.
    let D = g.D.SectorDevice in
    let look = c.list_names-listed in
    inl (
      c.of_pool-failure.result,
      look_refused (IsNamesRefused D c.args.scope) c.args.opened c.in-Ok.device look.result.1 c.in-Err-listed.refusal c.of_pool-failure.result c.in-Ok.is
          (subst (λ r. IfErr r (IsNamesRefused D c.args.scope c.in-Ok.device look.result.1)) c.in-Err-listed.is look.ensures.cause) c.of_pool-failure.ensures.cause,
      c.report_failure-status.ensures.status,
    )

pub returns-clause-undone : goal.returns-clause-undone
returns-clause-undone g c = λ some.
    let D = g.D.SectorDevice in
    let scope = c.args.scope in
    inr (
      c.report_failure-status-in-Err-write_names.ensures.status ∙ ap failure_status c.in-Err-write_names.ensures.failed,
      of_opened c.args.opened c.in-Ok.device c.in-Ok.is (HasNames D scope)
          (c.in-Ok-listed.list, subst (λ r. IfOk r (IsListedIn scope (IsTrue D.keeps_model) (bytes_of (D.disk c.in-Ok.device).now))) c.in-Ok-listed.is c.list_names-listed.ensures.listed),
    )
