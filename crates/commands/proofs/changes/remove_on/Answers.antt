use Rattle.std.proofs.Common.{subst}
use Rattle.base.specs.declared.names.ObjectId.{ObjectId}
use Rattle.commands.specs.Committed.{RemovesOrFails}
use Rattle.commands.specs.LeftContents.{HasRemoved, KeepsOthers, LeavesDevice}
use Rattle.commands.proofs.Endings.{ends_badly, ends_well, is_err_of}
use Rattle.commands.proofs.changes.remove_on.Goals as goal

pub returns-clause-removed : goal.returns-clause-removed
returns-clause-removed g c = λ other.
    let end = c.remove_object-end in
    let given = c.args.arguments in
    let well = ends_well end.result.0 c.report_removed-status.result end.ensures.status c.report_removed-status.ensures.failed other in
    subst (λ r. RemovesOrFails g.D.SectorDevice c.args.device given.moment (record { 0 = given.object }) r) well end.ensures.removed

pub returns-clause-refused : goal.returns-clause-refused
returns-clause-refused g c = λ one.
    let end = c.remove_object-end in
    let given = c.args.arguments in
    let (why, is) = ends_badly end.result.0 c.report_removed-status.result c.report_removed-status.ensures.done one in
    (why, subst (λ r. RemovesOrFails g.D.SectorDevice c.args.device given.moment (record { 0 = given.object }) r) is end.ensures.removed)

pub returns-clause-durable : goal.returns-clause-durable
returns-clause-durable g c = λ other.
    let end = c.remove_object-end in
    let n : ObjectId = record { 0 = c.args.arguments.object } in
    let well = ends_well end.result.0 c.report_removed-status.result end.ensures.status c.report_removed-status.ensures.failed other in
    subst (λ r. LeavesDevice g.D.SectorDevice (HasRemoved n) (KeepsOthers n) c.args.device r end.result.1) well end.ensures.left

pub returns-clause-still_held : goal.returns-clause-still_held
returns-clause-still_held g c = λ one.
    let end = c.remove_object-end in
    let n : ObjectId = record { 0 = c.args.arguments.object } in
    let (why, is) = ends_badly end.result.0 c.report_removed-status.result c.report_removed-status.ensures.done one in
    subst (λ r. LeavesDevice g.D.SectorDevice (HasRemoved n) (KeepsOthers n) c.args.device r end.result.1) is end.ensures.left

pub returns-clause-unprinted : goal.returns-clause-unprinted
returns-clause-unprinted g c = λ one.
    let end = c.remove_object-end in
    let (why, is) = ends_badly end.result.0 c.report_removed-status.result c.report_removed-status.ensures.done one in
    c.report_removed-status.ensures.unprinted (is_err_of end.result.0 why is)
