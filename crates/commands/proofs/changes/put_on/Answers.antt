use Rattle.std.proofs.Common.{subst}
use Rattle.base.specs.declared.names.ObjectId.{ObjectId}
use Rattle.commands.specs.Committed.{PutsOrFails}
use Rattle.commands.specs.LeftContents.{HasPut, KeepsOthers, LeavesDevice}
use Rattle.commands.proofs.Endings.{ends_badly, ends_well, fails_with, is_err_of, three_is, zero_is}
use Rattle.commands.proofs.changes.put_on.Goals as goal

pub returns-clause-target : goal.returns-clause-target
returns-clause-target g c = λ outside. fails_with c.put_bytes-end.result.1 c.report_put-status.result c.put_bytes-end.ensures.status c.report_put-status.ensures.failed (c.put_bytes-end.ensures.target outside)

pub returns-clause-put : goal.returns-clause-put
returns-clause-put g c = λ zero.
    let put = c.put_bytes-end in
    let given = c.args.arguments in
    let well = ends_well put.result.1 c.report_put-status.result put.ensures.status c.report_put-status.ensures.failed (zero_is zero) in
    record {
      put = put.result.0;
      puts = subst (λ r. PutsOrFails g.D.SectorDevice c.args.device given.moment (record { 0 = given.object }) given.offset c.args.bytes.now put.result.0 r) well put.ensures.put;
      prints = c.report_put-status.ensures.printed zero;
    }

pub returns-clause-refused : goal.returns-clause-refused
returns-clause-refused g c = λ one.
    let put = c.put_bytes-end in
    let given = c.args.arguments in
    let (why, is) = ends_badly put.result.1 c.report_put-status.result c.report_put-status.ensures.done one in
    (put.result.0, why, subst (λ r. PutsOrFails g.D.SectorDevice c.args.device given.moment (record { 0 = given.object }) given.offset c.args.bytes.now put.result.0 r) is put.ensures.put)

pub returns-clause-unwritten : goal.returns-clause-unwritten
returns-clause-unwritten g c = λ three.
    let put = c.put_bytes-end in
    let given = c.args.arguments in
    let well = ends_well put.result.1 c.report_put-status.result put.ensures.status c.report_put-status.ensures.failed (three_is three) in
    (put.result.0, subst (λ r. PutsOrFails g.D.SectorDevice c.args.device given.moment (record { 0 = given.object }) given.offset c.args.bytes.now put.result.0 r) well put.ensures.put)

pub returns-clause-durable : goal.returns-clause-durable
returns-clause-durable g c = λ other.
    let put = c.put_bytes-end in
    let given = c.args.arguments in
    let n : ObjectId = record { 0 = given.object } in
    let well = ends_well put.result.1 c.report_put-status.result put.ensures.status c.report_put-status.ensures.failed other in
    subst (λ r. LeavesDevice g.D.SectorDevice (HasPut n given.offset c.args.bytes.now) (KeepsOthers n) c.args.device r put.result.2) well put.ensures.left

pub returns-clause-still_held : goal.returns-clause-still_held
returns-clause-still_held g c = λ one.
    let put = c.put_bytes-end in
    let given = c.args.arguments in
    let n : ObjectId = record { 0 = given.object } in
    let (why, is) = ends_badly put.result.1 c.report_put-status.result c.report_put-status.ensures.done one in
    subst (λ r. LeavesDevice g.D.SectorDevice (HasPut n given.offset c.args.bytes.now) (KeepsOthers n) c.args.device r put.result.2) is put.ensures.left

pub returns-clause-unprinted : goal.returns-clause-unprinted
returns-clause-unprinted g c = λ one.
    let (why, is) = ends_badly c.put_bytes-end.result.1 c.report_put-status.result c.report_put-status.ensures.done one in
    c.report_put-status.ensures.unprinted (is_err_of c.put_bytes-end.result.1 why is)
