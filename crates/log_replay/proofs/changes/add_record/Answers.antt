use Rattle.std.proofs.lemmas.Bool.{le-ltb, lt-ltb}
use Rattle.std.proofs.lemmas.Result.{err_from_is_err_and}
use Rattle.contents.specs.Judging.{with_name}
use Rattle.records.specs.Records.{record_fields}
use Rattle.log_replay.proofs.AddedRecords.{one_added, one_damaged, one_passed}
use Rattle.log_replay.proofs.ChainWalks.{record_ops}
use Rattle.log_replay.proofs.changes.add_record.Goals as goal

pub returns-then-logged-group : goal.returns-then-logged-group
returns-then-logged-group g c = λ name.
    one_passed (with_name (g.O.ObjectSource.objects c.args.objects) name) c.args.group.0 c.args.address c.args.logged.now c.args.changes.now c.args.changes.now (le-ltb c.args.group.0 c.args.logged.now.group.0 c.if-logged-group.true)

pub judge_record-requires : goal.judge_record-requires
judge_record-requires g c = rw c.as_slice.ensures (record_ops (record_fields c.args.logged.now) c.requires)

pub add-requires : goal.add-requires
add-requires g c = rw c.as_slice-2.ensures (record_ops (record_fields c.args.logged.now) c.requires)

pub returns-in_err-judge_record : goal.returns-in_err-judge_record
returns-in_err-judge_record g c = λ name.
    let p = err_from_is_err_and c.from_residual.result c.from_residual.ensures.1 in
    rw (p.1, p.2)
    (one_damaged (with_name (g.O.ObjectSource.objects c.args.objects) name) c.args.group.0 c.args.address c.args.logged.now c.args.changes.now c.args.changes.now (lt-ltb c.args.group.0 c.args.logged.now.group.0 c.if-logged-group.false)
    c.in_err-judge_record.field-0.0 c.args.changes.now c.in_err-judge_record.ensures.damaged (rw (c.new.ensures, c.as_slice.ensures) at c.in_err-judge_record.ensures.refused))

pub returns : goal.returns
returns g c = λ name.
    one_added (with_name (g.O.ObjectSource.objects c.args.objects) name) c.args.group.0 c.args.address c.args.logged.now c.args.changes.now c.add.new.self (lt-ltb c.args.group.0 c.args.logged.now.group.0 c.if-logged-group.false)
    (record_ops (record_fields c.args.logged.now) c.requires) (rw (c.new.ensures, c.as_slice.ensures) at c.in_ok-judge_record.ensures.applies) (rw c.as_slice-2.ensures at c.in_ok-add.ensures.added)
