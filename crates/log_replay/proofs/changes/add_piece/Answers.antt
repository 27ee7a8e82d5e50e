use Rattle.std.proofs.Common.{[], ◌∷◌, refl}
use Rattle.std.proofs.lemmas.Result.{err_from_is_err_and}
use Rattle.contents.specs.Judging.{with_name}
use Rattle.records.specs.declared.record.Record.{Record}
use Rattle.log_replay.specs.AddedRecords.{with_changes}
use Rattle.log_replay.specs.Walked.{above_at}
use Rattle.log_replay.proofs.AddedRecords.{adds_next, adds_none, piece_added, piece_stops, slice_allowed}
use Rattle.log_replay.proofs.changes.add_piece.Goals as goal

pub loop-logged-init : goal.loop-logged-init
loop-logged-init g c = λ name. adds_none (with_changes c.args.changes.now (with_name (g.O.ObjectSource.objects c.args.objects) name)) (with_name (g.O.ObjectSource.objects c.args.objects) name) c.args.changes.now refl

pub add_record-requires : goal.add_record-requires
add_record-requires g c =
    slice_allowed c.args.group.0 c.args.piece.now c.records-records.result.now c.records-records.ensures c.requires c.loop-logged.logged-index c.logged-item.result c.loop-logged-test.true c.logged-item.is

pub returns-in_err-add_record : goal.returns-in_err-add_record
returns-in_err-add_record g c = λ name.
    let p = err_from_is_err_and c.from_residual.result c.from_residual.ensures.1 in
    rw (p.1, p.2)
    (piece_stops c.args.group.0 c.args.piece.now c.records-records.result.now c.records-records.ensures (with_name (g.O.ObjectSource.objects c.args.objects) name) c.loop-logged.logged-index c.logged-item.result c.loop-logged-test.true
    c.logged-item.is c.loop-logged.count c.in_err-add_record.field-0.0 c.args.changes.now c.loop-logged.changes c.add_record.new.changes
    (rw c.address-address.ensures at (c.loop-logged.invariant name)) (rw c.address-address.ensures at (c.in_err-add_record.ensures name)))

pub loop-logged-preserved : goal.loop-logged-preserved
loop-logged-preserved g c = λ name.
    adds_next (with_changes c.args.changes.now (with_name (g.O.ObjectSource.objects c.args.objects) name)) (with_name (g.O.ObjectSource.objects c.args.objects) name) (λ (r : Record). above_at c.args.group.0 c.address-address.result (r ∷ [])) c.records-records.result.now c.loop-logged.logged-index c.logged-item.result
    c.loop-logged-test.true c.logged-item.is c.loop-logged.count c.in_ok-add_record.field-0 c.saturating_add-count.result c.loop-logged.changes c.add_record.new.changes (c.loop-logged.invariant name)
    (c.in_ok-add_record.ensures name) c.saturating_add-count.ensures

pub returns : goal.returns
returns g c = λ name.
    piece_added c.args.group.0 c.args.piece.now c.records-records.result.now c.records-records.ensures (with_name (g.O.ObjectSource.objects c.args.objects) name) c.loop-logged.logged-index c.loop-logged.count c.args.changes.now
    c.loop-logged.changes c.loop-logged-test.false (rw c.address-address.ensures at (c.loop-logged.invariant name))
