use Rattle.std.proofs.Common.{[], ◌∷◌, List, Ok, Err, ap, subst, ◌∙◌}
use Rattle.std.specs.List.{flat_map}
use Rattle.std.proofs.lemmas.List.{take_all}
use Rattle.std.proofs.lemmas.Result.{err_from_is_err_and}
use Rattle.records.specs.declared.record.Record.{Record}
use Rattle.log_replay.specs.Walked.{above_at}
use Rattle.log_replay.proofs.AddedRecords.{slice_allowed}
use Rattle.object_views.specs.OwnRecords.{AddsOwn, PlacedOp, own_of_records}
use Rattle.object_views.proofs.OwnRecords.{adds_next, adds_stop, own_piece, passed}
use Rattle.object_views.proofs.own_records.OwnObject.add_piece.Goals as goal

pub loop-logged-init : goal.loop-logged-init
loop-logged-init c = passed c.args.self.now.id.0 c.args.self.now.size c.args.changes.now

pub add_record-requires : goal.add_record-requires
add_record-requires c =
    slice_allowed c.args.group.0 c.args.piece.now c.records-records.result.now c.records-records.ensures c.requires c.loop-logged.logged-index c.logged-item.result c.loop-logged-test.true c.logged-item.is

pub returns-in_err-add_record : goal.returns-in_err-add_record
returns-in_err-add_record c =
    let o = c.args.self.now in
    let p = err_from_is_err_and c.from_residual.result c.from_residual.ensures.1 in
    let e = c.in_err-add_record.field-0.0 in
    let last = c.add_record.new.changes in
    rw (p.1, p.2)
    (subst (λ (ps : List PlacedOp). AddsOwn o.id.0 o.size ps c.args.changes.now (Err e) last) (own_piece o.id.0 c.args.group.0 c.address-address.result c.args.piece.now c.records-records.result.now c.address-address.ensures c.records-records.ensures)
    (adds_stop o.id.0 o.size (λ (r : Record). own_of_records o.id.0 (above_at c.args.group.0 c.address-address.result (r ∷ []))) c.records-records.result.now c.loop-logged.logged-index c.logged-item.result
    c.loop-logged-test.true c.logged-item.is c.args.changes.now c.loop-logged.changes c.loop-logged.invariant e last last c.in_err-add_record.ensures))

pub loop-logged-preserved : goal.loop-logged-preserved
loop-logged-preserved c =
    let o = c.args.self.now in
    adds_next o.id.0 o.size (λ (r : Record). own_of_records o.id.0 (above_at c.args.group.0 c.address-address.result (r ∷ []))) c.records-records.result.now c.loop-logged.logged-index c.logged-item.result
    c.loop-logged-test.true c.logged-item.is c.args.changes.now c.loop-logged.changes c.loop-logged.invariant c.add_record.new.changes c.in_ok-add_record.ensures

pub returns : goal.returns
returns c =
    let o = c.args.self.now in
    let all = take_all c.loop-logged.logged-index c.records-records.result.now c.loop-logged-test.false in
    subst (λ (ps : List PlacedOp). AddsOwn o.id.0 o.size ps c.args.changes.now (Ok tt) c.loop-logged.changes)
    (ap (λ (rs : List Record). flat_map (λ (r : Record). own_of_records o.id.0 (above_at c.args.group.0 c.address-address.result (r ∷ []))) rs) all
    ∙ own_piece o.id.0 c.args.group.0 c.address-address.result c.args.piece.now c.records-records.result.now c.address-address.ensures c.records-records.ensures)
    c.loop-logged.invariant
