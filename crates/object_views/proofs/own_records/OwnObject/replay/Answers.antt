use Rattle.std.proofs.Common.{[], ◌∷◌, List, ap, subst, ◌∙◌}
use Rattle.std.specs.List.{flat_map}
use Rattle.std.proofs.lemmas.List.{take_all}
use Rattle.std.proofs.lemmas.Result.{err_from_is_err_and}
use Rattle.base.specs.formats.Chain.{LogPiece}
use Rattle.base.specs.tree.Mount.{records_above}
use Rattle.object_views.specs.OwnRecords.{AreOwnChanges, IsOwnRefusal, PlacedOp, ops_of, own_of_records}
use Rattle.object_views.proofs.OwnRecords.{adds_next, adds_stop, no_own, own_each_piece, passed}
use Rattle.object_views.proofs.own_records.OwnObject.replay.Goals as goal

pub loop-piece-init : goal.loop-piece-init
loop-piece-init c = passed c.args.self.now.id.0 c.args.self.now.size c.new-changes.result

pub returns-in_err-add_piece-clause-refused : goal.returns-in_err-add_piece-clause-refused
returns-in_err-add_piece-clause-refused c =
    let o = c.args.self.now in
    let p = err_from_is_err_and c.from_residual.result c.from_residual.ensures.1 in
    let e = c.in_err-add_piece.field-0.0 in
    rw (p.1, p.2)
    (subst (λ (ps : List PlacedOp). IsOwnRefusal o.id.0 o.size [] ps e) (own_each_piece o.id.0 c.args.group.0 c.args.pieces.now)
    (adds_stop o.id.0 o.size (λ (b : LogPiece). own_of_records o.id.0 (records_above c.args.group.0 (b ∷ []))) c.args.pieces.now c.loop-piece.piece-index c.piece-item.result c.loop-piece-test.true c.piece-item.is
    c.new-changes.result c.loop-piece.changes c.loop-piece.invariant e c.add_piece.new.changes c.add_piece.new.changes c.in_err-add_piece.ensures [] (no_own o.id.0 o.size c.new-changes.result c.new-changes.ensures.patches)))

pub loop-piece-preserved : goal.loop-piece-preserved
loop-piece-preserved c =
    let o = c.args.self.now in
    adds_next o.id.0 o.size (λ (b : LogPiece). own_of_records o.id.0 (records_above c.args.group.0 (b ∷ []))) c.args.pieces.now c.loop-piece.piece-index c.piece-item.result c.loop-piece-test.true c.piece-item.is
    c.new-changes.result c.loop-piece.changes c.loop-piece.invariant c.add_piece.new.changes c.in_ok-add_piece.ensures

pub returns-clause-changes : goal.returns-clause-changes
returns-clause-changes c =
    let o = c.args.self.now in
    let all = take_all c.loop-piece.piece-index c.args.pieces.now c.loop-piece-test.false in
    subst (λ (ps : List PlacedOp). AreOwnChanges o.id.0 o.size (ops_of ps) c.loop-piece.changes)
    (ap (λ (bs : List LogPiece). flat_map (λ (b : LogPiece). own_of_records o.id.0 (records_above c.args.group.0 (b ∷ []))) bs) all ∙ own_each_piece o.id.0 c.args.group.0 c.args.pieces.now)
    (c.loop-piece.invariant [] (no_own o.id.0 o.size c.new-changes.result c.new-changes.ensures.patches))
