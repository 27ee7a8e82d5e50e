use Rattle.std.proofs.Common.{[], ◌∷◌}
use Rattle.std.proofs.lemmas.List.{take_all}
use Rattle.std.proofs.lemmas.Result.{err_from_is_err_and}
use Rattle.base.specs.tree.Mount.{records_above}
use Rattle.base.specs.formats.Chain.{LogPiece}
use Rattle.contents.specs.Judging.{with_name}
use Rattle.log_replay.proofs.AddedRecords.{adds_next, adds_none, adds_stop, begun, each_piece}
use Rattle.log_replay.proofs.changes.changes_of.Goals as goal

pub loop-piece-init : goal.loop-piece-init
loop-piece-init g c = λ name.
    let synced = with_name (g.O.ObjectSource.objects c.args.objects) name in
    adds_none synced synced c.new-changes.result (begun synced c.new-changes.result c.requires.numbered c.new-changes.ensures.patches c.new-changes.ensures.name)

pub loop-piece-preserved : goal.loop-piece-preserved
loop-piece-preserved g c = λ name.
    let synced = with_name (g.O.ObjectSource.objects c.args.objects) name in
    adds_next synced synced (λ (b : LogPiece). records_above c.args.group.0 (b ∷ [])) c.args.pieces.now c.loop-piece.piece-index c.piece-item.result c.loop-piece-test.true c.piece-item.is
    c.loop-piece.count c.in_ok-add_piece.field-0 c.saturating_add-count.result c.loop-piece.changes c.add_piece.new.changes (c.loop-piece.invariant name) (c.in_ok-add_piece.ensures name) c.saturating_add-count.ensures

pub returns-in_err-add_piece-clause-refused : goal.returns-in_err-add_piece-clause-refused
returns-in_err-add_piece-clause-refused g c = λ name.
    let p = err_from_is_err_and c.from_residual.result c.from_residual.ensures.1 in
    let synced = with_name (g.O.ObjectSource.objects c.args.objects) name in
    let whole = each_piece c.args.group.0 c.args.pieces.now in
    rw (p.1, p.2, ← whole)
    (adds_stop synced synced (λ (b : LogPiece). records_above c.args.group.0 (b ∷ [])) c.args.pieces.now c.loop-piece.piece-index c.piece-item.result c.loop-piece-test.true c.piece-item.is
    c.loop-piece.count c.in_err-add_piece.field-0.0 c.loop-piece.changes c.add_piece.new.changes (c.loop-piece.invariant name) (c.in_err-add_piece.ensures name))

pub returns-clause-changes : goal.returns-clause-changes
returns-clause-changes g c = λ name.
    let whole = each_piece c.args.group.0 c.args.pieces.now in
    rw (← whole, ← take_all c.loop-piece.piece-index c.args.pieces.now c.loop-piece-test.false) (c.loop-piece.invariant name)
