use Rattle.std.proofs.Common.{◌≡◌, ◌∷◌, length, sym, ◌∙◌}
use Rattle.std.specs.Vec.Iter.{into_iter_items}
use Rattle.std.proofs.lemmas.List.{nil_from_length}
use Rattle.std.proofs.lemmas.Result.{err_from_is_err_and}
use Rattle.base.specs.tree.Mount.{records_above}
use Rattle.contents.specs.ContentsShown.{contents_of}
use Rattle.log_replay.proofs.ChainWalks.{at_first_piece, piece_applied, piece_refused, chain_walked}
use Rattle.log_replay.proofs.RefusedRecords.{none_reached}
use Rattle.log_replay.proofs.replaying.replay.Goals as goal

pub loop-piece-init : goal.loop-piece-init
loop-piece-init c =
    let all : into_iter_items c.into_iter-piece-iterator.result ≡ c.args.pieces.items = c.into_iter-piece-iterator.ensures.into_iter_gives.0 in
    (tt, tt, rw all (at_first_piece c.args.group.0 (contents_of c.args.synced.now) c.args.pieces.items c.new-replayed.result (c.new-replayed.ensures c.args.group.0 c.args.synced.now) c.requires.allowed))

pub loop-piece-preserved : goal.loop-piece-preserved
loop-piece-preserved c =
    let step : into_iter_items c.loop-piece.piece-iterator ≡ c.in-Some.piece ∷ into_iter_items c.next.new.self = c.in-Some.ensures.steps.0 in (
      tt,
      tt,
      piece_applied c.args.group.0 (contents_of c.args.synced.now) c.args.pieces.items c.in-Some.piece (into_iter_items c.next.new.self) c.loop-piece.replayed
          (rw step at c.loop-piece.invariant.2) c.apply_piece.new.self c.in_ok-apply_piece.ensures.applied,
    )

pub returns-in_err-apply_piece-clause-refused : goal.returns-in_err-apply_piece-clause-refused
returns-in_err-apply_piece-clause-refused c =
    let step : into_iter_items c.loop-piece.piece-iterator ≡ c.in-Some.piece ∷ into_iter_items c.next.new.self = c.in-Some.ensures.steps.0 in
    let p = err_from_is_err_and c.from_residual.result c.from_residual.ensures.1 in
    rw (p.1, p.2) (piece_refused c.args.group.0 (contents_of c.args.synced.now) c.args.pieces.items c.in-Some.piece (into_iter_items c.next.new.self) c.loop-piece.replayed
    (rw step at c.loop-piece.invariant.2) c.in_err-apply_piece.field-0.0 c.in_err-apply_piece.ensures.refused)

pub returns-clause-replayed : goal.returns-clause-replayed
returns-clause-replayed c =
    let whole = c.loop-piece.piece-iterator.rest.ok.0 in
    let none : length (into_iter_items c.loop-piece.piece-iterator) ≡ 0 = sym whole ∙ c.in-None.ensures.steps.0 in
    chain_walked c.args.group.0 (contents_of c.args.synced.now) c.args.pieces.items c.loop-piece.replayed
    (rw (nil_from_length (into_iter_items c.loop-piece.piece-iterator) none) at c.loop-piece.invariant.2)

pub returns-clause-found : goal.returns-clause-found
returns-clause-found c = λ address refused.
    absurd (none_reached (records_above c.args.group.0 c.args.pieces.items) (contents_of c.args.synced.now) _ address refused (returns-clause-replayed c).applied)
