use Rattle.std.proofs.Common.{[], ◌∷◌, List, ap, refl, ◌∙◌}
use Rattle.std.specs.List.{flat_map}
use Rattle.std.proofs.lemmas.List.{take_all}
use Rattle.base.specs.declared.operation.Op.{Op}
use Rattle.base.specs.formats.Chain.{LogPiece}
use Rattle.base.specs.tree.Mount.{records_above}
use Rattle.object_views.specs.PoolNames.{name_after, ops_in}
use Rattle.object_views.proofs.PoolNames.{each_piece, named_next}
use Rattle.object_views.proofs.names.rename_by_chain.Goals as goal

pub loop-piece-init : goal.loop-piece-init
loop-piece-init c = refl

pub loop-piece-preserved : goal.loop-piece-preserved
loop-piece-preserved c =
    named_next (λ (b : LogPiece). ops_in (records_above c.args.group.0 (b ∷ []))) c.args.pieces.now c.loop-piece.piece-index c.piece-item.result c.loop-piece-test.true c.piece-item.is c.args.name.now
    c.loop-piece.name c.rename_by_piece.new.name c.loop-piece.invariant c.rename_by_piece.ensures

pub returns : goal.returns
returns c =
    let all = take_all c.loop-piece.piece-index c.args.pieces.now c.loop-piece-test.false in
    c.loop-piece.invariant
    ∙ ap (λ (ops : List Op). name_after ops c.args.name.now)
    (ap (λ (bs : List LogPiece). flat_map (λ (b : LogPiece). ops_in (records_above c.args.group.0 (b ∷ []))) bs) all ∙ each_piece c.args.group.0 c.args.pieces.now)
