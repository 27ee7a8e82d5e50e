use Rattle.std.proofs.Common.{List, ap, refl, ◌∙◌}
use Rattle.std.specs.List.{flat_map}
use Rattle.std.proofs.lemmas.List.{take_all}
use Rattle.base.specs.declared.operation.Op.{Op}
use Rattle.records.specs.declared.record.Record.{Record}
use Rattle.object_views.specs.PoolNames.{name_after, ops_above}
use Rattle.object_views.proofs.PoolNames.{named_next, piece_ops}
use Rattle.object_views.proofs.names.rename_by_piece.Goals as goal

pub loop-logged-init : goal.loop-logged-init
loop-logged-init c = refl

pub loop-logged-preserved : goal.loop-logged-preserved
loop-logged-preserved c =
    named_next (ops_above c.args.group.0) c.records-records.result.now c.loop-logged.logged-index c.logged-item.result c.loop-logged-test.true c.logged-item.is c.args.name.now c.loop-logged.name
    c.rename_by_record.new.name c.loop-logged.invariant c.rename_by_record.ensures

pub returns : goal.returns
returns c =
    let all = take_all c.loop-logged.logged-index c.records-records.result.now c.loop-logged-test.false in
    c.loop-logged.invariant
    ∙ ap (λ (ops : List Op). name_after ops c.args.name.now)
    (ap (λ (rs : List Record). flat_map (ops_above c.args.group.0) rs) all ∙ piece_ops c.args.group.0 c.args.piece.now c.records-records.result.now c.records-records.ensures)
