use Rattle.std.proofs.Common.{rules, ◌≡◌, true, false, refl, sym, ap, ◌∙◌, inr, arith}
use Rattle.std.specs.Prelude.{is_some}
use Rattle.object_views.specs.OwnRecords.{is_on, object_after_all}
use Rattle.object_views.proofs.OwnRecords.{one_added, one_refused, there_after}
use Rattle.object_views.proofs.own_records.OwnObject.add_op.Goals as goal

pub returns-then-not-can_take_place : goal.returns-then-not-can_take_place
returns-then-not-can_take_place c = λ earlier are.
    let o = c.args.self.now in
    let on : is_on o.id.0 c.args.op.now ≡ true = search (rules, arith) in
    let not : c.can_take_place.result ≡ false = search (rules, arith) in
    let there = there_after o.id.0 o.size earlier c.args.changes.now are c.is_some-is_there.result (c.is_some-is_there.ensures ∙ ap is_some c.length_over.ensures) in
    rw on (inr (
      c.args.address,
      refl,
      one_refused o.id.0 o.size earlier c.args.changes.now are c.args.address c.args.op.now
          (λ object long. sym (c.can_take_place.ensures (object_after_all o.id.0 earlier object) (there object long)) ∙ not),
    ))

pub returns : goal.returns
returns c = λ earlier are.
    let o = c.args.self.now in
    let on : is_on o.id.0 c.args.op.now ≡ true = search (rules, arith) in
    let can : c.can_take_place.result ≡ true = search (rules, arith) in
    let there = there_after o.id.0 o.size earlier c.args.changes.now are c.is_some-is_there.result (c.is_some-is_there.ensures ∙ ap is_some c.length_over.ensures) in
    rw on (one_added o.id.0 o.size earlier c.args.changes.now are c.args.address c.args.op.now c.add.new.self
    (λ object long. sym (c.can_take_place.ensures (object_after_all o.id.0 earlier object) (there object long)) ∙ can) (rw c.from_ref.ensures.value at c.in_ok-add.ensures.added))
