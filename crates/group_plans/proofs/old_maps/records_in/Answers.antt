use Rattle.std.proofs.Common.{◌≡◌, arith, length}
use Rattle.base.specs.tree.Places.{record_start}
use Rattle.group_plans.proofs.OldMaps.{none_first, one_more}
use Rattle.group_plans.proofs.old_maps.records_in.Goals as goal

pub loop-index-init : goal.loop-index-init
loop-index-init c = (c.in_ok-pointers.ensures.len, c.in_ok-pointers.ensures.capacity, none_first c.args.payload.now c.args.frame.now.blocks c.args.size (record_start c.args.number) c.in_ok-pointers.pointers.items)

pub push_reserved-requires : goal.push_reserved-requires
push_reserved-requires c = let i = c.loop-index.invariant in omega (arith, i.0, i.1, c.loop-index-test.true)

pub loop-index-preserved : goal.loop-index-preserved
loop-index-preserved c =
    let i = c.loop-index.invariant in
    let long : length c.loop-index.pointers.items ≡ c.loop-index.index = omega (arith, c.loop-index.pointers.ok.0, i.0) in (
      omega (arith, i.0, c.push_reserved.ensures.len),
      omega (arith, i.1, c.push_reserved.ensures.capacity),
      rw c.push_reserved.ensures.items (one_more c.args.payload.now c.args.frame.now.blocks c.args.size (record_start c.args.number) c.loop-index.pointers.items c.loop-index.index c.in_ok-pointer.pointer
          long c.in_ok-pointer.ensures.pointer c.in_ok-pointer.ensures.placed c.in_ok-pointer.ensures.inside i.2),
    )

pub returns-clause-count : goal.returns-clause-count
returns-clause-count c = omega (arith, c.loop-index.invariant.0, c.loop-index.auto.index-end, c.loop-index-test.false)

pub returns-clause-pointers : goal.returns-clause-pointers
returns-clause-pointers c = λ r low. c.loop-index.invariant.2.are r (omega (arith, low, c.loop-index-test.false))

pub returns-clause-records : goal.returns-clause-records
returns-clause-records c = record {
  placed = λ k low. c.loop-index.invariant.2.placed k (omega (arith, low, c.loop-index-test.false));
  inside = λ k low. c.loop-index.invariant.2.inside k (omega (arith, low, c.loop-index-test.false));
}
