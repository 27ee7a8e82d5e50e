use Rattle.std.proofs.Common.{◌≡◌, ◌<◌, ◌/◌, ◌%◌, ℕ, inl, inr, ap, arith, refl, subst, sym, true, true≢false, ◌∙◌}
use Rattle.std.specs.Prelude.{is_some}
use Rattle.std.proofs.lemmas.Bool.{cases_lt}
use Rattle.std.proofs.lemmas.Result.{err_from_is_err_and}
use Rattle.base.specs.declared.record_state.RecordState.TheVariants.{Dirty}
use Rattle.base.specs.disk.Disk.{bytes_of}
use Rattle.base.specs.tree.Places.{record_of_strip}
use Rattle.base.specs.tree.Syncs.{is_dirty}
use Rattle.base.proofs.tree.Strips.{record-back, record-count}
use Rattle.tree_blocks.specs.TreeObjects.{objects_of}
use Rattle.tree_plans.specs.Changes.{state_at}
use Rattle.tree_plans.proofs.Order.{passes_at}
use Rattle.group_plans.specs.GroupPlans.{objects_with}
use Rattle.group_plans.specs.Prepared.{AreExact, HoldsMap, at_hand}
use Rattle.group_plans.proofs.RecordReads.{moved}
use Rattle.group_plans.proofs.preparing.prepare_object.Goals as goal

pub loop-strip-preserved : goal.loop-strip-preserved
loop-strip-preserved g c =
    let inv = c.loop-strip.invariant in
    let ens = c.in_ok-prepare_written.ensures in
    let strip : ℕ = c.loop-strip.strip in
    let one = at_hand c.loop-strip.prepared.records in
    let two = at_hand c.prepare_written.new.prepared.records in
    record {
      size = ens.reads.size ∙ inv.size;
      disk = λ keeps. ens.reads.disk keeps ∙ inv.disk keeps;
      count = ens.reads.count ∙ inv.count;
      extents = ens.extents ∙ inv.extents;
      below = ens.below ∙ inv.below;
      kept = λ m s there. ens.kept m s (inv.kept m s there);
      ready = λ j k below low dirty. elim (cases_lt j strip) [
        | inl before ↦ ens.kept c.args.id.0 (record_of_strip j k) (inv.ready j k before low dirty)
        | inr last ↦
            let same : j ≡ strip = omega (arith, below, last) in
            rw same (ens.ready k low (rw same at dirty))
      ];
      exact = λ keeps holds old. moved
          (λ i x a. HoldsMap i c.args.frame.now (objects_of a) c.args.id.0 c.args.changes.now c.args.map.now → AreExact one (objects_with x a) → AreExact two (objects_with x a))
          _ _ _ _ _ _ (ap (λ d. bytes_of d.now) (inv.disk keeps)) inv.extents inv.below (ens.exact keeps) holds (inv.exact keeps holds old);
    }

pub returns-in_err-prepare_written-clause-sound : goal.returns-in_err-prepare_written-clause-sound
returns-in_err-prepare_written-clause-sound g c = λ keeps holds.
    let inv = c.loop-strip.invariant in
    let p = err_from_is_err_and c.from_residual.result c.from_residual.ensures.1 in
    rw (p.1, p.2) (c.in_err-prepare_written.ensures.sound keeps
    (moved (λ i x a. HoldsMap i c.args.frame.now (objects_of a) c.args.id.0 c.args.changes.now c.args.map.now) _ _ c.args.prepared.now.extents.now c.args.prepared.now.extents.now _ _
    (ap (λ d. bytes_of d.now) (sym (inv.disk keeps))) refl (sym inv.below) holds))

-- each record of the object lies in one of its strips, and none that is written past the last one
pub returns-clause-ready : goal.returns-clause-ready
returns-clause-ready g c = λ r below dirty.
    let hand = at_hand c.loop-strip.prepared.records c.args.id.0 in
    let changes = c.args.changes.now in
    let inside : r / 84 < 84 = omega (arith, below, record-count) in
    elim (cases_lt (r / 84) c.loop-strip.strip) [
      | inl low ↦ subst (λ (i : ℕ). state_at changes i ≡ Dirty → is_some (hand i) ≡ true) (record-back r) (c.loop-strip.invariant.ready (r / 84) (r % 84) low (omega arith)) dirty
      | inr high ↦
          let written = passes_at (λ k. is_dirty (state_at changes (record_of_strip (r / 84) k))) 0 84 (r % 84) (omega arith) (omega arith) (ap (λ (i : ℕ). is_dirty (state_at changes i)) (record-back r) ∙ ap is_dirty dirty) in
          absurd (true≢false (sym written ∙ c.written_end-strip-end.ensures.past (r / 84) (omega (arith, high, c.loop-strip-test.false)) inside))
    ]
