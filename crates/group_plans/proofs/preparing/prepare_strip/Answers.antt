use Rattle.std.proofs.Common.{◌≡◌, ℕ, inl, inr, ap, arith, refl, sym, ◌∙◌}
use Rattle.std.proofs.lemmas.Bool.{cases_lt}
use Rattle.std.proofs.lemmas.Result.{err_from_is_err_and}
use Rattle.base.specs.disk.Disk.{bytes_of}
use Rattle.base.specs.tree.Places.{record_of_strip}
use Rattle.tree_blocks.specs.TreeObjects.{objects_of}
use Rattle.tree_blocks.specs.ReadPointers.{read_record}
use Rattle.tree_blocks.specs.declared.place.RecordPlace.{RecordPlace}
use Rattle.group_plans.specs.GroupPlans.{objects_with}
use Rattle.group_plans.specs.Prepared.{AreExact, HoldsRecord, at_hand}
use Rattle.group_plans.proofs.RecordReads.{moved}
use Rattle.group_plans.proofs.preparing.prepare_strip.Goals as goal

pub loop-index-preserved : goal.loop-index-preserved
loop-index-preserved g c =
    let inv = c.loop-index.invariant in
    let ens = c.in_ok-prepare_dirty.ensures in
    let index : ℕ = c.loop-index.index in
    let place : RecordPlace = record { id = c.args.id; strip = c.args.strip; index = index } in
    let one = at_hand c.loop-index.prepared.records in
    let two = at_hand c.prepare_dirty.new.prepared.records in
    record {
      size = ens.reads.size ∙ inv.size;
      disk = λ keeps. ens.reads.disk keeps ∙ inv.disk keeps;
      count = ens.reads.count ∙ inv.count;
      extents = ens.extents ∙ inv.extents;
      below = ens.below ∙ inv.below;
      kept = λ m s there. ens.kept m s (inv.kept m s there);
      ready = λ k below dirty. elim (cases_lt k index) [
        | inl before ↦ ens.kept c.args.id.0 (record_of_strip c.args.strip k) (inv.ready k before dirty)
        | inr last ↦
            let same : k ≡ index = omega (arith, below, last) in
            rw same (ens.ready (rw c.number.ensures at c.state-state.ensures ∙ rw same at dirty))
      ];
      exact = λ keeps holds old. moved
          (λ i x a. HoldsRecord i c.args.frame.now (objects_of a) place (read_record c.args.map.now c.args.strip index) → AreExact one (objects_with x a) → AreExact two (objects_with x a))
          _ _ _ _ _ _ (ap (λ d. bytes_of d.now) (inv.disk keeps)) inv.extents inv.below (ens.exact keeps)
          (record { pointers = holds.pointers; tree = holds.tree; is = holds.are index c.loop-index-test.true }) (inv.exact keeps holds old);
    }

pub returns-in_err-prepare_dirty-clause-sound : goal.returns-in_err-prepare_dirty-clause-sound
returns-in_err-prepare_dirty-clause-sound g c = λ keeps holds.
    let inv = c.loop-index.invariant in
    let place : RecordPlace = record { id = c.args.id; strip = c.args.strip; index = c.loop-index.index } in
    let p = err_from_is_err_and c.from_residual.result c.from_residual.ensures.1 in
    rw (p.1, p.2) (c.in_err-prepare_dirty.ensures.sound keeps
    (moved (λ i x a. HoldsRecord i c.args.frame.now (objects_of a) place (read_record c.args.map.now c.args.strip c.loop-index.index)) _ _ c.args.prepared.now.extents.now c.args.prepared.now.extents.now _ _
    (ap (λ d. bytes_of d.now) (sym (inv.disk keeps))) refl (sym inv.below)
    (record { pointers = holds.pointers; tree = holds.tree; is = holds.are c.loop-index.index c.loop-index-test.true })))
