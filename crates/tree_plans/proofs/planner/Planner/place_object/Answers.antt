use Rattle.std.proofs.Common.{◌≡◌, ℕ, List, arith, ap, length, sym, ◌∙◌}
use Rattle.std.specs.Prelude.{if◌then◌else◌}
use Rattle.base.specs.formats.Limits.{pointer_count}
use Rattle.tree_blocks.specs.Pointers.{pointer_of_list}
use Rattle.tree_blocks.specs.Sources.{object_bytes}
use Rattle.base.specs.tree.Syncs.{is_dirty}
use Rattle.tree_plans.specs.Parts.{old_in}
use Rattle.tree_plans.specs.Plans.{is_dirty_in, is_indirect_made, progress_of, records_with, state_over_indirects}
use Rattle.tree_blocks.specs.Entries.{is_long_size}
use Rattle.tree_plans.specs.Pointers.{pointers_in, strips_with}
use Rattle.tree_plans.specs.Room.{count_if, is_top_needed, record_blocks}
use Rattle.tree_plans.proofs.NewObjects.{made_count, object_adds, object_comes_once, object_frees, object_is_used, object_named, object_planned, top_state_is}
use Rattle.tree_plans.proofs.Order.{adds_twice}
use Rattle.tree_plans.proofs.Progress.{goes_twice}
use Rattle.tree_plans.proofs.Room.{handed_on, records_lack, strips_lack, strips_length, tops_lack, where_length}
use Rattle.tree_plans.proofs.planner.Planner.place_object.Goals as goal

pub returns-clause-planned : goal.returns-clause-planned
returns-clause-planned g c =
    let object = c.args.object.now in
    let bytes : List ℕ = object_bytes (g.O.ObjectSource.objects c.args.after.now) object.id.0 in
    let told = c.args.told.now.value in
    let strips = c.in_ok-strips.strips.entries in
    let indirects = c.in_ok-indirects.indirects.items in
    let count : length indirects ≡ pointer_count = omega (arith, c.in_ok-indirects.indirects.ok.0, c.in_ok-indirects.ensures.count) in
    let top = c.in_ok-top.top in
    let below = c.in_ok-strips.ensures.planned in
    let middle = c.in_ok-indirects.ensures.planned in
    let above = rw c.deref.ensures.value at c.in_ok-top.ensures.planned in
    let entry = c.new_entry.result in
    let shown = c.deref-2.ensures.value in
    let length_is : object.is_long ≡ is_long_size c.length.result = c.requires.levels ∙ ap is_long_size (sym c.length.ensures) in
    let levels : object.is_long ≡ is_long_size entry.length = length_is ∙ ap is_long_size (sym c.new_entry.ensures.length) in
    let names : entry.pointer ≡ (if object.is_long then top else pointer_of_list indirects 0) = c.new_entry.ensures.pointer ∙ (λ x. if sym length_is x then top else pointer_of_list (shown x) 0) in
    let tells : entry.strips.value ≡ strips_with indirects strips told = c.new_entry.ensures.strips ∙ (λ x. strips_with (shown x) strips told) in
    record {
      goes = goes_twice below.goes (goes_twice middle.goes above.goes);
      planned = object_planned _ object c.requires.read bytes told strips c.in_ok-strips.ensures.met _ _ _ indirects count below middle _ top entry levels names tells above;
      named = object_named _ object c.requires.read bytes told strips c.in_ok-strips.ensures.met _ _ _ indirects count below middle _ top entry levels names tells above;
      frees = object_frees _ object c.requires.read bytes told strips c.in_ok-strips.ensures.met _ _ _ indirects count below middle _ top entry levels names tells above;
      once = object_comes_once _ object c.requires.read bytes told strips c.in_ok-strips.ensures.met _ _ _ indirects count below middle _ top entry levels names tells above;
      uses = object_is_used _ object c.requires.read bytes told strips c.in_ok-strips.ensures.met _ _ _ indirects count below middle _ top entry levels names tells above;
      adds = object_adds _ object c.requires.read bytes told strips c.in_ok-strips.ensures.met _ _ _ indirects count below middle _ top entry levels names tells above;
    }

-- a part of the object is refused, if those before it are done
pub returns-in_err-strips-clause-full : goal.returns-in_err-strips-clause-full
returns-in_err-strips-clause-full g c =
    handed_on c.from_residual.result _ _ c.from_residual.ensures.1 (λ no_space. records_lack _ (progress_of c.args.self.now) (record_blocks c.args.object.now pointer_count) _ _ (c.in_err-strips.ensures.full no_space))

pub returns-in_err-indirects-clause-full : goal.returns-in_err-indirects-clause-full
returns-in_err-indirects-clause-full g c =
    let object = c.args.object.now in
    let strips = c.in_ok-strips.strips.entries in
    let below = c.in_ok-strips.ensures.planned in
    handed_on c.from_residual-in_err-indirects.result _ _ c.from_residual-in_err-indirects.ensures.1 (λ no_space. strips_lack _ _ (progress_of c.place_strips.new.self) _ _ _ _ _
    (strips_length (is_dirty_in object) (records_with (old_in object) strips) pointer_count)
    (made_count _ object c.requires.read _ c.args.told.now.value strips c.in_ok-strips.ensures.met _ _ below) below.goes below.adds (c.in_err-indirects.ensures.full no_space))

pub returns-in_err-top-clause-full : goal.returns-in_err-top-clause-full
returns-in_err-top-clause-full g c =
    let object = c.args.object.now in
    let strips = c.in_ok-strips.strips.entries in
    let indirects = c.in_ok-indirects.indirects.items in
    let count : length indirects ≡ pointer_count = omega (arith, c.in_ok-indirects.indirects.ok.0, c.in_ok-indirects.ensures.count) in
    let below = c.in_ok-strips.ensures.planned in
    let middle = c.in_ok-indirects.ensures.planned in
    let last : count_if (is_dirty (state_over_indirects object c.deref.result.now)) ≡ count_if (is_top_needed object.is_long object.changes.now (pointers_in c.args.told.now.value object.old.now)) =
    ap (λ l. count_if (is_dirty (state_over_indirects object l))) c.deref.ensures.value
    ∙ ap (λ state. count_if (is_dirty state)) (top_state_is _ object c.requires.read _ c.args.told.now.value strips c.in_ok-strips.ensures.met _ _ _ indirects count below middle) in
    handed_on c.from_residual-in_err-top.result _ _ c.from_residual-in_err-top.ensures.1 (λ no_space. tops_lack _ _ (progress_of c.place_indirects.new.self) _ _ _ _ _ _ _
    (strips_length (is_dirty_in object) (records_with (old_in object) strips) pointer_count) (where_length (is_indirect_made object strips) (pointer_of_list indirects) pointer_count)
    (made_count _ object c.requires.read _ c.args.told.now.value strips c.in_ok-strips.ensures.met _ _ below) last
    (goes_twice below.goes middle.goes) (adds_twice _ _ _ _ _ below.adds middle.adds) (c.in_err-top.ensures.full no_space))
