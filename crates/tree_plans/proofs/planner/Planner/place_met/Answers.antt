use Rattle.std.proofs.Common.{◌≡◌, Bool, None, Some, ap, subst, sym, ◌∙◌}
use Rattle.std.proofs.lemmas.Result.{IfErr-weaker, IfOk-weaker}
use Rattle.base.specs.tree.Syncs.{is_dirty}
use Rattle.std.specs.Cmp.{unsigned_tied}
use Rattle.tree_plans.specs.Plans.{is_indirect_made, progress_of, state_over_records}
use Rattle.tree_blocks.specs.ReadPointers.{records_among}
use Rattle.tree_plans.specs.Room.{Lacks, count_if}
use Rattle.tree_plans.proofs.Levels.{met_kept, met_long, met_made, met_mark}
use Rattle.tree_blocks.proofs.ReadPointers.{among-get}
use Rattle.tree_plans.proofs.planner.Planner.place_met.Goals as goal

pub returns-in-None-clause-planned : goal.returns-in-None-clause-planned
returns-in-None-clause-planned c =
    let none : records_among c.args.strips.now.entries c.args.strip ≡ None = sym (among-get _ (λ a b. unsigned_tied a b) c.args.strips.now c.args.strip) ∙ sym c.in-None.ensures.value in
    met_kept _ c.args.object.now c.args.strip c.args.strips.now.entries _ _ none c.indirect-old.ensures

pub returns-in-Some-clause-planned : goal.returns-in-Some-clause-planned
returns-in-Some-clause-planned c =
    let there : records_among c.args.strips.now.entries c.args.strip ≡ Some c.in-Some.records.now = sym (among-get _ (λ a b. unsigned_tied a b) c.args.strips.now c.args.strip) ∙ sym c.in-Some.ensures.value in
    IfOk-weaker c.place_indirect.result _ _ (λ pointer done. met_made _ c.args.object.now c.args.strip c.args.strips.now.entries c.in-Some.records.now there _ _ _ _ c.indirect-old.ensures (rw c.deref.ensures.value at done)) c.place_indirect.ensures.planned

pub place_indirect-requires-clause-count : goal.place_indirect-requires-clause-count
place_indirect-requires-clause-count c =
    let there : records_among c.args.strips.now.entries c.args.strip ≡ Some c.in-Some.records.now = sym (among-get _ (λ a b. unsigned_tied a b) c.args.strips.now c.args.strip) ∙ sym c.in-Some.ensures.value in
    c.deref.ensures.len ∙ met_long c.args.object.now c.args.strip c.args.strips.now.entries c.in-Some.records.now c.requires.met there

pub returns-in-Some-clause-full : goal.returns-in-Some-clause-full
returns-in-Some-clause-full c =
    let object = c.args.object.now in
    let there : records_among c.args.strips.now.entries c.args.strip ≡ Some c.in-Some.records.now = sym (among-get _ (λ a b. unsigned_tied a b) c.args.strips.now c.args.strip) ∙ sym c.in-Some.ensures.value in
    let marked : is_dirty (state_over_records object c.args.strip c.deref.result.now) ≡ is_indirect_made object c.args.strips.now.entries c.args.strip =
    ap (λ l. is_dirty (state_over_records object c.args.strip l)) c.deref.ensures.value ∙ met_mark object c.args.strip c.args.strips.now.entries c.in-Some.records.now there in
    IfErr-weaker c.place_indirect.result _ _ (λ e full no_space. subst (λ (b : Bool). Lacks c.args.free.now.free (progress_of c.args.self.now) (count_if b)) marked (full no_space)) c.place_indirect.ensures.full
