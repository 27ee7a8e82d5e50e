use Rattle.std.proofs.Common.{◌≡◌, ◌||◌, IfErr, inr, true, false, rules}
use Rattle.std.specs.Prelude.{is_some}
use Rattle.std.proofs.lemmas.Result.{IfErr-weaker}
use Rattle.base.specs.declared.error.PoolError.TheVariants.{NoMemory}
use Rattle.std.specs.Cmp.{unsigned_tied}
use Rattle.std.proofs.lemmas.Bool.{or_parts}
use Rattle.tree_blocks.specs.Sources.{object_bytes}
use Rattle.tree_plans.specs.Changes.{is_strip_dirty}
use Rattle.tree_blocks.specs.ReadPointers.{records_among}
use Rattle.tree_plans.proofs.Levels.{passes_met, passes_unmet}
use Rattle.tree_plans.proofs.Room.{not_space}
use Rattle.tree_plans.proofs.Strips.{among_put}
use Rattle.tree_plans.proofs.planner.Planner.place_strip.Goals as goal

pub returns-then-not-is_met-clause-planned : goal.returns-then-not-is_met-clause-planned
returns-then-not-is_met-clause-planned g c =
    let object = c.args.object.now in
    let none : (is_some (records_among object.old.now.strips.entries c.args.strip) || is_strip_dirty object.changes.now c.args.strip) ≡ false = (let no = c.if-not-is_met.true in let is = c.is_met.ensures in search rules) in
    let parts = or_parts (is_some (records_among object.old.now.strips.entries c.args.strip)) (is_strip_dirty object.changes.now c.args.strip) none in
    passes_unmet _ object (object_bytes (g.O.ObjectSource.objects c.args.after.now) object.id.0) c.args.strip c.requires.strip c.args.strips.now.entries _ c.requires.read parts.0 parts.1

pub returns-clause-planned : goal.returns-clause-planned
returns-clause-planned g c =
    let object = c.args.object.now in
    let over : (is_some (records_among object.old.now.strips.entries c.args.strip) || is_strip_dirty object.changes.now c.args.strip) ≡ true = (let yes = c.if-not-is_met.false in let is = c.is_met.ensures in search rules) in
    passes_met _ object (object_bytes (g.O.ObjectSource.objects c.args.after.now) object.id.0) c.args.strip c.requires.strip c.args.strips.now.entries c.insert.new.self.entries c.in_ok-records.records
    (among_put _ (λ a b. unsigned_tied a b) c.args.strips.now c.insert.new.self c.args.strip c.in_ok-records.records c.in_ok-insert.ensures.updates.0) _ _ over c.in_ok-records.ensures.count c.in_ok-records.ensures.planned

pub returns-in_err-insert-clause-full : goal.returns-in_err-insert-clause-full
returns-in_err-insert-clause-full g c =
    let want : IfErr c.from_residual-in_err-insert.result (λ e. e ≡ NoMemory) = search rules in
    IfErr-weaker c.from_residual-in_err-insert.result _ _ (λ e no_memory no_space. not_space e no_memory no_space) want

pub returns-in_err-insert-clause-refused : goal.returns-in_err-insert-clause-refused
returns-in_err-insert-clause-refused g c =
    let want : IfErr c.from_residual-in_err-insert.result (λ e. e ≡ NoMemory) = search rules in
    IfErr-weaker c.from_residual-in_err-insert.result _ _ (λ e no_memory. inr no_memory) want
