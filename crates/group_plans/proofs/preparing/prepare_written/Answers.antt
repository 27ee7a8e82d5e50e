use Rattle.std.proofs.Common.{◌≡◌, ◌∙◌, true, false, ap, arith, sym}
use Rattle.std.proofs.lemmas.Bool.{true≢false}
use Rattle.base.specs.tree.Places.{record_of_strip}
use Rattle.base.specs.tree.Syncs.{is_dirty}
use Rattle.tree_plans.specs.Changes.{is_strip_dirty, state_at}
use Rattle.tree_plans.proofs.Order.{passes_at}
use Rattle.group_plans.proofs.preparing.prepare_written.Goals as goal

pub returns-then-not-writes_strip-clause-ready : goal.returns-then-not-writes_strip-clause-ready
returns-then-not-writes_strip-clause-ready g c = λ k low dirty.
    let changes = c.args.changes.now in
    let clean : is_strip_dirty changes c.args.strip ≡ false = sym c.writes_strip.ensures ∙ c.if-not-writes_strip.true in
    let there : is_strip_dirty changes c.args.strip ≡ true = passes_at (λ i. is_dirty (state_at changes (record_of_strip c.args.strip i))) 0 84 k (omega arith) (omega (arith, low)) (ap is_dirty dirty) in
    absurd (true≢false (sym there ∙ clean))

pub returns-clause-exact : goal.returns-clause-exact
returns-clause-exact g c = λ keeps holds.
    let written : is_strip_dirty c.args.changes.now c.args.strip ≡ true = sym c.writes_strip.ensures ∙ c.if-not-writes_strip.false in
    c.prepare_strip.ensures.exact keeps (record { pointers = holds.pointers; tree = holds.tree; are = λ k low. holds.are c.args.strip k c.requires.strip low written })

pub returns-clause-sound : goal.returns-clause-sound
returns-clause-sound g c = λ keeps holds.
    let written : is_strip_dirty c.args.changes.now c.args.strip ≡ true = sym c.writes_strip.ensures ∙ c.if-not-writes_strip.false in
    c.prepare_strip.ensures.sound keeps (record { pointers = holds.pointers; tree = holds.tree; are = λ k low. holds.are c.args.strip k c.requires.strip low written })
