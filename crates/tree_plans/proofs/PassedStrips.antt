-- The strips that a plan doesn't go over after the last one that it does: they change nothing.
use Rattle.std.proofs.Common.{◌≡◌, ℕ, zero, suc, ◌+◌, ◌<◌, ◌≤◌, false, List, arith}
use Rattle.std.specs.Prelude.{is_some}
use Rattle.std.specs.Global.{Vec}
use Rattle.base.specs.declared.pointer.Pointer.{Pointer}
use Rattle.base.specs.formats.Limits.{pointer_count}
use Rattle.space.specs.FreeSets.{FreeSpace}
use Rattle.tree_plans.specs.declared.changed_object.ChangedObject.{ChangedObject}
use Rattle.tree_plans.specs.declared.planner.Planner.{Planner}
use Rattle.tree_plans.specs.Changes.{is_strip_dirty}
use Rattle.tree_plans.specs.Parts.{AreMet, IsMapRead, PlansStripsBelow}
use Rattle.tree_blocks.specs.ReadPointers.{records_among}
use Rattle.tree_plans.proofs.Levels.{passes_unmet}

-- the strips from one on, up to another
module _ (free : FreeSpace) (object : ChangedObject) (bytes : List ℕ) (read : IsMapRead object) (strips : List (ℕ × Vec Pointer)) (first planner : Planner) where
  pub record IsDone (count : ℕ) : Type 0 where
    pub met : AreMet object count strips
    pub done : PlansStripsBelow free object bytes count first planner strips

  pub all_passed : (count more : ℕ) → count + more ≤ pointer_count
      → ((j : ℕ) → count ≤ j → j < pointer_count → is_some (records_among object.old.now.strips.entries j) ≡ false)
      → ((j : ℕ) → count ≤ j → j < pointer_count → is_strip_dirty object.changes.now j ≡ false)
      → IsDone count → IsDone (count + more)
  all_passed count zero low unread clean done = let same : count ≡ count + 0 = omega arith in rw same at done
  all_passed count (suc more) low unread clean done =
      let here : count < pointer_count = omega (arith, low) in
      let one = passes_unmet free object bytes count here strips planner read (unread count (omega arith) here) (clean count (omega arith) here) in
      let rest = all_passed (count + 1) more (omega (arith, low)) (λ j from. unread j (omega (arith, from))) (λ j from. clean j (omega (arith, from)))
      (record { met = one.met done.met; done = one.done first done.met done.done }) in
      let same : count + 1 + more ≡ count + suc more = omega arith in
      rw same at rest
