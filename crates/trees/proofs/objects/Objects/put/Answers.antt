use Rattle.std.proofs.Common.{◌<◌, List, ℕ, arith, length, subst, sym}
use Rattle.std.specs.Ordering.{nat_cmp}
use Rattle.std.specs.FinMap.{FinMap}
use Rattle.std.proofs.Math.ListN.{set}
use Rattle.tree_blocks.specs.Lengths.{HaveLengthsOf}
use Rattle.trees.proofs.PutObjects.{lengths-set}
use Rattle.trees.proofs.objects.Objects.put.Goals as goal

pub invariant_of-self : goal.invariant_of-self
invariant_of-self c =
    let old = c.args.self.now in
    let in_place : c.args.number < length old.entries.items = omega (arith, c.requires.in_range, old.entries.ok.0, old.all_entries) in
    record {
      all_entries = old.all_entries;
      sized = subst (λ (m : FinMap nat_cmp (List ℕ)). HaveLengthsOf (set old.entries.items c.args.number c.args.entry) m) (sym c.with_object.ensures)
          (lengths-set old.entries.items old.told.value c.args.number c.args.entry c.args.bytes.value in_place c.requires.length old.sized);
    }
