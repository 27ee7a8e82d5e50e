-- The tree of a plan has the lengths of the objects before it with the changes of the group laid over them.
use Rattle.std.proofs.Common.{◌≡◌, ◌∙◌, ◌<◌, ℕ, List, [], ◌∷◌, length, Option, true, false, Bool, refl, ap, sym}
use Rattle.std.specs.Prelude.{◌==◌, fold, is_some, option_map, if◌then◌else◌}
use Rattle.std.specs.List.{list_any}
use Rattle.std.specs.FinMap as finite
use Rattle.std.proofs.lemmas.Bool.{eqb-false, ne_eqb, or_parts}
use Rattle.base.specs.declared.operation.Op.{Op}
use Rattle.base.specs.declared.operation.Op.TheVariants.{Create, Remove, Write, SetLength, SetName}
use Rattle.base.specs.formats.Limits.{object_count}
use Rattle.base.specs.history.Contents.{object_after}
use Rattle.base.specs.tree.Syncs.{is_on}
use Rattle.extents.specs.Patches.{ArePatchesOf, Patches, laid_over}
use Rattle.extents.proofs.LaidObjects.{get-laid_over}
use Rattle.records.specs.declared.record.Record.{Record}
use Rattle.tree_blocks.specs.declared.tree.Tree.{Tree}
use Rattle.tree_blocks.specs.Lengths.{length_in}
use Rattle.tree_blocks.specs.Sources.{object_length}
use Rattle.tree_blocks.specs.TreeObjects.{objects_of}
use Rattle.tree_plans.specs.Marks.{pending_ops}
use Rattle.tree_plans.specs.Pointers.{entry_of}
use Rattle.group_plans.specs.GroupPlans.{HasGroupLengths}

-- operations that are on other objects leave this one
elsewhere : (n m : ℕ) → (m == n) ≡ false → (n == m) ≡ false
elsewhere n m other = ne_eqb n m (λ e. eqb-false m n other (sym e))

one_kept : (n : ℕ) (op : Op) (object : Option (List ℕ)) → is_on n op ≡ false → object_after n op object ≡ object
one_kept n (Create m) object off = rw (elsewhere n m.0 off) refl
one_kept n (Remove m) object off = rw (elsewhere n m.0 off) refl
one_kept n (Write m offset bytes) object off = rw (elsewhere n m.0 off) refl
one_kept n (SetLength m size) object off = rw (elsewhere n m.0 off) refl
one_kept n (SetName bytes) object off = refl

all_kept : (n : ℕ) (ops : List Op) (object : Option (List ℕ)) → list_any (is_on n) ops ≡ false → fold (λ o op. object_after n op o) object ops ≡ object
all_kept n [] object off = refl
all_kept n (op ∷ ops) object off =
    let both = or_parts (is_on n op) (list_any (is_on n) ops) off in
    ap (λ (o : Option (List ℕ)). fold (λ o op. object_after n op o) o ops) (one_kept n op object both.0) ∙ all_kept n ops object both.1

pub lengths_laid : (group : ℕ) (records : List Record) (tree : Tree) (patches : Patches) (new : ℕ → Option ℕ) → ArePatchesOf (pending_ops group records) patches
    → HasGroupLengths group records tree.entries.items new (laid_over patches (objects_of tree)) → (n : ℕ) → n < object_count → new n ≡ object_length (laid_over patches (objects_of tree)) n
lengths_laid group records tree patches new are from n low = from.each n low ∙ by (is_some (entry_of from.objects n)) refl
  where
    below : Option (List ℕ)
    below = finite.get (objects_of tree) n

    by : (b : Bool) → is_some (entry_of from.objects n) ≡ b
        → (if b then option_map length (finite.get (laid_over patches (objects_of tree)) n) else length_in tree.entries.items n) ≡ option_map length (finite.get (laid_over patches (objects_of tree)) n)
    by true on = refl
    by false off =
        tree.sized n
        ∙ ap (λ (o : Option (List ℕ)). option_map length o)
        (sym (get-laid_over patches (objects_of tree) n low ∙ are n below ∙ all_kept n (pending_ops group records) below (sym (from.changes.there n) ∙ off)))
