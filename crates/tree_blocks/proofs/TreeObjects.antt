-- A tree in memory has objects by the numbers of its entries alone.
use Rattle.std.proofs.Common.{◌≡◌, ◌∙◌, ◌≤◌, ℕ, List, length, Option, Some, None, refl, ap, sym, arith}
use Rattle.std.specs.Prelude.{option_map}
use Rattle.std.specs.Option.{option_map_or}
use Rattle.std.specs.FinMap as finite
use Rattle.std.proofs.lemmas.Option.{slice_get_past}
use Rattle.base.specs.formats.Limits.{object_count}
use Rattle.tree_blocks.specs.declared.tree.ObjectEntry.{ObjectEntry}
use Rattle.tree_blocks.specs.declared.tree.Tree.{Tree}
use Rattle.tree_blocks.specs.TreeObjects.{objects_of}

-- an object without a length is not there
pub none_long : (o : Option (List ℕ)) → option_map length o ≡ None → o ≡ None
none_long None none = refl
none_long (Some bytes) none = absurd cc

-- no object has a number past the entries
pub tree_numbered : (t : Tree) (n : ℕ) → object_count ≤ n → finite.get (objects_of t) n ≡ None
tree_numbered t n past =
    none_long (finite.get (objects_of t) n) (sym (t.sized n)
    ∙ ap (λ (o : Option ObjectEntry). option_map_or (λ (e : ObjectEntry). e.length) o None) (slice_get_past t.entries.items n (omega (arith, past, t.entries.ok.0, t.all_objects))))
