use Rattle.std.proofs.Common.{◌≡◌, ◌∙◌, sym}
use Rattle.std.specs.BTreeMap as tree
use Rattle.tree_blocks.specs.SetEntries.{set_entries}
use Rattle.tree_blocks.specs.Pointers.{id_cmp}
use Rattle.tree_blocks.proofs.SetEntries.{set_all-pointers, set_all-lengths}
use Rattle.tree_blocks.proofs.set_entries.set_all.Goals as goal

pub returns-clause-pointers : goal.returns-clause-pointers
returns-clause-pointers c = λ root directories.
    let h = c.into_iter-id-iterator.ensures.into_iter_gives in
    let o : tree.IsOrdered id_cmp c.args.new = h.5 in
    let empty = (rw c.in-None.is at c.next.ensures.steps).0 in
    let done : c.loop-id.entries.items ≡ set_entries c.args.new.entries c.args.entries.now.items = (rw empty at c.loop-id.invariant.entries) in
    rw done (set_all-pointers root directories c.args.entries.now.items c.args.new (sym c.args.entries.now.ok.0 ∙ c.requires) o)

pub returns-clause-lengths : goal.returns-clause-lengths
returns-clause-lengths c =
    let h = c.into_iter-id-iterator.ensures.into_iter_gives in
    let o : tree.IsOrdered id_cmp c.args.new = h.5 in
    let empty = (rw c.in-None.is at c.next.ensures.steps).0 in
    let done : c.loop-id.entries.items ≡ set_entries c.args.new.entries c.args.entries.now.items = (rw empty at c.loop-id.invariant.entries) in
    rw done (set_all-lengths c.args.entries.now.items c.args.new (sym c.args.entries.now.ok.0 ∙ c.requires) o)
