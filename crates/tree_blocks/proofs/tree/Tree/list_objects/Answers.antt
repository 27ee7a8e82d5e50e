use Rattle.std.proofs.Common.{◌≡◌, ◌∙◌, ℕ, ◌<◌, List, ◌++◌, Some, None, length, get_or, ap, sym, append-nil, arith}
use Rattle.std.specs.Prelude.{Option}
use Rattle.std.specs.Option.{option_map_or}
use Rattle.std.proofs.lemmas.Option.{slice_get-get_or}
use Rattle.base.specs.formats.Limits.{object_count}
use Rattle.base.specs.declared.names.ObjectId.{ObjectId}
use Rattle.tree_blocks.specs.declared.tree.ObjectEntry.{ObjectEntry}
use Rattle.tree_blocks.specs.Lengths.{length_in}
use Rattle.tree_blocks.specs.TreeObjects.{objects_of}
use Rattle.tree_blocks.proofs.ListedObjects.{listed_at, listed_below, listed_below-all, listed_next}
use Rattle.tree_blocks.proofs.tree.Tree.list_objects.Goals as goal
use Rattle.tree_blocks.proofs.tree.Tree.list_objects.Goals.{in-Some+in_ok-push, in_default}

-- the length of a map among those of a tree
length_at : (maps : List ObjectEntry) (n : ℕ) (m : ObjectEntry) → n < length maps → m ≡ get_or maps n m → m.length ≡ length_in maps n
length_at maps n m low is = sym (ap (λ (o : Option ObjectEntry). option_map_or (λ (p : ObjectEntry). p.length) o None) (slice_get-get_or maps n m low ∙ ap Some (sym is)))

pub loop-number-init : goal.loop-number-init
unfolding listed_below
loop-number-init c = c.new-list.ensures.items

pub loop-number-preserved : goal.loop-number-preserved
loop-number-preserved c =
    let tree = c.args.self.now in
    let objects = objects_of tree in
    let n : ℕ = c.loop-number.number in
    let low : n < length tree.entries.items = omega (arith, c.loop-number-test.true, tree.entries.ok.0, tree.all_objects) in
    let told = length_at tree.entries.items n c.index.result.now low c.index.ensures ∙ tree.sized n in
    elim c.match-index.branch [
      | in-Some+in_ok-push w ↦ rw w.list-is (w.in_ok-push.ensures.items ∙ ap (λ (l : List (ObjectId × ℕ)). l ++ listed_at n (Some w.in-Some.length)) c.loop-number.invariant
          ∙ listed_next objects n (Some w.in-Some.length) (sym w.in-Some.is ∙ told))
      | in_default w ↦ rw w.list-is (c.loop-number.invariant ∙ sym (append-nil (listed_below objects n)) ∙ listed_next objects n None (sym w.in_default.is ∙ told))
    ]

pub returns : goal.returns
returns c = λ within.
    let objects = objects_of c.args.self.now in
    let last : c.loop-number.number ≡ object_count = omega arith in
    c.loop-number.invariant ∙ ap (listed_below objects) last ∙ listed_below-all objects within
