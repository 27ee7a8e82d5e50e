use Rattle.std.proofs.Common.{rules, ◌*◌, ◌+◌, ◌⊎◌, inl, inr, ℕ, List, length, arith, subst, sym}
use Rattle.unsynced_extents.specs.LaidReads.{HidesAll}
use Rattle.tree_blocks.specs.Sources.{AreBytesFrom, object_bytes}
use Rattle.object_reads.specs.ShownTrees.{synced_objects}
use Rattle.object_reads.proofs.shown_tree.ShownTree.read_part.Goals as goal
use Rattle.object_reads.proofs.shown_tree.ShownTree.read_part.Goals.{then-not-hides+in_ok-read_synced, else-not-hides}

pub returns-clause-exact : goal.returns-clause-exact
returns-clause-exact g c = λ stands.
    let t = c.args.self.now in
    let n = c.args.id.0 in
    let offset : ℕ = 4032 * c.args.index + c.args.start in
    let below : HidesAll t.changes.now n offset (length c.if-not-hides.into) ⊎ AreBytesFrom offset (object_bytes (synced_objects t) n) c.if-not-hides.into =
    elim c.if-not-hides.branch [
      | then-not-hides+in_ok-read_synced w ↦ inr (subst (λ (l : List ℕ). AreBytesFrom offset (object_bytes (synced_objects t) n) l) (sym w.into-is) (w.in_ok-read_synced.ensures.exact stands))
      | else-not-hides w ↦ inl (subst (λ (l : List ℕ). HidesAll t.changes.now n offset (length l)) (sym w.into-is) (c.hides.ensures (search (rules, arith))))
    ] in
    c.lay_on.ensures.bytes (synced_objects t) c.requires.there below
