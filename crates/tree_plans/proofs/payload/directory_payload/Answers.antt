use Rattle.std.proofs.Common.{ℕ, ◌+◌, ◌*◌, List, arith, ◌∙◌}
use Rattle.std.specs.FinMap as finite
use Rattle.tree_plans.specs.Pointers.{entry_pointer_of, planned_pointer}
use Rattle.tree_plans.specs.Walks.{IsEntryWritten}
use Rattle.tree_blocks.proofs.Entries.{entry_in-zeros, length-zeros, one_entry_more}
use Rattle.tree_plans.proofs.payload.directory_payload.Goals as goal

pub loop-index-init : goal.loop-index-init
loop-index-init g c = record {
  size = rw c.empty_payload-payload.ensures (length-zeros 4032);
  written = λ k low. absurd (omega arith);
  others = λ k from low. rw c.empty_payload-payload.ensures (entry_in-zeros k low);
}

pub loop-index-preserved : goal.loop-index-preserved
loop-index-preserved g c =
    let objects = g.O.ObjectSource.objects c.args.after.now in
    let P : ℕ → List ℕ → Type 0 = λ k entry. IsEntryWritten entry (planned_pointer (entry_pointer_of c.args.source.now.tree.now.entries.items) c.args.entries.now.entries (63 * c.args.directory + k)) (finite.get objects (63 * c.args.directory + k)) in
    record {
      size = c.put_entry.ensures.size;
      written = one_entry_more P c.loop-index.index c.loop-index.payload _ c.loop-index-test.true c.put_entry.ensures.others c.loop-index.invariant.written
          (rw (← c.length.ensures, ← c.planned_pointer-pointer.ensures) c.put_entry.ensures.here);
      others = λ k from low. c.put_entry.ensures.others k low (λ e. omega arith) ∙ c.loop-index.invariant.others k (omega arith) low;
    }
