use Rattle.std.proofs.Common.{◌≡◌, ◌+◌, ◌*◌, ◌∙◌, ◌∷◌, ◌++◌, [], ℕ, List, ap, subst, arith}
use Rattle.base.specs.declared.names.ObjectId.{ObjectId}
use Rattle.base.specs.formats.Fields.{entry_in}
use Rattle.tree_blocks.proofs.EntryForms.{entry_there}
use Rattle.trees.specs.EntryLists.{AreRising, listed_to}
use Rattle.trees.proofs.EntryLists.{entry_fits, listed_none, listed_object, rising_more, rising_push}
use Rattle.trees.proofs.WalkParts.{entry_linked}
use Rattle.trees.proofs.entry_lists.list_payload.Goals as goal
use Rattle.trees.proofs.entry_lists.list_payload.Goals.{else-entry-ne0, then-entry-ne0+in_ok-push}

pub loop-index-preserved : goal.loop-index-preserved
loop-index-preserved c =
    let i = c.loop-index.invariant in
    let d : ℕ = c.args.directory in
    let k : ℕ = c.loop-index.index in
    let low = c.loop-index-test.true in
    let payload : List ℕ = c.args.payload.now in
    let old : List (ObjectId × ℕ) = c.loop-index.list.items in
    let read = c.read_entry-entry.ensures in
    let entry = c.read_entry-entry.result in
    let next : 63 * d + k + 1 ≡ 63 * d + (k + 1) = omega arith in
    elim c.if-entry-ne0.branch [
      | then-entry-ne0+in_ok-push w ↦ rw w.list-is (record {
        form = λ frame formed before.
            let fits = entry_fits frame entry (entry_there frame (entry_in payload k) entry (formed.each k low) read.present read.length w.if-entry-ne0.true) in
            rw w.in_ok-push.ensures.items (subst (λ (n : ℕ). AreRising 0 (old ++ (record { 0 = 63 * d + k }, entry.length) ∷ []) n) next
            (rising_push 0 (63 * d + k) entry.length old (i.form frame formed before) fits));
        listed = λ image frame root at before.
            let here = entry_linked image frame root d k payload entry low at read.present read.pointer read.length in
            w.in_ok-push.ensures.items ∙ ap (λ (l : List (ObjectId × ℕ)). l ++ (record { 0 = 63 * d + k }, entry.length) ∷ []) (i.listed image frame root at before)
            ∙ listed_object image root (63 * d + k) entry here w.if-entry-ne0.true ∙ ap (listed_to image root) next;
      })
      | else-entry-ne0 w ↦ rw w.list-is (record {
        form = λ frame formed before. rising_more 0 (63 * d + k) (63 * d + (k + 1)) old (i.form frame formed before) (omega arith);
        listed = λ image frame root at before.
            let here = entry_linked image frame root d k payload entry low at read.present read.pointer read.length in
            i.listed image frame root at before ∙ listed_none image root (63 * d + k) (here.levels ∙ w.if-entry-ne0.false) ∙ ap (listed_to image root) next;
      })
    ]

pub returns-clause-form : goal.returns-clause-form
returns-clause-form c = λ frame formed before.
    let end : 63 * c.args.directory + c.loop-index.index ≡ 63 * (c.args.directory + 1) = omega (arith, c.loop-index.auto.index-end, c.loop-index-test.false) in
    subst (λ (n : ℕ). AreRising 0 c.loop-index.list.items n) end (c.loop-index.invariant.form frame formed before)

pub returns-clause-listed : goal.returns-clause-listed
returns-clause-listed c = λ image frame root at before.
    let end : 63 * c.args.directory + c.loop-index.index ≡ 63 * (c.args.directory + 1) = omega (arith, c.loop-index.auto.index-end, c.loop-index-test.false) in
    c.loop-index.invariant.listed image frame root at before ∙ ap (listed_to image root) end
