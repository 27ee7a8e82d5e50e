use Rattle.std.proofs.Common.{◌≡◌, ◌+◌, ◌*◌, ◌<◌, ℕ, List, None, Some, ap, cond, nat_lt, subst, sym, ◌∙◌}
use Rattle.std.specs.Map.{lookup}
use Rattle.std.specs.Prelude.{Err, Ok, OnErr, OnOk, Result, if◌then◌else◌}
use Rattle.std.specs.FinMap.{FinMap}
use Rattle.std.specs.BTreeMap as tree
use Rattle.std.specs.BTreeMap.{BTreeMap, is_at}
use Rattle.std.specs.Ordering.{nat_cmp}
use Rattle.base.specs.formats.Limits.{record_count}
use Rattle.group_plans.specs.GroupPlans.{objects_with}
use Rattle.group_plans.specs.Prepared.{AreClearedPast, IsClearedPast, PutsRecord, at_hand}
use Rattle.tree_blocks.specs.Sources.{object_bytes}
use Rattle.group_plans.proofs.RecordsAtHand.{cut_more, puts_record}
use Rattle.group_plans.proofs.prepared.PreparedObjects.put.Goals as goal

-- what was put among records, by its key
put_at : (old new : BTreeMap ℕ (List ℕ)) (n r key : ℕ) (payload bytes : List ℕ) → r < record_count → key ≡ record_count * n + r → bytes ≡ payload → tree.Updates nat_cmp old new key (Some bytes)
    → PutsRecord n r payload (at_hand old) (at_hand new)
put_at old new n r key payload bytes low is are updates = puts_record old new n r payload low (λ q.
    subst (λ (k : ℕ). tree.get nat_cmp new q ≡ cond (is_at (nat_cmp k) q) (Some payload) (tree.get nat_cmp old q)) is
    (subst (λ (b : List ℕ). tree.get nat_cmp new q ≡ cond (is_at (nat_cmp key) q) (Some b) (tree.get nat_cmp old q)) are (updates.0 q)))

-- the records stay cut, also if the new one found no memory
stay_cut : {A E : Type 0} (result : Result A E) (objects : FinMap nat_cmp (List ℕ)) (old new : BTreeMap ℕ (List ℕ)) (n r key : ℕ) (payload bytes : List ℕ) → r < record_count → key ≡ record_count * n + r → bytes ≡ payload
    → OnOk result (tree.Updates nat_cmp old new key (Some bytes)) → OnErr result (new.entries ≡ old.entries) → IsClearedPast (object_bytes objects n) r payload → AreClearedPast (at_hand old) objects → AreClearedPast (at_hand new) objects
stay_cut (Ok a) objects old new n r key payload bytes low is are updates same cut all = cut_more objects n r payload (at_hand old) (at_hand new) cut (put_at old new n r key payload bytes low is are updates) all
stay_cut (Err e) objects old new n r key payload bytes low is are updates same cut all = λ m s kept at.
    all m s kept (sym (ap (λ (es : List (ℕ × List ℕ)). if nat_lt s record_count then lookup (is_at (nat_cmp (record_count * m + s))) es else None) same) ∙ at)

pub invariant_of-self : goal.invariant_of-self
invariant_of-self c = record {
  cut = stay_cut c.insert.result (objects_with c.args.self.now.extents.now c.args.self.now.tree.now) c.args.self.now.records c.insert.new.self c.args.id.0 c.args.index c.record_number.result c.cut.new.payload c.in_ok-bytes.bytes
      c.requires.index c.record_number.ensures c.in_ok-bytes.ensures c.insert.ensures.updates c.insert.ensures.err c.cut.ensures.cut c.args.self.now.cut;
}

pub returns-clause-put : goal.returns-clause-put
returns-clause-put c =
    put_at c.args.self.now.records c.insert.new.self c.args.id.0 c.args.index c.record_number.result c.cut.new.payload c.in_ok-bytes.bytes c.requires.index c.record_number.ensures c.in_ok-bytes.ensures c.in_ok-insert.ensures.updates
