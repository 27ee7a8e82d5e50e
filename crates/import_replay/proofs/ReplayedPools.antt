-- The records of a chain, as the operations of the group that an import syncs: they take place on the tree that was
-- loaded, keep within the limits, and are estimated at what the records are.
use Rattle.std.proofs.Common.{◌≡◌, ℕ, ◌+◌, List, [], ◌∷◌, ◌++◌, length, map, Ok, refl, ap, sym, subst, ◌∙◌}
use Rattle.std.specs.Prelude.{All, sum_by}
use Rattle.std.specs.FinMap as finite
use Rattle.std.specs.List.{flat_map}
use Rattle.std.proofs.lemmas.List.{length-map}
use Rattle.std.proofs.lemmas.List.Elements.{All-append, All-cons, All-head, All-nil, All-tail, All-weaker}
use Rattle.std.proofs.lemmas.List.Sums.{sum_by-cons}
use Rattle.base.specs.tree.Mount.{Placed, entry_of_record, records_above}
use Rattle.base.specs.declared.operation.Op.{Op}
use Rattle.base.specs.formats.Chain.{LogPiece}
use Rattle.base.specs.formats.Geometry.{block_count}
use Rattle.base.specs.formats.Names.{IsName}
use Rattle.base.specs.formats.Uberblocks.{Uberblock}
use Rattle.base.specs.history.Contents.{Contents}
use Rattle.base.specs.history.History.{Entry, apply_all}
use Rattle.base.specs.history.Plans.{estimate_of, shape_of}
use Rattle.base.specs.steps.Exact.{IsBounded}
use Rattle.extents.specs.Synced.{patched_contents}
use Rattle.extents.specs.Patches.{ArePatchesOf}
use Rattle.extents.specs.Tables.{name_of, patches_of}
use Rattle.group_plans.specs.Operations.{AreSized, TakesPlace}
use Rattle.group_plans.proofs.GroupChanges.{allowed_ops_take_place}
use Rattle.group_plans.proofs.GroupCounts.{all_pending, estimates_add}
use Rattle.intent_log.specs.Chains.{IsSoundPiece}
use Rattle.log_replay.specs.Replays.{IsPieceAllowed, IsChainAllowed, ops_of_records, record_in}
use Rattle.log_replay.proofs.BoundedReplays.{replays_stay_bounded}
use Rattle.contents.specs.ContentsShown.{contents_of}
use Rattle.contents.specs.Ops.{AreOpsAllowed, IsOpAllowed}
use Rattle.tree_blocks.specs.declared.tree.Tree.{Tree}
use Rattle.records.specs.declared.record.Record.{Record}
use Rattle.records.specs.Records.{record_fields}
use Rattle.tree_plans.specs.Marks.{pending_ops}
use Rattle.mounted.proofs.Replays.{flat_replay, sized_object}
use Rattle.import_replay.specs.PlacedRecords.{ops_of_placed, placed_estimate}
use Rattle.import_replay.specs.NextPools.{IsReplayedPool}
use Rattle.import_replay.specs.ReadPools.{IsLoadedFor}
use Rattle.import_replay.specs.declared.next_pool.ReplayedPool.{ReplayedPool}

-- Records that were replayed are those of the chain, as of one group.
abbrev AreTaken : ℕ → List Record → List Placed → Type 0
AreTaken group records placed = map record_fields records ≡ map (record_in group) placed

record Taken (group : ℕ) (x : Record) (xs : List Record) (p : Placed) (ps : List Placed) : Type 0 where
  here : record_fields x ≡ record_in group p
  others : AreTaken group xs ps

taken_both : (group : ℕ) (x : Record) (xs : List Record) (p : Placed) (ps : List Placed) → AreTaken group (x ∷ xs) (p ∷ ps) → Taken group x xs p ps
taken_both group x xs p ps are =
    let both : record_fields x ∷ map record_fields xs ≡ record_in group p ∷ map (record_in group) ps = are in
    record { here = cc; others = cc }

none_taken : (group : ℕ) (x : Record) (xs : List Record) → AreTaken group (x ∷ xs) [] → ⊥
none_taken group x xs are = let no_way : record_fields x ∷ map record_fields xs ≡ [] = are in cc

taken_none : (group : ℕ) (p : Placed) (ps : List Placed) → AreTaken group [] (p ∷ ps) → ⊥
taken_none group p ps are = let no_way : [] ≡ record_in group p ∷ map (record_in group) ps = are in cc

in_group : (group : ℕ) (xs : List Record) (ps : List Placed) → AreTaken group xs ps → All (λ (r : Record). r.group.0 ≡ group) xs
in_group group [] ps are = All-nil (λ (r : Record). r.group.0 ≡ group)
in_group group (x ∷ xs) [] are = absurd (none_taken group x xs are)
in_group group (x ∷ xs) (p ∷ ps) are =
    let t = taken_both group x xs p ps are in
    All-cons (λ (r : Record). r.group.0 ≡ group) x xs (ap (λ r. r.group) t.here) (in_group group xs ps t.others)

same_ops : (group : ℕ) (xs : List Record) (ps : List Placed) → AreTaken group xs ps → flat_map (λ (e : Entry). e.ops) (map (λ (p : Placed). entry_of_record p.logged) ps) ≡ ops_of_records xs
same_ops group [] [] are = refl
same_ops group [] (p ∷ ps) are = absurd (taken_none group p ps are)
same_ops group (x ∷ xs) [] are = absurd (none_taken group x xs are)
same_ops group (x ∷ xs) (p ∷ ps) are =
    let t = taken_both group x xs p ps are in
    let here : p.logged.ops ≡ x.ops = sym (ap (λ r. r.ops) t.here) in
    let rest = same_ops group xs ps t.others in
    λ i. here i ++ rest i

-- and the operations of a history's entries are those of the records
entries-ops : (ps : List Placed) → flat_map (λ (e : Entry). e.ops) (map (λ (p : Placed). entry_of_record p.logged) ps) ≡ ops_of_placed ps
entries-ops [] = refl
entries-ops (p ∷ ps) = ap (λ (l : List Op). p.logged.ops ++ l) (entries-ops ps)

abbrev estimate_in : Record → ℕ
estimate_in r = estimate_of (map shape_of r.ops)

abbrev estimate_placed : Placed → ℕ
estimate_placed p = estimate_of (map shape_of p.logged.ops)

same_estimate : (group : ℕ) (xs : List Record) (ps : List Placed) → AreTaken group xs ps → sum_by estimate_in xs ≡ placed_estimate ps
same_estimate group [] [] are = refl
same_estimate group [] (p ∷ ps) are = absurd (taken_none group p ps are)
same_estimate group (x ∷ xs) [] are = absurd (none_taken group x xs are)
same_estimate group (x ∷ xs) (p ∷ ps) are =
    let t = taken_both group x xs p ps are in
    let here : estimate_in x ≡ estimate_placed p = ap (λ (ops : List Op). estimate_of (map shape_of ops)) (ap (λ r. r.ops) t.here) in
    let rest = same_estimate group xs ps t.others in
    sum_by-cons estimate_in x xs ∙ (λ i. here i + rest i) ∙ sym (sum_by-cons estimate_placed p ps)

all_allowed : (xs : List Record) → All (λ (x : Record). AreOpsAllowed x.ops) xs → AreOpsAllowed (ops_of_records xs)
all_allowed [] all = All-nil IsOpAllowed
all_allowed (x ∷ xs) all =
    All-append IsOpAllowed x.ops (ops_of_records xs) (All-head (λ (r : Record). AreOpsAllowed r.ops) x xs all) (all_allowed xs (All-tail (λ (r : Record). AreOpsAllowed r.ops) x xs all))

module _ (size : ℕ) (u : Uberblock) (name : List ℕ) (tree : Tree) (chain : List LogPiece) (pool : ReplayedPool) (named : IsName name) (loaded : IsLoadedFor u (block_count size) tree chain)
    (r : IsReplayedPool size u.group name tree chain pool) where
  abbrev pub synced : Contents
  synced = contents_of pool.synced

  abbrev pub after : Contents
  after = patched_contents (patches_of pool.replayed.extents) (name_of pool.replayed.extents) synced

  abbrev pub records : List Record
  records = pool.replayed.records.items

  abbrev pub placed : List Placed
  placed = records_above u.group chain

  abbrev pub group : ℕ
  group = u.group + 4

  pub mine : IsLoadedFor u (block_count size) pool.synced.tree chain
  mine = subst (λ (t : Tree). IsLoadedFor u (block_count size) t chain) (sym r.tree_is) loaded

  all_in_group : All (λ (x : Record). x.group.0 ≡ group) records
  all_in_group = in_group group records placed r.replayed.records_are

  ops_are : pending_ops group records ≡ ops_of_records records
  ops_are = all_pending group records all_in_group

  -- what they change is what the records of the group do
  pub changes_are : ArePatchesOf (pending_ops group records) (patches_of pool.replayed.extents)
  changes_are = subst (λ (ops : List Op). ArePatchesOf ops (patches_of pool.replayed.extents)) (sym ops_are) r.replayed.patches

  pub ops_replayed : ops_of_placed placed ≡ pending_ops group records
  ops_replayed = sym (entries-ops placed) ∙ same_ops group records placed r.replayed.records_are ∙ sym ops_are

  leads : apply_all (pending_ops group records) synced ≡ Ok after
  leads = subst (λ (ops : List Op). apply_all ops synced ≡ Ok after) (same_ops group records placed r.replayed.records_are ∙ sym ops_are)
      (flat_replay (map (λ (p : Placed). entry_of_record p.logged) placed) synced after r.replayed.applied)

  chain_allowed : IsChainAllowed chain
  chain_allowed = All-weaker (IsSoundPiece (block_count size)) IsPieceAllowed (λ b is. is.allowed) chain loaded.sound

  pub bounded : IsBounded after
  bounded = replays_stay_bounded u.group chain synced after chain_allowed (record { name = subst IsName (sym r.name_is) named; objects = mine.bounded }) r.replayed.applied

  pub sized : AreSized after.objects
  sized n = sized_object (finite.get after.objects n) n (bounded.objects n)

  pub takes_place : TakesPlace (pending_ops group records) pool.synced.tree.entries.items synced after
  takes_place = allowed_ops_take_place (pending_ops group records) pool.synced.tree.entries.items synced after (subst AreOpsAllowed (sym ops_are) (all_allowed records r.replayed.allowed)) leads (λ n low. pool.synced.tree.sized n)

  pub estimate : estimate_of (map shape_of (pending_ops group records)) ≡ placed_estimate placed
  estimate = estimates_add group records all_in_group ∙ same_estimate group records placed r.replayed.records_are

  pub count : length records ≡ length placed
  count = sym (length-map records record_fields) ∙ ap (λ l. length l) r.replayed.records_are ∙ length-map placed (record_in group)
