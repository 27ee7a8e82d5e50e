-- The effects of steps keep the contents of the synced tree, and those that a running sync writes, exact.
use Rattle.std.proofs.Common.{◌≡◌, ℕ, zero, suc, ◌<◌, true, List, [], ◌++◌, ◌∷◌, map, refl, ap, sym, subst, ◌∙◌}
use Rattle.std.specs.Prelude.{Option, Some, None, Ok, slice_get, length, nat_lt, ◌+◌, ◌==◌}
use Rattle.std.specs.List.{list_all}
use Rattle.std.proofs.lemmas.Bool.{and_parts}
use Rattle.base.specs.kept.Imports.{IsImported}
use Rattle.base.specs.formats.Records.{is_content_allowed}
use Rattle.base.specs.formats.Uberblocks.{Uberblock}
use Rattle.base.specs.history.Contents.{Contents, length_of}
use Rattle.base.specs.history.Plans.{shape_of, is_shape_allowed}
use Rattle.base.specs.history.History.{Entry, IsHistory, entries_in, replay, run}
use Rattle.base.specs.history.Past.{Past, new_past}
use Rattle.base.specs.history.Sequences.{in_turn}
use Rattle.base.specs.steps.Exact.{IsBounded}
use Rattle.base.specs.steps.Tables.{AreTreesExact, AreTablesExplained, IsTreeOf}
use Rattle.base.specs.steps.Shown.{Shown, SyncPlan}
use Rattle.base.specs.steps.Steps.{IsReplayUpTo}
use Rattle.base.proofs.common.KeptLists.{Some-injective, at_filter}
use Rattle.base.proofs.common.Sequences.{parted}
use Rattle.base.proofs.history.Cuts.{trees_follow, up_to_push}
use Rattle.base.proofs.history.KeptContents.{operations_keep}

same_tree : (p q : Past) {group : ℕ} {c : Contents} {lengths : List (Option ℕ)} → IsTreeOf group p c lengths → IsTreeOf group (record q { base = p.base; entries = p.entries }) c lengths
same_tree p q y = record { replayed = y.replayed; bounded = y.bounded; lengths = y.lengths }

-- they stay exact where nothing of them changes
pub same_trees : (s t : Shown) (p q : Past) → AreTreesExact s p
    → AreTreesExact (record t { line = record t.line { synced = s.line.synced; syncing = s.line.syncing }; synced_contents = s.synced_contents; lengths = s.lengths; sync = s.sync }) (record q { base = p.base; entries = p.entries })
same_trees s t p q x = record { synced = same_tree p q x.synced; planned = λ group plan syncing running. same_tree p q (x.planned group plan syncing running) }

-- an entry above a group leaves what the group has left
pub push_tree : (group : ℕ) (p q : Past) (e : Entry) (c : Contents) (lengths : List (Option ℕ)) → group < e.group → IsTreeOf group p c lengths
    → IsTreeOf group (record q { base = p.base; entries = p.entries ++ e ∷ [] }) c lengths
push_tree group p q e c lengths above y = record {
  replayed = ap (λ es. replay es p.base) (up_to_push group p.entries e above) ∙ y.replayed;
  bounded = y.bounded;
  lengths = y.lengths;
}

-- an entry is added, above the synced group and the syncing one
pub commit_trees : (s t : Shown) (p q : Past) (e : Entry) → AreTreesExact s p → s.line.synced < e.group → ((group : ℕ) → s.line.syncing ≡ Some group → group < e.group)
    → AreTreesExact (record t { line = s.line; synced_contents = s.synced_contents; lengths = s.lengths; sync = s.sync }) (record q { base = p.base; entries = p.entries ++ e ∷ [] })
commit_trees s t p q e x above behind = record {
  synced = push_tree s.line.synced p q e s.synced_contents s.lengths above x.synced;
  planned = λ group plan syncing running. push_tree group p q e plan.contents plan.lengths (behind group syncing) (x.planned group plan syncing running);
}

-- entries within their limits keep contents within theirs
abbrev pub AreAllowedEntries : List Entry → Type 0
AreAllowedEntries entries = (i : ℕ) (e : Entry) → slice_get entries i ≡ Some e → (list_all is_shape_allowed (map shape_of e.ops) ≡ true) × (list_all is_content_allowed e.ops ≡ true)

bounded_replay : (entries : List Entry) (c d : Contents) → AreAllowedEntries entries → replay entries c ≡ Ok d → IsBounded c → IsBounded d
bounded_replay [] c d allowed h bounded = let same : c ≡ d = cc in subst IsBounded same bounded
bounded_replay (e ∷ entries) c d allowed h bounded =
    let p = parted (run e c) (in_turn run entries) d h in
    let one = allowed zero e refl in
    bounded_replay entries p.0 d (λ i f at. allowed (suc i) f at) p.2 (operations_keep e.ops c p.0 one.0 one.1 p.1 bounded)

-- as those of a pool are
pub explained-allowed : (s : Shown) (p : Past) → AreTablesExplained s p → AreAllowedEntries p.entries
explained-allowed s p x i e at =
    let allowed = x.exact.log.allowed i e at in
    ((and_parts (nat_lt 0 (length (map shape_of e.ops))) (list_all is_shape_allowed (map shape_of e.ops)) allowed.shapes).1, allowed.contents)

-- so what the next group leaves is within the limits
pub next_bounded : (p : Past) (synced : ℕ) (now tree after : Contents) → IsHistory p.entries p.base now → AreAllowedEntries p.entries → IsReplayUpTo synced p tree → IsBounded tree
    → IsReplayUpTo (synced + 1) p after → IsBounded after
next_bounded p synced now tree after history allowed replayed bounded reached =
    let f = trees_follow p.entries synced p.base now tree history replayed in
    let same : Ok f.0 ≡ Ok after = sym f.2 ∙ reached in
    bounded_replay (entries_in (synced + 1) p.entries) tree after
    (λ i e at. let found = at_filter (λ (x : Entry). x.group == synced + 1) p.entries i e at in allowed found.0 e found.1) (f.1 ∙ same) bounded

-- a sync of a group starts by a plan with its contents
pub start_trees : (s t : Shown) (p q : Past) (group : ℕ) (plan : SyncPlan) → AreTreesExact s p → IsTreeOf group p plan.contents plan.lengths
    → AreTreesExact (record t { line = record t.line { synced = s.line.synced; syncing = Some group }; synced_contents = s.synced_contents; lengths = s.lengths; sync = Some plan }) (record q { base = p.base; entries = p.entries })
start_trees s t p q group plan x y = record {
  synced = same_tree p q x.synced;
  planned = λ g other syncing running. subst (λ (h : ℕ). IsTreeOf h (record q { base = p.base; entries = p.entries }) other.contents other.lengths) (Some-injective syncing)
      (subst (λ (z : SyncPlan). IsTreeOf group (record q { base = p.base; entries = p.entries }) z.contents z.lengths) (Some-injective running) (same_tree p q y));
}

-- a step of it is counted
pub step_trees : (s t : Shown) (p q : Past) (plan : SyncPlan) (steps_left : ℕ) → AreTreesExact s p → s.sync ≡ Some plan
    → AreTreesExact (record t { line = s.line; synced_contents = s.synced_contents; lengths = s.lengths; sync = Some (record plan { steps_left = steps_left }) }) (record q { base = p.base; entries = p.entries })
step_trees s t p q plan steps_left x is = record {
  synced = same_tree p q x.synced;
  planned = λ group other syncing running. subst (λ (z : SyncPlan). IsTreeOf group (record q { base = p.base; entries = p.entries }) z.contents z.lengths) (Some-injective running)
      (same_tree p q (x.planned group plan syncing is));
}

-- and its end gives the tree the contents of its plan
pub sync_trees : (s t : Shown) (p q : Past) (group : ℕ) (plan : SyncPlan) → AreTreesExact s p → s.line.syncing ≡ Some group → s.sync ≡ Some plan
    → AreTreesExact (record t { line = record t.line { synced = group; syncing = None }; synced_contents = plan.contents; lengths = plan.lengths; sync = None }) (record q { base = p.base; entries = p.entries })
sync_trees s t p q group plan x syncing running = record {
  synced = same_tree p q (x.planned group plan syncing running);
  planned = λ g other none. absurd (let no_way : None ≡ Some g = none in cc);
}

-- a pool that was just imported has those of what it mounted
pub new_trees : (u : Uberblock) (blocks : ℕ) (contents : Contents) (created dirty_max : ℕ) (s : Shown) → IsImported u blocks contents dirty_max s → IsBounded contents → AreTreesExact s (new_past contents created dirty_max)
new_trees u blocks contents created dirty_max s i bounded = record {
  synced = record {
    replayed = ap (λ (c : Contents). Ok c) (sym i.synced_are);
    bounded = subst IsBounded (sym i.synced_are) bounded;
    lengths = λ n below. i.lengths n below ∙ ap (λ (d : Contents). length_of d n) (sym i.synced_are);
  };
  planned = λ group plan syncing running. absurd (let no_way : None ≡ Some plan = sym i.sync ∙ running in cc);
}
