-- The changes of groups, laid one over the other over the objects of the synced tree, are the contents.
use Rattle.std.proofs.Common.{◌≡◌, ℕ, zero, suc, ◌+◌, ◌<◌, ◌≤◌, List, Ok, refl, ap, sym, ◌∙◌, arith, ◌⊎◌, inl, inr}
use Rattle.std.specs.Prelude.{fold, flat_map}
use Rattle.std.specs.Ordering.{nat_cmp}
use Rattle.std.proofs.lemmas.Cmp.{nat_cmp_total}
use Rattle.std.proofs.lemmas.Bool.{cases_lt}
use Rattle.std.proofs.lemmas.Grind.{flat_map-append}
use Rattle.std.proofs.lemmas.List.Sums.{fold-append}
use Rattle.std.specs.FinMap as finite
use Rattle.std.specs.FinMap.{FinMap, same_map, nat_cmp-IsAntisymmetric}
use Rattle.base.specs.formats.Limits.{object_count}
use Rattle.base.specs.history.Contents.{Contents, object_after}
use Rattle.base.specs.history.History.{Entry, replay, entries_in, group_by_group}
use Rattle.base.specs.steps.Steps.{ops_of_group}
use Rattle.base.proofs.history.Cuts.{groups_give_contents}
use Rattle.base.proofs.history.Projections.{objects_replay}
use Rattle.extents.specs.Patches.{AreNumbered, ArePatchesOf, Patches, laid_over}
use Rattle.extents.proofs.LaidObjects.{get-laid_over, get-laid_past}
use Rattle.unsynced_extents.specs.Laws.{GroupsAreRead}
use Rattle.unsynced_extents.specs.Unsynced.{laid_groups}

-- the changes of some groups, laid one over the other
pub get-laid_groups : (count group : ℕ) (entries : List Entry) (patches : ℕ → Patches) (below : FinMap nat_cmp (List ℕ))
    → ((g : ℕ) → group ≤ g → g < group + count → ArePatchesOf (ops_of_group g entries) (patches g)) → (n : ℕ) → n < object_count
    → finite.get (laid_groups count group patches below) n
    ≡ fold (λ object op. object_after n op object) (finite.get below n) (flat_map (λ (e : Entry). e.ops) (group_by_group group count entries))
get-laid_groups zero group entries patches below are n h = refl
get-laid_groups (suc count) group entries patches below are n h =
    get-laid_groups count (suc group) entries patches (laid_over (patches group) below) (λ g from l. are g (omega arith) (omega arith)) n h
    ∙ ap (λ o. fold (λ object op. object_after n op object) o (flat_map (λ (e : Entry). e.ops) (group_by_group (suc group) count entries)))
    (get-laid_over (patches group) below n h ∙ are group (omega arith) (omega arith) n (finite.get below n))
    ∙ sym (fold-append (λ object op. object_after n op object) (finite.get below n) (ops_of_group group entries) (flat_map (λ (e : Entry). e.ops) (group_by_group (suc group) count entries)))
    ∙ ap (fold (λ object op. object_after n op object) (finite.get below n)) (sym (flat_map-append (λ (e : Entry). e.ops) (entries_in group entries) (group_by_group (suc group) count entries)))

get-laid_groups_past : (count group : ℕ) (patches : ℕ → Patches) (below : FinMap nat_cmp (List ℕ)) → AreNumbered below → AreNumbered (laid_groups count group patches below)
get-laid_groups_past zero group patches below numbered = numbered
get-laid_groups_past (suc count) group patches below numbered =
    get-laid_groups_past count (suc group) patches (laid_over (patches group) below) (get-laid_past (patches group) below)

-- Laid over the objects of the synced tree, the changes of the groups after it are the contents.
pub laid_groups_replay : (entries : List Entry) (count group : ℕ) (patches : ℕ → Patches) (tree now : Contents)
    → ((g : ℕ) → group ≤ g → g < group + count → ArePatchesOf (ops_of_group g entries) (patches g))
    → replay (group_by_group group count entries) tree ≡ Ok now → AreNumbered tree.objects → AreNumbered now.objects
    → laid_groups count group patches tree.objects ≡ now.objects
laid_groups_replay entries count group patches tree now are replays before after =
    same_map nat_cmp_total nat_cmp-IsAntisymmetric _ _ (λ n. at n (cases_lt n object_count))
  where
    at : (n : ℕ) → (n < object_count) ⊎ (object_count ≤ n) → finite.get (laid_groups count group patches tree.objects) n ≡ finite.get now.objects n
    at n (inl l) = get-laid_groups count group entries patches tree.objects are n l ∙ sym (objects_replay (group_by_group group count entries) tree now n replays)
    at n (inr g) = get-laid_groups_past count group patches tree.objects before n g ∙ sym (after n g)

-- the changes of the groups after the synced one, over its objects, are the contents
pub groups_are_read : GroupsAreRead
groups_are_read entries synced count base tree now patches history up_to replayed are before after =
    let g = groups_give_contents entries synced count base now history up_to in
    let same : tree ≡ g.0 = let e : Ok tree ≡ Ok g.0 = sym replayed ∙ g.1 in cc in
    laid_groups_replay entries count (synced + 1) patches tree now are (rw same g.2) before after
