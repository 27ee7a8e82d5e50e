-- The changes of the unsynced groups are those of their entries, and stay so with each entry and each sync.
use Rattle.std.proofs.Common.{◌≡◌, ℕ, ◌+◌, ◌≢◌, List, [], ◌∷◌, ◌++◌, Option, Some, None, true, false, refl, ap, sym, subst, ◌∙◌, arith, ◌⊎◌, inl, inr}
use Rattle.std.specs.Prelude.{cond, flat_map, ◌==◌}
use Rattle.std.specs.Option.{option_map_or}
use Rattle.std.proofs.lemmas.Bool.{cases_eq, eq-eqb, ne_eqb}
use Rattle.std.proofs.lemmas.Grind.{flat_map-append}
use Rattle.std.proofs.lemmas.List.{append-nil}
use Rattle.std.proofs.lemmas.List.Elements.{filter-append}
use Rattle.base.specs.history.Contents.{name_given_by_all}
use Rattle.base.specs.history.History.{Entry, entries_in}
use Rattle.base.proofs.history.Names.{given-append}
use Rattle.base.specs.steps.Steps.{ops_of_group}
use Rattle.extents.specs.declared.extents.Extents.{Extents}
use Rattle.unsynced_extents.specs.Laws.{AddedEntry, AreNamesAt, ArePatchesAt, LeftChanges, MovedGroups}
use Rattle.extents.specs.Patches.{ArePatchesOf, IsSized, Patch, no_patch}
use Rattle.unsynced_extents.specs.declared.unsynced.UnsyncedExtents.{UnsyncedExtents}
use Rattle.extents.specs.Tables.{IsSame, name_of, patches_of}
use Rattle.unsynced_extents.specs.Unsynced.{AppliesAt, KeepsOtherPlaces, MovesUp, changes_at, extents_at, name_at}
use Rattle.extents.proofs.LaidWithin.{patches_sized, sized_in}
use Rattle.extents.proofs.PatchedObjects.{patched_nothing}
use Rattle.extents.proofs.SamePatches.{changes_added, changes_left, same_patch}

-- the operations of a group, with an entry more
ops_with : (group : ℕ) (entries : List Entry) (entry : Entry)
    → ops_of_group group (entries ++ entry ∷ []) ≡ ops_of_group group entries ++ cond (entry.group == group) (entry.ops ++ []) []
ops_with group entries entry =
    ap (flat_map (λ (e : Entry). e.ops)) (filter-append (λ (e : Entry). e.group == group) entries (entry ∷ []))
    ∙ flat_map-append (λ (e : Entry). e.ops) (entries_in group entries) (entries_in group (entry ∷ []))
    ∙ ap (λ ops. ops_of_group group entries ++ ops) (go (entry.group == group))
  where
    go : (is : _) → flat_map (λ (e : Entry). e.ops) (cond is (entry ∷ []) []) ≡ cond is (entry.ops ++ []) []
    go true = refl
    go false = refl

-- the patches at each place are sized
pub sized_at : (e : Option Extents) (n : ℕ) → IsSized (option_map_or patches_of e (λ _. no_patch) n)
sized_at None n = sized_in None
sized_at (Some e) n = patches_sized e n

pub left_changes : LeftChanges
left_changes synced entries old new same = (
  λ are place low. changes_left (ops_of_group (synced + 1 + place) entries) (changes_at old place) (changes_at new place) (are place low) (same.patches place),
  λ are place low. same.names place ∙ are place low,
)

added_patches : (synced place : ℕ) (entries : List Entry) (entry : Entry) (old new : UnsyncedExtents) → entry.group ≡ synced + 1 + place
    → AppliesAt place entry.ops old new → KeepsOtherPlaces place old new → ArePatchesAt synced entries old → ArePatchesAt synced (entries ++ entry ∷ []) new
added_patches synced place entries entry old new group applied others are other low = go (cases_eq other place)
  where
    go : (other ≡ place) ⊎ (other ≢ place) → ArePatchesOf (ops_of_group (synced + 1 + other) (entries ++ entry ∷ [])) (changes_at new other)
    go (inl e) =
        let own : entry.group ≡ synced + 1 + other = rw e group in
        rw (ops_with (synced + 1 + other) entries entry, eq-eqb entry.group (synced + 1 + other) own, append-nil entry.ops)
        (changes_added (ops_of_group (synced + 1 + other) entries) entry.ops (changes_at old other) (changes_at new other) (sized_at (extents_at old other)) (are other low) (rw e applied.patches))
    go (inr e) =
        let apart : entry.group ≢ synced + 1 + other = λ is. e (let h : synced + 1 + place ≡ synced + 1 + other = sym group ∙ is in omega arith) in
        let as_before : (n : ℕ) → IsSame (changes_at new other n) (changes_at old other n)
        = λ n. subst (λ (x : Option Extents). IsSame (option_map_or patches_of x (λ _. no_patch) n) (changes_at old other n)) (sym (others other e)) (same_patch (changes_at old other n)) in
        rw (ops_with (synced + 1 + other) entries entry, ne_eqb entry.group (synced + 1 + other) apart, append-nil (ops_of_group (synced + 1 + other) entries))
        (changes_left (ops_of_group (synced + 1 + other) entries) (changes_at old other) (changes_at new other) (are other low) as_before)

added_names : (synced place : ℕ) (entries : List Entry) (entry : Entry) (old new : UnsyncedExtents) → entry.group ≡ synced + 1 + place
    → AppliesAt place entry.ops old new → KeepsOtherPlaces place old new → AreNamesAt synced entries old → AreNamesAt synced (entries ++ entry ∷ []) new
added_names synced place entries entry old new group applied others are other low = go (cases_eq other place)
  where
    go : (other ≡ place) ⊎ (other ≢ place) → name_at new other ≡ name_given_by_all (ops_of_group (synced + 1 + other) (entries ++ entry ∷ [])) None
    go (inl e) =
        let own : entry.group ≡ synced + 1 + other = rw e group in
        let named : name_at new other ≡ name_given_by_all entry.ops (name_at old other) = rw e applied.name in
        rw (ops_with (synced + 1 + other) entries entry, eq-eqb entry.group (synced + 1 + other) own, append-nil entry.ops, given-append (ops_of_group (synced + 1 + other) entries) entry.ops None)
        (named ∙ ap (name_given_by_all entry.ops) (are other low))
    go (inr e) =
        let apart : entry.group ≢ synced + 1 + other = λ is. e (let h : synced + 1 + place ≡ synced + 1 + other = sym group ∙ is in omega arith) in
        rw (ops_with (synced + 1 + other) entries entry, ne_eqb entry.group (synced + 1 + other) apart, append-nil (ops_of_group (synced + 1 + other) entries))
        (ap (λ (x : Option Extents). option_map_or name_of x None) (others other e) ∙ are other low)

pub added_entry : AddedEntry
added_entry synced place entries entry old new group applied others =
    (added_patches synced place entries entry old new group applied others, added_names synced place entries entry old new group applied others)

moved_patches : (synced : ℕ) (entries : List Entry) (old new : UnsyncedExtents) → ops_of_group (synced + 4) entries ≡ [] → MovesUp old new
    → ArePatchesAt synced entries old → ArePatchesAt (synced + 1) entries new
moved_patches synced entries old new none moved are place low = go (cases_eq place 2)
  where
    as_moved : (n : ℕ) → IsSame (changes_at new place n) (changes_at old (place + 1) n)
    as_moved n = subst (λ (p : Patch). IsSame p (changes_at old (place + 1) n)) (sym (moved.patches place n)) (same_patch (changes_at old (place + 1) n))

    go : (place ≡ 2) ⊎ (place ≢ 2) → ArePatchesOf (ops_of_group (synced + 1 + 1 + place) entries) (changes_at new place)
    go (inl e) =
        let last : synced + 1 + 1 + place ≡ synced + 4 = omega arith in
        rw (last, none) (changes_left [] (changes_at old (place + 1)) (changes_at new place) (rw e (λ n below. patched_nothing below)) as_moved)
    go (inr e) =
        let next : synced + 1 + 1 + place ≡ synced + 1 + (place + 1) = omega arith in
        rw next (changes_left (ops_of_group (synced + 1 + (place + 1)) entries) (changes_at old (place + 1)) (changes_at new place) (are (place + 1) (omega arith)) as_moved)

moved_names : (synced : ℕ) (entries : List Entry) (old new : UnsyncedExtents) → ops_of_group (synced + 4) entries ≡ [] → MovesUp old new
    → AreNamesAt synced entries old → AreNamesAt (synced + 1) entries new
moved_names synced entries old new none moved are place low = go (cases_eq place 2)
  where
    go : (place ≡ 2) ⊎ (place ≢ 2) → name_at new place ≡ name_given_by_all (ops_of_group (synced + 1 + 1 + place) entries) None
    go (inl e) =
        let last : synced + 1 + 1 + place ≡ synced + 4 = omega arith in
        rw (last, none) (moved.names place ∙ ap (λ (p : ℕ). name_at old (p + 1)) e)
    go (inr e) =
        let next : synced + 1 + 1 + place ≡ synced + 1 + (place + 1) = omega arith in
        rw next (moved.names place ∙ are (place + 1) (omega arith))

pub moved_groups : MovedGroups
moved_groups synced entries old new none moved = (moved_patches synced entries old new none moved, moved_names synced entries old new none moved)
