-- The changes of the unsynced groups, over the objects and the name of the synced tree, are the contents, before a
-- sync and after it.
use Rattle.std.proofs.Common.{◌≡◌, ℕ, zero, suc, ◌+◌, ◌-◌, ◌<◌, ◌≤◌, List, [], ◌++◌, refl, ap, sym, subst, ◌∙◌, arith}
use Rattle.std.specs.Prelude.{Option, None, Ok, flat_map, unwrap_or}
use Rattle.std.specs.Ordering.{nat_cmp}
use Rattle.std.specs.FinMap.{FinMap}
use Rattle.std.proofs.lemmas.Grind.{flat_map-append}
use Rattle.std.proofs.lemmas.List.{append-nil}
use Rattle.base.specs.declared.operation.Op.{Op}
use Rattle.base.specs.history.Contents.{Contents, name_given_by_all}
use Rattle.base.specs.history.History.{Entry, replay, entries_in, group_by_group}
use Rattle.base.specs.steps.Steps.{ops_of_group}
use Rattle.base.proofs.history.Cuts.{groups_give_contents}
use Rattle.base.proofs.history.Names.{given-append, given-over, name-replay}
use Rattle.unsynced_extents.specs.declared.unsynced.UnsyncedExtents.{UnsyncedExtents}
use Rattle.unsynced_extents.specs.Laws.{NamesAreRead, OldestIsLaid, OldestNameIsLaid, UnsyncedAreRead}
use Rattle.extents.specs.Patches.{ArePatchesOf, Patches, laid_over, no_patch}
use Rattle.extents.specs.Tables.{CanApplyAll, name_of, patches_of}
use Rattle.unsynced_extents.specs.Unsynced.{CanApplyAt, MovesUp, RoomMovesUp, changes_at, laid_all, laid_groups, name_at}
use Rattle.extents.proofs.LaidObjects.{get-laid_past, laid_nothing, laid_same}
use Rattle.unsynced_extents.proofs.LaidGroups.{groups_are_read}

-- the second group is the oldest, the third the second, and the third has no changes and no name
patches_up : (old new : UnsyncedExtents) → new.oldest ≡ old.second → new.second ≡ old.third → ((n : ℕ) → patches_of new.third n ≡ no_patch)
    → (place n : ℕ) → changes_at new place n ≡ changes_at old (place + 1) n
patches_up old new first second none zero n = ap (λ e. patches_of e n) first
patches_up old new first second none (suc zero) n = ap (λ e. patches_of e n) second
patches_up old new first second none (suc (suc zero)) n = none n
patches_up old new first second none (suc (suc (suc k))) n =
    let next : suc (suc (suc k)) + 1 ≡ suc (suc (suc (suc k))) = omega arith in rw next refl

names_up : (old new : UnsyncedExtents) → new.oldest ≡ old.second → new.second ≡ old.third → name_of new.third ≡ None → (place : ℕ) → name_at new place ≡ name_at old (place + 1)
names_up old new first second none zero = ap name_of first
names_up old new first second none (suc zero) = ap name_of second
names_up old new first second none (suc (suc zero)) = none
names_up old new first second none (suc (suc (suc k))) =
    let next : suc (suc (suc k)) + 1 ≡ suc (suc (suc (suc k))) = omega arith in rw next refl

pub moves_up : (old new : UnsyncedExtents) → new.oldest ≡ old.second → new.second ≡ old.third → ((n : ℕ) → patches_of new.third n ≡ no_patch) → name_of new.third ≡ None → MovesUp old new
moves_up old new first second none unnamed = record { patches = patches_up old new first second none; names = names_up old new first second unnamed }

-- so does their room
pub room_moves_up : (old new : UnsyncedExtents) → new.oldest ≡ old.second → new.second ≡ old.third → RoomMovesUp old new
room_moves_up old new first second zero ops can = subst (λ e. CanApplyAll e ops) (sym first) can
room_moves_up old new first second (suc zero) ops can = subst (λ e. CanApplyAll e ops) (sym second) can
room_moves_up old new first second (suc (suc n)) ops can =
    absurd (let next : suc (suc n) + 1 ≡ suc (suc (suc n)) = omega arith in
    let no_way : CanApplyAt (suc (suc (suc n))) old ops = rw next at can in no_way)

-- what all groups made over the tree, once the oldest group's changes are in it
pub oldest_is_laid : OldestIsLaid
oldest_is_laid old new below moved =
    let first : FinMap nat_cmp (List ℕ) = laid_over (changes_at old 0) below in
    let second : FinMap nat_cmp (List ℕ) = laid_over (changes_at old 1) first in
    let third : FinMap nat_cmp (List ℕ) = laid_over (changes_at old 2) second in
    ap (λ objects. laid_over (changes_at new 2) (laid_over (changes_at new 1) objects)) (laid_same (changes_at new 0) (changes_at old 1) first (moved.patches 0))
    ∙ ap (laid_over (changes_at new 2)) (laid_same (changes_at new 1) (changes_at old 2) second (moved.patches 1))
    ∙ laid_nothing (changes_at new 2) third (moved.patches 2) (get-laid_past (changes_at old 2) second)

pub oldest_name_is_laid : OldestNameIsLaid
oldest_name_is_laid old new below moved =
    let first : List ℕ = unwrap_or (name_at old 0) below in
    ap (λ (o : Option (List ℕ)). unwrap_or o (unwrap_or (name_at new 1) (unwrap_or (name_at new 0) first))) (moved.names 2)
    ∙ ap (λ (o : Option (List ℕ)). unwrap_or o (unwrap_or (name_at new 0) first)) (moved.names 1)
    ∙ ap (λ (o : Option (List ℕ)). unwrap_or (name_at old 2) (unwrap_or o first)) (moved.names 0)

-- the groups after the synced one, by their places
abbrev placed : ℕ → UnsyncedExtents → ℕ → Patches
placed synced e group = changes_at e (group - (synced + 1))

laid_by_place : (synced : ℕ) (e : UnsyncedExtents) (below : FinMap nat_cmp (List ℕ)) → laid_groups 3 (synced + 1) (placed synced e) below ≡ laid_all e below
laid_by_place synced e below =
    let first : (synced + 1) - (synced + 1) ≡ 0 = omega arith in
    let second : suc (synced + 1) - (synced + 1) ≡ 1 = omega arith in
    let third : suc (suc (synced + 1)) - (synced + 1) ≡ 2 = omega arith in
    ap (λ p. laid_over (placed synced e (suc (suc (synced + 1)))) (laid_over (placed synced e (suc (synced + 1))) (laid_over (changes_at e p) below))) first
    ∙ ap (λ p. laid_over (placed synced e (suc (suc (synced + 1)))) (laid_over (changes_at e p) (laid_over (changes_at e 0) below))) second
    ∙ ap (λ p. laid_over (changes_at e p) (laid_over (changes_at e 1) (laid_over (changes_at e 0) below))) third

pub unsynced_are_read : UnsyncedAreRead
unsynced_are_read entries synced base tree now e history up_to replayed are before after =
    sym (laid_by_place synced e tree.objects) ∙ groups_are_read entries synced 3 base tree now (placed synced e) history up_to replayed of_group before after
  where
    of_group : (g : ℕ) → synced + 1 ≤ g → g < synced + 1 + 3 → ArePatchesOf (ops_of_group g entries) (placed synced e g)
    of_group g from below =
        let same : synced + 1 + (g - (synced + 1)) ≡ g = omega arith in
        subst (λ h. ArePatchesOf (ops_of_group h entries) (placed synced e g)) same (are (g - (synced + 1)) (omega arith))

-- The name that three groups give one after the other, and so the entries of all of them in turn.
pub names_are_read : NamesAreRead
names_are_read entries synced base tree now e history up_to replayed are =
    let g = groups_give_contents entries synced 3 base now history up_to in
    let same : tree ≡ g.0 = let both : Ok tree ≡ Ok g.0 = sym replayed ∙ g.1 in cc in
    let whole : replay (group_by_group (synced + 1) 3 entries) tree ≡ Ok now = subst (λ (c : Contents). replay (group_by_group (synced + 1) 3 entries) c ≡ Ok now) (sym same) g.2 in
    sym (name-replay (group_by_group (synced + 1) 3 entries) None tree.name tree now refl whole
    ∙ ap (λ (given : Option (List ℕ)). unwrap_or given tree.name) in_turn
    ∙ given-over third (name_given_by_all second (name_given_by_all first None)) tree.name
    ∙ ap (unwrap_or (name_given_by_all third None)) (given-over second (name_given_by_all first None) tree.name)
    ∙ ap (λ (given : Option (List ℕ)). unwrap_or given (unwrap_or (name_given_by_all second None) (unwrap_or (name_given_by_all first None) tree.name))) (sym (at 2 third (omega arith) refl))
    ∙ ap (λ (given : Option (List ℕ)). unwrap_or (name_at e 2) (unwrap_or given (unwrap_or (name_given_by_all first None) tree.name))) (sym (at 1 second (omega arith) refl))
    ∙ ap (λ (given : Option (List ℕ)). unwrap_or (name_at e 2) (unwrap_or (name_at e 1) (unwrap_or given tree.name))) (sym (at 0 first (omega arith) refl)))
  where
    first : List Op
    first = ops_of_group (synced + 1 + 0) entries

    second : List Op
    second = ops_of_group (synced + 1 + 1) entries

    third : List Op
    third = ops_of_group (synced + 1 + 2) entries

    at : (place : ℕ) (ops : List Op) → place < 3 → ops ≡ ops_of_group (synced + 1 + place) entries → name_at e place ≡ name_given_by_all ops None
    at place ops low is = are place low ∙ ap (λ (l : List Op). name_given_by_all l None) (sym is)

    of : List Entry → List Op
    of es = flat_map (λ (x : Entry). x.ops) es

    in_turn : name_given_by_all (of (group_by_group (synced + 1) 3 entries)) None ≡ name_given_by_all third (name_given_by_all second (name_given_by_all first None))
    in_turn =
        let one : synced + 1 + 0 ≡ synced + 1 = omega arith in
        let two : synced + 1 + 1 ≡ suc (synced + 1) = omega arith in
        let three : synced + 1 + 2 ≡ suc (suc (synced + 1)) = omega arith in
        ap (λ (l : List Op). name_given_by_all l None)
        (flat_map-append (λ (x : Entry). x.ops) (entries_in (synced + 1) entries) (group_by_group (suc (synced + 1)) 2 entries)
        ∙ ap (λ (l : List Op). ops_of_group (synced + 1) entries ++ l) (flat_map-append (λ (x : Entry). x.ops) (entries_in (suc (synced + 1)) entries) (group_by_group (suc (suc (synced + 1))) 1 entries)
        ∙ ap (λ (l : List Op). ops_of_group (suc (synced + 1)) entries ++ l) (flat_map-append (λ (x : Entry). x.ops) (entries_in (suc (suc (synced + 1))) entries) [] ∙ append-nil (ops_of_group (suc (suc (synced + 1))) entries))))
        ∙ given-append (ops_of_group (synced + 1) entries) (ops_of_group (suc (synced + 1)) entries ++ ops_of_group (suc (suc (synced + 1))) entries) None
        ∙ given-append (ops_of_group (suc (synced + 1)) entries) (ops_of_group (suc (suc (synced + 1))) entries) (name_given_by_all (ops_of_group (synced + 1) entries) None)
        ∙ ap (λ (g : ℕ). name_given_by_all (ops_of_group (suc (suc (synced + 1))) entries) (name_given_by_all (ops_of_group (suc (synced + 1)) entries) (name_given_by_all (ops_of_group g entries) None))) (sym one)
        ∙ ap (λ (g : ℕ). name_given_by_all (ops_of_group (suc (suc (synced + 1))) entries) (name_given_by_all (ops_of_group g entries) (name_given_by_all first None))) (sym two)
        ∙ ap (λ (g : ℕ). name_given_by_all (ops_of_group g entries) (name_given_by_all second (name_given_by_all first None))) (sym three)
