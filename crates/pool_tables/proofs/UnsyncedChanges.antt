-- The changes of the unsynced groups, laid over the synced objects, beside the operations that are pending: at first,
-- while groups are opened and once the oldest one is synced.
use Rattle.std.proofs.Common.{◌≡◌, ◌∙◌, ℕ, ◌+◌, ◌<◌, ◌≤◌, ◌==◌, Bool, true, false, cond, List, [], ◌∷◌, filter, nat_lt, refl, ap, sym, subst, arith, ◌⊎◌, inl, inr}
use Rattle.std.proofs.lemmas.Bool.{cases_lt, eqb-true, lt-ltb, true≢false}
use Rattle.std.proofs.lemmas.List.Elements.{All-head, All-tail, All-weaker}
use Rattle.std.specs.FinMap as finite
use Rattle.std.specs.FinMap.{FinMap}
use Rattle.std.specs.List.{flat_map}
use Rattle.std.specs.Ordering.{nat_cmp}
use Rattle.std.specs.Prelude.{All, IfSome, None, Option, Some, fold, length, unwrap_or}
use Rattle.base.specs.declared.operation.Op.{Op}
use Rattle.base.specs.formats.Limits.{max_length, object_count}
use Rattle.base.specs.history.Contents.{Contents, name_given_by_all, object_after}
use Rattle.base.specs.steps.Groups.{IsLine, Line}
use Rattle.base.specs.steps.Logs.{Log}
use Rattle.intent_log.specs.RunLogs.{IsLogOf, records_after}
use Rattle.unsynced_extents.specs.declared.unsynced.UnsyncedExtents.{UnsyncedExtents}
use Rattle.extents.specs.Patches.{laid_over, no_patch, patched}
use Rattle.extents.specs.Synced.{patched_contents}
use Rattle.unsynced_extents.specs.Unsynced.{MovesUp, changes_at, laid_all, name_at, name_over}
use Rattle.extents.proofs.LaidObjects.{laid_nothing}
use Rattle.extents.proofs.LaidWithin.{stay_within}
use Rattle.extents.proofs.PatchedObjects.{patched_nothing}
use Rattle.unsynced_extents.proofs.UnsyncedGroups.{oldest_is_laid, oldest_name_is_laid}
use Rattle.contents.specs.declared.synced_tree.SyncedTree.{SyncedTree}
use Rattle.contents.specs.ContentsShown.{contents_of}
use Rattle.contents.specs.Judging.{with_name}
use Rattle.tree_blocks.specs.ListedObjects.{AreWithin}
use Rattle.throttle.proofs.SumLaws.{open_within}
use Rattle.records.specs.declared.record.Record.{Record}
use Rattle.tree_plans.specs.Marks.{pending_ops}
use Rattle.pool_tables.specs.Unsynced.{AreChangesOfUnsynced, AreNamesOfUnsynced, KeepsUnsynced}

-- where the open group is a later one, each pending transaction is still of a group up to it
stay_open : (before after : ℕ) (pending : List Record) → before ≤ after → All (λ (c : Record). c.group.0 ≤ before) pending → All (λ (c : Record). c.group.0 ≤ after) pending
stay_open before after pending later = All-weaker (λ (c : Record). c.group.0 ≤ before) (λ (c : Record). c.group.0 ≤ after) (λ c up_to. omega (arith, later, up_to)) pending

-- so all stays where the line moves on with the same synced group
pub moved_on : (old new : Line) (unsynced : List Record) (synced : SyncedTree) (changes : UnsyncedExtents) → (new.synced ≡ old.synced) × (old.open_group ≤ new.open_group)
    → KeepsUnsynced old unsynced synced changes → KeepsUnsynced new unsynced synced changes
moved_on old new unsynced synced changes (same, later) x = record {
  open_or_before = stay_open old.open_group new.open_group unsynced later x.open_or_before;
  within = x.within;
  changed = subst (λ (g : ℕ). AreChangesOfUnsynced g unsynced changes) (sym same) x.changed;
  named = subst (λ (g : ℕ). AreNamesOfUnsynced g unsynced changes) (sym same) x.named;
}

pub log_on : (old new : Line) (log : Log) → (new.synced ≡ old.synced) × (old.open_group ≤ new.open_group) → IsLogOf old.synced log → IsLogOf new.synced log
log_on old new log (same, later) x = subst (λ (g : ℕ). IsLogOf g log) (sym same) x

-- a group after those of all pending transactions has no operations pending
none_pending : (group : ℕ) (pending : List Record) → All (λ (c : Record). c.group.0 < group) pending → pending_ops group pending ≡ []
none_pending group [] low = refl
none_pending group (c ∷ cs) low = by (c.group.0 == group) refl (none_pending group cs (All-tail (λ (x : Record). x.group.0 < group) c cs low))
  where
    others : List Record
    others = filter (λ (x : Record). x.group.0 == group) cs

    by : (b : Bool) → (c.group.0 == group) ≡ b → pending_ops group cs ≡ [] → flat_map (λ (x : Record). x.ops) (cond b (c ∷ others) others) ≡ []
    by true is rest = absurd (let below = All-head (λ (x : Record). x.group.0 < group) c cs low in let same = eqb-true c.group.0 group is in omega (arith, below, same))
    by false is rest = rest

-- what passes a test among those that pass a weaker one
filter_inside : {X : Type 0} (p q : X → Bool) (xs : List X) → ((x : X) → p x ≡ true → q x ≡ true) → filter p (filter q xs) ≡ filter p xs
filter_inside p q [] inside = refl
filter_inside {X} p q (x ∷ xs) inside = by (q x) refl (p x) refl (filter_inside p q xs inside)
  where
    by : (b : Bool) → q x ≡ b → (a : Bool) → p x ≡ a → filter p (filter q xs) ≡ filter p xs → filter p (cond b (x ∷ filter q xs) (filter q xs)) ≡ cond a (x ∷ filter p xs) (filter p xs)
    by true kept true is rest = ap (λ (t : Bool). cond t (x ∷ filter p (filter q xs)) (filter p (filter q xs))) is ∙ ap (λ (l : List X). x ∷ l) rest
    by true kept false is rest = ap (λ (t : Bool). cond t (x ∷ filter p (filter q xs)) (filter p (filter q xs))) is ∙ rest
    by false dropped true is rest = absurd (true≢false (sym (inside x is) ∙ dropped))
    by false dropped false is rest = rest

-- once a group is synced, those after it have the operations that they had
later_ops : (group later : ℕ) (pending : List Record) → group < later → pending_ops later (records_after group pending) ≡ pending_ops later pending
later_ops group later pending below =
    ap (flat_map (λ (c : Record). c.ops)) (filter_inside (λ (c : Record). c.group.0 == later) (λ (c : Record). nat_lt group c.group.0) pending
    (λ c is. subst (λ (g : ℕ). nat_lt group g ≡ true) (sym (eqb-true c.group.0 later is)) (lt-ltb group later below)))

-- the groups at the places are those after the one that is synced then, and the last place has no changes
pub synced_changes : (synced group : ℕ) (pending : List Record) (old new : UnsyncedExtents) → group ≡ synced + 1 → AreChangesOfUnsynced synced pending old
    → All (λ (c : Record). c.group.0 ≤ synced + 3) pending → MovesUp old new → AreChangesOfUnsynced group (records_after group pending) new
synced_changes synced group pending old new next changed within moves place low n below =
    ap (λ p. patched p below) (moves.patches place n) ∙ at (cases_lt place 2) ∙ ap after (sym (later_ops group (group + 1 + place) pending (omega arith)))
  where
    after : List Op → Option (List ℕ)
    after ops = fold (λ object op. object_after n op object) below ops

    at : (place < 2) ⊎ (2 ≤ place) → patched (changes_at old (place + 1) n) below ≡ after (pending_ops (group + 1 + place) pending)
    at (inl moved) =
        let same : synced + 1 + (place + 1) ≡ group + 1 + place = omega (arith, next) in
        changed (place + 1) (omega (arith, moved)) n below ∙ ap (λ (g : ℕ). after (pending_ops g pending)) same
    at (inr last) =
        let is : place ≡ 2 = omega (arith, low, last) in
        ap (λ (k : ℕ). patched (changes_at old (k + 1) n) below) is ∙ patched_nothing below
        ∙ sym (ap after (none_pending (group + 1 + place) pending (All-weaker (λ (c : Record). c.group.0 ≤ synced + 3) (λ (c : Record). c.group.0 < group + 1 + place) (λ c up_to. omega (arith, up_to, next, is)) pending within)))

pub synced_names : (synced group : ℕ) (pending : List Record) (old new : UnsyncedExtents) → group ≡ synced + 1 → AreNamesOfUnsynced synced pending old
    → All (λ (c : Record). c.group.0 ≤ synced + 3) pending → MovesUp old new → AreNamesOfUnsynced group (records_after group pending) new
synced_names synced group pending old new next named within moves place low =
    moves.names place ∙ at (cases_lt place 2) ∙ ap (λ (ops : List Op). name_given_by_all ops None) (sym (later_ops group (group + 1 + place) pending (omega arith)))
  where
    at : (place < 2) ⊎ (2 ≤ place) → name_at old (place + 1) ≡ name_given_by_all (pending_ops (group + 1 + place) pending) None
    at (inl moved) =
        let same : synced + 1 + (place + 1) ≡ group + 1 + place = omega (arith, next) in
        named (place + 1) (omega (arith, moved)) ∙ ap (λ (g : ℕ). name_given_by_all (pending_ops g pending) None) same
    at (inr last) =
        let is : place ≡ 2 = omega (arith, low, last) in
        ap (λ (k : ℕ). name_at old (k + 1)) is
        ∙ sym (ap (λ (ops : List Op). name_given_by_all ops None) (none_pending (group + 1 + place) pending (All-weaker (λ (c : Record). c.group.0 ≤ synced + 3) (λ (c : Record). c.group.0 < group + 1 + place) (λ c up_to. omega (arith, up_to, next, is)) pending within)))

-- the syncing group is the one after the synced one
pub syncing_follows : (l : Line) (group : ℕ) → IsLine l → l.syncing ≡ Some group → group ≡ l.synced + 1
syncing_follows l group line is = subst (λ (o : Option ℕ). IfSome o (λ g. g ≡ l.synced + 1)) is line.syncing

-- at most three groups are unsynced, so each pending transaction is of one with a place
pub open_three : (l : Line) (pending : List Record) → IsLine l → All (λ (c : Record). c.group.0 ≤ l.open_group) pending → All (λ (c : Record). c.group.0 ≤ l.synced + 3) pending
open_three l pending line = stay_open l.open_group (l.synced + 3) pending (open_within l line)

-- at first no group gives a name
pub first_names : (changes : UnsyncedExtents) → ((place : ℕ) → name_at changes place ≡ None) → (synced : ℕ) → AreNamesOfUnsynced synced [] changes
first_names changes none synced place low = none place

pub first_name : (changes : UnsyncedExtents) → ((place : ℕ) → name_at changes place ≡ None) → (name : List ℕ) → name_over changes name ≡ name
first_name changes none name =
    ap (λ (o : Option (List ℕ)). unwrap_or o (unwrap_or (name_at changes 1) (unwrap_or (name_at changes 0) name))) (none 2)
    ∙ ap (λ (o : Option (List ℕ)). unwrap_or o (unwrap_or (name_at changes 0) name)) (none 1)
    ∙ ap (λ (o : Option (List ℕ)). unwrap_or o name) (none 0)

-- at first no group has changes, nor pending operations
module _ (changes : UnsyncedExtents) (none : (place n : ℕ) → changes_at changes place n ≡ no_patch) where
  pub first_changes : (synced : ℕ) → AreChangesOfUnsynced synced [] changes
  first_changes synced place low n below = ap (λ p. patched p below) (none place n) ∙ patched_nothing below

  -- and the objects are those of the tree
  pub first_objects : (objects : FinMap nat_cmp (List ℕ)) → AreWithin objects → laid_all changes objects ≡ objects
  first_objects objects within =
      let same : (place : ℕ) → laid_over (changes_at changes place) objects ≡ objects = λ place. laid_nothing (changes_at changes place) objects (none place) (λ n past. none_past n (finite.get objects n) (within n) past) in
      ap (λ (o : FinMap nat_cmp (List ℕ)). laid_over (changes_at changes 2) (laid_over (changes_at changes 1) o)) (same 0) ∙ ap (laid_over (changes_at changes 2)) (same 1) ∙ same 2
    where
      none_past : (n : ℕ) (o : Option (List ℕ)) → IfSome o (λ bytes. (n < object_count) × (length bytes ≤ max_length)) → object_count ≤ n → o ≡ None
      none_past n None within past = refl
      none_past n (Some bytes) within past = absurd (let low = within.0 in omega (arith, low, past))

-- objects within the limits stay so with the changes of each group laid over them
pub laid_stay_within : (changes : UnsyncedExtents) (objects : FinMap nat_cmp (List ℕ)) → AreWithin objects → AreWithin (laid_all changes objects)
laid_stay_within changes objects within =
    (stay_within changes.third).1 _ ((stay_within changes.second).1 _ ((stay_within changes.oldest).1 objects within))

-- The oldest group's changes were laid into the synced contents, and the others moved up.
module _ (old : UnsyncedExtents) (before after : SyncedTree) (laid : contents_of after ≡ patched_contents (changes_at old 0) (name_at old 0) (contents_of before)) where
  pub synced_within : AreWithin (contents_of before).objects → AreWithin (contents_of after).objects
  synced_within within = subst (λ (c : Contents). AreWithin c.objects) (sym laid) ((stay_within old.oldest).1 (contents_of before).objects within)

  -- the contents that are shown are those of before
  pub same_contents : (new : UnsyncedExtents) → MovesUp old new
      → with_name (laid_all new (contents_of after).objects) (name_over new after.name) ≡ with_name (laid_all old (contents_of before).objects) (name_over old before.name)
  same_contents new moves =
      ap (λ (c : Contents). with_name (laid_all new c.objects) (name_over new c.name)) laid
      ∙ (λ i. with_name (oldest_is_laid old new (contents_of before).objects moves i) (oldest_name_is_laid old new before.name moves i))
