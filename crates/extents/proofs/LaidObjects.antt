-- The objects that patches make of those below.
use Rattle.std.proofs.Common.{◌≡◌, ℕ, zero, suc, ◌<◌, ◌≤◌, ◌≢◌, List, [], ◌∷◌, Option, None, Ok, refl, ap, sym, ◌∙◌, arith, ◌⊎◌, inl, inr}
use Rattle.std.specs.Prelude.{fold}
use Rattle.std.specs.Ordering.{nat_cmp}
use Rattle.std.proofs.lemmas.Cmp.{nat_cmp_total}
use Rattle.std.proofs.lemmas.Bool.{cases_lt, cases_eq}
use Rattle.std.specs.FinMap as finite
use Rattle.std.specs.FinMap.{FinMap, get-empty, same_map, nat_cmp-IsAntisymmetric}
use Rattle.base.specs.formats.Limits.{object_count}
use Rattle.base.specs.history.Contents.{object_after, stored}
use Rattle.base.specs.history.History.{Entry, replay}
use Rattle.std.proofs.lemmas.List.{append-nil}
use Rattle.base.proofs.history.Objects.{get-stored_same, get-stored_other}
use Rattle.base.proofs.history.Projections.{objects_replay}
use Rattle.extents.specs.Laws.{GroupIsRead}
use Rattle.extents.specs.Patches.{Patches, AreNumbered, no_patch, patched, objects_up_to, laid_over}
use Rattle.extents.proofs.PatchedObjects.{patched_nothing}

-- the object of a number below the count, and none past it
pub get-objects_up_to : (count : ℕ) (object : ℕ → Option (List ℕ)) (n : ℕ) → n < count → finite.get (objects_up_to count object) n ≡ object n
unfolding objects_up_to
get-objects_up_to zero object n h = absurd (omega arith)
get-objects_up_to (suc count) object n h = go (get-objects_up_to count object n) (cases_eq n count)
  where
    go : (n < count → finite.get (objects_up_to count object) n ≡ object n) → (n ≡ count) ⊎ (n ≢ count)
        → finite.get (stored (objects_up_to count object) count (object count)) n ≡ object n
    go others (inl e) = rw e (get-stored_same (objects_up_to count object) count (object count))
    go others (inr e) = get-stored_other (objects_up_to count object) count (object count) n e ∙ others (omega arith)

pub get-objects_past : (count : ℕ) (object : ℕ → Option (List ℕ)) (n : ℕ) → count ≤ n → finite.get (objects_up_to count object) n ≡ None
unfolding objects_up_to
get-objects_past zero object n h = get-empty {X = List ℕ} nat_cmp n
get-objects_past (suc count) object n h =
    let e : n ≢ count = λ e. omega arith in
    get-stored_other (objects_up_to count object) count (object count) n e ∙ get-objects_past count object n (omega arith)

pub get-laid_over : (patches : Patches) (below : FinMap nat_cmp (List ℕ)) (n : ℕ) → n < object_count → finite.get (laid_over patches below) n ≡ patched (patches n) (finite.get below n)
get-laid_over patches below n h = get-objects_up_to object_count (λ n. patched (patches n) (finite.get below n)) n h

pub get-laid_past : (patches : Patches) (below : FinMap nat_cmp (List ℕ)) (n : ℕ) → object_count ≤ n → finite.get (laid_over patches below) n ≡ None
get-laid_past patches below n h = get-objects_past object_count (λ n. patched (patches n) (finite.get below n)) n h

-- patches that make the same of these objects, and such as leave them
pub laid_same : (patches others : Patches) (below : FinMap nat_cmp (List ℕ)) → ((n : ℕ) → patches n ≡ others n) → laid_over patches below ≡ laid_over others below
laid_same patches others below same = same_map nat_cmp_total nat_cmp-IsAntisymmetric _ _ (λ n. at n (cases_lt n object_count))
  where
    at : (n : ℕ) → (n < object_count) ⊎ (object_count ≤ n) → finite.get (laid_over patches below) n ≡ finite.get (laid_over others below) n
    at n (inl l) = get-laid_over patches below n l ∙ ap (λ p. patched p (finite.get below n)) (same n) ∙ sym (get-laid_over others below n l)
    at n (inr g) = get-laid_past patches below n g ∙ sym (get-laid_past others below n g)

pub laid_nothing : (patches : Patches) (below : FinMap nat_cmp (List ℕ)) → ((n : ℕ) → patches n ≡ no_patch) → AreNumbered below → laid_over patches below ≡ below
laid_nothing patches below nothing numbered = same_map nat_cmp_total nat_cmp-IsAntisymmetric _ _ (λ n. at n (cases_lt n object_count))
  where
    at : (n : ℕ) → (n < object_count) ⊎ (object_count ≤ n) → finite.get (laid_over patches below) n ≡ finite.get below n
    at n (inl l) = get-laid_over patches below n l ∙ ap (λ p. patched p (finite.get below n)) (nothing n) ∙ patched_nothing (finite.get below n)
    at n (inr g) = get-laid_past patches below n g ∙ sym (numbered n g)

-- The changes of operations, laid over the objects that they apply to, are the objects after them.
pub group_is_read : GroupIsRead
group_is_read ops patches before after are applied first last = same_map nat_cmp_total nat_cmp-IsAntisymmetric _ _ (λ n. at n (cases_lt n object_count))
  where
    entry : Entry
    entry = record { group = 0; tx = 0; ops = ops }

    replays : replay (entry ∷ []) before ≡ Ok after
    replays = rw applied refl

    at : (n : ℕ) → (n < object_count) ⊎ (object_count ≤ n) → finite.get (laid_over patches before.objects) n ≡ finite.get after.objects n
    at n (inl l) =
        get-laid_over patches before.objects n l ∙ are n (finite.get before.objects n)
        ∙ ap (fold (λ object op. object_after n op object) (finite.get before.objects n)) (sym (append-nil ops))
        ∙ sym (objects_replay (entry ∷ []) before after n replays)
    at n (inr g) = get-laid_past patches before.objects n g ∙ sym (last n g)
