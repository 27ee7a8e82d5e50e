-- What a walk plans, step by step.
use Rattle.std.proofs.Common.{◌≡◌, ◌≢◌, ◌==◌, ℕ, zero, suc, ◌+◌, ◌<◌, ◌⊎◌, inl, inr, Bool, true, false, not, cond, List, [], ◌∷◌, ◌++◌, length, Option, Ordering, Some, None, refl, sym, ◌∙◌, ap, arith}
use Rattle.std.specs.Prelude.{slice_get, slice_index_or, is_some, unwrap_or, All, IsTrue}
use Rattle.std.specs.Map.{lookup}
use Rattle.std.specs.BTreeMap as tree
use Rattle.std.specs.BTreeMap.{BTreeMap, is_at}
use Rattle.std.specs.Ordering.{is_eq, nat_cmp}
use Rattle.std.specs.FinMap as finite
use Rattle.std.specs.FinMap.{FinMap}
use Rattle.std.specs.FinSet.{FinSet}
use Rattle.std.proofs.lemmas.Bool.{eq-eqb, eqb-true, ne_eqb}
use Rattle.base.specs.declared.pointer.Pointer.{Pointer}
use Rattle.base.specs.declared.names.ObjectId.{ObjectId}
use Rattle.base.specs.declared.record_state.RecordState.{RecordState}
use Rattle.base.specs.formats.Limits.{object_count}
use Rattle.base.specs.formats.Fields.{no_pointer}
use Rattle.base.specs.tree.Places.Place.{Directory}
use Rattle.tree_blocks.specs.declared.tree.ObjectEntry.{ObjectEntry}
use Rattle.tree_plans.specs.declared.changes.ObjectChanges.{ObjectChanges}
use Rattle.tree_blocks.specs.Pointers.{ObjectPointers, pointers_of_entry}
use Rattle.tree_plans.specs.Pointers.{IsPut, entry_of}
use Rattle.tree_plans.specs.Changes.{has_two_levels}
use Rattle.tree_plans.specs.Plans.{Progress, Goes, FreesOnly, PlaceFrees, ObjectFrees, IsAmong, IsOf, replaces}
use Rattle.tree_plans.specs.Walks.{AreDirectoriesPlanned, AreEntriesWritten, AreObjectsPlanned, DirectoriesFree, IsDirectoryPlanned, IsOfDirectory, IsOfObject, IsPlannedFrom, ObjectsFree, directory_state, root_state}
use Rattle.tree_plans.proofs.Progress.{become_stays, each_push, object_stays}

-- what is pushed is what was there, or the new one
pub push_cases : {A : Type 0} (xs : List A) (a b : A) (i : ℕ) → slice_get (xs ++ a ∷ []) i ≡ Some b → (slice_get xs i ≡ Some b) ⊎ (a ≡ b)
push_cases [] a b zero e = inr (cc)
push_cases [] a b (suc i) e = absurd (cc)
push_cases (x ∷ xs) a b zero e = inl e
push_cases (x ∷ xs) a b (suc i) e = push_cases xs a b i e

pub some_either : {A : Type 0} (b : Bool) (a : A) (o : Option A) → (b ≡ true) ⊎ (is_some o ≡ true) → is_some (cond b (Some a) o) ≡ true
some_either true a o e = refl
some_either false a o (inl e) = absurd (cc)
some_either false a o (inr e) = e

module _ {free : FinSet nat_cmp} {s t : Progress} (maps : ℕ → ObjectPointers) (after : FinMap nat_cmp (List ℕ)) (objects : List (ObjectId × ObjectChanges)) where
  pub from_stays : (n : ℕ) (m : ObjectEntry) → Goes free s t → IsPlannedFrom s maps after objects n m → IsPlannedFrom t maps after objects n m
  from_stays n m g f = record {
    low = f.low;
    changes = f.changes;
    changes_are = f.changes_are;
    old = f.old;
    old_is = f.old_is;
    planned = object_stays n (unwrap_or (finite.get after n) []) (has_two_levels (finite.get after n)) f.changes f.old (pointers_of_entry m) g f.planned;
    named = f.named;
    length = f.length;
  }

  pub objects_stay : (done : List (ObjectId × ObjectChanges)) (planned : List (ObjectId × ObjectEntry)) → Goes free s t → AreObjectsPlanned s maps after objects done planned → AreObjectsPlanned t maps after objects done planned
  objects_stay done planned g a = record { each = λ n m e. from_stays n m g (a.each n m e); all = a.all }

-- before the first object none is planned
pub none_planned : (s : Progress) (maps : ℕ → ObjectPointers) (after : FinMap nat_cmp (List ℕ)) (objects : List (ObjectId × ObjectChanges)) (planned : List (ObjectId × ObjectEntry)) → planned ≡ []
    → AreObjectsPlanned s maps after objects [] planned
none_planned s maps after objects planned empty = record {
  each = λ n e there. absurd (let no : None ≡ Some e = sym (ap (λ (l : List (ObjectId × ObjectEntry)). entry_of l n) empty) ∙ there in cc);
  all = λ i id changes at low. absurd (cc);
}

-- an object that has no place in the tree is gone over
pub object_passed : (s : Progress) (maps : ℕ → ObjectPointers) (after : FinMap nat_cmp (List ℕ)) (objects done : List (ObjectId × ObjectChanges)) (planned : List (ObjectId × ObjectEntry)) (id : ObjectId) (changes : ObjectChanges)
    → (id.0 < object_count → ⊥) → AreObjectsPlanned s maps after objects done planned → AreObjectsPlanned s maps after objects (done ++ (id, changes) ∷ []) planned
object_passed s maps after objects done planned id changes none a = record {
  each = a.each;
  all = λ i other more at low. elim (push_cases done (id, changes) (other, more) i at) [
    | inl before ↦ a.all i other more before low
    | inr e ↦
        let same : id ≡ other = ap (λ (p : ObjectId × ObjectChanges). p.0) e in
        absurd (none (rw same low))
  ];
}

-- an object is planned
pub object_put : {free : FinSet nat_cmp} {s t : Progress} (maps : ℕ → ObjectPointers) (after : FinMap nat_cmp (List ℕ)) (objects done : List (ObjectId × ObjectChanges)) (old new : List (ObjectId × ObjectEntry)) (id : ObjectId) (changes : ObjectChanges) (m : ObjectEntry)
    → Goes free s t → IsPut old id m new → IsPlannedFrom t maps after objects id.0 m → AreObjectsPlanned s maps after objects done old → AreObjectsPlanned t maps after objects (done ++ (id, changes) ∷ []) new
object_put {free} {s} {t} maps after objects done old new id changes m g put here a = record {
  each = λ n other e. found n other (id.0 == n) refl (sym (put n) ∙ e);
  all = λ i other more at low. ap is_some (put other.0) ∙ some_either (id.0 == other.0) m (entry_of old other.0)
      (elim (push_cases done (id, changes) (other, more) i at) [
        | inl before ↦ inr (a.all i other more before low)
        | inr e ↦ inl (eq-eqb id.0 other.0 (ap (λ (p : ObjectId × ObjectChanges). p.0.0) e))
      ]);
}
  where
    found : (n : ℕ) (other : ObjectEntry) (b : Bool) → (id.0 == n) ≡ b → cond b (Some m) (entry_of old n) ≡ Some other → IsPlannedFrom t maps after objects n other
    found n other true e is =
        let same : id.0 ≡ n = eqb-true id.0 n e in
        let m_is : m ≡ other = cc in
        rw (← same, ← m_is) here
    found n other false e is = from_stays maps after objects n other g (a.each n other is)

pub objects_free_put : (first freed released : List ℕ) (maps : ℕ → ObjectPointers) (after : FinMap nat_cmp (List ℕ)) (objects : List (ObjectId × ObjectChanges)) (old new : List (ObjectId × ObjectEntry)) (id : ObjectId) (changes : ObjectChanges) (was : ObjectPointers) (m : ObjectEntry)
    → IsPut old id m new → id.0 < object_count → entry_of objects id.0 ≡ Some changes → maps id.0 ≡ was → ObjectFrees freed released (has_two_levels (finite.get after id.0)) changes was
    → ObjectsFree first freed maps after objects old → ObjectsFree first released maps after objects new
objects_free_put first freed released maps after objects old new id changes was m put low changes_are was_is more frees address among =
    elim (more address among) [
      | inl before ↦ elim (frees address before) [
        | inl at_first ↦ inl at_first
        | inr of ↦ inr (record {
          number = of.number;
          low = of.low;
          there = ap is_some (put of.number) ∙ some_either (id.0 == of.number) m (entry_of old of.number) (inr of.there);
          changes = of.changes;
          changes_are = of.changes_are;
          old = of.old;
          old_is = of.old_is;
          is_of = of.is_of;
        })
      ]
      | inr here ↦ inr (record {
        number = id.0;
        low = low;
        there = ap is_some (put id.0) ∙ some_either (id.0 == id.0) m (entry_of old id.0) (inl (eq-eqb id.0 id.0 refl));
        changes = changes;
        changes_are = changes_are;
        old = was;
        old_is = was_is;
        is_of = here;
      })
    ]

-- directories
pub directories_stay : {free : FinSet nat_cmp} {s t : Progress} (below : ℕ → Pointer) (planned : List (ObjectId × ObjectEntry)) (after : FinMap nat_cmp (List ℕ)) (objects : List (ObjectId × ObjectChanges)) (old : List Pointer) (count : ℕ) (new : List Pointer)
    → Goes free s t → AreDirectoriesPlanned s below planned after objects old count new → AreDirectoriesPlanned t below planned after objects old count new
directories_stay below planned after objects old count new g each d low =
    become_stays (Directory d) (directory_state objects after d) (slice_index_or old d no_pointer) (slice_index_or new d no_pointer) (AreEntriesWritten below planned after d 63) g (each d low)

pub directories_push : {free : FinSet nat_cmp} {s t : Progress} (below : ℕ → Pointer) (planned : List (ObjectId × ObjectEntry)) (after : FinMap nat_cmp (List ℕ)) (objects : List (ObjectId × ObjectChanges)) (old : List Pointer) (i : ℕ) (directories : List Pointer) (state : RecordState) (new : Pointer)
    → Goes free s t → length directories ≡ i → state ≡ directory_state objects after i → AreDirectoriesPlanned s below planned after objects old i directories
    → IsDirectoryPlanned t below planned after i state (slice_index_or old i no_pointer) new → AreDirectoriesPlanned t below planned after objects old (i + 1) (directories ++ new ∷ [])
directories_push {s = s} {t = t} below planned after objects old i directories state new g long is each here =
    each_push (λ d p. IsDirectoryPlanned t below planned after d (directory_state objects after d) (slice_index_or old d no_pointer) p) directories new no_pointer i long
    (directories_stay below planned after objects old i directories g each) (rw (← is) here)

pub directories_free_push : (first old new : List ℕ) (objects : List (ObjectId × ObjectChanges)) (after : FinMap nat_cmp (List ℕ)) (was : List Pointer) (i : ℕ) (state : RecordState) → state ≡ directory_state objects after i
    → DirectoriesFree first old objects after was i → PlaceFrees old new state (slice_index_or was i no_pointer) → DirectoriesFree first new objects after was (i + 1)
directories_free_push first old new objects after was i state is frees more address among =
    elim (more address among) [
      | inl before ↦ elim (frees address before) [ inl at_first ↦ inl at_first | inr of ↦ inr (record { number = of.number; low = (let low = of.low in omega arith); replaced = of.replaced; is_of = of.is_of }) ]
      | inr here ↦ inr (record { number = i; low = omega arith; replaced = ap replaces (sym is) ∙ here.0; is_of = here.1 })
    ]

pub frees_weaker : (old new : List ℕ) (was : Pointer) (state : RecordState) → replaces state ≡ true → FreesOnly old new was → PlaceFrees old new state was
frees_weaker old new was state is only address among = elim (only address among) [ inl before ↦ inl before | inr of ↦ inr (is, of) ]

-- what comes back of a whole walk
pub walk_frees : (f0 f1 f2 f3 : List ℕ) (maps : ℕ → ObjectPointers) (objects : List (ObjectId × ObjectChanges)) (after : FinMap nat_cmp (List ℕ)) (planned : List (ObjectId × ObjectEntry)) (was : List Pointer) (root : Pointer)
    → f0 ≡ [] → ObjectsFree f0 f1 maps after objects planned → DirectoriesFree f1 f2 objects after was 84 → PlaceFrees f2 f3 (root_state objects after) root
    → (address : ℕ) → IsAmong f3 address → IsOfObject maps after objects planned address ⊎ (IsOfDirectory objects after was 84 address ⊎ ((replaces (root_state objects after) ≡ true) × IsOf root address))
walk_frees f0 f1 f2 f3 maps objects after planned was root start one two three address among =
    elim (three address among) [
      | inr here ↦ inr (inr here)
      | inl before ↦ elim (two address before) [
        | inr of ↦ inr (inl of)
        | inl earlier ↦ elim (one address earlier) [ inl none ↦ absurd (nothing none.0 none.1) | inr of ↦ inl of ]
      ]
    ]
  where
    nothing : (i : ℕ) → slice_get f0 i ≡ Some address → ⊥
    nothing i e = let at : slice_get [] i ≡ Some address = rw start at e in absurd (cc)

-- an element that a slice gives, whatever is told if there is none
pub at_any : {A : Type 0} (xs : List A) (i : ℕ) (x d : A) → i < length xs → x ≡ slice_index_or xs i x → x ≡ slice_index_or xs i d
at_any [] i x d low is = absurd (omega arith)
at_any (a ∷ xs) zero x d low is = is
at_any (a ∷ xs) (suc i) x d low is = at_any xs i x d (omega arith) is

pub get_at : {A : Type 0} (xs : List A) (i : ℕ) (x : A) → i < length xs → x ≡ slice_index_or xs i x → slice_get xs i ≡ Some x
get_at [] i x low is = absurd (omega arith)
get_at (a ∷ xs) zero x low is = ap Some (sym is)
get_at (a ∷ xs) (suc i) x low is = get_at xs i x (omega arith) is

-- an entry that comes next among all of them
pub next_of : {A : Type 0} (P : A → Type 0) (all done rest : List A) (e : A) → all ≡ done ++ (e ∷ rest) → All P all → P e
next_of {A} P all done rest e split holds =
    let here : slice_index_or all (length done) e ≡ e = rw split (behind done) in
    let low : length done < length all = rw split (longer done) in
    rw here at (holds (length done) e low)
  where
    behind : (xs : List A) → slice_index_or (xs ++ (e ∷ rest)) (length xs) e ≡ e
    behind [] = refl
    behind (x ∷ xs) = behind xs

    longer : (xs : List A) → length xs < length (xs ++ (e ∷ rest))
    longer [] = omega arith
    longer (x ∷ xs) = let h = longer xs in omega arith

-- a list is empty or not
pub not-is_empty : (n : ℕ) (b : Bool) → (IsTrue b → n ≡ 0) × (n ≡ 0 → IsTrue b) → not b ≡ not (n == 0)
not-is_empty n true iff = let none : n ≡ 0 = iff.0 refl in rw none refl
not-is_empty n false iff = elim (n == 0) as (λ t. (n == 0) ≡ t → true ≡ not t) [ true ↦ λ e. absurd (let h : IsTrue false = iff.1 (eqb-true n 0 e) in cc) | false ↦ λ e. refl ] refl

-- entries by number are those that the map has
lookup_same : {X : Type 0} (f g : ObjectId → Bool) → ((id : ObjectId) → f id ≡ g id) → (es : List (ObjectId × X)) → lookup f es ≡ lookup g es
lookup_same f g same [] = refl
lookup_same f g same (e ∷ es) = rw (same e.0, lookup_same f g same es) refl

module _ (R : ObjectId → ObjectId → Ordering) (ties : (a b : ObjectId) → is_eq (R a b) ≡ (a.0 == b.0)) where
  pub entry_of-get : {X : Type 0} (m : BTreeMap ObjectId X) (q : ObjectId) → tree.get R m q ≡ entry_of m.entries q.0
  entry_of-get m q = lookup_same (is_at (R q)) (λ id. q.0 == id.0) (ties q) m.entries

  pub put_of : {X : Type 0} (old new : BTreeMap ObjectId X) (id : ObjectId) (m : X) → ((q : ObjectId) → tree.get R new q ≡ cond (is_at (R id) q) (Some m) (tree.get R old q)) → IsPut old.entries id m new.entries
  put_of old new id m updates n =
      let q : ObjectId = record { 0 = n } in
      sym (entry_of-get new q) ∙ updates q ∙ ap (λ b. cond b (Some m) (tree.get R old q)) (ties id q) ∙ ap (λ o. cond (id.0 == n) (Some m) o) (entry_of-get old q)

  pub taken_of : {X : Type 0} (old : BTreeMap ObjectId X) (id : ObjectId) (m : X) → Some m ≡ tree.get R old id → entry_of old.entries id.0 ≡ Some m
  taken_of old id m is = sym (is ∙ entry_of-get old id)

  pub left_of : {X : Type 0} (old new : BTreeMap ObjectId X) (id : ObjectId) → ((q : ObjectId) → tree.get R new q ≡ cond (is_at (R id) q) None (tree.get R old q))
      → (n : ℕ) → n ≢ id.0 → entry_of new.entries n ≡ entry_of old.entries n
  left_of old new id updates n other =
      let q : ObjectId = record { 0 = n } in
      let apart : is_at (R id) q ≡ false = ties id q ∙ ne_eqb id.0 n (λ e. other (sym e)) in
      sym (entry_of-get new q) ∙ updates q ∙ ap (λ b. cond b None (tree.get R old q)) apart ∙ entry_of-get old q

  pub found_of : (m : BTreeMap ObjectId ObjectChanges) → All (λ (e : ObjectId × ObjectChanges). tree.get R m e.0 ≡ Some e.1) m.entries → All (λ (e : ObjectId × ObjectChanges). entry_of m.entries e.0.0 ≡ Some e.1) m.entries
  found_of m all k d low = sym (entry_of-get m (slice_index_or m.entries k d).0) ∙ all k d low

pub not_empty : {A : Type 0} (done : List A) (e : A) (rest : List A) → done ++ (e ∷ rest) ≡ [] → ⊥
not_empty [] e rest is = absurd (cc)
not_empty (x ∷ done) e rest is = absurd (cc)
