-- The places of held locks show those that are held: an emptied place is one lock less, and a sweep takes none away.
use Rattle.std.proofs.Common.{◌≡◌, ℕ, zero, suc, ◌+◌, ◌-◌, ◌*◌, ◌<◌, Bool, true, false, cond, List, [], ◌∷◌, ◌++◌, length, filter, refl, ap, sym, subst, ◌∙◌, arith, inl, inr, MutBor}
use Rattle.std.specs.Prelude.{Option, Some, None, IsSome, is_some, slice_get, nat_eq}
use Rattle.std.specs.Option.{option_copied_mut}
use Rattle.std.specs.Map.{lookup, remove_entry, set_value}
use Rattle.std.proofs.lemmas.Bool.{cases_eq, eq-eqb, ne_eqb}
use Rattle.std.proofs.lemmas.List.{length_push}
use Rattle.std.proofs.lemmas.Option.{slice_get_within}
use Rattle.base.specs.declared.names.LockId.{LockId}
use Rattle.base.specs.formats.Limits.{max_locks}
use Rattle.base.proofs.common.KeptLists.{at_filter, none_at, pair_filter, push-cases, Some-injective}
use Rattle.range_locks.specs.declared.held.HeldLock.{HeldLock}
use Rattle.range_locks.specs.Table.{ArePlaces, held_in, with_place}

abbrev Place : Type 0
Place = LockId × Option HeldLock

-- whether a key is of a name
abbrev pub is_key : ℕ → LockId → Bool
is_key id k = nat_eq id k.0

-- the lock in a place
abbrev pub in_place : Option (Option HeldLock) → Option HeldLock
in_place None = None
in_place (Some lock) = lock

abbrev PlacesRise : List Place → Type 0
PlacesRise es = (i j : ℕ) (e f : Place) → i < j → slice_get es i ≡ Some e → slice_get es j ≡ Some f → e.0.0 < f.0.0

rest_rises : (e : Place) (es : List Place) → PlacesRise (e ∷ es) → PlacesRise es
rest_rises e es rise i j x y below at_i at_j = rise (suc i) (suc j) x y (omega arith) at_i at_j

-- a name that no place has is no lock's
none_held : (id : ℕ) (es : List Place) → ((i : ℕ) (f : Place) → slice_get es i ≡ Some f → nat_eq id f.0.0 ≡ false) → lookup (is_key id) (held_in es) ≡ None
none_held id [] apart = refl
none_held id (e ∷ es) apart = by e.1 (none_held id es (λ i f at. apart (suc i) f at))
  where
    by : (o : Option HeldLock) → lookup (is_key id) (held_in es) ≡ None → lookup (is_key id) (with_place e.0 o (held_in es)) ≡ None
    by None rest = rest
    by (Some lock) rest = ap (λ b. cond b (Some lock) (lookup (is_key id) (held_in es))) (apart zero e refl) ∙ rest

none_behind : (e : Place) (es : List Place) → PlacesRise (e ∷ es) → (id : ℕ) → id ≡ e.0.0 → lookup (is_key id) (held_in es) ≡ None
none_behind e es rise id same = none_held id es (λ i f at. ne_eqb id f.0.0 (λ other. let below : e.0.0 < f.0.0 = rise zero (suc i) e f (omega arith) refl at in absurd (omega arith)))

-- the lock of a name is the one in its place
pub lookup-held_in : (id : ℕ) (es : List Place) → PlacesRise es → lookup (is_key id) (held_in es) ≡ in_place (lookup (is_key id) es)
lookup-held_in id [] rise = refl
lookup-held_in id (e ∷ es) rise = elim (cases_eq id e.0.0) as (λ _. lookup (is_key id) (held_in (e ∷ es)) ≡ in_place (lookup (is_key id) (e ∷ es))) [
  | inl same ↦ here same e.1 (none_behind e es rise id same) ∙ sym (ap (λ b. in_place (cond b (Some e.1) (lookup (is_key id) es))) (eq-eqb id e.0.0 same))
  | inr apart ↦ there apart e.1 ∙ lookup-held_in id es (rest_rises e es rise) ∙ sym (ap (λ b. in_place (cond b (Some e.1) (lookup (is_key id) es))) (ne_eqb id e.0.0 apart))
]
  where
    here : id ≡ e.0.0 → (o : Option HeldLock) → lookup (is_key id) (held_in es) ≡ None → lookup (is_key id) (with_place e.0 o (held_in es)) ≡ o
    here same None none = none
    here same (Some lock) none = ap (λ b. cond b (Some lock) (lookup (is_key id) (held_in es))) (eq-eqb id e.0.0 same)

    there : (id ≡ e.0.0 → ⊥) → (o : Option HeldLock) → lookup (is_key id) (with_place e.0 o (held_in es)) ≡ lookup (is_key id) (held_in es)
    there apart None = refl
    there apart (Some lock) = ap (λ b. cond b (Some lock) (lookup (is_key id) (held_in es))) (ne_eqb id e.0.0 apart)

-- and a lock that is held has a place
pub place_there : (id : ℕ) (es : List Place) → PlacesRise es → IsSome (lookup (is_key id) (held_in es)) → IsSome (lookup (is_key id) es)
place_there id es rise there = by (lookup (is_key id) es) (subst IsSome (lookup-held_in id es rise) there)
  where
    by : (o : Option (Option HeldLock)) → IsSome (in_place o) → IsSome o
    by None h = absurd (let no_way : false ≡ true = h in cc)
    by (Some lock) h = refl

-- what is there is lent
pub some_lent : {T : Type 0} (o : Option (MutBor T)) → IsSome (option_copied_mut o) → IsSome o
some_lent None there = there
some_lent (Some x) there = refl

-- without a lock of a name there is none to take out
remove_none : (id : ℕ) (xs : List (LockId × HeldLock)) → lookup (is_key id) xs ≡ None → remove_entry (is_key id) xs ≡ xs
remove_none id [] none = refl
remove_none id (x ∷ xs) none = by (is_key id x.0) none (λ rest. remove_none id xs rest)
  where
    by : (b : Bool) → cond b (Some x.1) (lookup (is_key id) xs) ≡ None → (lookup (is_key id) xs ≡ None → remove_entry (is_key id) xs ≡ xs) → cond b xs (x ∷ remove_entry (is_key id) xs) ≡ x ∷ xs
    by true is rest = absurd (let no_way : ◌≡◌ {A = Option HeldLock} (Some x.1) None = is in cc)
    by false is rest = ap (λ l. x ∷ l) (rest is)

-- an emptied place is that lock less
pub held_in-emptied : (id : ℕ) (es : List Place) → PlacesRise es → held_in (set_value (is_key id) es None) ≡ remove_entry (is_key id) (held_in es)
held_in-emptied id [] rise = refl
held_in-emptied id (e ∷ es) rise = elim (cases_eq id e.0.0) as (λ _. held_in (set_value (is_key id) (e ∷ es) None) ≡ remove_entry (is_key id) (held_in (e ∷ es))) [
  | inl same ↦ ap (λ b. held_in (cond b ((e.0, None) ∷ es) (e ∷ set_value (is_key id) es None))) (eq-eqb id e.0.0 same) ∙ sym (here same e.1 (remove_none id (held_in es) (none_behind e es rise id same)))
  | inr apart ↦
      ap (λ b. held_in (cond b ((e.0, None) ∷ es) (e ∷ set_value (is_key id) es None))) (ne_eqb id e.0.0 apart)
      ∙ ap (with_place e.0 e.1) (held_in-emptied id es (rest_rises e es rise))
      ∙ sym (there apart e.1)
]
  where
    here : id ≡ e.0.0 → (o : Option HeldLock) → remove_entry (is_key id) (held_in es) ≡ held_in es → remove_entry (is_key id) (with_place e.0 o (held_in es)) ≡ held_in es
    here same None none = none
    here same (Some lock) none = ap (λ b. cond b (held_in es) ((e.0, lock) ∷ remove_entry (is_key id) (held_in es))) (eq-eqb id e.0.0 same)

    there : (id ≡ e.0.0 → ⊥) → (o : Option HeldLock) → remove_entry (is_key id) (with_place e.0 o (held_in es)) ≡ with_place e.0 o (remove_entry (is_key id) (held_in es))
    there apart None = refl
    there apart (Some lock) = ap (λ b. cond b (held_in es) ((e.0, lock) ∷ remove_entry (is_key id) (held_in es))) (ne_eqb id e.0.0 apart)

-- which is one less
pub length-removed : (id : ℕ) (xs : List (LockId × HeldLock)) → IsSome (lookup (is_key id) xs) → length (remove_entry (is_key id) xs) + 1 ≡ length xs
length-removed id [] there = absurd (let no_way : false ≡ true = there in cc)
length-removed id (x ∷ xs) there = by (is_key id x.0) there (λ rest. length-removed id xs rest)
  where
    by : (b : Bool) → IsSome (cond b (Some x.1) (lookup (is_key id) xs)) → (IsSome (lookup (is_key id) xs) → length (remove_entry (is_key id) xs) + 1 ≡ length xs) → length (cond b xs (x ∷ remove_entry (is_key id) xs)) + 1 ≡ length (x ∷ xs)
    by true is rest = omega arith
    by false is rest = let shorter : length (remove_entry (is_key id) xs) + 1 ≡ length xs = rest is in omega arith

-- a sweep takes none away
held_in-swept : (es : List Place) → held_in (filter (λ (e : Place). is_some e.1) es) ≡ held_in es
held_in-swept [] = refl
held_in-swept (e ∷ es) = by e.0 e.1 (held_in-swept es)
  where
    by : (id : LockId) (o : Option HeldLock) → held_in (filter (λ (x : Place). is_some x.1) es) ≡ held_in es → held_in (cond (is_some o) ((id, o) ∷ filter (λ (x : Place). is_some x.1) es) (filter (λ (x : Place). is_some x.1) es)) ≡ with_place id o (held_in es)
    by id None rest = rest
    by id (Some lock) rest = ap (λ (l : List (LockId × HeldLock)). (id, lock) ∷ l) rest

-- a new lock goes last
pub held_in-push : (es : List Place) (id : LockId) (lock : HeldLock) → held_in (es ++ (id, Some lock) ∷ []) ≡ held_in es ++ (id, lock) ∷ []
held_in-push [] id lock = refl
held_in-push (e ∷ es) id lock = ap (with_place e.0 e.1) (held_in-push es id lock) ∙ by e.1
  where
    by : (o : Option HeldLock) → with_place e.0 o (held_in es ++ (id, lock) ∷ []) ≡ with_place e.0 o (held_in es) ++ (id, lock) ∷ []
    by None = refl
    by (Some h) = refl

-- no more are held than there are places
pub length-held_in : (es : List Place) → length (held_in es) < length es + 1
length-held_in [] = omega arith
length-held_in (e ∷ es) = by e.1 (length-held_in es)
  where
    by : (o : Option HeldLock) → length (held_in es) < length es + 1 → length (with_place e.0 o (held_in es)) < length (e ∷ es) + 1
    by None rest = omega arith
    by (Some lock) rest = omega arith

-- a name above those of all places is in none
pub new_name : (id : ℕ) (es : List Place) → ((i : ℕ) (e : Place) → slice_get es i ≡ Some e → e.0.0 < id) → lookup (is_key id) es ≡ None
new_name id [] below = refl
new_name id (e ∷ es) below = ap (λ b. cond b (Some e.1) (lookup (is_key id) es)) (ne_eqb id e.0.0 (λ same. let low : e.0.0 < id = below zero e refl in absurd (omega arith))) ∙ new_name id es (λ i f at. below (suc i) f at)

-- an emptied place keeps its name
same_places : (id : ℕ) (es : List Place) (i : ℕ) (f : Place) → slice_get (set_value (is_key id) es None) i ≡ Some f → (e : Place) × (slice_get es i ≡ Some e) × (e.0 ≡ f.0)
same_places id [] i f at = absurd (none_at i f at)
same_places id (e ∷ es) i f at = by (is_key id e.0) i (λ j at_j. same_places id es j f at_j) at
  where
    by : (b : Bool) (k : ℕ) → ((j : ℕ) → slice_get (set_value (is_key id) es None) j ≡ Some f → (x : Place) × (slice_get es j ≡ Some x) × (x.0 ≡ f.0))
        → slice_get (cond b ((e.0, None) ∷ es) (e ∷ set_value (is_key id) es None)) k ≡ Some f → (x : Place) × (slice_get (e ∷ es) k ≡ Some x) × (x.0 ≡ f.0)
    by true zero rest at_k = (e, refl, ap (λ (x : Place). x.0) (Some-injective at_k))
    by true (suc k) rest at_k = (f, at_k, refl)
    by false zero rest at_k = (e, refl, ap (λ (x : Place). x.0) (Some-injective at_k))
    by false (suc k) rest at_k = rest k at_k

abbrev PlacesNamed : List Place → ℕ → Type 0
PlacesNamed es next = (i : ℕ) (e : Place) → slice_get es i ≡ Some e → e.0.0 < next

-- after a sweep there are as many places as locks
length-swept : (es : List Place) → length (filter (λ (e : Place). is_some e.1) es) ≡ length (held_in es)
length-swept [] = refl
length-swept (e ∷ es) = by e.0 e.1 (length-swept es)
  where
    by : (id : LockId) (o : Option HeldLock) → length (filter (λ (x : Place). is_some x.1) es) ≡ length (held_in es) → length (cond (is_some o) ((id, o) ∷ filter (λ (x : Place). is_some x.1) es) (filter (λ (x : Place). is_some x.1) es)) ≡ length (with_place id o (held_in es))
    by id None rest = rest
    by id (Some lock) rest = omega (arith, rest)

-- however many of the places were empty
swept_are : (es : List Place) (count next : ℕ) → PlacesRise es → PlacesNamed es next → count ≡ length (held_in es) → ArePlaces (filter (λ (e : Place). is_some e.1) es) count next
swept_are es count next rise named counted = record {
  rising = λ i j e f below at_i at_j. let pair = pair_filter (λ (x : Place). is_some x.1) es i j e f below at_i at_j in rise pair.0 pair.1 e f pair.2 pair.3 pair.4;
  named = λ i e at. let old = at_filter (λ (x : Place). is_some x.1) es i e at in named old.0 e old.1;
  counted = counted ∙ ap (λ (l : List (LockId × HeldLock)). length l) (sym (held_in-swept es));
  swept = omega (arith, counted, length-swept es);
}

module _ (es : List Place) (count next : ℕ) (are : ArePlaces es count next) where
  module _ (id : ℕ) (there : IsSome (lookup (is_key id) (held_in es))) where
    abbrev emptied : List Place
    emptied = set_value (is_key id) es None

    emptied_rise : PlacesRise emptied
    emptied_rise i j e f below at_i at_j =
        let old_i = same_places id es i e at_i in
        let old_j = same_places id es j f at_j in
        let rise : old_i.0.0.0 < old_j.0.0.0 = are.rising i j old_i.0 old_j.0 below old_i.1 old_j.1 in
        omega (arith, ap (λ (k : LockId). k.0) old_i.2, ap (λ (k : LockId). k.0) old_j.2)

    emptied_named : PlacesNamed emptied next
    emptied_named i e at =
        let old = same_places id es i e at in
        let low : old.0.0.0 < next = are.named i old.0 old.1 in
        omega (arith, ap (λ (k : LockId). k.0) old.2)

    emptied_counted : count - 1 ≡ length (held_in emptied)
    emptied_counted =
        let shorter = length-removed id (held_in es) there in
        let left = ap (λ (l : List (LockId × HeldLock)). length l) (held_in-emptied id es are.rising) in
        omega (arith, are.counted)

    pub emptied_are : length (set_value (is_key id) es None) < 2 * max_locks → ArePlaces (set_value (is_key id) es None) (count - 1) next
    emptied_are few = record { rising = emptied_rise; named = emptied_named; counted = emptied_counted; swept = omega (arith, few) }

    pub emptied_swept_are : ArePlaces (filter (λ (e : Place). is_some e.1) (set_value (is_key id) es None)) (count - 1) next
    emptied_swept_are = swept_are emptied (count - 1) next emptied_rise emptied_named emptied_counted

    -- a sweep after it takes none away
    pub held_in-emptied_swept : held_in (filter (λ (e : Place). is_some e.1) (set_value (is_key id) es None)) ≡ remove_entry (is_key id) (held_in es)
    held_in-emptied_swept = held_in-swept emptied ∙ held_in-emptied id es are.rising

  pub pushed_are : (lock : HeldLock) → ArePlaces (es ++ (record { 0 = next }, Some lock) ∷ []) (count + 1) (next + 1)
  pushed_are lock = record {
    rising = λ i j e f below at_i at_j. elim (push-cases es last f j at_j) as (λ _. e.0.0 < f.0.0) [
      | inl old_j ↦ elim (push-cases es last e i at_i) as (λ _. e.0.0 < f.0.0) [
        | inl old_i ↦ are.rising i j e f below old_i old_j
        | inr new_i ↦ absurd (let within : j < length es = slice_get_within es j f old_j in omega (arith, new_i.0))
      ]
      | inr new_j ↦ elim (push-cases es last e i at_i) as (λ _. e.0.0 < f.0.0) [
        | inl old_i ↦ let low : e.0.0 < next = are.named i e old_i in let same : next ≡ f.0.0 = ap (λ (x : Place). x.0.0) new_j.1 in omega arith
        | inr new_i ↦ absurd (omega (arith, new_i.0, new_j.0))
      ]
    ];
    named = λ i e at. elim (push-cases es last e i at) as (λ _. e.0.0 < next + 1) [
      | inl old ↦ let low : e.0.0 < next = are.named i e old in omega arith
      | inr new ↦ let same : next ≡ e.0.0 = ap (λ (x : Place). x.0.0) new.1 in omega arith
    ];
    counted =
        let longer = ap (λ (l : List (LockId × HeldLock)). length l) (held_in-push es (record { 0 = next }) lock) ∙ length_push (held_in es) (record { 0 = next }, lock) in
        omega (arith, are.counted, longer);
    swept = let longer = length_push es last in omega (arith, are.swept, longer);
  }
    where
      last : Place
      last = (record { 0 = next }, Some lock)
