-- How the admissions change as a transaction is admitted, and as one ends.
use Rattle.std.proofs.Common.{ℕ, ◌≡◌, ◌≢◌, ◌<◌, ◌+◌, arith, Bool, true, false, List, [], ◌∷◌, ◌++◌, Option, Some, None, option_map, refl, sym, ap, subst, ◌∙◌}
use Rattle.std.specs.Prelude.{◌==◌, cond, slice_index_or, is_some, not}
use Rattle.std.specs.List.{cons_option, list_all}
use Rattle.std.specs.Option.{option_map_or}
use Rattle.std.proofs.lemmas.Bool.{and_parts}
use Rattle.std.proofs.lemmas.List.Elements.{All-filter, All-push, filter_map-append}
use Rattle.std.proofs.lemmas.List.Kept.{AllPairs-filter}
use Rattle.std.proofs.lemmas.List.Quantifiers.{all_pairs_push}
use Rattle.std.proofs.lemmas.List.Folds.{list_all-append}
use Rattle.slab.specs.Slab.{Slab, get, Updates}
use Rattle.base.specs.history.Plans.{is_plan_allowed}
use Rattle.base.specs.steps.Groups.{Admission}
use Rattle.base.specs.steps.Steps.{transactions_without}
use Rattle.transactions.specs.declared.«open».OpenTransaction.{OpenTransaction}
use Rattle.transactions.specs.Open.{admission_of, admissions_at, passes_at, is_of_name, keys_without, AreOpenAt, AreNamed, admission_of_name}

abbrev is_present : Slab OpenTransaction → ℕ → Bool
is_present slots key = is_some (get slots key)

abbrev has_allowed_plan : Admission → Bool
has_allowed_plan a = is_plan_allowed a.plan

-- another key than one that differs in some way
differs : {X : Type 0} (f : ℕ → X) (k key : ℕ) (x y : X) → f k ≡ x → f key ≡ y → (x ≡ y → ⊥) → k ≢ key
differs f k key x y a b apart same = apart (sym a ∙ ap f same ∙ b)

-- names stay apart with the next one after them, and without one of them
pub named_push : (next : ℕ) (ts : List Admission) (a : Admission) → a.tx ≡ next → AreNamed next ts → AreNamed (next + 1) (ts ++ a ∷ [])
named_push next ts a is named = record {
  apart = all_pairs_push (λ (x y : Admission). x.tx ≢ y.tx) ts a named.apart (λ k d below same. let low = named.before k d below in omega (arith, low, same, is));
  before = All-push (λ (x : Admission). x.tx < next + 1) ts a (λ k d below. let low = named.before k d below in omega (arith, low)) (omega (arith, is));
}

named_without : (tx next : ℕ) (ts : List Admission) → AreNamed next ts → AreNamed next (transactions_without tx ts)
named_without tx next ts named = record {
  apart = AllPairs-filter (λ (x y : Admission). x.tx ≢ y.tx) (λ (a : Admission). not (a.tx == tx)) ts named.apart;
  before = All-filter (λ (a : Admission). not (a.tx == tx)) (λ (a : Admission). a.tx < next) ts named.before;
}

-- a transaction at a key that had none
module _ (old new : Slab OpenTransaction) (key : ℕ) (t : OpenTransaction) (vacant : get old key ≡ None) (updates : Updates old new key (Some t)) where
  stays : (k : ℕ) → is_present old k ≡ true → get new k ≡ get old k
  stays k present = updates.others k (differs (is_present old) k key true false present (ap is_some vacant) (λ e. cc))

  admissions_stay : (keys : List ℕ) → list_all (is_present old) keys ≡ true → admissions_at new keys ≡ admissions_at old keys
  admissions_stay [] present = refl
  admissions_stay (k ∷ keys) present =
      let parts = and_parts (is_present old k) (list_all (is_present old) keys) present in
      λ i. cons_option (option_map admission_of (stays k parts.0 i)) (admissions_stay keys parts.1 i)

  present_stay : (keys : List ℕ) → list_all (is_present old) keys ≡ true → list_all (is_present new) keys ≡ true
  present_stay [] present = refl
  present_stay (k ∷ keys) present =
      let parts = and_parts (is_present old k) (list_all (is_present old) keys) present in
      rw (stays k parts.0, parts.0, present_stay keys parts.1) refl

  pub admissions-push : (keys : List ℕ) → list_all (is_present old) keys ≡ true → admissions_at new (keys ++ key ∷ []) ≡ admissions_at old keys ++ admission_of t ∷ []
  admissions-push keys present =
      filter_map-append (λ k. option_map admission_of (get new k)) keys (key ∷ [])
      ∙ (λ i. admissions_stay keys present i ++ cons_option (option_map admission_of (updates.changed i)) [])

  pub held_push : (keys : List ℕ) (next : ℕ) → AreOpenAt old keys next → t.tx.0 ≡ next → is_plan_allowed t.plan ≡ true → AreOpenAt new (keys ++ key ∷ []) (next + 1)
  held_push keys next held named allowed =
      let here : is_present new key ≡ true = ap is_some updates.changed in
      let before = held.allowed in
      record {
        present = list_all-append (is_present new) keys (key ∷ []) ∙ rw (present_stay keys held.present, here) refl;
        allowed = ap (list_all has_allowed_plan) (admissions-push keys held.present) ∙ list_all-append has_allowed_plan (admissions_at old keys) (admission_of t ∷ []) ∙ rw (before, allowed) refl;
        named = subst (AreNamed (next + 1)) (sym (admissions-push keys held.present)) (named_push next (admissions_at old keys) (admission_of t) named held.named);
      }

-- after a reserve of room, which leaves the slots
module _ (slots reserved new : Slab OpenTransaction) (order keys : List ℕ) (key next : ℕ) (t : OpenTransaction) (same : reserved.slots ≡ slots.slots) (vacant : get reserved key ≡ None) (updates : Updates reserved new key (Some t))
    (keys_are : keys ≡ order ++ key ∷ []) (held : AreOpenAt slots order next) where
  get_same : (k : ℕ) → get reserved k ≡ get slots k
  get_same k = ap (λ (l : List (Option OpenTransaction)). slice_index_or l k None) same

  updates_slots : Updates slots new key (Some t)
  updates_slots = record { changed = updates.changed; others = λ other apart. updates.others other apart ∙ get_same other }

  pub admitted : admissions_at new keys ≡ admissions_at slots order ++ admission_of t ∷ []
  admitted = ap (admissions_at new) keys_are ∙ admissions-push slots new key t (sym (get_same key) ∙ vacant) updates_slots order held.present

  pub held_admitted : t.tx.0 ≡ next → is_plan_allowed t.plan ≡ true → AreOpenAt new keys (next + 1)
  held_admitted named allowed =
      subst (λ (l : List ℕ). AreOpenAt new l (next + 1)) (sym keys_are) (held_push slots new key t (sym (get_same key) ∙ vacant) updates_slots order next held named allowed)

-- after a reserve alone
pub held_reserved : (old new : Slab OpenTransaction) (order keys : List ℕ) (next : ℕ) → new.slots ≡ old.slots → keys ≡ order → AreOpenAt old order next → AreOpenAt new keys next
held_reserved old new order keys next same is held =
    let before : AreOpenAt (record new { slots = old.slots }) order next = record { present = held.present; allowed = held.allowed; named = held.named } in
    subst (λ l. AreOpenAt new l next) (sym is) (subst (λ (l : List (Option OpenTransaction)). AreOpenAt (record new { slots = l }) order next) (sym same) before)

all_step : (b : Bool) (a : Admission) (rest : List Admission) → has_allowed_plan a ≡ true → list_all has_allowed_plan rest ≡ true → list_all has_allowed_plan (cond b (a ∷ rest) rest) ≡ true
all_step true a rest this others = rw (this, others) refl
all_step false a rest this others = others

all_without : (tx : ℕ) (ts : List Admission) → list_all has_allowed_plan ts ≡ true → list_all has_allowed_plan (transactions_without tx ts) ≡ true
all_without tx [] all = refl
all_without tx (a ∷ ts) all =
    let parts = and_parts (has_allowed_plan a) (list_all has_allowed_plan ts) all in
    all_step (not (a.tx == tx)) a (transactions_without tx ts) parts.0 (all_without tx ts parts.1)

-- the transaction of a name goes
module _ (tx : ℕ) (old new : Slab OpenTransaction) (key : ℕ) (named : passes_at (is_of_name tx) old key ≡ true) (updates : Updates old new key None) where
  other_stays : (k : ℕ) → passes_at (is_of_name tx) old k ≡ false → get new k ≡ get old k
  other_stays k other = updates.others k (differs (passes_at (is_of_name tx) old) k key false true other named (λ e. cc))

  without_step : (k : ℕ) (o : Option OpenTransaction) (b : Bool) (keys : List ℕ) (rest : List Admission) → get old k ≡ o → option_map_or (is_of_name tx) o false ≡ b
      → admissions_at new keys ≡ transactions_without tx rest
      → admissions_at new (cond (not b) (k ∷ keys) keys) ≡ transactions_without tx (cons_option (option_map admission_of o) rest)
  without_step k None true keys rest is test later = absurd cc
  without_step k None false keys rest is test later =
      let same = other_stays k (ap (λ (x : Option OpenTransaction). option_map_or (is_of_name tx) x false) is) in
      ap (λ (x : Option OpenTransaction). cons_option (option_map admission_of x) (admissions_at new keys)) (same ∙ is) ∙ later
  without_step k (Some t) true keys rest is test later = later ∙ ap (λ (b : Bool). cond (not b) (admission_of t ∷ transactions_without tx rest) (transactions_without tx rest)) (sym test)
  without_step k (Some t) false keys rest is test later =
      let same = other_stays k (ap (λ (x : Option OpenTransaction). option_map_or (is_of_name tx) x false) is ∙ test) in
      ap (λ (x : Option OpenTransaction). cons_option (option_map admission_of x) (admissions_at new keys)) (same ∙ is)
      ∙ ap (λ (l : List Admission). admission_of t ∷ l) later
      ∙ ap (λ (b : Bool). cond (not b) (admission_of t ∷ transactions_without tx rest) (transactions_without tx rest)) (sym test)

  pub admissions-without : (keys : List ℕ) → admissions_at new (keys_without tx old keys) ≡ transactions_without tx (admissions_at old keys)
  admissions-without [] = refl
  admissions-without (k ∷ keys) = without_step k (get old k) (passes_at (is_of_name tx) old k) (keys_without tx old keys) (admissions_at old keys) refl refl (admissions-without keys)

  present_step : (k : ℕ) (b : Bool) (keys : List ℕ) → is_present old k ≡ true → passes_at (is_of_name tx) old k ≡ b → list_all (is_present new) keys ≡ true → list_all (is_present new) (cond (not b) (k ∷ keys) keys) ≡ true
  present_step k true keys present test later = later
  present_step k false keys present test later = rw (other_stays k test, present, later) refl

  present_without : (keys : List ℕ) → list_all (is_present old) keys ≡ true → list_all (is_present new) (keys_without tx old keys) ≡ true
  present_without [] present = refl
  present_without (k ∷ keys) present =
      let parts = and_parts (is_present old k) (list_all (is_present old) keys) present in
      present_step k (passes_at (is_of_name tx) old k) (keys_without tx old keys) parts.0 refl (present_without keys parts.1)

  pub held_without : (keys : List ℕ) (next : ℕ) → AreOpenAt old keys next → AreOpenAt new (keys_without tx old keys) next
  held_without keys next held = record {
    present = present_without keys held.present;
    allowed = ap (list_all has_allowed_plan) (admissions-without keys) ∙ all_without tx (admissions_at old keys) held.allowed;
    named = subst (AreNamed next) (sym (admissions-without keys)) (named_without tx next (admissions_at old keys) held.named);
  }

-- if none has a name all stay
none_step : (tx : ℕ) (a : Admission) (ts : List Admission) (b : Bool) → cond b (Some a) (admission_of_name tx ts) ≡ None → (admission_of_name tx ts ≡ None → transactions_without tx ts ≡ ts)
    → cond (not b) (a ∷ transactions_without tx ts) (transactions_without tx ts) ≡ a ∷ ts
none_step tx a ts true none later = absurd cc
none_step tx a ts false none later = ap (λ (l : List Admission). a ∷ l) (later none)

pub all_stay : (tx : ℕ) (ts : List Admission) → admission_of_name tx ts ≡ None → transactions_without tx ts ≡ ts
all_stay tx [] none = refl
all_stay tx (a ∷ ts) none = none_step tx a ts (a.tx == tx) none (all_stay tx ts)
