-- The open transaction of a name.
use Rattle.std.proofs.Common.{ℕ, suc, ◌≡◌, ◌<◌, ◌≤◌, Bool, true, false, cond, List, [], ◌∷◌, nat_lt, refl, sym, subst, ap, ◌∙◌, arith}
use Rattle.std.specs.Prelude.{Some, All, ◌==◌, slice_get}
use Rattle.std.specs.List.{find}
use Rattle.std.proofs.lemmas.Bool.{eqb-true}
use Rattle.std.proofs.lemmas.Bool.Decides.{nat_tests}
use Rattle.std.proofs.lemmas.List.Folds.{find_at}
use Rattle.base.specs.steps.Groups.{Admission}
use Rattle.base.specs.formats.Limits.{last_number, max_log_record}
use Rattle.base.specs.history.Plans.{is_plan_allowed, log_record_size}

-- what is found passes the test, and has what all elements have
found_has : {X : Type 0} (P : X → Type 0) (p : X → Bool) (xs : List X) (x : X) → All P xs → find p xs ≡ Some x → (p x ≡ true) × P x
found_has P p [] x all h = absurd (cc)
found_has {X} P p (y ∷ ys) x all h = go (p y) refl (λ e. found_has P p ys x (λ k d below. all (suc k) d (omega arith)) e) h
  where
    go : (b : Bool) → p y ≡ b → (find p ys ≡ Some x → (p x ≡ true) × P x) → cond b (Some y) (find p ys) ≡ Some x → (p x ≡ true) × P x
    go true is later e = let same : y ≡ x = cc in (ap p (sym same) ∙ is, subst P same (all 0 y (omega arith)))
    go false is later e = later e

abbrev pub HasAllowedPlan : Admission → Type 0
HasAllowedPlan a = is_plan_allowed a.plan ≡ true

abbrev pub IsSmall : Admission → Type 0
IsSmall a = log_record_size a.plan ≤ max_log_record

module _ (tx : ℕ) (ts : List Admission) (a : Admission) (found : find (λ (x : Admission). x.tx == tx) ts ≡ Some a) where
  pub found_allowed : All HasAllowedPlan ts → HasAllowedPlan a
  found_allowed all = (found_has HasAllowedPlan (λ (x : Admission). x.tx == tx) ts a all found).1

  pub found_small : All IsSmall ts → IsSmall a
  found_small all = (found_has IsSmall (λ (x : Admission). x.tx == tx) ts a all found).1

  pub found_name : a.tx ≡ tx
  found_name = eqb-true a.tx tx (found_has (λ x. Unit {0}) (λ (x : Admission). x.tx == tx) ts a (λ k d below. tt) found).0

  pub found_index : (i : ℕ) × (slice_get ts i ≡ Some a)
  found_index = (_, sym (find_at (λ (x : Admission). x.tx == tx) ts) ∙ found)

pub above_last : (n : ℕ) → last_number < n → nat_lt last_number n ≡ true
above_last n h = grind (arith, nat_tests)

pub up_to_last : (n : ℕ) → n ≤ last_number → nat_lt last_number n ≡ false
up_to_last n h = grind (arith, nat_tests)
