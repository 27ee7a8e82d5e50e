-- A commit and an abort keep the other open transactions apart, and each of them can be the next.
use Rattle.std.proofs.Common.{◌≡◌, ℕ, zero, suc, ◌≤◌, Bool, true, false, not, List, [], ◌∷◌, ◌++◌, map, get_or, refl, ap, sym, subst, ◌∙◌, arith}
use Rattle.std.specs.Prelude.{Some, None, cond, slice_get, filter, find, All, AllPairs, ◌==◌}
use Rattle.std.specs.List.{position_or_len}
use Rattle.std.proofs.lemmas.Bool.{eqb-true, eq-eqb, false≢true}
use Rattle.std.proofs.lemmas.List.Elements.{All-head, All-tail, All-nil, All-cons, All-push, All-map, All-filter}
use Rattle.std.proofs.lemmas.List.Kept.{AllPairs-filter}
use Rattle.std.proofs.lemmas.List.Folds.{find_at}
use Rattle.base.specs.declared.operation.Op.{Op}
use Rattle.base.specs.history.Plans.{ranges, plan_ranges, clash}
use Rattle.base.specs.history.History.{Entry, Admitted, MayFollow, AreAdmitted}
use Rattle.base.specs.steps.Groups.{Admission, admitted_of}
use Rattle.base.specs.steps.Refusals.{transaction_of, commit_refusal}
use Rattle.base.specs.steps.Steps.{State, transactions_without}
use Rattle.base.proofs.common.Sieves.{AllPairs-cons, AllPairs-head, AllPairs-tail}
use Rattle.base.proofs.history.Conflicts.{clashes_turn}
use Rattle.base.proofs.history.Projections.{plans_touch}
use Rattle.base.proofs.history.CommitOrder.{found-plan}
use Rattle.base.proofs.common.KeptLists.{All-at}

module _ {X Y : Type 0} (f : X → Y) where
  All-of_map : (P : Y → Type 0) (xs : List X) → All P (map f xs) → All (λ x. P (f x)) xs
  All-of_map P [] all = All-nil (λ x. P (f x))
  All-of_map P (x ∷ xs) all = All-cons (λ y. P (f y)) x xs (All-head P (f x) (map f xs) all) (All-of_map P xs (All-tail P (f x) (map f xs) all))

  AllPairs-of_map : (R : Y → Y → Type 0) (xs : List X) → AllPairs R (map f xs) → AllPairs (λ x y. R (f x) (f y)) xs
  AllPairs-of_map R [] pairs = λ i j d l m. absurd (omega arith)
  AllPairs-of_map R (x ∷ xs) pairs =
      AllPairs-cons (λ y z. R (f y) (f z)) x xs (All-of_map (R (f x)) xs (AllPairs-head R (f x) (map f xs) pairs)) (AllPairs-of_map R xs (AllPairs-tail R (f x) (map f xs) pairs))

  AllPairs-map : (R : Y → Y → Type 0) (xs : List X) → AllPairs (λ x y. R (f x) (f y)) xs → AllPairs R (map f xs)
  AllPairs-map R [] pairs = λ i j d l m. absurd (omega arith)
  AllPairs-map R (x ∷ xs) pairs =
      AllPairs-cons R (f x) (map f xs) (All-map (R (f x)) f xs (AllPairs-head (λ y z. R (f y) (f z)) x xs pairs)) (AllPairs-map R xs (AllPairs-tail (λ y z. R (f y) (f z)) x xs pairs))

  All-map_filter : (P : Y → Type 0) (p : X → Bool) (xs : List X) → All P (map f xs) → All P (map f (filter p xs))
  All-map_filter P p xs all = All-map P f (filter p xs) (All-filter p (λ x. P (f x)) xs (All-of_map P xs all))

-- what holds of those that pass holds of the filtered ones
All-filter_passing : {X : Type 0} (p : X → Bool) (P : X → Type 0) (xs : List X) → All (λ x. p x ≡ true → P x) xs → All P (filter p xs)
All-filter_passing p P [] all = All-nil P
All-filter_passing {X} p P (x ∷ xs) all =
    go (p x) refl (All-filter_passing p P xs (All-tail (λ y. p y ≡ true → P y) x xs all))
  where
    go : (b : Bool) → p x ≡ b → All P (filter p xs) → All P (cond b (x ∷ filter p xs) (filter p xs))
    go true is rest = All-cons P x (filter p xs) (All-head (λ y. p y ≡ true → P y) x xs all is) rest
    go false is rest = rest

find-passes : {X : Type 0} (p : X → Bool) (xs : List X) (x : X) → find p xs ≡ Some x → p x ≡ true
find-passes p [] x h = absurd (let no_way : None ≡ Some x = h in cc)
find-passes {X} p (y ∷ ys) x h = go (λ k. find-passes p ys x k) (p y) refl h
  where
    go : (find p ys ≡ Some x → p x ≡ true) → (b : Bool) → p y ≡ b → cond b (Some y) (find p ys) ≡ Some x → p x ≡ true
    go later true is at = let same : y ≡ x = ap (λ o. elim o as (λ _. X) [ None ↦ y | Some z ↦ z ]) at in subst (λ z. p z ≡ true) same is
    go later false is at = later at

-- the plans of two transactions have no byte in common
abbrev AreApart : Admission → Admission → Type 0
AreApart a b = clash (plan_ranges a.plan) (plan_ranges b.plan) ≡ false

-- one of some is apart from the others
others_apart : (ts : List Admission) (i : ℕ) (a : Admission) → AllPairs AreApart ts → slice_get ts i ≡ Some a → All (λ (x : Admission). not (x.tx == a.tx) ≡ true → AreApart a x) ts
others_apart [] i a pairs at = absurd (let no_way : None ≡ Some a = at in cc)
others_apart (t ∷ ts) zero a pairs at =
    let same : t ≡ a = ap (λ o. elim o as (λ _. Admission) [ None ↦ t | Some z ↦ z ]) at in
    let itself : not (t.tx == a.tx) ≡ false = ap not (eq-eqb t.tx a.tx (ap (λ (x : Admission). x.tx) same)) in
    All-cons (λ (x : Admission). not (x.tx == a.tx) ≡ true → AreApart a x) t ts (λ h. absurd (false≢true (sym itself ∙ h)))
    (λ k d l h. subst (λ (y : Admission). AreApart y (get_or ts k d)) same (AllPairs-head AreApart t ts pairs k d l))
others_apart (t ∷ ts) (suc i) a pairs at =
    All-cons (λ (x : Admission). not (x.tx == a.tx) ≡ true → AreApart a x) t ts
    (λ h. clashes_turn (plan_ranges a.plan) (plan_ranges t.plan) ∙ All-at (AreApart t) ts i a (AllPairs-head AreApart t ts pairs) at)
    (others_apart ts i a (AllPairs-tail AreApart t ts pairs) at)

-- the open transactions of a state are admitted
abbrev pub AreStillAdmitted : State → Type 0
AreStillAdmitted s = AreAdmitted s.past.entries s.shown.line.open_group (map admitted_of s.shown.transactions)

pub filtered : (entries : List Entry) (filling : ℕ) (p : Admission → Bool) (ts : List Admission) → AreAdmitted entries filling (map admitted_of ts) → AreAdmitted entries filling (map admitted_of (filter p ts))
filtered entries filling p ts are = record {
  committed = are.committed;
  below = All-map_filter admitted_of (λ (a : Admitted). a.group ≤ filling) p ts are.below;
  may_follow = All-map_filter admitted_of (λ (a : Admitted). MayFollow entries a.group a.touches) p ts are.may_follow;
  apart = AllPairs-map admitted_of (λ (a b : Admitted). clash a.touches b.touches ≡ false) (filter p ts)
      (AllPairs-filter AreApart p ts (AllPairs-of_map admitted_of (λ (a b : Admitted). clash a.touches b.touches ≡ false) ts are.apart));
}

pub commit-admitted : (tx : ℕ) (ops : List Op) (s : State) (a : Admission) → AreStillAdmitted s → commit_refusal tx ops s.shown ≡ None → transaction_of tx s.shown ≡ Some a
    → AreAdmitted (s.past.entries ++ record { group = a.group; tx = tx; ops = ops } ∷ []) s.shown.line.open_group (map admitted_of (transactions_without tx s.shown.transactions))
commit-admitted tx ops s a are passed found =
    let ts : List Admission = s.shown.transactions in
    let place : ℕ = position_or_len (λ (x : Admission). x.tx == tx) ts in
    let at_a : slice_get ts place ≡ Some a = sym (find_at (λ (x : Admission). x.tx == tx) ts) ∙ found in
    let named : a.tx ≡ tx = eqb-true a.tx tx (find-passes (λ (x : Admission). x.tx == tx) ts a found) in
    let touches : ranges ops ≡ plan_ranges a.plan = plans_touch ops ∙ ap (λ p. plan_ranges p) (found-plan tx ops s a passed found) in
    let entries : List Entry = s.past.entries in
    let next : Entry = record { group = a.group; tx = tx; ops = ops } in
    let filling : ℕ = s.shown.line.open_group in
    let below : a.group ≤ filling = All-at (λ (x : Admission). x.group ≤ filling) ts place a (All-of_map admitted_of (λ (x : Admitted). x.group ≤ filling) ts are.below) at_a in
    let others : All (λ (x : Admission). not (x.tx == a.tx) ≡ true → AreApart a x) ts = others_apart ts place a (AllPairs-of_map admitted_of (λ (x y : Admitted). clash x.touches y.touches ≡ false) ts are.apart) at_a in
    let free : All (λ (x : Admission). AreApart a x) (transactions_without tx ts) =
    All-filter_passing (λ (x : Admission). not (x.tx == tx)) (AreApart a) ts (subst (λ (n : ℕ). All (λ (x : Admission). not (x.tx == n) ≡ true → AreApart a x) ts) named others) in
    let rest = filtered entries filling (λ (x : Admission). not (x.tx == tx)) ts are in
    let still = All-of_map admitted_of (λ (x : Admitted). MayFollow entries x.group x.touches) (transactions_without tx ts) rest.may_follow in
    record {
      committed = All-push (λ (e : Entry). e.group ≤ filling) entries next are.committed below;
      below = rest.below;
      may_follow = All-map (λ (x : Admitted). MayFollow (entries ++ next ∷ []) x.group x.touches) admitted_of (transactions_without tx ts)
          (λ k d l. All-push (λ (e : Entry). clash (ranges e.ops) (plan_ranges (get_or (transactions_without tx ts) k d).plan) ≡ true → e.group ≤ (get_or (transactions_without tx ts) k d).group) entries next (still k d l)
          (λ c. absurd (false≢true (sym (free k d l) ∙ ap (λ rs. clash rs (plan_ranges (get_or (transactions_without tx ts) k d).plan)) (sym touches) ∙ c))));
      apart = rest.apart;
    }
