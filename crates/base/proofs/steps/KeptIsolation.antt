-- Each step keeps open transactions apart, and each covered by locks of its owner.
use Rattle.std.proofs.Common.{◌≡◌, ℕ, Bool, true, false, not, ◌&&◌, [], ◌∷◌, ◌++◌, map, ap, sym, subst, ◌∙◌, inl, inr}
use Rattle.std.specs.Prelude.{Some, slice_get, filter, ◌==◌}
use Rattle.std.specs.List.{list_any}
use Rattle.std.proofs.lemmas.Bool.{eqb-true, or_left, and_parts, and_from, not-false, false≢true, true_from_ne_false}
use Rattle.std.proofs.lemmas.List.{map-append}
use Rattle.std.proofs.lemmas.List.Elements.{All-map}
use Rattle.std.proofs.lemmas.List.Folds.{list_any-append}
use Rattle.base.specs.declared.operation.Shape.{Shape}
use Rattle.base.specs.history.Plans.{NumberRange, range_of, plan_ranges, lies_in, clash}
use Rattle.base.specs.history.History.{Admitted, AreAdmitted}
use Rattle.base.specs.steps.Locks.{Grant, is_reader, is_covered_for_writing}
use Rattle.base.specs.steps.Groups.{Admission, admitted_of}
use Rattle.base.specs.history.Past.{Past}
use Rattle.base.specs.steps.Shown.{Shown}
use Rattle.base.specs.steps.Refusals.{is_plan_covered, is_plan_blocked, is_lock_in_use}
use Rattle.base.specs.steps.Exact.{AreLocksExact, AreIsolated}
use Rattle.base.proofs.history.Conflicts.{clashes_turn}
use Rattle.base.proofs.history.Admissions.{begins_admit}
use Rattle.base.proofs.common.KeptLists.{at_filter, filter_at, any_at, none_any, all_weaker, any_found, push-cases, All-each}
use Rattle.base.proofs.steps.KeptLocks.{held_once}

-- they stay so where nothing of them changes
pub same_isolated : (s t : Shown) (p q : Past) → AreIsolated s p
    → AreIsolated (record t { line = record t.line { open_group = s.line.open_group }; transactions = s.transactions; locks = s.locks }) (record q { entries = p.entries })
same_isolated s t p q x = record { admitted = x.admitted; covered = x.covered }

-- whether a lock covers a range for writing
abbrev covering : ℕ → NumberRange → Grant → Bool
covering owner range h = not (is_reader h.mode) && ((h.owner == owner) && lies_in range h.range)

-- one more lock covers no less
pub lock_isolated : (s t : Shown) (p q : Past) (g : Grant) → AreIsolated s p
    → AreIsolated (record t { line = s.line; transactions = s.transactions; locks = s.locks ++ g ∷ [] }) (record q { entries = p.entries })
lock_isolated s t p q g x = record {
  admitted = x.admitted;
  covered = λ i a at. all_weaker (λ y. is_covered_for_writing a.owner (range_of y) s.locks) (λ y. is_covered_for_writing a.owner (range_of y) (s.locks ++ g ∷ [])) a.plan
      (λ j y at_j covers. list_any-append (covering a.owner (range_of y)) s.locks (g ∷ []) ∙ or_left (list_any (covering a.owner (range_of y)) s.locks) (list_any (covering a.owner (range_of y)) (g ∷ [])) covers) (x.covered i a at);
}

-- a lock that is not in use may go
pub unlock_isolated : (s : Shown) (p q : Past) (id k : ℕ) (g : Grant) → AreLocksExact s p → AreIsolated s p → slice_get s.locks k ≡ Some g → g.id ≡ id → is_lock_in_use g s ≡ false
    → AreIsolated (record s { locks = filter (λ (h : Grant). not (h.id == id)) s.locks }) (record q { entries = p.entries })
unlock_isolated s p q id k g l x at_g named unused = record {
  admitted = x.admitted;
  covered = λ i a at. all_weaker (λ y. is_covered_for_writing a.owner (range_of y) s.locks) (λ y. is_covered_for_writing a.owner (range_of y) (filter (λ (h : Grant). not (h.id == id)) s.locks)) a.plan
      (λ j y at_j covers. still i a at j y at_j (any_found (covering a.owner (range_of y)) s.locks covers)) (x.covered i a at);
}
  where
    in_use : (i : ℕ) (a : Admission) → slice_get s.transactions i ≡ Some a → (j : ℕ) (y : Shape) → slice_get a.plan j ≡ Some y → covering a.owner (range_of y) g ≡ true → ⊥
    in_use i a at j y at_j covers =
        let parts : (not (is_reader g.mode) ≡ true) × (((g.owner == a.owner) && lies_in (range_of y) g.range) ≡ true) = and_parts (not (is_reader g.mode)) ((g.owner == a.owner) && lies_in (range_of y) g.range) covers in
        let lies : lies_in (range_of y) g.range ≡ true = (and_parts (g.owner == a.owner) (lies_in (range_of y) g.range) parts.1).1 in
        let any : list_any (λ (b : Admission). list_any (λ z. lies_in (range_of z) g.range) b.plan) s.transactions ≡ true =
        any_at (λ (b : Admission). list_any (λ z. lies_in (range_of z) g.range) b.plan) s.transactions i a at (any_at (λ z. lies_in (range_of z) g.range) a.plan j y at_j lies) in
        false≢true (sym unused ∙ and_from (not (is_reader g.mode)) (list_any (λ (b : Admission). list_any (λ z. lies_in (range_of z) g.range) b.plan) s.transactions) parts.0 any)

    still : (i : ℕ) (a : Admission) → slice_get s.transactions i ≡ Some a → (j : ℕ) (y : Shape) → slice_get a.plan j ≡ Some y
        → (n : ℕ) × (h : Grant) × (slice_get s.locks n ≡ Some h) × (covering a.owner (range_of y) h ≡ true)
        → is_covered_for_writing a.owner (range_of y) (filter (λ (h : Grant). not (h.id == id)) s.locks) ≡ true
    still i a at j y at_j (n, h, at_h, covers) =
        let stays : not (h.id == id) ≡ true = true_from_ne_false (not (h.id == id)) (λ goes. let same : h.id ≡ id = eqb-true h.id id (not-false (h.id == id) goes) in
        in_use i a at j y at_j (subst (λ (x : Grant). covering a.owner (range_of y) x ≡ true) (held_once s p l n k h g at_h at_g (same ∙ sym named)) covers)) in
        let kept : (m : ℕ) × (slice_get (filter (λ (x : Grant). not (x.id == id)) s.locks) m ≡ Some h) = filter_at (λ (x : Grant). not (x.id == id)) s.locks n h at_h stays in
        any_at (covering a.owner (range_of y)) (filter (λ (x : Grant). not (x.id == id)) s.locks) kept.0 h kept.1 covers

-- one more is admitted to the open group, apart from the others and covered
pub begin_isolated : (s t : Shown) (p q : Past) (a : Admission) → AreIsolated s p → a.group ≡ s.line.open_group → is_plan_blocked a.plan s.transactions ≡ false → is_plan_covered a.owner a.plan s.locks ≡ true
    → AreIsolated (record t { line = s.line; transactions = s.transactions ++ a ∷ []; locks = s.locks }) (record q { entries = p.entries })
begin_isolated s t p q a x in_open free covers = record {
  admitted = subst (λ ts. AreAdmitted p.entries s.line.open_group ts) (sym (map-append admitted_of s.transactions (a ∷ [])
      ∙ ap (λ g. map admitted_of s.transactions ++ record { group = g; touches = plan_ranges a.plan } ∷ []) in_open))
      (begins_admit p.entries s.line.open_group (map admitted_of s.transactions) (plan_ranges a.plan) x.admitted
      (All-map (λ (b : Admitted). clash b.touches (plan_ranges a.plan) ≡ false) admitted_of s.transactions (All-each (λ (b : Admission). clash (plan_ranges b.plan) (plan_ranges a.plan) ≡ false) s.transactions
      (λ i b at. clashes_turn (plan_ranges b.plan) (plan_ranges a.plan) ∙ none_any (λ (c : Admission). clash (plan_ranges a.plan) (plan_ranges c.plan)) s.transactions i b free at))));
  covered = λ i b at. elim (push-cases s.transactions a b i at) as (λ _. is_plan_covered b.owner b.plan s.locks ≡ true) [
    | inl old ↦ x.covered i b old
    | inr is ↦ subst (λ (c : Admission). is_plan_covered c.owner c.plan s.locks ≡ true) is.1 covers
  ];
}

-- fewer are covered as well
pub covered_without : (s : Shown) (p : Past) (keep : Admission → Bool) → AreIsolated s p → (i : ℕ) (a : Admission) → slice_get (filter keep s.transactions) i ≡ Some a → is_plan_covered a.owner a.plan s.locks ≡ true
covered_without s p keep x i a at = let found = at_filter keep s.transactions i a at in x.covered found.0 a found.1
