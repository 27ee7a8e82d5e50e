-- Each step keeps the held locks exact.
use Rattle.std.proofs.Common.{◌≡◌, ℕ, ◌+◌, ◌<◌, Bool, true, false, not, ◌&&◌, ◌||◌, [], ◌∷◌, ◌++◌, length, refl, ap, sym, subst, ◌∙◌, arith, inl, inr}
use Rattle.std.specs.Prelude.{Some, slice_get, filter, cond, ◌==◌}
use Rattle.std.proofs.lemmas.Bool.{ne_eqb}
use Rattle.std.proofs.lemmas.List.{length_push}
use Rattle.std.proofs.lemmas.List.Elements.{filter-append}
use Rattle.std.proofs.lemmas.Option.{slice_get_within}
use Rattle.base.specs.steps.Locks.{Grant, is_in, is_blocked, held_locks}
use Rattle.base.specs.history.Past.{Past}
use Rattle.base.specs.steps.Shown.{Shown}
use Rattle.base.specs.steps.Exact.{AreLocksExact}
use Rattle.base.proofs.common.Sieves.{filter-filter}
use Rattle.base.proofs.steps.BusyLocks.{granted-sound}
use Rattle.base.proofs.common.KeptLists.{at_filter, pair_filter, any_none, any_push, Some-injective, push-cases}

-- they stay exact where neither they nor the grants change
pub same_locks : (s t : Shown) (p q : Past) → AreLocksExact s p → AreLocksExact (record t { locks = s.locks; next_lock = s.next_lock }) (record q { grants = p.grants; let_go = p.let_go })
same_locks s t p q x = record { held = x.held; sound = x.sound; numbered = x.numbered; next = x.next; granted = x.granted }

module _ (s : Shown) (p : Past) (x : AreLocksExact s p) where
  -- a held lock is the grant of its name
  pub held_is : (i : ℕ) (g : Grant) → slice_get s.locks i ≡ Some g → slice_get p.grants g.id ≡ Some g
  held_is i g at =
      let found : (j : ℕ) × (slice_get p.grants j ≡ Some g) × (not (is_in g.id p.let_go) ≡ true) = at_filter (λ (h : Grant). not (is_in h.id p.let_go)) p.grants i g (subst (λ ls. slice_get ls i ≡ Some g) x.held at) in
      subst (λ j. slice_get p.grants j ≡ Some g) (sym (x.numbered found.0 g found.1)) found.1

  pub held_once : (i j : ℕ) (g h : Grant) → slice_get s.locks i ≡ Some g → slice_get s.locks j ≡ Some h → g.id ≡ h.id → g ≡ h
  held_once i j g h at_i at_j same = Some-injective (sym (held_is i g at_i) ∙ ap (λ n. slice_get p.grants n) same ∙ held_is j h at_j)

  -- a lock that is granted
  pub lock_keeps : (g : Grant) → g.id ≡ s.next_lock → is_blocked g.range g.mode s.locks ≡ false
      → AreLocksExact (record s { locks = s.locks ++ g ∷ []; next_lock = s.next_lock + 1 }) (record p { grants = p.grants ++ g ∷ [] })
  lock_keeps g named free = record {
    held = ap (λ ls. ls ++ g ∷ []) x.held ∙ sym (filter-append (λ (h : Grant). not (is_in h.id p.let_go)) p.grants (g ∷ []) ∙ ap (λ ls. held_locks p.grants p.let_go ++ ls) last);
    sound = granted-sound s.locks g x.sound free;
    numbered = λ i h at. elim (push-cases p.grants g h i at) as (λ _. h.id ≡ i) [ inl old ↦ x.numbered i h old | inr is ↦ ap (λ (k : Grant). k.id) (sym is.1) ∙ named ∙ x.next ∙ sym is.0 ];
    next = ap (λ n. n + 1) x.next ∙ sym (length_push p.grants g);
    granted = λ i id at. let below : id < length p.grants = x.granted i id at in let longer : length (p.grants ++ g ∷ []) ≡ length p.grants + 1 = length_push p.grants g in omega arith;
  }
    where
      fresh : is_in g.id p.let_go ≡ false
      fresh = any_none (λ y. g.id == y) p.let_go (λ i y at. ne_eqb g.id y (λ same. let below : y < length p.grants = x.granted i y at in let next : s.next_lock ≡ length p.grants = x.next in absurd (omega arith)))

      last : cond (not (is_in g.id p.let_go)) (g ∷ []) [] ≡ g ∷ []
      last = ap (λ b. cond (not b) (g ∷ []) []) fresh

  -- a lock that is released
  pub unlock_keeps : (id i : ℕ) (g : Grant) → slice_get s.locks i ≡ Some g → g.id ≡ id
      → AreLocksExact (record s { locks = filter (λ (h : Grant). not (h.id == id)) s.locks }) (record p { let_go = p.let_go ++ id ∷ [] })
  unlock_keeps id i g at named = record {
    held = ap (λ ls. filter (λ (h : Grant). not (h.id == id)) ls) x.held
        ∙ filter-filter (λ (h : Grant). not (h.id == id)) (λ (h : Grant). not (is_in h.id p.let_go)) (λ (h : Grant). not (is_in h.id (p.let_go ++ id ∷ []))) (λ h. ap not (any_push (λ y. h.id == y) p.let_go id) ∙ turned (is_in h.id p.let_go) (h.id == id)) p.grants;
    sound = λ j k a b below at_j at_k. let found = pair_filter (λ (h : Grant). not (h.id == id)) s.locks j k a b below at_j at_k in x.sound found.0 found.1 a b found.2 found.3 found.4;
    numbered = x.numbered;
    next = x.next;
    granted = λ j t at_j. elim (push-cases p.let_go id t j at_j) as (λ _. t < length p.grants) [
      | inl old ↦ x.granted j t old
      | inr is ↦ let below : g.id < length p.grants = slice_get_within p.grants g.id g (held_is i g at) in let same : id ≡ t = is.1 in omega arith
    ];
  }
    where
      turned : (a b : Bool) → not (a || b) ≡ (not b && not a)
      turned true true = refl
      turned true false = refl
      turned false true = refl
      turned false false = refl
