-- A lock is refused as busy exactly if granting it would leave the held locks unsound.
use Rattle.std.proofs.Common.{◌≡◌, ℕ, ◌<◌, Bool, true, false, not, ◌&&◌, List, [], ◌∷◌, ◌++◌, length, refl, ap, sym, ◌∙◌, arith, inl, inr}
use Rattle.std.specs.Prelude.{Some, slice_get}
use Rattle.std.proofs.lemmas.Option.{slice_get_within}
use Rattle.std.proofs.lemmas.Bool.{and_parts, not-false}
use Rattle.base.specs.declared.range.Mode.{Mode}
use Rattle.base.specs.declared.range.Mode.TheVariants.{Reader, Writer}
use Rattle.base.specs.history.Plans.{overlaps}
use Rattle.base.specs.steps.Locks.{Grant, is_reader, is_blocked, AreLocksSound, BusyIsUnsound}
use Rattle.base.proofs.common.KeptLists.{any_found, at_last, at_old, none_any, push-cases}

reader-is : (m : Mode) → is_reader m ≡ true → m ≡ Reader
reader-is Reader h = refl
reader-is Writer h = absurd (let no_way : false ≡ true = h in cc)

-- one that is not blocked may be granted
pub granted-sound : (locks : List Grant) (g : Grant) → AreLocksSound locks → is_blocked g.range g.mode locks ≡ false → AreLocksSound (locks ++ g ∷ [])
granted-sound locks g sound free i j x y below at_i at_j overlap =
    elim (push-cases locks g x i at_i) as (λ _. (x.mode ≡ Reader) × (y.mode ≡ Reader)) [
      | inl at_i_old ↦ elim (push-cases locks g y j at_j) as (λ _. (x.mode ≡ Reader) × (y.mode ≡ Reader)) [
        | inl at_j_old ↦ sound i j x y below at_i_old at_j_old overlap
        | inr is_g ↦
            let fails : (overlaps x.range g.range && not (is_reader x.mode && is_reader g.mode)) ≡ false = none_any (λ (h : Grant). overlaps h.range g.range && not (is_reader h.mode && is_reader g.mode)) locks i x free at_i_old in
            let with_g : overlaps x.range g.range ≡ true = ap (λ (h : Grant). overlaps x.range h.range) is_g.1 ∙ overlap in
            let readers : (is_reader x.mode && is_reader g.mode) ≡ true = not-false (is_reader x.mode && is_reader g.mode) (ap (λ b. b && not (is_reader x.mode && is_reader g.mode)) (sym with_g) ∙ fails) in
            let both : (is_reader x.mode ≡ true) × (is_reader g.mode ≡ true) = and_parts (is_reader x.mode) (is_reader g.mode) readers in
            (reader-is x.mode both.0, ap (λ (h : Grant). h.mode) (sym is_g.1) ∙ reader-is g.mode both.1)
      ]
      | inr is_last ↦ elim (push-cases locks g y j at_j) as (λ _. (x.mode ≡ Reader) × (y.mode ≡ Reader)) [
        | inl at_j_old ↦ absurd (let within : j < length locks = slice_get_within locks j y at_j_old in omega (arith, is_last.0))
        | inr is_g ↦ absurd (omega (arith, is_last.0, is_g.0))
      ]
    ]

-- one that is blocked may not
pub blocked-unsound : (locks : List Grant) (g : Grant) → is_blocked g.range g.mode locks ≡ true → AreLocksSound (locks ++ g ∷ []) → ⊥
blocked-unsound locks g blocked sound =
    let found : (i : ℕ) × (x : Grant) × (slice_get locks i ≡ Some x) × ((overlaps x.range g.range && not (is_reader x.mode && is_reader g.mode)) ≡ true) = any_found (λ (h : Grant). overlaps h.range g.range && not (is_reader h.mode && is_reader g.mode)) locks blocked in
    let parts : (overlaps found.1.range g.range ≡ true) × (not (is_reader found.1.mode && is_reader g.mode) ≡ true) = and_parts (overlaps found.1.range g.range) (not (is_reader found.1.mode && is_reader g.mode)) found.3 in
    let readers : (found.1.mode ≡ Reader) × (g.mode ≡ Reader) = sound found.0 (length locks) found.1 g (slice_get_within locks found.0 found.1 found.2) (at_old locks g found.1 found.0 found.2) (at_last locks g) parts.0 in
    let no_way : false ≡ true = (λ k. not (is_reader (sym readers.0 k) && is_reader (sym readers.1 k))) ∙ parts.1 in cc

-- so it is blocked exactly if granting it would break that
pub busy_is_unsound : BusyIsUnsound
busy_is_unsound locks g sound = (blocked-unsound locks g, by (is_blocked g.range g.mode locks) refl)
  where
    by : (b : Bool) → is_blocked g.range g.mode locks ≡ b → (AreLocksSound (locks ++ g ∷ []) → ⊥) → is_blocked g.range g.mode locks ≡ true
    by true is unsound = is
    by false is unsound = absurd (unsound (granted-sound locks g sound is))
