-- How high the ordinals of kept blocks go, and which blocks a search for a receipt may pass over.
use Rattle.std.proofs.Common.{◌≡◌, ℕ, zero, suc, ◌+◌, ◌-◌, ◌<◌, ◌≤◌, ◌||◌, inl, inr, Bool, false, List, [], ◌∷◌, ◌++◌, true, length, length-append, length-take, take, take-add, drop, get_or, get_or-take, ltb, ltb-true, refl, sym, ap, subst, ◌∙◌, arith}
use Rattle.std.specs.List.{list_any, slice_range}
use Rattle.std.proofs.lemmas.Bool.{cases_lt}
use Rattle.std.proofs.lemmas.List.{get_or_append_left, get_or_default, get_or_push}
use Rattle.std.proofs.lemmas.List.Folds.{list_any-append, list_any_more, list_any_none}
use Rattle.std.proofs.Math.Bool.{or-true, or-false}
use Rattle.base.specs.declared.names.Receipt.{Receipt}
use Rattle.intent_log.specs.Kept.{AreRising, ReachBelow, ReachUpTo}
use Rattle.intent_log.specs.Receipts.{ends_of}
use Rattle.intent_log.specs.declared.kept_block.KeptBlock as code
use Rattle.intent_log.proofs.KeptBlocks.{has_receipt}
use Rattle.intent_log.proofs.Receipts.{none_outside}

-- what a search by halves passed over
pub passed_below : (ordinal n : ℕ) (bs : List code.KeptBlock) → ((k : ℕ) (d : code.KeptBlock) → 0 ≤ k → k < n → ltb (get_or bs k d).last.0 ordinal ≡ true) → ReachBelow ordinal (take n bs)
passed_below ordinal n bs passed k d within =
    let less : k < n = omega (arith, within, length-take n bs) in
    let at : get_or (take n bs) k d ≡ get_or bs k d = get_or-take n bs k d less in
    rw at (ltb-true (get_or bs k d).last.0 ordinal (passed k d (omega arith) less))

-- blocks whose ordinals are all below a receipt's don't have it
none_below : (r : Receipt) (bs : List code.KeptBlock) → ReachBelow r.ordinal.0 bs → list_any (has_receipt r) bs ≡ false
none_below r bs below = list_any_none (has_receipt r) bs (λ k d within. other (get_or bs k d) (below k d within))
  where
    other : (b : code.KeptBlock) → b.last.0 < r.ordinal.0 → has_receipt r b ≡ false
    other b less = none_outside r b.first.0 b.last.0 (ends_of b.holds) b.between (λ low high. omega (arith, high, less))

-- so a search for it may begin after them
pub found_from : (r : Receipt) (first flushed : ℕ) (bs : List code.KeptBlock) → first ≤ flushed → ReachBelow r.ordinal.0 (take first bs)
    → list_any (has_receipt r) (slice_range bs first flushed) ≡ list_any (has_receipt r) (take flushed bs)
found_from r first flushed bs le below =
    let whole : first + (flushed - first) ≡ flushed = omega (arith, le) in
    sym (ap (λ (n : ℕ). list_any (has_receipt r) (take n bs)) (sym whole)
    ∙ ap (λ (l : List code.KeptBlock). list_any (has_receipt r) l) (take-add first (flushed - first) bs)
    ∙ list_any-append (has_receipt r) (take first bs) (take (flushed - first) (drop first bs))
    ∙ ap (λ (x : Bool). x || list_any (has_receipt r) (slice_range bs first flushed)) (none_below r (take first bs) below))

-- no block is flushed
pub none_flushed_yet : (r : Receipt) (flushed : ℕ) (bs : List code.KeptBlock) → flushed < 1 → list_any (has_receipt r) (take flushed bs) ≡ false
none_flushed_yet r zero bs less = refl
none_flushed_yet r (suc flushed) bs less = absurd (omega (arith, less))

-- if the newest flushed block doesn't reach a receipt, no flushed block has it
pub newest_below : (r : Receipt) (last flushed : ℕ) (newest : code.KeptBlock) (bs : List code.KeptBlock) → last + 1 ≡ flushed → flushed ≤ length bs → newest ≡ get_or bs last newest
    → AreRising bs → newest.last.0 < r.ordinal.0 → list_any (has_receipt r) (take flushed bs) ≡ false
newest_below r last flushed newest bs next within at rising below = none_below r (take flushed bs) each
  where
    each : ReachBelow r.ordinal.0 (take flushed bs)
    each k d less =
        let early : k < flushed = omega (arith, less, length-take flushed bs) in
        let up = rising k last d (omega (arith, early, next)) (omega (arith, next, within)) in
        let same : get_or bs last d ≡ newest = get_or_default bs last d newest (omega (arith, next, within)) ∙ sym at in
        let low : (get_or bs k d).last.0 ≤ newest.last.0 = subst (λ (b : code.KeptBlock). (get_or bs k d).last.0 ≤ b.last.0) same up in
        rw (get_or-take flushed bs k d early) (omega (arith, low, below))

-- if it does, a search for the receipt begins at it or before it
pub begins_before : (ordinal first last : ℕ) (newest : code.KeptBlock) (bs : List code.KeptBlock) → last < length bs → newest ≡ get_or bs last newest
    → ReachBelow ordinal (take first bs) → ordinal ≤ newest.last.0 → first ≤ last
begins_before ordinal first last newest bs within at below reaches = elim (cases_lt last first) [
  | inl past ↦
      let low = below last newest (omega (arith, past, within, length-take first bs)) in
      let same : get_or (take first bs) last newest ≡ newest = get_or-take first bs last newest past ∙ sym at in
      let less : newest.last.0 < ordinal = subst (λ (b : code.KeptBlock). b.last.0 < ordinal) same low in
      absurd (omega (arith, less, reaches))
  | inr le ↦ omega (arith, le)
]

-- the flushed blocks are those before the newest one, and it
newest_of : (r : Receipt) (last flushed : ℕ) (newest : code.KeptBlock) (bs : List code.KeptBlock) → last + 1 ≡ flushed → flushed ≤ length bs → newest ≡ get_or bs last newest
    → list_any (has_receipt r) (take flushed bs) ≡ (list_any (has_receipt r) (take last bs) || has_receipt r newest)
newest_of r last flushed newest bs next within at =
    ap (λ (n : ℕ). list_any (has_receipt r) (take n bs)) (sym next)
    ∙ list_any_more (has_receipt r) bs last newest (omega (arith, next, within))
    ∙ ap (λ (b : code.KeptBlock). list_any (has_receipt r) (take last bs) || has_receipt r b) (sym at)

pub newest_has : (r : Receipt) (last flushed : ℕ) (newest : code.KeptBlock) (bs : List code.KeptBlock) → last + 1 ≡ flushed → flushed ≤ length bs → newest ≡ get_or bs last newest
    → has_receipt r newest ≡ true → list_any (has_receipt r) (take flushed bs) ≡ true
newest_has r last flushed newest bs next within at has =
    newest_of r last flushed newest bs next within at ∙ ap (λ (x : Bool). list_any (has_receipt r) (take last bs) || x) has ∙ or-true (list_any (has_receipt r) (take last bs))

pub newest_has_not : (r : Receipt) (last flushed : ℕ) (newest : code.KeptBlock) (bs : List code.KeptBlock) → last + 1 ≡ flushed → flushed ≤ length bs → newest ≡ get_or bs last newest
    → has_receipt r newest ≡ false → list_any (has_receipt r) (take flushed bs) ≡ list_any (has_receipt r) (take last bs)
newest_has_not r last flushed newest bs next within at other =
    newest_of r last flushed newest bs next within at ∙ ap (λ (x : Bool). list_any (has_receipt r) (take last bs) || x) other ∙ or-false (list_any (has_receipt r) (take last bs))

-- the blocks behind the first one
pub rises_behind : (b : code.KeptBlock) (bs : List code.KeptBlock) → AreRising (b ∷ bs) → AreRising bs
rises_behind b bs rising i j d le within = rising (suc i) (suc j) d (omega (arith, le)) (omega (arith, within))

-- a block that goes as high as all before it
pub rises_on : (top : ℕ) (bs : List code.KeptBlock) (b : code.KeptBlock) → AreRising bs → ReachUpTo top bs → top ≤ b.last.0 → AreRising (bs ++ b ∷ [])
rises_on top bs b rising upto above i j d le within = elim (cases_lt j (length bs)) [
  | inl less ↦
      let first : get_or (bs ++ b ∷ []) i d ≡ get_or bs i d = get_or_append_left bs (b ∷ []) d i (omega (arith, le, less)) in
      let second : get_or (bs ++ b ∷ []) j d ≡ get_or bs j d = get_or_append_left bs (b ∷ []) d j less in
      rw (first, second) (rising i j d le less)
  | inr more ↦
      let last : length bs ≡ j = omega (arith, more, within, length-append bs (b ∷ [])) in
      let second : get_or (bs ++ b ∷ []) j d ≡ b = get_or_push bs b d j last in
      elim (cases_lt i (length bs)) [
        | inl less ↦
            let first : get_or (bs ++ b ∷ []) i d ≡ get_or bs i d = get_or_append_left bs (b ∷ []) d i less in
            let low = upto i d less in
            rw (first, second) (omega (arith, low, above))
        | inr also ↦
            let same : i ≡ j = omega (arith, last, le, also) in
            rw same (omega arith)
      ]
]
