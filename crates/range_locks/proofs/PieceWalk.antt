-- A walk along the keys of a number gives its pieces.
use Rattle.std.proofs.Common.{◌≡◌, ℕ, zero, suc, ◌+◌, ◌<◌, ◌≤◌, ◌==◌, ◌&&◌, ◌||◌, Bool, true, false, not, cond, List, [], ◌∷◌, ◌++◌, refl, ap, sym, ◌∙◌, arith, inl, inr}
use Rattle.std.specs.Prelude.{Some, None, IfNone, IfSome, Option, is_some, slice_get, nat_lt}
use Rattle.std.specs.List.{count_by, list_any}
use Rattle.range_locks.specs.Rows.{PartRows, part_in}
use Rattle.std.proofs.lemmas.Bool.{cases_lt, eq-eqb, eqb-true, lt-ltb, or_cases}
use Rattle.std.proofs.lemmas.List.{append-nil, append_assoc}
use Rattle.std.proofs.lemmas.List.Sums.{sum_by-cons}
use Rattle.base.specs.formats.Limits.{max_length}
use Rattle.base.specs.steps.Locks.{Grant, is_in, is_reader}
use Rattle.range_locks.specs.declared.held.HeldPiece.{HeldPiece}
use Rattle.range_locks.specs.declared.parts.Part.{Part}
use Rattle.range_locks.specs.Locks.{LockTable}
use Rattle.range_locks.specs.Parts.{AreCounted, counts_of, is_covered_part, reads_at, writes_at}
use Rattle.range_locks.specs.Pieces.{covers_byte, ends_of, piece_between, pieces_along, pieces_from, pieces_of, with_offset}
use Rattle.range_locks.proofs.StoredParts.{no_end, part_here, stored_is}
use Rattle.range_locks.proofs.Ends.{ends_from, ends_from-zero, first_from, in-ends_of, in-with_offset, none_from, rise-ends_of}
use Rattle.range_locks.proofs.LockCounts.{any-find, one}

-- whether some are counted, and whether there is one
any-count : (p : Grant → Bool) (locks : List Grant) → nat_lt 0 (count_by p locks) ≡ list_any p locks
any-count p [] = refl
any-count p (g ∷ locks) = ap (λ x. nat_lt 0 x) (sum_by-cons (λ (h : Grant). cond (p h) 1 0) g locks) ∙ by (p g) (any-count p locks)
  where
    by : (b : Bool) → nat_lt 0 (count_by p locks) ≡ list_any p locks → nat_lt 0 (one b + count_by p locks) ≡ (b || list_any p locks)
    by true rest = lt-ltb 0 (one true + count_by p locks) (omega arith)
    by false rest = ap (λ x. nat_lt 0 x) (omega arith) ∙ rest

-- of either mode
either : (n k : ℕ) (locks : List Grant) → (list_any (λ (g : Grant). not (is_reader g.mode) && covers_byte n k g) locks || list_any (λ (g : Grant). is_reader g.mode && covers_byte n k g) locks) ≡ list_any (covers_byte n k) locks
either n k [] = refl
either n k (g ∷ locks) = by (is_reader g.mode) (covers_byte n k g) (list_any (λ (h : Grant). not (is_reader h.mode) && covers_byte n k h) locks) (list_any (λ (h : Grant). is_reader h.mode && covers_byte n k h) locks) ∙ ap (λ b. covers_byte n k g || b) (either n k locks)
  where
    by : (r c w s : Bool) → (((not r && c) || w) || ((r && c) || s)) ≡ (c || (w || s))
    by true true true s = refl
    by true true false s = refl
    by true false w s = refl
    by false true w s = refl
    by false false w s = refl

-- no end is above the greatest length
ends_within : (n y : ℕ) (locks : List Grant) → ((i : ℕ) (g : Grant) → slice_get locks i ≡ Some g → (g.range.low < g.range.high) × (g.range.high ≤ max_length)) → is_in y (ends_of n locks) ≡ true → y ≤ max_length
ends_within n y [] allowed there = absurd (let no_way : false ≡ true = there in cc)
ends_within n y (g ∷ locks) allowed there = by (n == g.range.number) (ends_within n y locks (λ i h at. allowed (suc i) h at)) there
  where
    own : (g.range.low < g.range.high) × (g.range.high ≤ max_length)
    own = allowed zero g refl

    by : (b : Bool) → (is_in y (ends_of n locks) ≡ true → y ≤ max_length) → is_in y (cond b (with_offset g.range.low (with_offset g.range.high (ends_of n locks))) (ends_of n locks)) ≡ true → y ≤ max_length
    by false rest in_rest = rest in_rest
    by true rest in_all = elim (or_cases (y == g.range.low) (is_in y (with_offset g.range.high (ends_of n locks))) (sym (in-with_offset y g.range.low (with_offset g.range.high (ends_of n locks))) ∙ in_all)) as (λ _. y ≤ max_length) [
      | inl low ↦ let is : y ≡ g.range.low = eqb-true y g.range.low low in omega (arith, own.0, own.1)
      | inr others ↦ elim (or_cases (y == g.range.high) (is_in y (ends_of n locks)) (sym (in-with_offset y g.range.high (ends_of n locks)) ∙ others)) as (λ _. y ≤ max_length) [
        | inl high ↦ let is : y ≡ g.range.high = eqb-true y g.range.high high in omega (arith, own.1)
        | inr there_too ↦ rest there_too
      ]
    ]

-- a number that no lock begins in has no pieces
pub no_pieces : (n : ℕ) (locks : List Grant) → ((k : ℕ) → (counts_of n locks k).ends ≡ 0) → pieces_of n locks ≡ []
no_pieces n locks none = ap (pieces_along n locks) (by (ends_of n locks) refl)
  where
    by : (ends : List ℕ) → ends_of n locks ≡ ends → ends ≡ []
    by [] is = refl
    by (x ∷ xs) is = absurd (
        let there : is_in x (ends_of n locks) ≡ true = ap (is_in x) is ∙ ap (λ b. b || is_in x xs) (eq-eqb x x refl) in
        let no_way : false ≡ true = sym (ap (λ y. nat_lt 0 y) (none x)) ∙ sym (in-ends_of n x locks) ∙ there in cc)

module _ (table : PartRows) (n : ℕ) (held : LockTable) (was : AreCounted n held table) where
  is_end : (k : ℕ) (p : Part) → part_in table k ≡ Some p → is_in k (ends_of n held.locks) ≡ true
  is_end k p at = in-ends_of n k held.locks ∙ lt-ltb 0 (counts_of n held.locks k).ends (stored_is (counts_of n held.locks k) p (sym (was.is k) ∙ at)).1

  no_end_there : (k : ℕ) → part_in table k ≡ None → is_in k (ends_of n held.locks) ≡ true → ⊥
  no_end_there k at there =
      let none : (counts_of n held.locks k).ends ≡ 0 = no_end table (counts_of n held.locks) was.is k at in
      let no_way : false ≡ true = sym (ap (λ x. nat_lt 0 x) none) ∙ sym (in-ends_of n k held.locks) ∙ there in cc

  -- the next key is the next end
  next_end : (offset high : ℕ) (p : Part) → offset ≤ high → part_in table high ≡ Some p → ((k : ℕ) → offset ≤ k → k < high → part_in table k ≡ None)
      → ends_from offset (ends_of n held.locks) ≡ high ∷ ends_from (high + 1) (ends_of n held.locks)
  next_end offset high p from at none = first_from offset high (ends_of n held.locks) (rise-ends_of n held.locks) from (is_end high p at) (λ y there above. elim (cases_lt y high) as (λ _. high ≤ y) [
    | inl below ↦ absurd (no_end_there y (none y above below) there)
    | inr behind ↦ behind
  ])

  last_end : (offset : ℕ) → ((k : ℕ) → offset ≤ k → k < 28449793 → part_in table k ≡ None) → ends_from offset (ends_of n held.locks) ≡ []
  last_end offset none = none_from offset (ends_of n held.locks) (λ y there. elim (cases_lt y offset) as (λ _. y < offset) [
    | inl below ↦ below
    | inr above ↦ absurd (let within : y ≤ max_length = ends_within n y held.locks was.are.allowed there in no_end_there y (none y above (omega arith)) there)
  ])

  module _ (low high : ℕ) (p : Part) (at : part_in table low ≡ Some p) where
    -- what a part tells of its piece
    piece_is : record { low = low; high = high; writer = is_some p.writer; readers = p.readers } ≡ piece_between n held.locks low high
    piece_is =
        let is : p ≡ counts_of n held.locks low = part_here table (counts_of n held.locks) was.is low p at in
        let writer : is_some p.writer ≡ list_any (λ (g : Grant). not (is_reader g.mode) && covers_byte n low g) held.locks = ap (λ (q : Part). is_some q.writer) is ∙ any-find (writes_at n low) held.locks in
        λ i. record { low = low; high = high; writer = writer i; readers = (is i).readers }

    covered_is : is_covered_part p ≡ list_any (covers_byte n low) held.locks
    covered_is =
        let is : p ≡ counts_of n held.locks low = part_here table (counts_of n held.locks) was.is low p at in
        ap is_covered_part is
        ∙ (λ i. any-find (writes_at n low) held.locks i || any-count (reads_at n low) held.locks i)
        ∙ either n low held.locks

-- the pieces so far, and those from the next key on, are all of them
abbrev pub IsWalked : PartRows → List HeldPiece → Option (ℕ × Part) → Type 0
IsWalked table pieces None = (n : ℕ) (held : LockTable) → AreCounted n held table → pieces ≡ pieces_of n held.locks
IsWalked table pieces (Some b) = (b.0 < 28449793) × (part_in table b.0 ≡ Some b.1)
    × ((n : ℕ) (held : LockTable) → AreCounted n held table → pieces ++ pieces_from n held.locks b.0 (ends_from (b.0 + 1) (ends_of n held.locks)) ≡ pieces_of n held.locks)

module _ (table : PartRows) where
  walk_begins : (low : ℕ) (p : Part) → low < 28449793 → part_in table low ≡ Some p → ((k : ℕ) → 0 ≤ k → k < low → part_in table k ≡ None) → IsWalked table [] (Some (low, p))
  walk_begins low p within at none = (within, at, λ n held was. ap (pieces_along n held.locks) (sym (next_end table n held was 0 low p (omega arith) at none) ∙ ends_from-zero (ends_of n held.locks)))

  walk_is_empty : ((k : ℕ) → 0 ≤ k → k < 28449793 → part_in table k ≡ None) → IsWalked table [] None
  walk_is_empty none n held was = ap (pieces_along n held.locks) (sym (last_end table n held was 0 none) ∙ ends_from-zero (ends_of n held.locks))

  -- as it begins
  pub walk_starts : (o : Option (ℕ × Part)) → IfSome o (λ (r : ℕ × Part). (0 ≤ r.0) × (r.0 < 28449793)) → IfSome o (λ (r : ℕ × Part). part_in table r.0 ≡ Some r.1)
      → IfSome o (λ (r : ℕ × Part). (k : ℕ) → 0 ≤ k → k < r.0 → part_in table k ≡ None)
      → IfNone o ((k : ℕ) → 0 ≤ k → k < 28449793 → part_in table k ≡ None) → IsWalked table [] o
  walk_starts None _ _ _ none = walk_is_empty none
  walk_starts (Some r) within at none _ = walk_begins r.0 r.1 within.1 at none

  -- where no key is left
  module _ (pieces : List HeldPiece) (low : ℕ) (p : Part) (walked : IsWalked table pieces (Some (low, p))) where
    pub walk_ends : ((k : ℕ) → low + 1 ≤ k → k < 28449793 → part_in table k ≡ None) → IsWalked table pieces None
    walk_ends none n held was = sym (append-nil pieces) ∙ ap (λ ends. pieces ++ pieces_from n held.locks low ends) (sym (last_end table n held was (low + 1) none)) ∙ walked.2 n held was

    module _ (high : ℕ) (q : Part) (from : low + 1 ≤ high) (within : high < 28449793) (at : part_in table high ≡ Some q)
        (none : (k : ℕ) → low + 1 ≤ k → k < high → part_in table k ≡ None) where
      -- past a piece
      pub walk_piece : is_covered_part p ≡ true → IsWalked table (pieces ++ record { low = low; high = high; writer = is_some p.writer; readers = p.readers } ∷ []) (Some (high, q))
      walk_piece covered = (
        within,
        at,
        λ n held was.
            append_assoc pieces (record { low = low; high = high; writer = is_some p.writer; readers = p.readers } ∷ []) (pieces_from n held.locks high (ends_from (high + 1) (ends_of n held.locks)))
            ∙ ap (λ (x : HeldPiece). pieces ++ x ∷ pieces_from n held.locks high (ends_from (high + 1) (ends_of n held.locks))) (piece_is table n held was low high p walked.1)
            ∙ sym (ap (λ b. pieces ++ cond b (piece_between n held.locks low high ∷ pieces_from n held.locks high (ends_from (high + 1) (ends_of n held.locks))) (pieces_from n held.locks high (ends_from (high + 1) (ends_of n held.locks)))) (sym (covered_is table n held was low high p walked.1) ∙ covered))
            ∙ ap (λ ends. pieces ++ pieces_from n held.locks low ends) (sym (next_end table n held was (low + 1) high q from at none))
            ∙ walked.2 n held was,
      )

      -- past a gap
      pub walk_gap : is_covered_part p ≡ false → IsWalked table pieces (Some (high, q))
      walk_gap covered = (
        within,
        at,
        λ n held was.
            sym (ap (λ b. pieces ++ cond b (piece_between n held.locks low high ∷ pieces_from n held.locks high (ends_from (high + 1) (ends_of n held.locks))) (pieces_from n held.locks high (ends_from (high + 1) (ends_of n held.locks)))) (sym (covered_is table n held was low high p walked.1) ∙ covered))
            ∙ ap (λ ends. pieces ++ pieces_from n held.locks low ends) (sym (next_end table n held was (low + 1) high q from at none))
            ∙ walked.2 n held was,
      )
