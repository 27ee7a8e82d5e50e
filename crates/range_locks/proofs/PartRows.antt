-- Rows rise by offset, so the place of an offset among them says what a table of parts has there.
use Rattle.std.proofs.Common.{◌≡◌, ℕ, zero, suc, ◌<◌, ◌≤◌, ◌==◌, cond, [], ◌∷◌, get_or, length, Result, Ok, Err, IfOk, IfErr, refl, ap, sym, subst, ◌∙◌, arith, inl, inr}
use Rattle.std.specs.Prelude.{Option, Some, None, slice_get, slice_index_or, slice_set}
use Rattle.std.specs.List.{insert, remove}
use Rattle.std.specs.List.Sorted.{IsBinarySearchResult, IsNonDecreasingBy, IsSearchInRange}
use Rattle.std.specs.Ordering.{nat_cmp, ordering_index}
use Rattle.std.proofs.lemmas.Bool.Decides.{nat_tests}
use Rattle.std.proofs.lemmas.Cmp.{ranked}
use Rattle.std.proofs.lemmas.List.Sorted.{IsNonDecreasingBy-from_default}
use Rattle.std.proofs.lemmas.Option.{get_or_from_slice_get, slice_get-get_or, slice_get_within}
use Rattle.std.proofs.lemmas.Bool.{cases_eq, eq-eqb, ne_eqb}
use Rattle.base.proofs.common.KeptLists.{Some-injective}
use Rattle.range_locks.specs.declared.parts.Part.{Part}
use Rattle.range_locks.specs.Parts.{HasNoParts}
use Rattle.range_locks.specs.Rows.{AreAfter, IsFirstFrom, IsGapAt, IsLastUpTo, IsRowAt, PartRows, part_in, Rise}

hit : (k : ℕ) (e : ℕ × Part) (es : PartRows) → e.0 ≡ k → part_in (e ∷ es) k ≡ Some e.1
hit k e es same = ap (λ b. cond b (Some e.1) (part_in es k)) (eq-eqb e.0 k same)

miss : (k : ℕ) (e : ℕ × Part) (es : PartRows) → (e.0 ≡ k → ⊥) → part_in (e ∷ es) k ≡ part_in es k
miss k e es apart = ap (λ b. cond b (Some e.1) (part_in es k)) (ne_eqb e.0 k apart)

-- a choice by whether two offsets are the same
here : {A : Type 0} (k q : ℕ) (v w : A) → q ≡ k → cond (q == k) v w ≡ v
here k q v w same = ap (λ b. cond b v w) (eq-eqb q k same)

elsewhere : {A : Type 0} (k q : ℕ) (v w : A) → (q ≡ k → ⊥) → cond (q == k) v w ≡ w
elsewhere k q v w apart = ap (λ b. cond b v w) (ne_eqb q k apart)

-- a table that has no parts has no entries
pub no_entries : (table : PartRows) → HasNoParts table → length table ≡ 0
no_entries table none = by table refl
  where
    by : (es : PartRows) → table ≡ es → length table ≡ 0
    by [] is = ap length is
    by (e ∷ es) is = absurd (
        let there : part_in table e.0 ≡ Some e.1 = subst (λ l. part_in l e.0 ≡ Some e.1) (sym is) (hit e.0 e es refl) in
        let no_way : Some e.1 ≡ None = sym there ∙ none e.0 in cc)

-- and one that has no entries has no parts
pub no_parts : (table : PartRows) → length table ≡ 0 → HasNoParts table
no_parts table none = by table refl
  where
    by : (es : PartRows) → table ≡ es → HasNoParts table
    by [] is = λ k. ap (λ l. part_in l k) is
    by (e ∷ es) is = absurd (let count : length table ≡ suc (length es) = ap length is in omega (arith, none))

-- nothing begins up to an offset where all rows begin after it
none_after : (at k : ℕ) (es : PartRows) → AreAfter at es → k ≤ at → part_in es k ≡ None
none_after at k [] after within = refl
none_after at k (e ∷ es) after within = miss k e es (λ same. omega (arith, after.0, same)) ∙ none_after at k es after.1 within

later : (low high : ℕ) (es : PartRows) → low ≤ high → AreAfter high es → AreAfter low es
later low high [] below after = tt
later low high (e ∷ es) below after = (omega (arith, after.0), later low high es below after.1)

after_at : (at : ℕ) (es : PartRows) (i : ℕ) (d : ℕ × Part) → AreAfter at es → slice_get es i ≡ Some d → at < d.0
after_at at [] i d after is = absurd (let no_way : ◌≡◌ {A = Option (ℕ × Part)} None (Some d) = is in cc)
after_at at (e ∷ es) zero d after is = subst (λ (x : ℕ × Part). at < x.0) (Some-injective is) after.0
after_at at (e ∷ es) (suc i) d after is = after_at at es i d after.1 is

-- a row for lists to fall back on
no_row : ℕ × Part
no_row = (0, record { ends = 0; readers = 0; writer = None })

-- the row that is read at a place
pub row_read : (es : PartRows) (i : ℕ) (d : ℕ × Part) → i < length es → d ≡ slice_index_or es i d → slice_get es i ≡ Some d
row_read [] i d within is = absurd (omega arith)
row_read (x ∷ xs) zero d within is = ap Some (sym is)
row_read (x ∷ xs) (suc i) d within is = row_read xs i d (omega arith) is

-- rows at later places don't begin before
pub rise_up : (es : PartRows) (i j : ℕ) (d e : ℕ × Part) → Rise es → i ≤ j → slice_get es i ≡ Some d → slice_get es j ≡ Some e → d.0 ≤ e.0
rise_up [] i j d e rise up is at = absurd (let no_way : ◌≡◌ {A = Option (ℕ × Part)} None (Some d) = is in cc)
rise_up (x ∷ xs) zero zero d e rise up is at = let same : d ≡ e = Some-injective (sym is ∙ at) in let same_offset : d.0 ≡ e.0 = ap (λ (y : ℕ × Part). y.0) same in omega arith
rise_up (x ∷ xs) zero (suc j) d e rise up is at = let first : x.0 ≡ d.0 = ap (λ (y : ℕ × Part). y.0) (Some-injective is) in let below : x.0 < e.0 = after_at x.0 xs j e rise.0 at in omega arith
rise_up (x ∷ xs) (suc i) zero d e rise up is at = absurd (omega arith)
rise_up (x ∷ xs) (suc i) (suc j) d e rise up is at = rise_up xs i j d e rise.1 (omega arith) is at

-- a row that begins at an offset
row_from : (at : ℕ) (es : PartRows) (i : ℕ) (e : ℕ × Part) → Rise es → slice_get es i ≡ Some e → e.0 ≡ at → IsRowAt at es i
row_from at [] i e rise is same = absurd (let no_way : ◌≡◌ {A = Option (ℕ × Part)} None (Some e) = is in cc)
row_from at (x ∷ xs) zero e rise is same = ap (λ (y : ℕ × Part). y.0) (Some-injective is) ∙ same
row_from at (x ∷ xs) (suc i) e rise is same = (let below : x.0 < e.0 = after_at x.0 xs i e rise.0 is in omega arith, row_from at xs i e rise.1 is same)

-- a place where a search ends without one
gap_from : (at : ℕ) (es : PartRows) (i : ℕ) → i ≤ length es
    → ((j : ℕ) (e : ℕ × Part) → j < i → slice_get es j ≡ Some e → e.0 < at)
    → ((j : ℕ) (e : ℕ × Part) → i ≤ j → slice_get es j ≡ Some e → at < e.0) → IsGapAt at es i
gap_from at [] i within before after = omega arith
gap_from at (x ∷ xs) zero within before after = after 0 x (omega arith) refl
gap_from at (x ∷ xs) (suc i) within before after =
    (before 0 x (omega arith) refl, gap_from at xs i (omega arith) (λ j e below is. before (suc j) e (omega arith) is) (λ j e from is. after (suc j) e (omega arith) is))

-- the comparisons with an offset rise along rows that rise, as a search by halves needs them
comparisons_rise : (at : ℕ) (es : PartRows) → Rise es → IsNonDecreasingBy (λ row. ordering_index (nat_cmp row.0 at)) es
comparisons_rise at es rise = IsNonDecreasingBy-from_default (λ row. ordering_index (nat_cmp row.0 at)) es no_row (λ i j up within.
    let order : (get_or es i no_row).0 ≤ (get_or es j no_row).0 = rise_up es i j _ _ rise up (slice_get-get_or es i no_row (omega arith)) (slice_get-get_or es j no_row within) in
    grind (arith, nat_tests))

-- so it ends at the row that begins at the offset, or where that would be
pub searched : (at : ℕ) (es : PartRows) → Rise es → (r : Result ℕ ℕ) → IsSearchInRange r (length es) → IsBinarySearchResult (λ row. nat_cmp row.0 at) es r
    → IfOk r (λ place. IsRowAt at es place) × IfErr r (λ place. IsGapAt at es place)
searched at es rise (Ok i) within equal = (row_from at es i _ rise (slice_get-get_or es i no_row within) (ranked _ at _ (sym (equal no_row))), tt)
searched at es rise (Err i) within parted =
    let point = parted (comparisons_rise at es rise) in (
      tt,
      gap_from at es i within
          (λ j e below is. subst (λ (x : ℕ × Part). x.0 < at) (get_or_from_slice_get es j e no_row is) (ranked _ at _ (sym (point.0 j no_row (omega arith) below))))
          (λ j e from is. subst (λ (x : ℕ × Part). at < x.0) (get_or_from_slice_get es j e no_row is) (ranked _ at _ (sym (point.1 j no_row from (slice_get_within es j e is))))),
    )

module _ (at : ℕ) where
  -- what a row says
  pub row_is : (es : PartRows) (i : ℕ) (e : ℕ × Part) → IsRowAt at es i → slice_get es i ≡ Some e → (e.0 ≡ at) × (part_in es at ≡ Some e.1)
  row_is [] i e row is = absurd row
  row_is (x ∷ xs) zero e row is = let same : x ≡ e = Some-injective is in (subst (λ (y : ℕ × Part). y.0 ≡ at) same row, subst (λ (y : ℕ × Part). part_in (x ∷ xs) at ≡ Some y.1) same (hit at x xs row))
  row_is (x ∷ xs) (suc i) e row is = let rest = row_is xs i e row.1 is in (rest.0, miss at x xs (λ same. omega (arith, row.0, same)) ∙ rest.1)

  pub row_within : (es : PartRows) (i : ℕ) → IsRowAt at es i → i < length es
  row_within [] i row = absurd row
  row_within (x ∷ xs) zero row = omega arith
  row_within (x ∷ xs) (suc i) row = let rest : i < length xs = row_within xs i row.1 in omega arith

  pub gap_within : (es : PartRows) (i : ℕ) → IsGapAt at es i → i ≤ length es
  gap_within [] i gap = omega arith
  gap_within (x ∷ xs) zero gap = omega arith
  gap_within (x ∷ xs) (suc i) gap = let rest : i ≤ length xs = gap_within xs i gap.1 in omega arith

  row_past : (es : PartRows) (i : ℕ) → IsRowAt at es i → None ≡ slice_get es i → ⊥
  row_past [] i row is = row
  row_past (x ∷ xs) zero row is = let no_way : ◌≡◌ {A = Option (ℕ × Part)} None (Some x) = is in cc
  row_past (x ∷ xs) (suc i) row is = row_past xs i row.1 is

  -- nothing begins in a gap
  pub gap_none : (es : PartRows) (i : ℕ) → Rise es → IsGapAt at es i → part_in es at ≡ None
  gap_none [] i rise gap = refl
  gap_none (x ∷ xs) zero rise gap = miss at x xs (λ same. omega arith) ∙ none_after x.0 at xs rise.0 (omega arith)
  gap_none (x ∷ xs) (suc i) rise gap = miss at x xs (λ same. omega (arith, gap.0, same)) ∙ gap_none xs i rise.1 gap.1

  -- the row after a gap, and that there is none
  pub gap_next : (es : PartRows) (i : ℕ) (e : ℕ × Part) → Rise es → IsGapAt at es i → slice_get es i ≡ Some e
      → (at ≤ e.0) × (part_in es e.0 ≡ Some e.1) × ((k : ℕ) → at ≤ k → k < e.0 → part_in es k ≡ None)
  gap_next [] i e rise gap is = absurd (let no_way : ◌≡◌ {A = Option (ℕ × Part)} None (Some e) = is in cc)
  gap_next (x ∷ xs) zero e rise gap is =
      let same : x ≡ e = Some-injective is in let offset : x.0 ≡ e.0 = ap (λ (y : ℕ × Part). y.0) same in (
        omega arith,
        subst (λ (y : ℕ × Part). part_in (x ∷ xs) y.0 ≡ Some y.1) same (hit x.0 x xs refl),
        λ k from below. miss k x xs (λ there. omega arith) ∙ none_after x.0 k xs rise.0 (omega arith),
      )
  gap_next (x ∷ xs) (suc i) e rise gap is =
      let rest = gap_next xs i e rise.1 gap.1 is in (
        rest.0,
        miss e.0 x xs (λ there. omega (arith, gap.0, rest.0)) ∙ rest.1,
        λ k from below. miss k x xs (λ there. omega (arith, gap.0)) ∙ rest.2 k from below,
      )

  pub gap_end : (es : PartRows) (i : ℕ) → IsGapAt at es i → None ≡ slice_get es i → (k : ℕ) → at ≤ k → part_in es k ≡ None
  gap_end [] i gap is k from = refl
  gap_end (x ∷ xs) zero gap is k from = absurd (let no_way : ◌≡◌ {A = Option (ℕ × Part)} None (Some x) = is in cc)
  gap_end (x ∷ xs) (suc i) gap is k from = miss k x xs (λ there. omega (arith, gap.0)) ∙ gap_end xs i gap.1 is k from

  -- the row before a gap, and that there is none
  pub gap_first : (es : PartRows) → Rise es → IsGapAt at es 0 → (k : ℕ) → k ≤ at → part_in es k ≡ None
  gap_first [] rise gap k within = refl
  gap_first (x ∷ xs) rise gap k within = miss k x xs (λ there. omega arith) ∙ none_after x.0 k xs rise.0 (omega arith)

  pub gap_last : (es : PartRows) (i : ℕ) (e : ℕ × Part) → Rise es → IsGapAt at es (suc i) → slice_get es i ≡ Some e
      → (e.0 ≤ at) × (part_in es e.0 ≡ Some e.1) × ((k : ℕ) → e.0 < k → k ≤ at → part_in es k ≡ None)
  gap_last [] i e rise gap is = absurd (let no_way : ◌≡◌ {A = Option (ℕ × Part)} None (Some e) = is in cc)
  gap_last (x ∷ xs) zero e rise gap is =
      let same : x ≡ e = Some-injective is in let offset : x.0 ≡ e.0 = ap (λ (y : ℕ × Part). y.0) same in (
        omega (arith, gap.0),
        subst (λ (y : ℕ × Part). part_in (x ∷ xs) y.0 ≡ Some y.1) same (hit x.0 x xs refl),
        λ k after within. miss k x xs (λ there. omega arith) ∙ gap_first xs rise.1 gap.1 k within,
      )
  gap_last (x ∷ xs) (suc i) e rise gap is =
      let rest = gap_last xs i e rise.1 gap.1 is in let below : x.0 < e.0 = after_at x.0 xs i e rise.0 is in (
        rest.0,
        miss e.0 x xs (λ there. omega arith) ∙ rest.1,
        λ k after within. miss k x xs (λ there. omega arith) ∙ rest.2 k after within,
      )

  pub gap_past : (es : PartRows) (i : ℕ) → IsGapAt at es (suc i) → None ≡ slice_get es i → ⊥
  gap_past [] i gap is = omega arith
  gap_past (x ∷ xs) zero gap is = let no_way : ◌≡◌ {A = Option (ℕ × Part)} None (Some x) = is in cc
  gap_past (x ∷ xs) (suc i) gap is = gap_past xs i gap.1 is

  -- what is read there
  pub first_at_row : (es : PartRows) (i : ℕ) → Rise es → IsRowAt at es i → (o : Option (ℕ × Part)) → o ≡ slice_get es i → IsFirstFrom at es o
  first_at_row es i rise row None is = absurd (row_past es i row is)
  first_at_row es i rise row (Some e) is =
      let there = row_is es i e row (sym is) in
      (omega (arith, there.0), subst (λ k. part_in es k ≡ Some e.1) (sym there.0) there.1, λ k from below. absurd (omega (arith, there.0)))

  pub first_at_gap : (es : PartRows) (i : ℕ) → Rise es → IsGapAt at es i → (o : Option (ℕ × Part)) → o ≡ slice_get es i → IsFirstFrom at es o
  first_at_gap es i rise gap None is = gap_end es i gap is
  first_at_gap es i rise gap (Some e) is = gap_next es i e rise gap (sym is)

  pub last_at_row : (es : PartRows) (i : ℕ) → Rise es → IsRowAt at es i → (o : Option (ℕ × Part)) → o ≡ slice_get es i → IsLastUpTo at es o
  last_at_row es i rise row None is = absurd (row_past es i row is)
  last_at_row es i rise row (Some e) is =
      let there = row_is es i e row (sym is) in
      (omega (arith, there.0), subst (λ k. part_in es k ≡ Some e.1) (sym there.0) there.1, λ k after within. absurd (omega (arith, there.0)))

  pub last_at_gap : (es : PartRows) (i : ℕ) → Rise es → IsGapAt at es (suc i) → (o : Option (ℕ × Part)) → o ≡ slice_get es i → IsLastUpTo at es o
  last_at_gap es i rise gap None is = absurd (gap_past es i gap is)
  last_at_gap es i rise gap (Some e) is = gap_last es i e rise gap (sym is)

  -- a row that is put into a gap
  module _ (p : Part) where
    pub get-inserted : (es : PartRows) (i : ℕ) → IsGapAt at es i → (q : ℕ) → part_in (insert es i (at, p)) q ≡ cond (q == at) (Some p) (part_in es q)
    get-inserted es zero gap q = elim (cases_eq q at) as (λ _. part_in ((at, p) ∷ es) q ≡ cond (q == at) (Some p) (part_in es q)) [
      | inl same ↦ hit q (at, p) es (sym same) ∙ sym (here at q (Some p) (part_in es q) same)
      | inr apart ↦ miss q (at, p) es (λ same. apart (sym same)) ∙ sym (elsewhere at q (Some p) (part_in es q) apart)
    ]
    get-inserted [] (suc i) gap q = absurd (omega arith)
    get-inserted (x ∷ xs) (suc i) gap q = elim (cases_eq x.0 q) as (λ _. part_in (x ∷ insert xs i (at, p)) q ≡ cond (q == at) (Some p) (part_in (x ∷ xs) q)) [
      | inl same ↦ hit q x (insert xs i (at, p)) same ∙ sym (elsewhere at q (Some p) (part_in (x ∷ xs) q) (λ there. omega (arith, gap.0, same)) ∙ hit q x xs same)
      | inr apart ↦ miss q x (insert xs i (at, p)) apart ∙ get-inserted xs i gap.1 q ∙ sym (ap (λ o. cond (q == at) (Some p) o) (miss q x xs apart))
    ]

    after-inserted : (b : ℕ) (es : PartRows) (i : ℕ) → b < at → AreAfter b es → AreAfter b (insert es i (at, p))
    after-inserted b es zero below after = (below, after)
    after-inserted b [] (suc i) below after = (below, tt)
    after-inserted b (x ∷ xs) (suc i) below after = (after.0, after-inserted b xs i below after.1)

    pub rise-inserted : (es : PartRows) (i : ℕ) → Rise es → IsGapAt at es i → Rise (insert es i (at, p))
    rise-inserted [] zero rise gap = (tt, tt)
    rise-inserted [] (suc i) rise gap = absurd (omega arith)
    rise-inserted (x ∷ xs) zero rise gap = ((gap, later at x.0 xs (omega arith) rise.0), rise)
    rise-inserted (x ∷ xs) (suc i) rise gap = (after-inserted x.0 xs i gap.0 rise.0, rise-inserted xs i rise.1 gap.1)

    -- another part in a row
    pub get-replaced : (es : PartRows) (i : ℕ) → IsRowAt at es i → (q : ℕ) → part_in (slice_set es i (at, p)) q ≡ cond (q == at) (Some p) (part_in es q)
    get-replaced [] i row q = absurd row
    get-replaced (x ∷ xs) zero row q = elim (cases_eq q at) as (λ _. part_in ((at, p) ∷ xs) q ≡ cond (q == at) (Some p) (part_in (x ∷ xs) q)) [
      | inl same ↦ hit q (at, p) xs (sym same) ∙ sym (here at q (Some p) (part_in (x ∷ xs) q) same)
      | inr apart ↦ miss q (at, p) xs (λ same. apart (sym same)) ∙ sym (elsewhere at q (Some p) (part_in (x ∷ xs) q) apart ∙ miss q x xs (λ same. apart (sym same ∙ row)))
    ]
    get-replaced (x ∷ xs) (suc i) row q = elim (cases_eq x.0 q) as (λ _. part_in (x ∷ slice_set xs i (at, p)) q ≡ cond (q == at) (Some p) (part_in (x ∷ xs) q)) [
      | inl same ↦ hit q x (slice_set xs i (at, p)) same ∙ sym (elsewhere at q (Some p) (part_in (x ∷ xs) q) (λ there. omega (arith, row.0, same)) ∙ hit q x xs same)
      | inr apart ↦ miss q x (slice_set xs i (at, p)) apart ∙ get-replaced xs i row.1 q ∙ sym (ap (λ o. cond (q == at) (Some p) o) (miss q x xs apart))
    ]

    after-replaced : (b : ℕ) (es : PartRows) (i : ℕ) → b < at → AreAfter b es → AreAfter b (slice_set es i (at, p))
    after-replaced b [] i below after = tt
    after-replaced b (x ∷ xs) zero below after = (below, after.1)
    after-replaced b (x ∷ xs) (suc i) below after = (after.0, after-replaced b xs i below after.1)

    pub rise-replaced : (es : PartRows) (i : ℕ) → Rise es → IsRowAt at es i → Rise (slice_set es i (at, p))
    rise-replaced [] i rise row = absurd row
    rise-replaced (x ∷ xs) zero rise row = (subst (λ b. AreAfter b xs) row rise.0, rise.1)
    rise-replaced (x ∷ xs) (suc i) rise row = (after-replaced x.0 xs i row.0 rise.0, rise-replaced xs i rise.1 row.1)

  -- a row that is taken out
  pub get-removed : (es : PartRows) (i : ℕ) → Rise es → IsRowAt at es i → (q : ℕ) → part_in (remove es i) q ≡ cond (q == at) None (part_in es q)
  get-removed [] i rise row q = absurd row
  get-removed (x ∷ xs) zero rise row q = elim (cases_eq q at) as (λ _. part_in xs q ≡ cond (q == at) None (part_in (x ∷ xs) q)) [
    | inl same ↦ none_after x.0 q xs rise.0 (let first : x.0 ≡ at = row in omega arith) ∙ sym (here at q None (part_in (x ∷ xs) q) same)
    | inr apart ↦ sym (elsewhere at q None (part_in (x ∷ xs) q) apart ∙ miss q x xs (λ same. apart (sym same ∙ row)))
  ]
  get-removed (x ∷ xs) (suc i) rise row q = elim (cases_eq x.0 q) as (λ _. part_in (x ∷ remove xs i) q ≡ cond (q == at) None (part_in (x ∷ xs) q)) [
    | inl same ↦ hit q x (remove xs i) same ∙ sym (elsewhere at q None (part_in (x ∷ xs) q) (λ there. omega (arith, row.0, same)) ∙ hit q x xs same)
    | inr apart ↦ miss q x (remove xs i) apart ∙ get-removed xs i rise.1 row.1 q ∙ sym (ap (λ o. cond (q == at) None o) (miss q x xs apart))
  ]

  -- where no row is to be taken out
  pub get-kept : (es : PartRows) (i : ℕ) → Rise es → IsGapAt at es i → (q : ℕ) → part_in es q ≡ cond (q == at) None (part_in es q)
  get-kept es i rise gap q = elim (cases_eq q at) as (λ _. part_in es q ≡ cond (q == at) None (part_in es q)) [
    | inl same ↦ subst (λ k. part_in es k ≡ None) (sym same) (gap_none es i rise gap) ∙ sym (here at q None (part_in es q) same)
    | inr apart ↦ sym (elsewhere at q None (part_in es q) apart)
  ]

after-removed : (b : ℕ) (es : PartRows) (i : ℕ) → AreAfter b es → AreAfter b (remove es i)
after-removed b [] zero after = tt
after-removed b [] (suc i) after = tt
after-removed b (x ∷ xs) zero after = after.1
after-removed b (x ∷ xs) (suc i) after = (after.0, after-removed b xs i after.1)

pub rise-removed : (es : PartRows) (i : ℕ) → Rise es → Rise (remove es i)
rise-removed [] zero rise = tt
rise-removed [] (suc i) rise = tt
rise-removed (x ∷ xs) zero rise = rise.1
rise-removed (x ∷ xs) (suc i) rise = (after-removed x.0 xs i rise.0, rise-removed xs i rise.1)
