-- A sync writes no more indirect blocks of an object of two levels than its operations are estimated at.
use Rattle.std.proofs.Common.{◌≡◌, ℕ, zero, suc, ◌+◌, ◌*◌, ◌/◌, ◌<◌, ◌≤◌, Bool, true, false, not, ◌&&◌, ◌||◌, List, [], ◌∷◌, length, refl, sym, ◌∙◌, ap, arith, inl, inr}
use Rattle.std.specs.Prelude.{◌==◌, nat_lt, sum_by, if◌then◌else◌}
use Rattle.std.specs.Option.{option_map_or}
use Rattle.std.specs.List.{list_any, range_with_len, count_by}
use Rattle.std.proofs.lemmas.Bool.{and_parts, ltb-true, lt-ltb, le-leb, lt-leb, le-ltb, cases_lt, false_from_ne_true, false≢true, and_from, and_right}
use Rattle.std.proofs.lemmas.List.Sums.{sum_by-le-sum_by, sum_by-cons}
use Rattle.base.specs.declared.operation.Op.{Op}
use Rattle.base.specs.declared.operation.Op.TheVariants.{Create, Remove, Write, SetLength, SetName}
use Rattle.base.specs.declared.record_state.RecordState.{RecordState}
use Rattle.base.specs.declared.record_state.RecordState.TheVariants.{Unchanged, Dirty, Hole}
use Rattle.base.specs.formats.Limits.{pointer_count, record_size, one_level_length}
use Rattle.base.specs.history.Contents.{Contents, length_of}
use Rattle.base.specs.history.Plans.{strips_touched}
use Rattle.base.specs.tree.Places.{record_of_strip, strip_start}
use Rattle.base.specs.tree.Syncs.{has_block_after, is_change_of, is_unchanged, is_record_touched, state_after_cut, state_after_op, contents_after, record_state, pointer_numbers}
use Rattle.base.proofs.tree.Sums.{as_one, sum_by-none, sum_by-sum_by, count_within}
use Rattle.base.proofs.common.KeptLists.{none_between}

-- Some record of a strip changed, and some has a block after, by the states of the records of its object and by which
-- of the strip's pointers had a block.
abbrev pub is_changed_by : (ℕ → RecordState) → ℕ → Bool
is_changed_by state j = list_any (λ k. not (is_unchanged (state (record_of_strip j k)))) pointer_numbers

abbrev pub has_after_by : (ℕ → RecordState) → (ℕ → ℕ → Bool) → ℕ → Bool
has_after_by state had j = list_any (λ k. has_block_after (state (record_of_strip j k)) (had j k)) pointer_numbers

abbrev pub is_written_by : (ℕ → RecordState) → (ℕ → ℕ → Bool) → ℕ → Bool
is_written_by state had j = is_changed_by state j && has_after_by state had j

-- the indirect blocks of two levels that an operation is estimated at, and those of an object
abbrev pub strips_for : Op → ℕ
strips_for (Create m) = 0
strips_for (Remove m) = 0
strips_for (Write m offset bytes) = strips_touched offset (length bytes)
strips_for (SetLength m new) = 1
strips_for (SetName bytes) = 0

abbrev pub strips_of : ℕ → Op → ℕ
strips_of n op = if is_change_of n op then strips_for op else 0

-- tests that agree on numbers in a row
any_range : (p q : ℕ → Bool) (a count : ℕ) → ((i : ℕ) → a ≤ i → i < a + count → p i ≡ q i) → list_any p (range_with_len a count) ≡ list_any q (range_with_len a count)
any_range p q a zero same = refl
any_range p q a (suc count) same =
    (λ i. same a (omega arith) (omega arith) i || any_range p q (a + 1) count (λ k from to. same k (omega (arith, from)) (omega (arith, to))) i)

-- a strip of which each record is as before is written if it was
same_strip : (state other : ℕ → RecordState) (had : ℕ → ℕ → Bool) (j : ℕ) → ((k : ℕ) → k < pointer_count → other (record_of_strip j k) ≡ state (record_of_strip j k))
    → is_written_by other had j ≡ is_written_by state had j
same_strip state other had j same =
    (λ i. any_range (λ k. not (is_unchanged (other (record_of_strip j k)))) (λ k. not (is_unchanged (state (record_of_strip j k)))) 0 pointer_count
    (λ k from to. ap (λ s. not (is_unchanged s)) (same k (omega (arith, to)))) i
    && any_range (λ k. has_block_after (other (record_of_strip j k)) (had j k)) (λ k. has_block_after (state (record_of_strip j k)) (had j k)) 0 pointer_count
    (λ k from to. ap (λ s. has_block_after s (had j k)) (same k (omega (arith, to)))) i)

-- one of which each record is a hole is not
empty_strip : (state : ℕ → RecordState) (had : ℕ → ℕ → Bool) (j : ℕ) → ((k : ℕ) → k < pointer_count → state (record_of_strip j k) ≡ Hole) → is_written_by state had j ≡ false
empty_strip state had j holes =
    and_right (is_changed_by state j) (has_after_by state had j)
    (none_between (λ k. has_block_after (state (record_of_strip j k)) (had j k)) 0 pointer_count (λ k from to. ap (λ s. has_block_after s (had j k)) (holes k (omega (arith, to)))))

-- which strips an operation may have written
abbrev is_strip_touched : ℕ → ℕ → ℕ → Bool
is_strip_touched j offset count = nat_lt offset (strip_start (j + 1)) && nat_lt (strip_start j) (offset + count)

abbrev is_strip_cut : ℕ → ℕ → Bool
is_strip_cut j new = nat_lt (strip_start j) new && nat_lt new (strip_start (j + 1))

abbrev may_write : ℕ → ℕ → Op → Bool
may_write n j (Create m) = false
may_write n j (Remove m) = false
may_write n j (Write m offset bytes) = (m.0 == n) && is_strip_touched j offset (length bytes)
may_write n j (SetLength m new) = (m.0 == n) && is_strip_cut j new
may_write n j (SetName bytes) = false

at_most_one : (a : Bool) (n : ℕ) → as_one a ≤ n + 1
at_most_one true n = omega arith
at_most_one false n = omega arith

as-one-same : (a b : Bool) → a ≡ b → as_one a ≤ as_one b
as-one-same a b same = let e : as_one a ≡ as_one b = ap as_one same in omega (arith, e)

as-one-none : (a : Bool) (n : ℕ) → a ≡ false → as_one a ≤ n
as-one-none a n none = let e : as_one a ≡ 0 = ap as_one none in omega (arith, e)

module _ (n j : ℕ) (had : ℕ → ℕ → Bool) (state : ℕ → RecordState) where
  abbrev written : (ℕ → RecordState) → ℕ
  written s = as_one (is_written_by s had j)

  hole_step : (b : Bool) → written (λ r. if b then Hole else state r) ≤ written state + 0
  hole_step true = as-one-none (is_written_by (λ r. Hole) had j) (written state + 0) (empty_strip (λ r. Hole) had j (λ k below. refl))
  hole_step false = omega arith

  -- a record that a write touches lies in a strip that it touches
  touched_strip : (k offset count : ℕ) → k < pointer_count → is_record_touched (record_of_strip j k) offset count ≡ true → is_strip_touched j offset count ≡ true
  touched_strip k offset count below touched =
      let parts = and_parts (nat_lt offset (record_size * (record_of_strip j k + 1))) (nat_lt (record_size * record_of_strip j k) (offset + count)) touched in
      let before : offset < record_size * (record_of_strip j k + 1) = ltb-true offset (record_size * (record_of_strip j k + 1)) parts.0 in
      let behind : record_size * record_of_strip j k < offset + count = ltb-true (record_size * record_of_strip j k) (offset + count) parts.1 in
      and_from (nat_lt offset (strip_start (j + 1))) (nat_lt (strip_start j) (offset + count))
      (lt-ltb offset (strip_start (j + 1)) (omega (arith, before, below))) (lt-ltb (strip_start j) (offset + count) (omega (arith, behind)))

  write_step : (b : Bool) (offset count : ℕ) → written (λ r. if b && is_record_touched r offset count then Dirty else state r) ≤ written state + as_one (b && is_strip_touched j offset count)
  write_step false offset count = omega arith
  write_step true offset count = by_test (is_strip_touched j offset count) refl
    where
      by_test : (t : Bool) → is_strip_touched j offset count ≡ t → written (λ r. if is_record_touched r offset count then Dirty else state r) ≤ written state + as_one t
      by_test true is = at_most_one (is_written_by (λ r. if is_record_touched r offset count then Dirty else state r) had j) (written state)
      by_test false is =
          let same = same_strip state (λ r. if is_record_touched r offset count then Dirty else state r) had j
          (λ k below. ap (λ (t : Bool). if t then Dirty else state (record_of_strip j k))
          (false_from_ne_true (is_record_touched (record_of_strip j k) offset count) (λ touched. false≢true (sym is ∙ touched_strip k offset count below touched)))) in
          let less = as-one-same (is_written_by (λ r. if is_record_touched r offset count then Dirty else state r) had j) (is_written_by state had j) same in
          omega (arith, less)

  cut_step : (b shorter : Bool) (new : ℕ) → written (λ r. if b && shorter then state_after_cut r new (state r) else state r) ≤ written state + as_one (b && is_strip_cut j new)
  cut_step false shorter new = omega arith
  cut_step true false new = omega arith
  cut_step true true new = elim (cases_lt (strip_start j) new) as (λ _. written (λ r. state_after_cut r new (state r)) ≤ written state + as_one (is_strip_cut j new)) [
    | inr low ↦ as-one-none (is_written_by (λ r. state_after_cut r new (state r)) had j) (written state + as_one (is_strip_cut j new)) (empty_strip (λ r. state_after_cut r new (state r)) had j
        (λ k below. ap (λ (t : Bool). if t then Hole else (if nat_lt new (record_size * (record_of_strip j k + 1)) then Dirty else state (record_of_strip j k))) (le-leb new (record_size * record_of_strip j k) (omega (arith, low)))))
    | inl from ↦ elim (cases_lt new (strip_start (j + 1))) as (λ _. written (λ r. state_after_cut r new (state r)) ≤ written state + as_one (is_strip_cut j new)) [
      | inl to ↦
          let cut : as_one (is_strip_cut j new) ≡ 1 = ap as_one (and_from (nat_lt (strip_start j) new) (nat_lt new (strip_start (j + 1))) (lt-ltb (strip_start j) new from) (lt-ltb new (strip_start (j + 1)) to)) in
          let one = at_most_one (is_written_by (λ r. state_after_cut r new (state r)) had j) (written state) in
          omega (arith, cut, one)
      | inr past ↦
          let same = same_strip state (λ r. state_after_cut r new (state r)) had j (λ k below.
          ap (λ (t : Bool). if t then Hole else (if nat_lt new (record_size * (record_of_strip j k + 1)) then Dirty else state (record_of_strip j k))) (lt-leb new (record_size * record_of_strip j k) (omega (arith, past, below)))
          ∙ ap (λ (t : Bool). if t then Dirty else state (record_of_strip j k)) (le-ltb new (record_size * (record_of_strip j k + 1)) (omega (arith, past, below)))) in
          let less = as-one-same (is_written_by (λ r. state_after_cut r new (state r)) had j) (is_written_by state had j) same in
          omega (arith, less)
    ]
  ]

  one_step : (op : Op) (c : Contents) → written (λ r. state_after_op n r op c (state r)) ≤ written state + as_one (may_write n j op)
  one_step (Create m) c = hole_step (m.0 == n)
  one_step (Remove m) c = hole_step (m.0 == n)
  one_step (Write m offset bytes) c = write_step (m.0 == n) offset (length bytes)
  one_step (SetLength m new) c = cut_step (m.0 == n) (option_map_or (λ old. nat_lt new old) (length_of c n) false) new
  one_step (SetName bytes) c = omega arith

all_steps : (n j : ℕ) (had : ℕ → ℕ → Bool) (ops : List Op) (c : Contents) (state : ℕ → RecordState)
    → as_one (is_written_by (λ r. record_state n r ops c (state r)) had j) ≤ as_one (is_written_by state had j) + count_by (may_write n j) ops
all_steps n j had [] c state = omega arith
all_steps n j had (op ∷ ops) c state =
    let first = one_step n j had state op c in
    let rest = all_steps n j had ops (contents_after op c) (λ r. state_after_op n r op c (state r)) in
    omega (arith, first, rest, sum_by-cons (λ o. as_one (may_write n j o)) op ops)

-- an operation may write no more strips than it is estimated at
write_strips : (offset count many : ℕ) → count_by (λ j. is_strip_touched j offset count) (range_with_len 0 many) ≤ strips_touched offset count
unfolding one_level_length
write_strips offset count many = count_within (λ j. is_strip_touched j offset count) (offset / one_level_length) (strips_touched offset count) 0 many within
  where
    within : (j : ℕ) → 0 ≤ j → j < 0 + many → is_strip_touched j offset count ≡ true → (offset / one_level_length ≤ j) × (j < offset / one_level_length + strips_touched offset count)
    within j from to touched =
        let parts = and_parts (nat_lt offset (strip_start (j + 1))) (nat_lt (strip_start j) (offset + count)) touched in
        let before : offset < strip_start (j + 1) = ltb-true offset (strip_start (j + 1)) parts.0 in
        let behind : strip_start j < offset + count = ltb-true (strip_start j) (offset + count) parts.1 in
        (omega arith, omega arith)

cut_strips : (new many : ℕ) → count_by (λ j. is_strip_cut j new) (range_with_len 0 many) ≤ 1
cut_strips new many = count_within (λ j. is_strip_cut j new) (new / (record_size * pointer_count)) 1 0 many within
  where
    within : (j : ℕ) → 0 ≤ j → j < 0 + many → is_strip_cut j new ≡ true → (new / (record_size * pointer_count) ≤ j) × (j < new / (record_size * pointer_count) + 1)
    within j from to cut =
        let parts = and_parts (nat_lt (strip_start j) new) (nat_lt new (strip_start (j + 1))) cut in
        let behind : strip_start j < new = ltb-true (strip_start j) new parts.0 in
        let before : new < strip_start (j + 1) = ltb-true new (strip_start (j + 1)) parts.1 in
        (omega arith, omega arith)

none_of : (many : ℕ) → count_by (λ (j : ℕ). false) (range_with_len 0 many) ≡ 0
none_of many = sum_by-none (λ (j : ℕ). 0) (range_with_len 0 many) (λ j. refl)

under : (b : Bool) (p : ℕ → Bool) (many w : ℕ) → count_by p (range_with_len 0 many) ≤ w → count_by (λ j. b && p j) (range_with_len 0 many) ≤ (if b then w else 0)
under true p many w h = h
under false p many w h = let none = none_of many in omega (arith, none)

one_operation : (n many : ℕ) (op : Op) → count_by (λ j. may_write n j op) (range_with_len 0 many) ≤ strips_of n op
one_operation n many (Create m) = let none = none_of many in omega (arith, none)
one_operation n many (Remove m) = let none = none_of many in omega (arith, none)
one_operation n many (Write m offset bytes) = under (m.0 == n) (λ j. is_strip_touched j offset (length bytes)) many (strips_touched offset (length bytes)) (write_strips offset (length bytes) many)
one_operation n many (SetLength m new) = under (m.0 == n) (λ j. is_strip_cut j new) many 1 (cut_strips new many)
one_operation n many (SetName bytes) = let none = none_of many in omega (arith, none)

-- so many of the first strips of an object are written, whatever the operations, the contents and the blocks before are
pub strips_fit : (n : ℕ) (ops : List Op) (synced : Contents) (had : ℕ → ℕ → Bool) (many : ℕ)
    → count_by (is_written_by (λ r. record_state n r ops synced Unchanged) had) (range_with_len 0 many) ≤ sum_by (strips_of n) ops
strips_fit n ops synced had many =
    let state : ℕ → RecordState = λ r. record_state n r ops synced Unchanged in
    let each : count_by (is_written_by state had) (range_with_len 0 many) ≤ sum_by (λ j. count_by (may_write n j) ops) (range_with_len 0 many) =
    sum_by-le-sum_by (λ j. as_one (is_written_by state had j)) (λ j. count_by (may_write n j) ops) (range_with_len 0 many)
    (λ j. let whole = all_steps n j had ops synced (λ r. Unchanged) in let start = first j in omega (arith, whole, start)) in
    let turned : sum_by (λ j. count_by (may_write n j) ops) (range_with_len 0 many) ≡ sum_by (λ op. count_by (λ j. may_write n j op) (range_with_len 0 many)) ops =
    sum_by-sum_by (λ j op. as_one (may_write n j op)) (range_with_len 0 many) ops in
    let within : sum_by (λ op. count_by (λ j. may_write n j op) (range_with_len 0 many)) ops ≤ sum_by (strips_of n) ops =
    sum_by-le-sum_by (λ op. count_by (λ j. may_write n j op) (range_with_len 0 many)) (strips_of n) ops (one_operation n many) in
    omega (arith, each, turned, within)
  where
    first : (j : ℕ) → as_one (is_written_by (λ r. Unchanged) had j) ≡ 0
    first j = ap as_one (ap (λ b. b && has_after_by (λ r. Unchanged) had j) (none_between (λ k. not (is_unchanged Unchanged)) 0 pointer_count (λ k from to. refl)))
