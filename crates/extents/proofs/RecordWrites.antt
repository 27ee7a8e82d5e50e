-- A write to an object, record by record.
use Rattle.std.proofs.Common.{◌≡◌, ℕ, ◌+◌, ◌-◌, ◌*◌, ◌/◌, ◌%◌, ◌<◌, ◌≤◌, ◌≢◌, max, min, refl, ap, sym, ◌∙◌, arith, ◌⊎◌, inl, inr, List, length, get_or, take, drop, Option, Some, None, get_or-take, get_or-drop, length-take, length-drop}
use Rattle.std.specs.Prelude.{cond, nat_eq, nat_lt, nat_le, ◌&&◌, ◌==◌}
use Rattle.std.specs.Option.{option_map_or}
use Rattle.std.proofs.lemmas.Bool.{cases_lt, cases_eq, lt-leb, le-leb, lt-ltb, le-ltb, eq-eqb, ne_eqb, and_right}
use Rattle.extents.specs.Patches.{written_after}
use Rattle.extents.specs.declared.record.RecordPatch.{RecordPatch}
use Rattle.extents.specs.Records.{bytes_written, record_at, written_by}
use Rattle.extents.specs.Objects.{written_at_record, written_before_record}

-- a byte out of the range of a write stays
pub unwritten_at : (offset : ℕ) (content : List ℕ) (written : ℕ → Option ℕ) (i : ℕ) → (i < offset) ⊎ (offset + length content ≤ i) → written_after offset content written i ≡ written i
unwritten_at offset content written i (inl before) = rw (lt-leb offset i before) refl
unwritten_at offset content written i (inr past) = rw (and_right (nat_le offset i) (nat_lt i (offset + length content)) (le-ltb i (offset + length content) past)) refl

pub written_in_range : (offset : ℕ) (content : List ℕ) (written : ℕ → Option ℕ) (i : ℕ) → offset ≤ i → i < offset + length content
    → written_after offset content written i ≡ Some (get_or content (i - offset) 0)
written_in_range offset content written i from within = rw (le-leb offset i from, lt-ltb i (offset + length content) within) refl

-- the part of a write that lies in a record writes there what the write does
pub part_written : (index offset k : ℕ) (content : List ℕ) (part : List ℕ) (low high : ℕ) (old new : ℕ → Option ℕ) → k < 4032
    → low ≡ max offset (4032 * index) → high ≡ min (offset + length content) (4032 * index + 4032) → low ≤ high
    → part ≡ take (high - offset - (low - offset)) (drop (low - offset) content) → old k ≡ new (4032 * index + k)
    → written_after (low - 4032 * index) part old k ≡ written_after offset content new (4032 * index + k)
part_written index offset k content part low high old new inside is_low is_high order is_part same =
    go (cases_lt (4032 * index + k) low) (cases_lt (4032 * index + k) high)
  where
    long : length part ≡ high - low
    long = rw (is_part, length-take, length-drop) (omega arith)

    go : (4032 * index + k < low) ⊎ (low ≤ 4032 * index + k) → (4032 * index + k < high) ⊎ (high ≤ 4032 * index + k)
        → written_after (low - 4032 * index) part old k ≡ written_after offset content new (4032 * index + k)
    go (inl before) _ =
        unwritten_at (low - 4032 * index) part old k (inl (omega arith)) ∙ same ∙ sym (unwritten_at offset content new (4032 * index + k) (inl (omega arith)))
    go (inr from) (inr past) =
        unwritten_at (low - 4032 * index) part old k (inr (rw long (omega arith))) ∙ same ∙ sym (unwritten_at offset content new (4032 * index + k) (inr (omega arith)))
    go (inr from) (inl within) =
        let e : low - offset + (k - (low - 4032 * index)) ≡ 4032 * index + k - offset = omega arith in
        written_in_range (low - 4032 * index) part old k (omega arith) (rw long (omega arith))
        ∙ ap Some (rw is_part (get_or-take (high - offset - (low - offset)) (drop (low - offset) content) (k - (low - 4032 * index)) 0 (omega arith)
        ∙ get_or-drop (low - offset) content (k - (low - 4032 * index)) 0 ∙ ap (λ j. get_or content j 0) e))
        ∙ sym (written_in_range offset content new (4032 * index + k) (omega arith) (omega arith))

-- what is written at an offset once a record has changed
pub record_put : (old new : List (ℕ × RecordPatch)) (index : ℕ) (r : RecordPatch) (i : ℕ)
    → ((q : ℕ) → record_at new q ≡ cond (nat_eq index q) (Some r) (record_at old q))
    → written_by new i ≡ cond (i / 4032 == index) (bytes_written r (i % 4032)) (written_by old i)
record_put old new index r i put = ap (λ (o : Option RecordPatch). option_map_or (λ r. bytes_written r (i % 4032)) o None) (put (i / 4032)) ∙ go (cases_eq (i / 4032) index)
  where
    go : (i / 4032 ≡ index) ⊎ (i / 4032 ≢ index)
        → option_map_or (λ r. bytes_written r (i % 4032)) (cond (nat_eq index (i / 4032)) (Some r) (record_at old (i / 4032))) None
        ≡ cond (i / 4032 == index) (bytes_written r (i % 4032)) (written_by old i)
    go (inl e) = rw (eq-eqb (i / 4032) index e, eq-eqb index (i / 4032) (sym e)) refl
    go (inr e) = rw (ne_eqb (i / 4032) index e, ne_eqb index (i / 4032) (λ f. e (sym f))) refl

-- the record at a number has the bytes that were written there
written-record : (records : List (ℕ × RecordPatch)) (r : RecordPatch) (i : ℕ) → record_at records (i / 4032) ≡ Some r → written_by records i ≡ bytes_written r (i % 4032)
written-record records r i at = ap (λ (o : Option RecordPatch). option_map_or (λ r. bytes_written r (i % 4032)) o None) at

-- without a record nothing is written
pub none_written : (records : List (ℕ × RecordPatch)) (i : ℕ) → record_at records (i / 4032) ≡ None → written_by records i ≡ None
none_written records i at = ap (λ (o : Option RecordPatch). option_map_or (λ r. bytes_written r (i % 4032)) o None) at

-- a write to one record of an object
pub write_to_record : (was now : List (ℕ × RecordPatch)) (index offset : ℕ) (content part : List ℕ) (low high : ℕ) (old new : RecordPatch)
    → record_at was index ≡ Some old → ((q : ℕ) → record_at now q ≡ cond (nat_eq index q) (Some new) (record_at was q))
    → low ≡ max offset (4032 * index) → high ≡ min (offset + length content) (4032 * index + 4032) → low ≤ high → part ≡ take (high - offset - (low - offset)) (drop (low - offset) content)
    → ((k : ℕ) → bytes_written new k ≡ written_after (low - 4032 * index) part (bytes_written old) k)
    → (i : ℕ) → written_by now i ≡ written_at_record index offset content (written_by was) i
write_to_record was now index offset content part low high old new at put is_low is_high order is_part wrote i = record_put was now index new i put ∙ go (cases_eq (i / 4032) index)
  where
    go : (i / 4032 ≡ index) ⊎ (i / 4032 ≢ index)
        → cond (i / 4032 == index) (bytes_written new (i % 4032)) (written_by was i) ≡ cond (i / 4032 == index) (written_after offset content (written_by was) i) (written_by was i)
    go (inl e) =
        let inside : i % 4032 < 4032 = omega arith in
        let is : 4032 * index + i % 4032 ≡ i = omega arith in
        let here : bytes_written old (i % 4032) ≡ written_by was (4032 * index + i % 4032) = rw is (sym (written-record was old i (rw e at))) in
        rw (eq-eqb (i / 4032) index e)
        (wrote (i % 4032) ∙ part_written index offset (i % 4032) content part low high (bytes_written old) (written_by was) inside is_low is_high order is_part here
        ∙ ap (written_after offset content (written_by was)) is)
    go (inr e) = rw (ne_eqb (i / 4032) index e) refl

-- the write comes to one record more
pub next_record : (index offset : ℕ) (content : List ℕ) (old mid : ℕ → Option ℕ) → ((j : ℕ) → mid j ≡ written_before_record index offset content old j)
    → (i : ℕ) → written_at_record index offset content mid i ≡ written_before_record (index + 1) offset content old i
next_record index offset content old mid so_far i = go (cases_eq (i / 4032) index) (cases_lt (i / 4032) index)
  where
    go : (i / 4032 ≡ index) ⊎ (i / 4032 ≢ index) → (i / 4032 < index) ⊎ (index ≤ i / 4032)
        → written_at_record index offset content mid i ≡ written_before_record (index + 1) offset content old i
    go (inl e) _ =
        let same : mid i ≡ old i = so_far i ∙ rw (le-ltb (i / 4032) index (omega arith)) refl in
        rw (eq-eqb (i / 4032) index e, lt-ltb (i / 4032) (index + 1) (omega arith))
        (ap (λ v. cond (nat_le offset i && nat_lt i (offset + length content)) (Some (get_or content (i - offset) 0)) v) same)
    go (inr e) (inl before) =
        rw (ne_eqb (i / 4032) index e, lt-ltb (i / 4032) (index + 1) (omega arith)) (so_far i ∙ rw (lt-ltb (i / 4032) index before) refl)
    go (inr e) (inr from) =
        rw (ne_eqb (i / 4032) index e, le-ltb (i / 4032) (index + 1) (omega arith)) (so_far i ∙ rw (le-ltb (i / 4032) index from) refl)

-- a byte of a record is the one of the object there
pub record_byte : (records : List (ℕ × RecordPatch)) (r : RecordPatch) (index k : ℕ) → k < 4032 → record_at records index ≡ Some r
    → bytes_written r k ≡ written_by records (4032 * index + k)
record_byte records r index k inside at =
    let d : (4032 * index + k) / 4032 ≡ index = omega arith in
    let m : (4032 * index + k) % 4032 ≡ k = omega arith in
    sym (written-record records r (4032 * index + k) (rw d at) ∙ ap (bytes_written r) m)
