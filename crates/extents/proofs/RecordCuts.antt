-- What is left of an object's bytes after a cut, record by record.
use Rattle.std.proofs.Common.{◌≡◌, ℕ, zero, suc, ◌+◌, ◌/◌, refl, ap, sym, ◌∙◌, arith, Bool, true, false, ◌||◌, List, [], ◌∷◌, ◌++◌, Option, Some, None}
use Rattle.std.specs.Prelude.{cond, length, nat_eq, nat_lt, slice_get, take, ◌==◌}
use Rattle.std.specs.List.{list_any}
use Rattle.std.specs.Map.{keys_of}
use Rattle.std.proofs.lemmas.List.Folds.{list_any-append}
use Rattle.extents.specs.declared.record.RecordPatch.{RecordPatch}
use Rattle.extents.specs.Patches.{written_below}
use Rattle.extents.specs.Records.{record_at, written_by}
use Rattle.extents.specs.Objects.{left_at_record, left_in_records}
use Rattle.extents.proofs.RecordWrites.{none_written}

nothing : (b : Bool) → ◌≡◌ {A = Option ℕ} (cond b None None) None
nothing true = refl
nothing false = refl

-- one record more is done
pub next_left : (numbers : List ℕ) (index offset : ℕ) (old mid : ℕ → Option ℕ) → ((j : ℕ) → mid j ≡ left_in_records numbers offset old j)
    → (i : ℕ) → left_at_record index offset mid i ≡ left_in_records (numbers ++ index ∷ []) offset old i
next_left numbers index offset old mid so_far i =
    ap (λ o. cond (i / 4032 == index) (cond (nat_lt i offset) o None) o) (so_far i)
    ∙ by (list_any (nat_eq (i / 4032)) numbers) (i / 4032 == index) (nat_lt i offset) (old i)
    ∙ ap (λ b. cond b (written_below offset old i) (old i)) (sym (list_any-append (nat_eq (i / 4032)) numbers (index ∷ [])))
  where
    by : (done here below : Bool) (o : Option ℕ)
        → cond here (cond below (cond done (cond below o None) o) None) (cond done (cond below o None) o) ≡ cond (done || (here || false)) (cond below o None) o
    by true true true o = refl
    by true true false o = refl
    by true false below o = refl
    by false true below o = refl
    by false false below o = refl

no_record : (q : ℕ) (records : List (ℕ × RecordPatch)) → list_any (nat_eq q) (keys_of records) ≡ false → record_at records q ≡ None
no_record q [] none = refl
no_record q (e ∷ records) none = by (nat_eq q e.0) refl (no_record q records)
  where
    by : (b : Bool) → nat_eq q e.0 ≡ b → (list_any (nat_eq q) (keys_of records) ≡ false → record_at records q ≡ None) → record_at (e ∷ records) q ≡ None
    by true is rest = absurd (let no_way : true ≡ false = rw is at none in cc)
    by false is rest = let others : list_any (nat_eq q) (keys_of records) ≡ false = rw is at none in rw is (rest others)

-- once all records are done, nothing is left from the offset on
pub all_left : (records : List (ℕ × RecordPatch)) (offset : ℕ) (left : ℕ → Option ℕ)
    → ((j : ℕ) → left j ≡ left_in_records (keys_of records) offset (written_by records) j) → (i : ℕ) → left i ≡ written_below offset (written_by records) i
all_left records offset left done i = done i ∙ by (list_any (nat_eq (i / 4032)) (keys_of records)) refl
  where
    by : (b : Bool) → list_any (nat_eq (i / 4032)) (keys_of records) ≡ b → left_in_records (keys_of records) offset (written_by records) i ≡ written_below offset (written_by records) i
    by true is = rw is refl
    by false is = let at : written_by records i ≡ None = none_written records i (no_record (i / 4032) records is) in rw (is, at) (sym (nothing (nat_lt i offset)))

-- the numbers of the records so far, and one more
pub one_more : (numbers : List ℕ) (place index : ℕ) → slice_get numbers place ≡ Some index → take (place + 1) numbers ≡ take place numbers ++ index ∷ []
one_more [] place index is = absurd (cc)
one_more (x ∷ numbers) zero index is = let e : x ≡ index = cc in ap (λ n. n ∷ []) e
one_more (x ∷ numbers) (suc place) index is =
    let e : suc place + 1 ≡ suc (place + 1) = omega arith in rw e (ap (λ l. x ∷ l) (one_more numbers place index is))

pub length-numbers : (records : List (ℕ × RecordPatch)) → length (keys_of records) ≡ length records
length-numbers [] = refl
length-numbers (r ∷ records) = ap suc (length-numbers records)
