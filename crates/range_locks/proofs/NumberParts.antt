-- What is true of the parts of a number holds of what the table of numbers has under it and at its place, and without
-- parts nothing is locked.
use Rattle.std.proofs.Common.{◌≡◌, ◌<◌, ℕ, zero, suc, List, [], ◌∷◌, length, nat_eq, refl, ap, sym, subst, ◌∙◌, arith}
use Rattle.std.specs.Cmp.{nat_eq_equiv}
use Rattle.std.specs.HashMap.{HashMap}
use Rattle.std.specs.Map.{lookup_key, values_of}
use Rattle.std.specs.Option.{option_map}
use Rattle.std.specs.Prelude.{Option, Some, None, IfSome, Result, Ok, Err, OnOk, OnErr, slice_get}
use Rattle.std.proofs.lemmas.Bool.{eqb-true, ne_eqb}
use Rattle.std.proofs.lemmas.Map.Made.{lookup_key_passes}
use Rattle.std.proofs.lemmas.Option.{slice_get_within}
use Rattle.std_collections.proofs.HashLookup.{get_value}
use Rattle.indexmap.specs.IndexMap.{IsUnique, Updates, set_value_at, with_value_at}
use Rattle.indexmap.proofs.CallerLemmas.{updates-with_value_at}
use Rattle.range_locks.specs.Rows.{PartRows, part_in}
use Rattle.range_locks.specs.declared.parts.Parts.{Parts}
use Rattle.range_locks.specs.Parts.{Becomes, BecomesOf, Counts, HasCounts, HasNoParts, HoldsFor, HoldsOf, IsPlaceOf, IsTable, IsTableOf, most_counted, parts_of}
use Rattle.range_locks.proofs.StoredParts.{stored_none}

-- where there are no parts no lock begins or ends
pub no_ends : (parts : Option Parts) → None ≡ parts → (f : Counts) → IsTableOf parts f → (k : ℕ) → (f k).ends ≡ 0
no_ends parts none f is = subst (λ (o : Option Parts). IsTableOf o f) (sym none) is

-- an empty table is counted
pub nothing_counted : (table : PartRows) → ((k : ℕ) → part_in table k ≡ None) → HasCounts most_counted table
nothing_counted table none = record {
  counts = λ k. record { ends = 0; readers = 0; writer = None };
  is = λ k. none k;
  still = record { first = λ _. (refl, refl); next = λ k _. (refl, refl) };
  small = λ k. (omega arith, omega arith);
}

module _ (old new : Option Parts) (was now : Parts) (change : Counts → Counts) (there : Some was ≡ old) (here : new ≡ Some now) where
  changed : HoldsFor was.table (λ f. IsTable now.table (change f)) → HoldsOf old (λ f. IsTableOf new (change f))
  changed holds f is still = subst (λ (o : Option Parts). IsTableOf o (change f)) (sym here) (holds f (subst (λ (o : Option Parts). IsTableOf o f) (sym there) is) still)

  -- what a call makes of the parts of a number it makes of the table
  pub changed_ok : {A E : Type 0} (answer : Result A E) → OnOk answer (HoldsFor was.table (λ f. IsTable now.table (change f))) → OnOk answer (HoldsOf old (λ f. IsTableOf new (change f)))
  changed_ok (Ok x) holds = changed holds
  changed_ok (Err e) holds = tt

  pub changed_err : {A E : Type 0} (answer : Result A E) → OnErr answer (HoldsFor was.table (λ f. IsTable now.table (change f))) → OnErr answer (HoldsOf old (λ f. IsTableOf new (change f)))
  changed_err (Ok x) holds = tt
  changed_err (Err e) holds = changed holds

-- what holds where a call is refused
pub refused : {A E : Type 0} (answer : Result A E) (P : Type 0) → P → OnErr answer P
refused (Ok x) P holds = tt
refused (Err e) P holds = holds

-- what a call makes of the parts of a number it makes of the table, also if none are left
module _ (old new : Option Parts) (was now : Parts) (change : Counts → Counts) (there : old ≡ Some was) (becomes : Becomes was.table change now.table) where
  pub becomes_of : new ≡ Some now → BecomesOf old change new
  becomes_of here f is = subst (λ (o : Option Parts). IsTableOf o (change f)) (sym here) (becomes f (subst (λ (o : Option Parts). IsTableOf o f) there is))

  pub becomes_none : new ≡ None → HasNoParts now.table → BecomesOf old change new
  becomes_none here none f is = subst (λ (o : Option Parts). IsTableOf o (change f)) (sym here)
      (λ k. stored_none (change f k) (sym (becomes f (subst (λ (o : Option Parts). IsTableOf o f) there is) k) ∙ none k))

-- the entry of a number's key
pub found_place : {S : Type 0} (numbers : HashMap ℕ Parts S) (n place k : ℕ) (parts : Parts) → lookup_key (nat_eq n) numbers.entries ≡ Some k
    → slice_get numbers.entries place ≡ Some (k, parts) → parts_of numbers n ≡ Some parts → IsPlaceOf numbers n (Some place)
found_place numbers n place k parts found at there =
    let same : n ≡ k = eqb-true n k (lookup_key_passes (nat_eq n) numbers.entries k found) in
    (parts, subst (λ (j : ℕ). slice_get numbers.entries place ≡ Some (j, parts)) (sym same) at, there)

-- a number without a place has no parts
pub no_place : {S : Type 0} (numbers : HashMap ℕ Parts S) (n : ℕ) (place : Option ℕ) → IsPlaceOf numbers n place → None ≡ place → parts_of numbers n ≡ None
no_place numbers n place is none = subst (IsPlaceOf numbers n) (sym none) is

-- an entry keeps its key where its value is written
entry_written : (es : List (ℕ × Parts)) (i n : ℕ) (was now : Parts) → slice_get es i ≡ Some (n, was) → slice_get (set_value_at es i now) i ≡ Some (n, now)
entry_written [] i n was now at = absurd (let no_way : ◌≡◌ {A = Option (ℕ × Parts)} None (Some (n, was)) = at in cc)
entry_written (e ∷ es) zero n was now at = ap (option_map (λ (x : ℕ × Parts). (x.0, now))) at
entry_written (e ∷ es) (suc i) n was now at = entry_written es i n was now at

-- at the place of a number
module _ {S : Type 0} (numbers : HashMap ℕ Parts S) (n i : ℕ) (is : IsPlaceOf numbers n (Some i)) where
  -- there is an entry
  pub place_within : i < length numbers.entries
  place_within = slice_get_within numbers.entries i (n, is.0) is.1

  -- which has its parts
  pub parts_at : (parts : Parts) → slice_get (values_of numbers.entries) i ≡ Some parts → parts_of numbers n ≡ Some parts
  parts_at parts read = is.2 ∙ sym (get_value numbers.entries i ∙ ap (option_map (λ (x : ℕ × Parts). x.1)) is.1) ∙ read

  module _ (unique : IsUnique nat_eq numbers) (now : Parts) where
    written : Updates nat_eq numbers (with_value_at numbers i now) n (Some now)
    written = updates-with_value_at numbers i now nat_eq_equiv unique n is.0 is.1

    -- a write changes its parts and those of no other number
    pub written_here : parts_of (with_value_at numbers i now) n ≡ Some now
    written_here = written.1

    pub written_elsewhere : (m : ℕ) → (m ≡ n → ⊥) → parts_of (with_value_at numbers i now) m ≡ parts_of numbers m
    written_elsewhere m other = written.2 m (ne_eqb n m (λ same. other (sym same)))

    -- after it the entry is taken out, with the same effect
    module _ (taken : Option (ℕ × Parts)) (new : HashMap ℕ Parts S) (entry : taken ≡ slice_get (set_value_at numbers.entries i now) i)
        (updates : IfSome taken (λ (p : ℕ × Parts). Updates nat_eq (with_value_at numbers i now) new p.0 None)) where
      gone : Updates nat_eq (with_value_at numbers i now) new n None
      gone = subst (λ o. IfSome o (λ (p : ℕ × Parts). Updates nat_eq (with_value_at numbers i now) new p.0 None)) (entry ∙ entry_written numbers.entries i n is.0 now is.1) updates

      pub taken_here : parts_of new n ≡ None
      taken_here = gone.1

      pub taken_elsewhere : (m : ℕ) → (m ≡ n → ⊥) → parts_of new m ≡ parts_of numbers m
      taken_elsewhere m other = gone.2 m (ne_eqb n m (λ same. other (sym same))) ∙ written_elsewhere m other
