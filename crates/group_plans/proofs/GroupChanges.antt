-- What the operations of a group make of records and lengths, if they take place within the limits.
use Rattle.std.proofs.Common.{◌≡◌, ℕ, ◌+◌, ◌<◌, ◌≤◌, inl, inr, Bool, true, false, ◌||◌, ◌&&◌, List, [], ◌∷◌, length, ap, sym, ◌∙◌, refl, arith, nat_le, nat_lt}
use Rattle.std.specs.Prelude.{◌==◌, Option, is_some, option_map, All, if◌then◌else◌}
use Rattle.std.specs.List.{list_any}
use Rattle.std.specs.FinMap as finite
use Rattle.std.proofs.Math.Bool.{and-true, or-true}
use Rattle.std.proofs.lemmas.Bool.{and_parts, cases_eq, eq-eqb, eqb-true, false≢true, leb-true, ltb-false, ltb-true, or_parts, true≢false}
use Rattle.std.proofs.lemmas.List.Elements.{All-cons, All-head, All-nil, All-tail}
use Rattle.base.specs.declared.names.ObjectId.{ObjectId}
use Rattle.base.specs.declared.operation.Op.{Op}
use Rattle.base.specs.declared.operation.Op.TheVariants.{Create, Remove, Write, SetLength, SetName}
use Rattle.base.specs.declared.record_state.RecordState.{RecordState}
use Rattle.base.specs.declared.record_state.RecordState.TheVariants.{Unchanged, Dirty, Hole}
use Rattle.base.specs.formats.Limits.{max_length, object_count, one_level_length, pointer_count, record_count}
use Rattle.base.specs.history.Contents.{Contents, length_of}
use Rattle.base.specs.history.Plans.{IsRange, ranges, touched}
use Rattle.base.specs.steps.Steps.{AreLengthsOf}
use Rattle.base.specs.tree.Places.{record_of_strip}
use Rattle.base.specs.tree.Syncs.{is_dirty, is_on, record_state}
use Rattle.base.proofs.tree.RecordStates.{HasRecord, dirty-record, object-off, state-made, state-off}
use Rattle.base.proofs.tree.Strips.{one_level-length, record-low}
use Rattle.tree_blocks.specs.declared.tree.ObjectEntry.{ObjectEntry}
use Rattle.tree_blocks.specs.Lengths.{length_in}
use Rattle.contents.specs.Ops.{AreOpsAllowed, IsOpAllowed}
use Rattle.records.specs.declared.record.Record.{Record}
use Rattle.tree_plans.specs.declared.changes.ObjectChanges.{ObjectChanges}
use Rattle.tree_plans.specs.Changes.{AreInRange, has_two_levels, is_changed_in, may_have_blocks, state_in}
use Rattle.tree_plans.specs.Marks.{AreChangesOf, pending_ops, sets_length}
use Rattle.tree_plans.specs.Pointers.{entry_of}
use Rattle.group_plans.specs.GroupPlans.{HasGroupLengths}
use Rattle.group_plans.specs.Laws.{AllowedOpsTakePlace}
use Rattle.group_plans.specs.Operations.{TakesPlace}

-- an allowed operation is within both limits
allowed_range : (op : Op) → IsOpAllowed op → IsRange (touched op)
allowed_range (Create m) allowed = record { some = omega arith; within = omega arith }
allowed_range (Remove m) allowed = record { some = omega arith; within = omega arith }
allowed_range (Write m offset bytes) allowed =
    let parts = and_parts (nat_lt m.0 object_count && nat_lt 0 (length bytes)) (nat_le (offset + length bytes) max_length) allowed.1 in
    let some : 0 < length bytes = ltb-true 0 (length bytes) (and_parts (nat_lt m.0 object_count) (nat_lt 0 (length bytes)) parts.0).1 in
    record { some = omega arith; within = leb-true (offset + length bytes) max_length parts.1 }
allowed_range (SetLength m new) allowed = record { some = omega arith; within = omega arith }
allowed_range (SetName bytes) allowed = record { some = omega arith; within = omega arith }

allowed_number : (n : ℕ) (op : Op) → IsOpAllowed op → is_on n op ≡ true → n < object_count
allowed_number n (Create m) allowed on = let same : m.0 ≡ n = eqb-true m.0 n on in let low : m.0 < object_count = ltb-true m.0 object_count allowed.1 in omega arith
allowed_number n (Remove m) allowed on = let same : m.0 ≡ n = eqb-true m.0 n on in let low : m.0 < object_count = ltb-true m.0 object_count allowed.1 in omega arith
allowed_number n (Write m offset bytes) allowed on =
    let parts = and_parts (nat_lt m.0 object_count && nat_lt 0 (length bytes)) (nat_le (offset + length bytes) max_length) allowed.1 in
    let same : m.0 ≡ n = eqb-true m.0 n on in
    let low : m.0 < object_count = ltb-true m.0 object_count (and_parts (nat_lt m.0 object_count) (nat_lt 0 (length bytes)) parts.0).0 in
    omega arith
allowed_number n (SetLength m new) allowed on =
    let same : m.0 ≡ n = eqb-true m.0 n on in
    let low : m.0 < object_count = ltb-true m.0 object_count (and_parts (nat_lt m.0 object_count) (nat_le new max_length) allowed.1).0 in
    omega arith
allowed_number n (SetName bytes) allowed on = absurd (false≢true on)

-- and so are allowed operations
allowed_ranges : (ops : List Op) → AreOpsAllowed ops → All IsRange (ranges ops)
allowed_ranges [] all = All-nil IsRange
allowed_ranges (op ∷ ops) all =
    All-cons IsRange (touched op) (ranges ops) (allowed_range op (All-head IsOpAllowed op ops all)) (allowed_ranges ops (All-tail IsOpAllowed op ops all))

allowed_numbers : (n : ℕ) (ops : List Op) → AreOpsAllowed ops → list_any (is_on n) ops ≡ true → n < object_count
allowed_numbers n [] all any = absurd (false≢true any)
allowed_numbers n (op ∷ ops) all any = by (is_on n op) refl any (λ later. allowed_numbers n ops (All-tail IsOpAllowed op ops all) later)
  where
    by : (b : Bool) → is_on n op ≡ b → (b || list_any (is_on n) ops) ≡ true → (list_any (is_on n) ops ≡ true → n < object_count) → n < object_count
    by true on any rest = allowed_number n op (All-head IsOpAllowed op ops all) on
    by false off any rest = rest any

-- so allowed operations take place if they lead to some contents, and the maps have the lengths
pub allowed_ops_take_place : AllowedOpsTakePlace
allowed_ops_take_place ops maps before after allowed leads sizes = record { leads = leads; within = allowed_ranges ops allowed; numbers = λ n on. allowed_numbers n ops allowed on; sizes = sizes }

-- operations that set the length of an object are on it
sets_on : (n : ℕ) (o : Op) → sets_length n o ≡ true → is_on n o ≡ true
sets_on n (Create m) sets = absurd (false≢true sets)
sets_on n (Remove m) sets = absurd (false≢true sets)
sets_on n (Write m offset bytes) sets = absurd (false≢true sets)
sets_on n (SetLength m new) sets = sets
sets_on n (SetName bytes) sets = sets

any_on : (n : ℕ) (ops : List Op) → list_any (sets_length n) ops ≡ true → list_any (is_on n) ops ≡ true
any_on n [] sets = sets
any_on n (o ∷ ops) sets = by (sets_length n o) refl sets (any_on n ops)
  where
    by : (b : Bool) → sets_length n o ≡ b → (b || list_any (sets_length n) ops) ≡ true → (list_any (sets_length n) ops ≡ true → list_any (is_on n) ops ≡ true) → (is_on n o || list_any (is_on n) ops) ≡ true
    by true is any rest = ap (λ (c : Bool). c || list_any (is_on n) ops) (sets_on n o is)
    by false is any rest = ap (λ (c : Bool). is_on n o || c) (rest any) ∙ or-true (is_on n o)

-- What is told of the operations of a group that take place.
module _ (ops : List Op) (maps : List ObjectEntry) (before after : Contents) (x : TakesPlace ops maps before after) where
  module _ (objects : List (ObjectId × ObjectChanges)) (changes : AreChangesOf ops maps objects) where
    -- each record is in the state that the definitions give it
    pub states_are : (n r : ℕ) → r < record_count → state_in objects n r ≡ record_state n r ops before Unchanged
    states_are n r below = changes.states before after x.leads x.within n r below (λ sets. x.sizes n (x.numbers n (any_on n ops sets)))

    -- a record that is written belongs to an object that is there, begins within it, and is there by a write or a new
    -- length
    dirty_is : (n r : ℕ) → r < record_count → state_in objects n r ≡ Dirty → HasRecord r (finite.get after.objects n) × (is_changed_in objects n ≡ true)
    dirty_is n r below state = (dirty-record n r ops before after x.leads is, by (is_changed_in objects n) refl (is_some (entry_of objects n)) refl)
      where
        is : record_state n r ops before Unchanged ≡ Dirty
        is = sym (states_are n r below) ∙ state

        by : (b : Bool) → is_changed_in objects n ≡ b → (c : Bool) → is_some (entry_of objects n) ≡ c → b ≡ true
        by true changed c there = refl
        by false unchanged true there =
            let hole = state-made n r ops before Unchanged (sym (changes.changed n) ∙ unchanged) (sym (changes.there n) ∙ there) in
            absurd (let no : Hole ≡ Dirty = sym hole ∙ is in cc)
        by false unchanged false off =
            let stays = state-off n r ops before Unchanged (sym (changes.there n) ∙ off) in
            absurd (let no : Unchanged ≡ Dirty = sym stays ∙ is in cc)

    -- each object that they are on is in range, and only strips that may have blocks have a record that is written
    pub in_range : AreInRange objects after.objects
    in_range = record {
      numbers = λ n is. x.numbers n (sym (changes.there n) ∙ is);
      strips = λ n j k low j_low k_low out. not_written n j k j_low k_low out (state_in objects n (record_of_strip j k)) refl;
    }
      where
        no_strip : (n j k : ℕ) → may_have_blocks (has_two_levels (finite.get after.objects n)) true j ≡ false → HasRecord (record_of_strip j k) (finite.get after.objects n) → ⊥
        no_strip n j k out (bytes, there, low) =
            let parts = or_parts (nat_lt one_level_length (length bytes)) ((j == 0) && true) (ap (λ (o : Option (List ℕ)). may_have_blocks (has_two_levels o) true j) (sym there) ∙ out) in
            let short : length bytes ≤ one_level_length = ltb-false one_level_length (length bytes) parts.0 in
            let later : (j == 0) ≡ false = sym (and-true (j == 0)) ∙ parts.1 in
            elim (cases_eq j 0) as (λ _. ⊥) [
              | inl first ↦ true≢false (sym (eq-eqb j 0 first) ∙ later)
              | inr other ↦ (omega (arith, other, low, short, one_level-length))
            ]

        not_written : (n j k : ℕ) → j < pointer_count → k < pointer_count → may_have_blocks (has_two_levels (finite.get after.objects n)) (is_changed_in objects n) j ≡ false
            → (state : RecordState) → state_in objects n (record_of_strip j k) ≡ state → is_dirty state ≡ false
        not_written n j k j_low k_low out Unchanged state = refl
        not_written n j k j_low k_low out Hole state = refl
        not_written n j k j_low k_low out Dirty state =
            let is = dirty_is n (record_of_strip j k) (record-low j k j_low k_low) state in
            absurd (no_strip n j k (ap (λ (b : Bool). may_have_blocks (has_two_levels (finite.get after.objects n)) b j) (sym is.1) ∙ out) is.0)

    -- an object that they aren't on is as it was
    pub object_kept : (n : ℕ) → is_some (entry_of objects n) ≡ false → finite.get before.objects n ≡ finite.get after.objects n
    object_kept n off = object-off n ops before after (sym (changes.there n) ∙ off) x.leads

-- and the lengths that a plan of the group gives the tree are those after the group
pub lengths_told : (group : ℕ) (records : List Record) (maps : List ObjectEntry) (before after : Contents) → TakesPlace (pending_ops group records) maps before after
    → (new : ℕ → Option ℕ) → HasGroupLengths group records maps new after.objects → AreLengthsOf after new
lengths_told group records maps before after x new from n below = from.each n below ∙ by (is_some (entry_of from.objects n)) refl
  where
    by : (b : Bool) → is_some (entry_of from.objects n) ≡ b → (if b then option_map length (finite.get after.objects n) else length_in maps n) ≡ length_of after n
    by true on = refl
    by false off =
        x.sizes n below
        ∙ ap (λ (o : Option (List ℕ)). option_map length o) (object_kept (pending_ops group records) maps before after x from.objects from.changes n off)
