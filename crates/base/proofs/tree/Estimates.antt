-- A sync writes at most as many blocks as its operations are estimated at, and if no object has two levels, as they are
-- estimated at in one: each block is one that some operation may change.
use Rattle.std.proofs.Common.{◌≡◌, ℕ, ◌≢◌, ◌+◌, ◌*◌, ◌/◌, ◌<◌, ◌≤◌, Bool, true, false, not, ◌&&◌, List, [], ◌∷◌, ◌++◌, length, map, filter, refl, sym, ◌∙◌, ap, arith, length-append}
use Rattle.std.specs.Prelude.{◌==◌, nat_lt, nat_le, sum_by, Option, Some, None, if◌then◌else◌}
use Rattle.std.specs.Option.{option_map_or}
use Rattle.std.specs.FinMap as finite
use Rattle.std.specs.List.{list_any, flat_map, range_with_len, count_by}
use Rattle.std.proofs.lemmas.Bool.{and_parts, not-true, eqb-true, ne_eqb, ltb-true, leb-false, true≢false}
use Rattle.std.proofs.lemmas.List.{length-map}
use Rattle.std.proofs.lemmas.List.Sums.{length-filter, sum_by-le-sum_by, sum_by-cons}
use Rattle.std.proofs.lemmas.List.Folds.{fold-map}
use Rattle.std.proofs.lemmas.List.Concat.{length-flat_map}
use Rattle.base.specs.declared.operation.Op.{Op}
use Rattle.base.specs.declared.operation.Op.TheVariants.{Create, Remove, Write, SetLength, SetName}
use Rattle.base.specs.formats.Limits.{object_count, max_length, one_level_length, record_size, pointer_count, entry_count}
use Rattle.base.specs.history.Contents.{Contents, length_of}
use Rattle.base.specs.history.Plans.{shape_of, records_touched, estimate_of_shape, estimate_of, one_level_estimate_of_shape, one_level_estimate_of}
use Rattle.base.specs.tree.Places.{Place, record_of_strip, strip_number}
use Rattle.base.specs.tree.Places.Place.{Root, Directory, Top, Indirect, Data}
use Rattle.base.specs.declared.record_state.RecordState.{RecordState}
use Rattle.base.specs.declared.record_state.RecordState.TheVariants.{Unchanged, Dirty, Hole}
use Rattle.base.specs.tree.Syncs.{is_record_touched, state_after_op, contents_after, contents_after_all, record_state, is_on, is_change_of, is_rename, is_dirty, pointer_numbers, object_numbers}
use Rattle.base.specs.tree.Syncs as syncs
use Rattle.base.specs.kept.PlacedTrees.{IsShort}
use Rattle.base.specs.steps.Space.{SyncsFit}
use Rattle.base.proofs.common.KeptLists.{any_at, any_found}
use Rattle.base.proofs.tree.StripCounts.{strips_for, strips_fit}
use Rattle.base.proofs.tree.Sums.{as_one, sum_by-plus, sum_by-none, sum_by-sum_by, any_within_count, one_within, count_within, rows_within}

-- whether a cut to a new length goes through a record
abbrev is_record_cut : ℕ → ℕ → Bool
is_record_cut r new = not (nat_le new (record_size * r)) && nat_lt new (record_size * (r + 1))

-- whether an operation may make record r of object n dirty
abbrev may_dirty : ℕ → ℕ → Op → Bool
may_dirty n r (Create m) = false
may_dirty n r (Remove m) = false
may_dirty n r (Write m offset bytes) = (m.0 == n) && is_record_touched r offset (length bytes)
may_dirty n r (SetLength m new) = (m.0 == n) && is_record_cut r new
may_dirty n r (SetName bytes) = false

hole_dirty : (b : Bool) (state : RecordState) → as_one (is_dirty (if b then Hole else state)) ≤ as_one (is_dirty state) + 0
hole_dirty true state = omega arith
hole_dirty false state = omega arith

write_dirty : (b : Bool) (state : RecordState) → as_one (is_dirty (if b then Dirty else state)) ≤ as_one (is_dirty state) + as_one b
write_dirty true state = omega arith
write_dirty false state = omega arith

cut_dirty : (same shorter past low : Bool) (state : RecordState)
    → as_one (is_dirty (if same && shorter then (if past then Hole else (if low then Dirty else state)) else state)) ≤ as_one (is_dirty state) + as_one (same && (not past && low))
cut_dirty true true true low state = omega arith
cut_dirty true true false true state = omega arith
cut_dirty true true false false state = omega arith
cut_dirty true false past low state = omega arith
cut_dirty false shorter past low state = omega arith

-- a record is dirty after an operation where it was before, or where the operation may make it so
one_dirty : (n r : ℕ) (op : Op) (c : Contents) (state : RecordState) → as_one (is_dirty (state_after_op n r op c state)) ≤ as_one (is_dirty state) + as_one (may_dirty n r op)
one_dirty n r (Create m) c state = hole_dirty (m.0 == n) state
one_dirty n r (Remove m) c state = hole_dirty (m.0 == n) state
one_dirty n r (Write m offset bytes) c state = write_dirty ((m.0 == n) && is_record_touched r offset (length bytes)) state
one_dirty n r (SetLength m new) c state =
    cut_dirty (m.0 == n) (option_map_or (λ old. nat_lt new old) (length_of c n) false) (nat_le new (record_size * r)) (nat_lt new (record_size * (r + 1))) state
one_dirty n r (SetName bytes) c state = omega arith

all_dirty : (n r : ℕ) (ops : List Op) (c : Contents) (state : RecordState) → as_one (is_dirty (record_state n r ops c state)) ≤ as_one (is_dirty state) + count_by (may_dirty n r) ops
all_dirty n r [] c state = omega arith
all_dirty n r (op ∷ ops) c state =
    let first : as_one (is_dirty (state_after_op n r op c state)) ≤ as_one (is_dirty state) + as_one (may_dirty n r op) = one_dirty n r op c state in
    let rest : as_one (is_dirty (record_state n r ops (contents_after op c) (state_after_op n r op c state))) ≤ as_one (is_dirty (state_after_op n r op c state)) + count_by (may_dirty n r) ops =
    all_dirty n r ops (contents_after op c) (state_after_op n r op c state) in
    omega (arith, sum_by-cons (λ o. as_one (may_dirty n r o)) op ops)

-- both tests count no more than the first
both_within : (a b : Bool) → as_one (a && b) ≤ as_one a
both_within true true = omega arith
both_within true false = omega arith
both_within false b = omega arith

count_implied : (a b : Bool) → (a ≡ true → b ≡ true) → as_one a ≤ as_one b
count_implied true b follows = let is : b ≡ true = follows refl in rw is (omega arith)
count_implied false b follows = omega arith

-- an operation on an object is no rename
on_object : (n : ℕ) (op : Op) → is_on n op ≡ true → not (is_rename op) ≡ true
on_object n (Create m) is = refl
on_object n (Remove m) is = refl
on_object n (Write m offset bytes) is = refl
on_object n (SetLength m new) is = refl
on_object n (SetName bytes) is = is

length-one : {A : Type 0} (b : Bool) (x : A) → length (if b then x ∷ [] else []) ≡ as_one b
length-one true x = refl
length-one false x = refl

-- the blocks of three parts, each of which has a bound by operations
module _ {X O : Type 0} (places : ℕ → List X) (directory : ℕ → X) (is_written : ℕ → Bool) (last : List X) where
  three_parts : (objects directories : List ℕ) (first second third : O → ℕ) (ops : List O)
      → sum_by (λ n. length (places n)) objects ≤ sum_by first ops → count_by is_written directories ≤ sum_by second ops → length last ≤ sum_by third ops
      → length (flat_map places objects ++ map directory (filter is_written directories) ++ last) ≤ sum_by (λ op. first op + second op + third op) ops
  three_parts objects directories first second third ops h k l =
      let whole : length (flat_map places objects ++ map directory (filter is_written directories) ++ last) ≡ length (flat_map places objects ++ map directory (filter is_written directories)) + length last =
      length-append (flat_map places objects ++ map directory (filter is_written directories)) last in
      let before : length (flat_map places objects ++ map directory (filter is_written directories)) ≡ length (flat_map places objects) + length (map directory (filter is_written directories)) =
      length-append (flat_map places objects) (map directory (filter is_written directories)) in
      let one : length (flat_map places objects) ≡ sum_by (λ n. length (places n)) objects = length-flat_map places objects in
      let two : length (map directory (filter is_written directories)) ≡ count_by is_written directories = length-map (filter is_written directories) directory ∙ length-filter is_written directories in
      let outer : sum_by (λ op. first op + second op + third op) ops ≡ sum_by (λ op. first op + second op) ops + sum_by third ops = sum_by-plus (λ op. first op + second op) third ops in
      let inner : sum_by (λ op. first op + second op) ops ≡ sum_by first ops + sum_by second ops = sum_by-plus first second ops in
      omega arith

-- how many records of an object an operation may make dirty
abbrev records_part : List ℕ → Op → ℕ → ℕ
records_part strips op n = sum_by (λ j. count_by (λ k. may_dirty n (record_of_strip j k) op) pointer_numbers) strips

-- how many blocks of an object an operation may change: records, the top or the one indirect block, and so many
-- indirect blocks of two levels
abbrev part_on : (Op → ℕ) → ℕ → Op → ℕ
part_on count_for n op = if is_change_of n op then count_for op else 0

abbrev object_part : (Op → ℕ) → List ℕ → Op → ℕ → ℕ
object_part count_for strips op n = records_part strips op n + as_one (is_change_of n op) + part_on count_for n op

-- in objects of two levels the sync of operations writes no more than so many of these
abbrev AreIndirectsWithin : (Op → ℕ) → List Op → Contents → (Place → Bool) → Type 0
AreIndirectsWithin count_for ops synced had = (n : ℕ) → syncs.is_long_object (finite.get (contents_after_all ops synced).objects n) ≡ true
    → count_by (λ j. syncs.is_strip_changed (syncs.group_changes ops synced had) n j && syncs.has_strip_after (syncs.group_changes ops synced had) n j) pointer_numbers ≤ sum_by (part_on count_for n) ops

-- The indirect blocks and the top of an object, by whether it has two levels: in one level there is one at most.
upper_within : (long changed any : Bool) (is_strip has_after : ℕ → Bool) (c s : ℕ) → as_one changed ≤ c → (long ≡ true → count_by (λ j. is_strip j && has_after j) pointer_numbers ≤ s)
    → count_by (λ j. (if long then is_strip j else (j == 0) && changed) && has_after j) pointer_numbers + as_one ((long && changed) && any) ≤ c + s
upper_within true changed any is_strip has_after c s one strips =
    let few = strips refl in
    let top = both_within changed any in
    omega (arith, one, few, top)
upper_within false changed any is_strip has_after c s one strips =
    let few : count_by (λ j. ((j == 0) && changed) && has_after j) pointer_numbers ≤ as_one changed = count_within (λ j. ((j == 0) && changed) && has_after j) 0 (as_one changed) 0 pointer_count within in
    omega (arith, one, few)
  where
    within : (j : ℕ) → 0 ≤ j → j < 0 + pointer_count → (((j == 0) && changed) && has_after j) ≡ true → (0 ≤ j) × (j < 0 + as_one changed)
    within j from to passes =
        let first = and_parts (j == 0) changed (and_parts ((j == 0) && changed) (has_after j) passes).0 in
        let zero_is : j ≡ 0 = eqb-true j 0 first.0 in
        let one_is : as_one changed ≡ 1 = ap as_one first.1 in
        (from, omega (arith, zero_is, one_is))

-- in how many of a list's directories an operation's object is
abbrev directory_part : (ℕ → List ℕ) → List ℕ → Op → ℕ
directory_part below directories op = sum_by (λ d. count_by (λ n. is_on n op) (below d)) directories

-- an operation on any object may change the root
abbrev root_part : Op → ℕ
root_part op = as_one (not (is_rename op))

-- what operations may change, against what a sync writes
module _ (ops : List Op) (synced : Contents) (had : Place → Bool) where
  dirty_within : (n j : ℕ) → count_by (syncs.is_record_written (syncs.group_changes ops synced had) n j) pointer_numbers ≤ sum_by (λ op. count_by (λ k. may_dirty n (record_of_strip j k) op) pointer_numbers) ops
  dirty_within n j =
      let each : count_by (syncs.is_record_written (syncs.group_changes ops synced had) n j) pointer_numbers ≤ sum_by (λ k. count_by (may_dirty n (record_of_strip j k)) ops) pointer_numbers =
      sum_by-le-sum_by (λ k. as_one (syncs.is_record_written (syncs.group_changes ops synced had) n j k)) (λ k. count_by (may_dirty n (record_of_strip j k)) ops) pointer_numbers
      (λ k. let whole : as_one (syncs.is_record_written (syncs.group_changes ops synced had) n j k) ≤ 0 + count_by (may_dirty n (record_of_strip j k)) ops = all_dirty n (record_of_strip j k) ops synced Unchanged in omega (arith, whole)) in
      let turned : sum_by (λ k. count_by (may_dirty n (record_of_strip j k)) ops) pointer_numbers ≡ sum_by (λ op. count_by (λ k. may_dirty n (record_of_strip j k) op) pointer_numbers) ops =
      sum_by-sum_by (λ k op. as_one (may_dirty n (record_of_strip j k) op)) pointer_numbers ops in
      omega (arith, each, turned)

  strip_within : (n j : ℕ) → length (syncs.places_of_strip (syncs.group_changes ops synced had) n j) ≤ sum_by (λ op. count_by (λ k. may_dirty n (record_of_strip j k) op) pointer_numbers) ops
  strip_within n j =
      let as_many : length (syncs.places_of_strip (syncs.group_changes ops synced had) n j) ≡ count_by (syncs.is_record_written (syncs.group_changes ops synced had) n j) pointer_numbers =
      length-map (filter (syncs.is_record_written (syncs.group_changes ops synced had) n j) pointer_numbers) (λ k. Data (strip_number n j) k)
      ∙ length-filter (syncs.is_record_written (syncs.group_changes ops synced had) n j) pointer_numbers in
      let dirty = dirty_within n j in
      omega (arith, as_many, dirty)

  records_within : (n : ℕ) (strips : List ℕ) → length (flat_map (syncs.places_of_strip (syncs.group_changes ops synced had) n) strips) ≤ sum_by (λ op. records_part strips op n) ops
  records_within n strips =
      let as_many : length (flat_map (syncs.places_of_strip (syncs.group_changes ops synced had) n) strips) ≡ sum_by (λ j. length (syncs.places_of_strip (syncs.group_changes ops synced had) n j)) strips =
      length-flat_map (syncs.places_of_strip (syncs.group_changes ops synced had) n) strips in
      let each : sum_by (λ j. length (syncs.places_of_strip (syncs.group_changes ops synced had) n j)) strips ≤ sum_by (λ j. sum_by (λ op. count_by (λ k. may_dirty n (record_of_strip j k) op) pointer_numbers) ops) strips =
      sum_by-le-sum_by (λ j. length (syncs.places_of_strip (syncs.group_changes ops synced had) n j)) (λ j. sum_by (λ op. count_by (λ k. may_dirty n (record_of_strip j k) op) pointer_numbers) ops) strips (strip_within n) in
      let turned : sum_by (λ j. sum_by (λ op. count_by (λ k. may_dirty n (record_of_strip j k) op) pointer_numbers) ops) strips ≡ sum_by (λ op. records_part strips op n) ops =
      sum_by-sum_by (λ j op. count_by (λ k. may_dirty n (record_of_strip j k) op) pointer_numbers) strips ops in
      omega (arith, as_many, each, turned)

  module _ (count_for : Op → ℕ) (within : AreIndirectsWithin count_for ops synced had) where
    upper_blocks : (n : ℕ) → count_by (syncs.is_indirect_written (syncs.group_changes ops synced had) n) pointer_numbers + as_one (syncs.is_top_written (syncs.group_changes ops synced had) n)
        ≤ count_by (is_change_of n) ops + sum_by (part_on count_for n) ops
    upper_blocks n =
        upper_within (syncs.is_long_object object) (list_any (is_change_of n) ops) (list_any (syncs.is_strip_kept (syncs.group_changes ops synced had) n) pointer_numbers)
        (syncs.is_strip_changed (syncs.group_changes ops synced had) n) (syncs.has_strip_after (syncs.group_changes ops synced had) n)
        (count_by (is_change_of n) ops) (sum_by (part_on count_for n) ops) (any_within_count (is_change_of n) ops)
        (within n)
      where
        object : Option (List ℕ)
        object = finite.get (contents_after_all ops synced).objects n

    object_within : (n : ℕ) → length (syncs.places_of_object (syncs.group_changes ops synced had) n) ≤ sum_by (λ op. object_part count_for pointer_numbers op n) ops
    object_within n =
        let records : List Place = flat_map (syncs.places_of_strip (syncs.group_changes ops synced had) n) pointer_numbers in
        let indirects : List Place = map (λ j. Indirect (strip_number n j)) (filter (syncs.is_indirect_written (syncs.group_changes ops synced had) n) pointer_numbers) in
        let top : List Place = if syncs.is_top_written (syncs.group_changes ops synced had) n then Top n ∷ [] else [] in
        let both = length-append (records ++ indirects) top in
        let first = length-append records indirects in
        let few = records_within n pointer_numbers in
        let of_indirects : length indirects ≡ count_by (syncs.is_indirect_written (syncs.group_changes ops synced had) n) pointer_numbers =
        length-map (filter (syncs.is_indirect_written (syncs.group_changes ops synced had) n) pointer_numbers) (λ j. Indirect (strip_number n j)) ∙ length-filter (syncs.is_indirect_written (syncs.group_changes ops synced had) n) pointer_numbers in
        let of_top : length top ≡ as_one (syncs.is_top_written (syncs.group_changes ops synced had) n) = length-one (syncs.is_top_written (syncs.group_changes ops synced had) n) (Top n) in
        let upper = upper_blocks n in
        let outer = sum_by-plus (λ op. records_part pointer_numbers op n + as_one (is_change_of n op)) (part_on count_for n) ops in
        let inner = sum_by-plus (λ op. records_part pointer_numbers op n) (λ op. as_one (is_change_of n op)) ops in
        omega (arith, both, first, few, of_indirects, of_top, upper, outer, inner)

    objects_within : (objects : List ℕ) → sum_by (λ n. length (syncs.places_of_object (syncs.group_changes ops synced had) n)) objects ≤ sum_by (λ op. sum_by (object_part count_for pointer_numbers op) objects) ops
    objects_within objects =
        let each : sum_by (λ n. length (syncs.places_of_object (syncs.group_changes ops synced had) n)) objects ≤ sum_by (λ n. sum_by (λ op. object_part count_for pointer_numbers op n) ops) objects =
        sum_by-le-sum_by (λ n. length (syncs.places_of_object (syncs.group_changes ops synced had) n)) (λ n. sum_by (λ op. object_part count_for pointer_numbers op n) ops) objects object_within in
        let turned : sum_by (λ n. sum_by (λ op. object_part count_for pointer_numbers op n) ops) objects ≡ sum_by (λ op. sum_by (object_part count_for pointer_numbers op) objects) ops =
        sum_by-sum_by (λ n op. object_part count_for pointer_numbers op n) objects ops in
        omega (arith, each, turned)

  directories_within : (directories : List ℕ) → count_by (syncs.is_directory_written (syncs.group_changes ops synced had)) directories ≤ sum_by (directory_part object_numbers directories) ops
  directories_within directories =
      let each : count_by (syncs.is_directory_written (syncs.group_changes ops synced had)) directories ≤ sum_by (λ d. sum_by (λ op. count_by (λ n. is_on n op) (object_numbers d)) ops) directories =
      sum_by-le-sum_by (λ d. as_one (syncs.is_directory_written (syncs.group_changes ops synced had) d)) (λ d. sum_by (λ op. count_by (λ n. is_on n op) (object_numbers d)) ops) directories (λ d. one d (object_numbers d)) in
      let turned : sum_by (λ d. sum_by (λ op. count_by (λ n. is_on n op) (object_numbers d)) ops) directories ≡ sum_by (directory_part object_numbers directories) ops =
      sum_by-sum_by (λ d op. count_by (λ n. is_on n op) (object_numbers d)) directories ops in
      omega arith
    where
      one : (d : ℕ) (numbers : List ℕ) → as_one (list_any (λ n. list_any (is_on n) ops) numbers && list_any (λ n. finite.contains_key (contents_after_all ops synced).objects n) (object_numbers d)) ≤ sum_by (λ op. count_by (λ n. is_on n op) numbers) ops
      one d numbers =
          let touched : as_one (list_any (λ n. list_any (is_on n) ops) numbers && list_any (λ n. finite.contains_key (contents_after_all ops synced).objects n) (object_numbers d)) ≤ as_one (list_any (λ n. list_any (is_on n) ops) numbers) =
          both_within (list_any (λ n. list_any (is_on n) ops) numbers) (list_any (λ n. finite.contains_key (contents_after_all ops synced).objects n) (object_numbers d)) in
          let some : as_one (list_any (λ n. list_any (is_on n) ops) numbers) ≤ count_by (λ n. list_any (is_on n) ops) numbers = any_within_count (λ n. list_any (is_on n) ops) numbers in
          let counted : count_by (λ n. list_any (is_on n) ops) numbers ≤ sum_by (λ n. count_by (is_on n) ops) numbers =
          sum_by-le-sum_by (λ n. as_one (list_any (is_on n) ops)) (λ n. count_by (is_on n) ops) numbers (λ n. any_within_count (is_on n) ops) in
          let turned : sum_by (λ n. count_by (is_on n) ops) numbers ≡ sum_by (λ op. count_by (λ n. is_on n op) numbers) ops = sum_by-sum_by (λ n op. as_one (is_on n op)) numbers ops in
          omega arith

  root_within : (directories : List ℕ) (b : Bool) → as_one (list_any (syncs.is_directory_touched (syncs.group_changes ops synced had)) directories && b) ≤ sum_by root_part ops
  root_within directories b =
      let touched : as_one (list_any (syncs.is_directory_touched (syncs.group_changes ops synced had)) directories && b) ≤ as_one (list_any (syncs.is_directory_touched (syncs.group_changes ops synced had)) directories) =
      both_within (list_any (syncs.is_directory_touched (syncs.group_changes ops synced had)) directories) b in
      let some : as_one (list_any (syncs.is_directory_touched (syncs.group_changes ops synced had)) directories) ≤ as_one (list_any (λ op. not (is_rename op)) ops) =
      count_implied (list_any (syncs.is_directory_touched (syncs.group_changes ops synced had)) directories) (list_any (λ op. not (is_rename op)) ops) one in
      let counted : as_one (list_any (λ op. not (is_rename op)) ops) ≤ sum_by root_part ops = any_within_count (λ op. not (is_rename op)) ops in
      omega arith
    where
      one : list_any (syncs.is_directory_touched (syncs.group_changes ops synced had)) directories ≡ true → list_any (λ op. not (is_rename op)) ops ≡ true
      one is =
          let d = any_found (syncs.is_directory_touched (syncs.group_changes ops synced had)) directories is in
          let n = any_found (λ n. list_any (is_on n) ops) (object_numbers d.1) d.3 in
          let op = any_found (is_on n.1) ops n.3 in
          any_at (λ o. not (is_rename o)) ops op.0 op.1 op.2 (on_object n.1 op.1 op.3)

  last_within : length (if syncs.is_root_written (syncs.group_changes ops synced had) then Root ∷ [] else []) ≤ sum_by root_part ops
  last_within =
      let one : length (if syncs.is_root_written (syncs.group_changes ops synced had) then Root ∷ [] else []) ≡ as_one (syncs.is_root_written (syncs.group_changes ops synced had)) = length-one (syncs.is_root_written (syncs.group_changes ops synced had)) Root in
      let counted : as_one (syncs.is_root_written (syncs.group_changes ops synced had)) ≤ sum_by root_part ops =
      root_within (range_with_len 0 pointer_count) (list_any (λ n. finite.contains_key (contents_after_all ops synced).objects n) (range_with_len 0 object_count)) in
      omega arith

-- a write touches no more records than are counted for it, and a cut goes through one at most
rising_rows : (i j : ℕ) → i < j → pointer_count * i + pointer_count ≤ pointer_count * j
rising_rows i j below = omega (arith, below)

write_records : (offset count a many : ℕ) → sum_by (λ j. count_by (λ k. is_record_touched (record_of_strip j k) offset count) pointer_numbers) (range_with_len a many) ≤ records_touched offset count
write_records offset count a many =
    rows_within (λ j k. is_record_touched (record_of_strip j k) offset count) (λ j. pointer_count * j) pointer_count (offset / record_size) (records_touched offset count) a many rising_rows
    (λ j k from below touched. within (record_of_strip j k) touched)
  where
    within : (r : ℕ) → is_record_touched r offset count ≡ true → (offset / record_size ≤ r) × (r < offset / record_size + records_touched offset count)
    within r touched =
        let parts : (nat_lt offset (record_size * (r + 1)) ≡ true) × (nat_lt (record_size * r) (offset + count) ≡ true) = and_parts (nat_lt offset (record_size * (r + 1))) (nat_lt (record_size * r) (offset + count)) touched in
        let before : offset < record_size * (r + 1) = ltb-true offset (record_size * (r + 1)) parts.0 in
        let behind : record_size * r < offset + count = ltb-true (record_size * r) (offset + count) parts.1 in
        (omega arith, omega arith)

cut_records : (new a many : ℕ) → sum_by (λ j. count_by (λ k. is_record_cut (record_of_strip j k) new) pointer_numbers) (range_with_len a many) ≤ 1
cut_records new a many =
    rows_within (λ j k. is_record_cut (record_of_strip j k) new) (λ j. pointer_count * j) pointer_count (new / record_size) 1 a many rising_rows (λ j k from below cut. within (record_of_strip j k) cut)
  where
    within : (r : ℕ) → is_record_cut r new ≡ true → (new / record_size ≤ r) × (r < new / record_size + 1)
    within r cut =
        let parts : (not (nat_le new (record_size * r)) ≡ true) × (nat_lt new (record_size * (r + 1)) ≡ true) = and_parts (not (nat_le new (record_size * r))) (nat_lt new (record_size * (r + 1))) cut in
        let behind : record_size * r < new = leb-false new (record_size * r) (not-true (nat_le new (record_size * r)) parts.0) in
        let before : new < record_size * (r + 1) = ltb-true new (record_size * (r + 1)) parts.1 in
        (omega arith, omega arith)

-- what is counted under a test that fails, and under any test
no_records : (strips : List ℕ) → sum_by (λ (j : ℕ). count_by (λ (k : ℕ). false) pointer_numbers) strips ≡ 0
no_records strips = sum_by-none (λ (j : ℕ). count_by (λ (k : ℕ). false) pointer_numbers) strips (λ j. sum_by-none (λ (k : ℕ). 0) pointer_numbers (λ k. refl))

under-false : (b : Bool) (t : ℕ → ℕ → Bool) (strips : List ℕ) (s : ℕ) → b ≡ false
    → sum_by (λ j. count_by (λ k. b && t j k) pointer_numbers) strips + as_one b + (if b then s else 0) ≡ 0
under-false true t strips s is = absurd (true≢false is)
under-false false t strips s is = omega (arith, no_records strips)

under-any : (b : Bool) (t : ℕ → ℕ → Bool) (strips : List ℕ) (s w : ℕ) → sum_by (λ j. count_by (t j) pointer_numbers) strips ≤ w
    → sum_by (λ j. count_by (λ k. b && t j k) pointer_numbers) strips + as_one b + (if b then s else 0) ≤ w + 1 + s
under-any true t strips s w h = omega (arith, h)
under-any false t strips s w h = omega (arith, no_records strips)

-- of all objects an operation on one changes only that one's records, indirect blocks and top
one_object : (m : ℕ) (t : ℕ → ℕ → Bool) (strips : List ℕ) (s w a many : ℕ) → sum_by (λ j. count_by (t j) pointer_numbers) strips ≤ w
    → sum_by (λ n. sum_by (λ j. count_by (λ k. (m == n) && t j k) pointer_numbers) strips + as_one (m == n) + (if m == n then s else 0)) (range_with_len a many) ≤ w + 1 + s
one_object m t strips s w a many h =
    one_within (λ n. sum_by (λ j. count_by (λ k. (m == n) && t j k) pointer_numbers) strips + as_one (m == n) + (if m == n then s else 0)) m (w + 1 + s) a many
    (λ n from to other. under-false (m == n) t strips s (ne_eqb m n (λ e. other (sym e)))) (λ from. under-any (m == m) t strips s w h)

no-object : (strips objects : List ℕ) → sum_by (λ (n : ℕ). sum_by (λ (j : ℕ). count_by (λ (k : ℕ). false) pointer_numbers) strips + as_one false + 0) objects ≡ 0
no-object strips objects = sum_by-none (λ (n : ℕ). sum_by (λ (j : ℕ). count_by (λ (k : ℕ). false) pointer_numbers) strips + as_one false + 0) objects
    (λ n. omega (arith, no_records strips))

-- what one operation may change, over records, objects and directories that are numbers in a row
module _ (start : ℕ → ℕ) (size : ℕ) (own : (m d : ℕ) → start d ≤ m → m < start d + size → d ≡ m / entry_count) where
  -- an object is in one directory
  one_directory : (m a many : ℕ) → sum_by (λ d. count_by (λ n. m == n) (range_with_len (start d) size)) (range_with_len a many) ≤ 1
  one_directory m a many = one_within (λ d. count_by (λ n. m == n) (range_with_len (start d) size)) (m / entry_count) 1 a many none
      (λ from. count_within (λ n. m == n) m 1 (start (m / entry_count)) size (λ n low high is. let same : m ≡ n = eqb-true m n is in (omega arith, omega arith)))
    where
      none : (d : ℕ) → a ≤ d → d < a + many → d ≢ m / entry_count → count_by (λ n. m == n) (range_with_len (start d) size) ≡ 0
      none d from to other =
          let most : count_by (λ n. m == n) (range_with_len (start d) size) ≤ 0 = count_within (λ n. m == n) 0 0 (start d) size
          (λ n low high is. let same : m ≡ n = eqb-true m n is in absurd (other (own m d (omega arith) (omega arith)))) in
          omega arith

  no-directory : (directories : List ℕ) → sum_by (λ d. count_by (λ (n : ℕ). false) (range_with_len (start d) size)) directories ≡ 0
  no-directory directories = sum_by-none (λ d. count_by (λ (n : ℕ). false) (range_with_len (start d) size)) directories (λ d. sum_by-none (λ (n : ℕ). 0) (range_with_len (start d) size) (λ n. refl))

  module _ (count_for : Op → ℕ) (a strips b objects c directories : ℕ) where
    abbrev part_of : Op → ℕ
    part_of op = sum_by (object_part count_for (range_with_len a strips) op) (range_with_len b objects) + directory_part (λ d. range_with_len (start d) size) (range_with_len c directories) op + root_part op

    one_operation : (op : Op) → part_of op ≤ one_level_estimate_of_shape (shape_of op) + count_for op
    one_operation (Create m) =
        let none = no-object (range_with_len a strips) (range_with_len b objects) in
        let one = one_directory m.0 c directories in
        omega (arith, none, one)
    one_operation (Remove m) =
        let none = no-object (range_with_len a strips) (range_with_len b objects) in
        let one = one_directory m.0 c directories in
        omega (arith, none, one)
    one_operation (Write m offset bytes) =
        let below = one_object m.0 (λ j k. is_record_touched (record_of_strip j k) offset (length bytes)) (range_with_len a strips) (count_for (Write m offset bytes)) (records_touched offset (length bytes)) b objects
        (write_records offset (length bytes) a strips) in
        let one = one_directory m.0 c directories in
        omega (arith, below, one)
    one_operation (SetLength m new) =
        let below = one_object m.0 (λ j k. is_record_cut (record_of_strip j k) new) (range_with_len a strips) (count_for (SetLength m new)) 1 b objects (cut_records new a strips) in
        let one = one_directory m.0 c directories in
        omega (arith, below, one)
    one_operation (SetName bytes) =
        let none = no-object (range_with_len a strips) (range_with_len b objects) in
        let nothing = no-directory (range_with_len c directories) in
        omega (arith, none, nothing)

-- a number of a directory's is divided back to the directory
own_directory : (m d : ℕ) → entry_count * d ≤ m → m < entry_count * d + entry_count → d ≡ m / entry_count
own_directory m d from to = omega arith

within_both : (a b c d : ℕ) → a ≤ b → b ≤ c → d ≡ c → a ≤ d
within_both a b c d h k e = omega arith

-- what a sync writes, where no more than so many indirect blocks are written of objects of two levels
fits_with : (count_for : Op → ℕ) (ops : List Op) (synced : Contents) (had : Place → Bool) → AreIndirectsWithin count_for ops synced had
    → length (syncs.written_places ops synced had) ≤ sum_by (λ op. one_level_estimate_of_shape (shape_of op) + count_for op) ops
fits_with count_for ops synced had within =
    let part : Op → ℕ = part_of (λ d. entry_count * d) entry_count own_directory count_for 0 pointer_count 0 object_count 0 pointer_count in
    let written = three_parts (syncs.places_of_object (syncs.group_changes ops synced had)) (λ d. Directory d) (syncs.is_directory_written (syncs.group_changes ops synced had)) (if syncs.is_root_written (syncs.group_changes ops synced had) then Root ∷ [] else [])
    (range_with_len 0 object_count) (range_with_len 0 pointer_count)
    (λ op. sum_by (object_part count_for pointer_numbers op) (range_with_len 0 object_count)) (directory_part object_numbers (range_with_len 0 pointer_count)) root_part ops
    (objects_within ops synced had count_for within (range_with_len 0 object_count)) (directories_within ops synced had (range_with_len 0 pointer_count))
    (last_within ops synced had) in
    let each : sum_by part ops ≤ sum_by (λ op. one_level_estimate_of_shape (shape_of op) + count_for op) ops =
    sum_by-le-sum_by part (λ op. one_level_estimate_of_shape (shape_of op) + count_for op) ops (one_operation (λ d. entry_count * d) entry_count own_directory count_for 0 pointer_count 0 object_count 0 pointer_count) in
    within_both (length (syncs.written_places ops synced had)) (sum_by part ops) (sum_by (λ op. one_level_estimate_of_shape (shape_of op) + count_for op) ops) (sum_by (λ op. one_level_estimate_of_shape (shape_of op) + count_for op) ops)
    written each refl

-- an operation is estimated at what it is in one level, and at the indirect blocks of two
of_two_levels : (op : Op) → one_level_estimate_of_shape (shape_of op) + strips_for op ≤ estimate_of_shape (shape_of op)
of_two_levels (Create m) = omega arith
of_two_levels (Remove m) = omega arith
of_two_levels (Write m offset bytes) = omega arith
of_two_levels (SetLength m new) = omega arith
of_two_levels (SetName bytes) = omega arith

pub syncs_fit : SyncsFit
syncs_fit ops synced had =
    let written = fits_with strips_for ops synced had (λ n long. strips_fit n ops synced (λ j k. had (Data (strip_number n j) k)) pointer_count) in
    let each : sum_by (λ op. one_level_estimate_of_shape (shape_of op) + strips_for op) ops ≤ sum_by (λ op. estimate_of_shape (shape_of op)) ops =
    sum_by-le-sum_by (λ op. one_level_estimate_of_shape (shape_of op) + strips_for op) (λ op. estimate_of_shape (shape_of op)) ops of_two_levels in
    let shapes : estimate_of (map shape_of ops) ≡ sum_by (λ op. estimate_of_shape (shape_of op)) ops = fold-map (λ n x. n + estimate_of_shape x) shape_of 0 ops in
    within_both (length (syncs.written_places ops synced had)) (sum_by (λ op. one_level_estimate_of_shape (shape_of op) + strips_for op) ops) (sum_by (λ op. estimate_of_shape (shape_of op)) ops) (estimate_of (map shape_of ops)) written each shapes

-- and if no object has two levels after them, at what operations are in one level
pub one_level_syncs_fit : (ops : List Op) (synced : Contents) (had : Place → Bool) → ((n : ℕ) → IsShort (finite.get (contents_after_all ops synced).objects n))
    → length (syncs.written_places ops synced had) ≤ one_level_estimate_of (map shape_of ops)
one_level_syncs_fit ops synced had short =
    let written = fits_with (λ op. 0) ops synced had (λ n long. absurd (not_long (finite.get (contents_after_all ops synced).objects n) (short n) long)) in
    let each : sum_by (λ op. one_level_estimate_of_shape (shape_of op) + 0) ops ≤ sum_by (λ op. one_level_estimate_of_shape (shape_of op)) ops =
    sum_by-le-sum_by (λ op. one_level_estimate_of_shape (shape_of op) + 0) (λ op. one_level_estimate_of_shape (shape_of op)) ops (λ op. omega arith) in
    let shapes : one_level_estimate_of (map shape_of ops) ≡ sum_by (λ op. one_level_estimate_of_shape (shape_of op)) ops = fold-map (λ n x. n + one_level_estimate_of_shape x) shape_of 0 ops in
    within_both (length (syncs.written_places ops synced had)) (sum_by (λ op. one_level_estimate_of_shape (shape_of op) + 0) ops) (sum_by (λ op. one_level_estimate_of_shape (shape_of op)) ops) (one_level_estimate_of (map shape_of ops)) written each shapes
  where
    not_long : (o : Option (List ℕ)) → IsShort o → syncs.is_long_object o ≡ true → ⊥
    not_long None is long = true≢false (sym long)
    not_long (Some bytes) is long =
        let above : one_level_length < length bytes = ltb-true one_level_length (length bytes) (and_parts (nat_lt one_level_length (length bytes)) (nat_le (length bytes) max_length) long).0 in
        omega (arith, is, above)
