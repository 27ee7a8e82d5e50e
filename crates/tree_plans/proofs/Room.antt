-- A plan that is refused for want of blocks: they are not free.
use Rattle.std.proofs.Common.{◌≡◌, ℕ, zero, suc, ◌+◌, ◌-◌, ◌≤◌, ◌<◌, Bool, true, false, List, [], ◌∷◌, ◌++◌, length, map, filter, Ordering, Less, None, refl, sym, ◌∙◌, ap, arith, if◌then◌else◌, Result, IfErr, IsErrAnd}
use Rattle.std.specs.Prelude.{is_some, sum_by}
use Rattle.std.specs.List.{flat_map, range_with_len}
use Rattle.std.specs.Ordering.{nat_cmp}
use Rattle.std.specs.FinMap.{FinMap}
use Rattle.std.specs.FinSet.{FinSet}
use Rattle.std.specs.List.Sorted.{IsStrictlySortedBy}
use Rattle.std.specs.Map.{keys_of}
use Rattle.std.proofs.lemmas.List.{append-nil, length-append, length-map}
use Rattle.std.proofs.lemmas.List.Sums.{sum_by-cons}
use Rattle.std.proofs.lemmas.Grind.{flat_map-append}
use Rattle.std.proofs.lemmas.Result.{err_from_is_err_and}
use Rattle.base.specs.declared.error.PoolError.{PoolError}
use Rattle.base.specs.declared.error.PoolError.TheVariants.{NoMemory, NoSpace}
use Rattle.base.specs.declared.pointer.Pointer.{Pointer}
use Rattle.base.specs.declared.names.ObjectId.{ObjectId}
use Rattle.base.specs.formats.Fields.{no_pointer}
use Rattle.base.specs.formats.Limits.{pointer_count}
use Rattle.base.specs.tree.Places.{Place, strip_number}
use Rattle.base.specs.tree.Places.Place.{Root, Directory, Top, Indirect, Data}
use Rattle.base.specs.declared.record_state.RecordState.{RecordState}
use Rattle.base.specs.declared.record_state.RecordState.TheVariants.{Dirty}
use Rattle.base.specs.tree.Syncs.{GroupChanges, is_dirty, is_directory_written, is_indirect_written, is_record_written, is_root_written, is_top_written, places_of_object, places_of_strip, pointer_numbers, written_by}
use Rattle.base.specs.kept.PlannedTrees.{NewBlock}
use Rattle.tree_blocks.specs.declared.tree.ObjectEntry.{ObjectEntry}
use Rattle.tree_blocks.specs.Pointers.{ObjectPointers}
use Rattle.tree_plans.specs.declared.changed_object.ChangedObject.{ChangedObject}
use Rattle.base.specs.common.Rising.{rising}
use Rattle.base.proofs.common.KeptLists.{flat_map_none}
use Rattle.space.specs.FreeSets.{free_from}
use Rattle.space.proofs.FreeLists.{free_from-0}
use Rattle.tree_plans.specs.declared.changes.ObjectChanges.{ObjectChanges}
use Rattle.tree_plans.specs.Pointers.{entry_of, planned_map}
use Rattle.tree_plans.specs.Changes.{AreInRange, changes_of_group}
use Rattle.tree_plans.specs.Plans.{Goes, Progress, is_dirty_in}
use Rattle.tree_plans.specs.Walks.{is_directory_dirty, root_state}
use Rattle.tree_plans.specs.Order.{Adds, address_if, new_addresses, addresses_where, all_addresses, object_addresses, strip_addresses}
use Rattle.tree_plans.specs.Room.{Lacks, all_blocks, count_if, count_where, is_indirect_needed, is_top_needed, needed_blocks, object_blocks, record_blocks, written_blocks}
use Rattle.tree_plans.proofs.Order.{absent-indirect_written, absent-top, absent-written, adds_twice, addresses_more, all_from_none, all_numbers, none_passes, rising_of, root-written, same_filter, strip_addresses_more, strip_addresses_same, written-directories}
use Rattle.tree_plans.proofs.Progress.{goes_twice}

-- no free block is left for the next one
pub lacks_one : (free : FinSet nat_cmp) (s : Progress) → free_from s.next free ≡ [] → Lacks free s 1
lacks_one free s none taken =
    let addresses : List ℕ = new_addresses s.blocks in
    let all : length (rising free) ≡ length addresses =
    ap (λ (l : List ℕ). length l) (sym taken) ∙ ap (λ (l : List ℕ). length (addresses ++ l)) none ∙ ap (λ (l : List ℕ). length l) (append-nil addresses) in
    let each : length addresses ≡ length s.blocks = length-map s.blocks (λ (b : NewBlock). b.address) in
    omega (arith, all, each)

pub lacks_more : (free : FinSet nat_cmp) (s : Progress) (few many : ℕ) → few ≤ many → Lacks free s few → Lacks free s many
lacks_more free s few many more lacks taken = let h = lacks taken in omega (arith, h, more)

-- a later step is refused: what the steps before it took counts too
pub lacks_behind : (free : FinSet nat_cmp) (s t : Progress) (added : List ℕ) (count all : ℕ) → Goes free s t → Adds s.blocks t.blocks added → length added + count ≤ all → Lacks free t count → Lacks free s all
lacks_behind free s t added count all goes adds fits lacks taken =
    let h = lacks (goes.taken taken) in
    let old : length (new_addresses s.blocks) ≡ length s.blocks = length-map s.blocks (λ (b : NewBlock). b.address) in
    let new : length (new_addresses t.blocks) ≡ length t.blocks = length-map t.blocks (λ (b : NewBlock). b.address) in
    let sum : length (new_addresses t.blocks) ≡ length (new_addresses s.blocks) + length added = ap (λ (l : List ℕ). length l) adds ∙ length-append (new_addresses s.blocks) added in
    omega (arith, h, old, new, sum, fits)

-- numbers that are marked
pub where_length : (p : ℕ → Bool) (f : ℕ → Pointer) (count : ℕ) → length (addresses_where p f count) ≡ count_where p count
unfolding addresses_where count_where
where_length p f count = length-map (filter p (range_with_len 0 count)) (λ i. (f i).address)

pub if_length : (b : Bool) (p : Pointer) → length (address_if b p) ≡ count_if b
if_length true p = refl
if_length false p = refl

pub where_more : (p : ℕ → Bool) (n : ℕ) → count_where p (n + 1) ≡ count_where p n + count_if (p n)
where_more p n =
    let f : ℕ → Pointer = λ i. no_pointer in
    sym (where_length p f (n + 1)) ∙ ap (λ (l : List ℕ). length l) (addresses_more p f f n (λ r low. refl)) ∙ length-append (addresses_where p f n) (address_if (p n) (f n))
    ∙ ap (λ (k : ℕ). k + length (address_if (p n) (f n))) (where_length p f n) ∙ ap (λ (k : ℕ). count_where p n + k) (if_length (p n) (f n))

where_grows : (p : ℕ → Bool) (n more all : ℕ) → n + more ≡ all → count_where p n ≤ count_where p all
where_grows p n zero all sum =
    let same : n ≡ all = omega (arith, sum) in
    rw same (omega arith)
where_grows p n (suc more) all sum =
    let next : n + more + 1 ≡ all = omega (arith, sum) in
    let h = where_grows p n more (n + more) refl in
    let step = where_more p (n + more) in
    let up : count_where p n ≤ count_where p (n + more + 1) = omega (arith, h, step) in
    rw next at up

-- a number is refused, if those below it are done
pub lacks_at : (free : FinSet nat_cmp) (s t : Progress) (p : ℕ → Bool) (f : ℕ → Pointer) (index count : ℕ) (b : Bool) → index < count → b ≡ p index → Goes free s t → Adds s.blocks t.blocks (addresses_where p f index)
    → Lacks free t (count_if b) → Lacks free s (count_where p count)
lacks_at free s t p f index count b low is goes adds lacks =
    let below = where_length p f index in
    let next : count_where p (index + 1) ≡ count_where p index + count_if b = where_more p index ∙ ap (λ (c : Bool). count_where p index + count_if c) (sym is) in
    let rest : count_where p (index + 1) ≤ count_where p count = where_grows p (index + 1) (count - (index + 1)) count (omega (arith, low)) in
    lacks_behind free s t (addresses_where p f index) (count_if b) (count_where p count) goes adds (omega (arith, below, next, rest)) lacks

if_places : {A : Type 0} (b : Bool) (a : A) → length (if b then a ∷ [] else []) ≡ count_if b
if_places true a = refl
if_places false a = refl

flat_length : {X A B : Type 0} (f : X → List A) (g : X → List B) → ((x : X) → length (f x) ≡ length (g x)) → (xs : List X) → length (flat_map f xs) ≡ length (flat_map g xs)
flat_length f g same [] = refl
flat_length f g same (x ∷ xs) =
    let one = length-append (f x) (flat_map f xs) in
    let two = length-append (g x) (flat_map g xs) in
    let here = same x in
    let rest = flat_length f g same xs in
    omega (arith, one, two, here, rest)

flat_map_length : {A B : Type 0} (f : A → List B) (xs : List A) → length (flat_map f xs) ≡ sum_by (λ x. length (f x)) xs
flat_map_length f [] = refl
flat_map_length f (x ∷ xs) =
    let one = length-append (f x) (flat_map f xs) in
    let rest = flat_map_length f xs in
    let sum = sum_by-cons (λ y. length (f y)) x xs in
    omega (arith, one, rest, sum)

-- what the records of the first strips of an object take
pub strips_length : (q : ℕ → ℕ → Bool) (f : ℕ → ℕ → Pointer) (count : ℕ) → length (strip_addresses q f count) ≡ sum_by (λ j. count_where (q j) pointer_count) (range_with_len 0 count)
unfolding strip_addresses
strips_length q f count = flat_map_length (λ j. addresses_where (q j) (f j) pointer_count) (range_with_len 0 count) ∙ (λ x. sum_by (λ j. where_length (q j) (f j) pointer_count x) (range_with_len 0 count))

pub strips_more : (q : ℕ → ℕ → Bool) (n : ℕ) → sum_by (λ j. count_where (q j) pointer_count) (range_with_len 0 (n + 1)) ≡ sum_by (λ j. count_where (q j) pointer_count) (range_with_len 0 n) + count_where (q n) pointer_count
strips_more q n =
    let f : ℕ → ℕ → Pointer = λ j k. no_pointer in
    let next = strip_addresses_more q f f n (λ j k low below. refl) in
    let one = strips_length q f (n + 1) in
    let two = strips_length q f n in
    let three = where_length (q n) (f n) pointer_count in
    let four = length-append (strip_addresses q f n) (addresses_where (q n) (f n) pointer_count) in
    let same : length (strip_addresses q f (n + 1)) ≡ length (strip_addresses q f n ++ addresses_where (q n) (f n) pointer_count) = ap (λ (l : List ℕ). length l) next in
    omega (arith, one, two, three, four, same)

strips_grow : (q : ℕ → ℕ → Bool) (n more all : ℕ) → n + more ≡ all → sum_by (λ j. count_where (q j) pointer_count) (range_with_len 0 n) ≤ sum_by (λ j. count_where (q j) pointer_count) (range_with_len 0 all)
strips_grow q n zero all sum =
    let same : n ≡ all = omega (arith, sum) in
    rw same (omega arith)
strips_grow q n (suc more) all sum =
    let next : n + more + 1 ≡ all = omega (arith, sum) in
    let h = strips_grow q n more (n + more) refl in
    let step = strips_more q (n + more) in
    let up : sum_by (λ j. count_where (q j) pointer_count) (range_with_len 0 n) ≤ sum_by (λ j. count_where (q j) pointer_count) (range_with_len 0 (n + more + 1)) = omega (arith, h, step) in
    rw next at up

-- the records of a strip are refused, if the strips below it are done
pub lacks_strip : (free : FinSet nat_cmp) (s t : Progress) (q : ℕ → ℕ → Bool) (f : ℕ → ℕ → Pointer) (strip count : ℕ) → strip < count → Goes free s t → Adds s.blocks t.blocks (strip_addresses q f strip)
    → Lacks free t (count_where (q strip) pointer_count) → Lacks free s (sum_by (λ j. count_where (q j) pointer_count) (range_with_len 0 count))
lacks_strip free s t q f strip count low goes adds lacks =
    let below = strips_length q f strip in
    let next = strips_more q strip in
    let rest = strips_grow q (strip + 1) (count - (strip + 1)) count (omega (arith, low)) in
    lacks_behind free s t (strip_addresses q f strip) (count_where (q strip) pointer_count) (sum_by (λ j. count_where (q j) pointer_count) (range_with_len 0 count)) goes adds (omega (arith, below, next, rest)) lacks

-- numbers that are marked alike
pub count_same : (p q : ℕ → Bool) (count : ℕ) → ((k : ℕ) → k < count → p k ≡ q k) → count_where p count ≡ count_where q count
unfolding count_where
count_same p q count same = ap (λ (l : List ℕ). length l) (same_filter p q count same)

-- the addresses of an object are as many as the places that it has to write
object_length : (g : GroupChanges) (n : ℕ) (o : ObjectPointers) → length (object_addresses g n o) ≡ object_blocks g n
unfolding object_addresses object_blocks strip_addresses addresses_where
object_length g n o =
    let records : List ℕ = flat_map (λ j. map (λ k. (o.record_at j k).address) (filter (is_record_written g n j) pointer_numbers)) pointer_numbers in
    let indirects : List ℕ = map (λ j. (o.strip j).address) (filter (is_indirect_written g n) pointer_numbers) in
    let top : List ℕ = address_if (is_top_written g n) o.top in
    let places : List Place = flat_map (places_of_strip g n) pointer_numbers in
    let middle : List Place = map (λ j. Indirect (strip_number n j)) (filter (is_indirect_written g n) pointer_numbers) in
    let last : List Place = if is_top_written g n then Top n ∷ [] else [] in
    let a1 = length-append (records ++ indirects) top in
    let a2 = length-append records indirects in
    let b1 = length-append (places ++ middle) last in
    let b2 = length-append places middle in
    let one : length records ≡ length places = flat_length (λ j. map (λ k. (o.record_at j k).address) (filter (is_record_written g n j) pointer_numbers)) (places_of_strip g n)
    (λ j. length-map (filter (is_record_written g n j) pointer_numbers) (λ k. (o.record_at j k).address) ∙ sym (length-map (filter (is_record_written g n j) pointer_numbers) (λ k. Data (strip_number n j) k))) pointer_numbers in
    let two : length indirects ≡ length middle = length-map (filter (is_indirect_written g n) pointer_numbers) (λ j. (o.strip j).address)
    ∙ sym (length-map (filter (is_indirect_written g n) pointer_numbers) (λ j. Indirect (strip_number n j))) in
    let three : length top ≡ length last = if_length (is_top_written g n) o.top ∙ sym (if_places (is_top_written g n) (Top n)) in
    omega (arith, a1, a2, b1, b2, one, two, three)

all_length : (g : GroupChanges) (map_of : ℕ → ObjectPointers) (count : ℕ) → length (all_addresses g map_of count) ≡ all_blocks g count
unfolding all_addresses all_blocks object_blocks
all_length g map_of count = flat_length (λ n. object_addresses g n (map_of n)) (places_of_object g) (λ n. object_length g n (map_of n)) (range_with_len 0 count)

-- an object's addresses, part by part
by_parts : (g : GroupChanges) (n : ℕ) (o : ObjectPointers) (a b c : ℕ) → length (strip_addresses (is_record_written g n) o.record_at pointer_count) ≡ a
    → length (addresses_where (is_indirect_written g n) o.strip pointer_count) ≡ b → length (address_if (is_top_written g n) o.top) ≡ c → length (object_addresses g n o) ≡ a + b + c
unfolding object_addresses
by_parts g n o a b c one two three =
    let x = length-append (strip_addresses (is_record_written g n) o.record_at pointer_count ++ addresses_where (is_indirect_written g n) o.strip pointer_count) (address_if (is_top_written g n) o.top) in
    let y = length-append (strip_addresses (is_record_written g n) o.record_at pointer_count) (addresses_where (is_indirect_written g n) o.strip pointer_count) in
    omega (arith, x, y, one, two, three)

-- what an object takes by its changes is what its group writes of it
pub object_needs : (g : GroupChanges) (n : ℕ) (object : ChangedObject) (was : ObjectPointers) → ((j k : ℕ) → j < pointer_count → k < pointer_count → is_record_written g n j k ≡ is_dirty_in object j k)
    → ((j : ℕ) → is_indirect_written g n j ≡ is_indirect_needed object.is_long object.changes.now was j) → is_top_written g n ≡ is_top_needed object.is_long object.changes.now was
    → needed_blocks object was ≡ object_blocks g n
object_needs g n object was records indirects top =
    let o : ObjectPointers = was in
    let counted = object_length g n o in
    let of_records : strip_addresses (is_record_written g n) o.record_at pointer_count ≡ strip_addresses (is_dirty_in object) o.record_at pointer_count =
    strip_addresses_same (is_record_written g n) (is_dirty_in object) o.record_at o.record_at pointer_count records (λ j k low below. refl) in
    let one : length (strip_addresses (is_record_written g n) o.record_at pointer_count) ≡ record_blocks object pointer_count = ap (λ (l : List ℕ). length l) of_records ∙ strips_length (is_dirty_in object) o.record_at pointer_count in
    let two : length (addresses_where (is_indirect_written g n) o.strip pointer_count) ≡ count_where (is_indirect_needed object.is_long object.changes.now was) pointer_count =
    where_length (is_indirect_written g n) o.strip pointer_count ∙ (λ x. count_where (λ j. indirects j x) pointer_count) in
    let three : length (address_if (is_top_written g n) o.top) ≡ count_if (is_top_needed object.is_long object.changes.now was) = if_length (is_top_written g n) o.top ∙ ap count_if top in
    let whole : length (object_addresses g n o) ≡ record_blocks object pointer_count + count_where (is_indirect_needed object.is_long object.changes.now was) pointer_count + count_if (is_top_needed object.is_long object.changes.now was) =
    by_parts g n o _ _ _ one two three in
    omega (arith, counted, whole)

-- an object is refused, if those below it are done
module _ (R : ObjectId → ObjectId → Ordering) (less : (a b : ObjectId) → R a b ≡ Less → a.0 < b.0) where
  entries_length : (count : ℕ) (g : GroupChanges) (objects : List (ObjectId × ObjectChanges)) → IsStrictlySortedBy R (keys_of objects) → ((n : ℕ) → is_some (entry_of objects n) ≡ true → n < count)
      → ((n : ℕ) → entry_of objects n ≡ None → places_of_object g n ≡ [])
      → length (flat_map (λ (e : ObjectId × ObjectChanges). places_of_object g e.0.0) objects) ≡ all_blocks g count
  unfolding all_blocks
  entries_length count g objects sorted within nothing = ap (λ (l : List Place). length l)
      (all_numbers (places_of_object g) count 0 count objects (omega arith) (rising_of R less 0 count objects (all_from_none R less (keys_of objects)) sorted within)
      (λ n low absent. nothing n absent))

  pub lacks_object : (free : FinSet nat_cmp) (s t : Progress) (g : GroupChanges) (maps : ℕ → ObjectPointers) (planned : List (ObjectId × ObjectEntry)) (count : ℕ) (objects done rest : List (ObjectId × ObjectChanges)) (e : ObjectId × ObjectChanges)
      → objects ≡ done ++ (e ∷ rest) → IsStrictlySortedBy R (keys_of objects) → ((n : ℕ) → is_some (entry_of objects n) ≡ true → n < count)
      → ((n : ℕ) → entry_of objects n ≡ None → places_of_object g n ≡ []) → Goes free s t
      → Adds s.blocks t.blocks (flat_map (λ (x : ObjectId × ObjectChanges). object_addresses g x.0.0 (planned_map maps planned x.0.0)) done)
      → Lacks free t (object_blocks g e.0.0) → Lacks free s (all_blocks g count)
  unfolding object_blocks
  lacks_object free s t g maps planned count objects done rest e split sorted within nothing goes adds lacks =
      let F : ObjectId × ObjectChanges → List ℕ = λ x. object_addresses g x.0.0 (planned_map maps planned x.0.0) in
      let G : ObjectId × ObjectChanges → List Place = λ x. places_of_object g x.0.0 in
      let all : length (flat_map G objects) ≡ all_blocks g count = entries_length count g objects sorted within nothing in
      let before : length (flat_map F done) ≡ length (flat_map G done) = flat_length F G (λ x. object_length g x.0.0 (planned_map maps planned x.0.0)) done in
      let sum : length (flat_map G objects) ≡ length (flat_map G done) + (length (G e) + length (flat_map G rest)) =
      ap (λ (l : List (ObjectId × ObjectChanges)). length (flat_map G l)) split ∙ ap (λ (l : List Place). length l) (flat_map-append G done (e ∷ rest))
      ∙ length-append (flat_map G done) (G e ++ flat_map G rest) ∙ ap (λ (k : ℕ). length (flat_map G done) + k) (length-append (G e) (flat_map G rest)) in
      lacks_behind free s t (flat_map F done) (length (G e)) (all_blocks g count) goes adds (omega (arith, all, before, sum)) lacks

-- an object that no operation is on has no place that is written
pub no_places : (objects : List (ObjectId × ObjectChanges)) (pointers : Place → Pointer) (after : FinMap nat_cmp (List ℕ)) (n : ℕ) → entry_of objects n ≡ None → places_of_object (changes_of_group objects pointers after) n ≡ []
no_places objects pointers after n none =
    let g : GroupChanges = changes_of_group objects pointers after in
    (λ x. flat_map_none (places_of_strip g n) (λ j. (λ y. map (λ k. Data (strip_number n j) k) (none_passes (is_record_written g n j) (absent-written objects pointers after n none j) pointer_numbers y))) pointer_numbers x
    ++ map (λ j. Indirect (strip_number n j)) (none_passes (is_indirect_written g n) (absent-indirect_written objects pointers after n none) pointer_numbers x)
    ++ (if absent-top objects pointers after n none x then Top n ∷ [] else []))

-- the places of a whole walk
parts : (g : GroupChanges) (written : ℕ → Bool) (count directory_count : ℕ) (b : Bool)
    → length (flat_map (places_of_object g) (range_with_len 0 count) ++ map (λ k. Directory k) (filter written (range_with_len 0 directory_count)) ++ (if b then Root ∷ [] else []))
    ≡ all_blocks g count + (count_where written directory_count + count_if b)
unfolding all_blocks count_where
parts g written count directory_count b =
    let objects = flat_map (places_of_object g) (range_with_len 0 count) in
    let middle : List Place = map (λ k. Directory k) (filter written (range_with_len 0 directory_count)) in
    let top : List Place = if b then Root ∷ [] else [] in
    let ends : length top ≡ count_if b = last b in
    let one = length-append (objects ++ middle) top in
    let two = length-append objects middle in
    let three : length middle ≡ length (filter written (range_with_len 0 directory_count)) = length-map (filter written (range_with_len 0 directory_count)) (λ k. Directory k) in
    omega (arith, ends, one, two, three)
  where
    last : (b : Bool) → (let top : List Place = if b then Root ∷ [] else [] in length top) ≡ count_if b
    last true = refl
    last false = refl

module _ (free : FinSet nat_cmp) (objects : List (ObjectId × ObjectChanges)) (pointers : Place → Pointer) (after : FinMap nat_cmp (List ℕ)) (within : AreInRange objects after) where
  abbrev group : GroupChanges
  group = changes_of_group objects pointers after

  abbrev all : ℕ
  all = written_blocks group

  tree_length : written_blocks group ≡ all_blocks group 5292 + (count_where (is_directory_dirty objects after) 84 + count_if (is_dirty (root_state objects after)))
  unfolding written_blocks count_where
  tree_length =
      parts group (is_directory_written group) 5292 84 (is_root_written group)
      ∙ ap (λ (l : List ℕ). all_blocks group 5292 + (length l + count_if (is_root_written group))) (written-directories objects pointers after)
      ∙ ap (λ (t : Bool). all_blocks group 5292 + (length (filter (is_directory_dirty objects after) (range_with_len 0 84)) + count_if t)) (root-written objects pointers after within)

  -- the objects of a walk are refused, or its directories after them, or its root after these
  pub objects_lack : (s : Progress) → Lacks free s (all_blocks group 5292) → Lacks free s all
  objects_lack s lacks = let sum = tree_length in lacks_more free s (all_blocks group 5292) all (omega (arith, sum)) lacks

  pub directories_lack : (s t : Progress) (map_of : ℕ → ObjectPointers) → Goes free s t → Adds s.blocks t.blocks (all_addresses group map_of 5292)
      → Lacks free t (count_where (is_directory_dirty objects after) 84) → Lacks free s all
  directories_lack s t map_of goes adds lacks =
      let sum = tree_length in
      let first = all_length group map_of 5292 in
      lacks_behind free s t (all_addresses group map_of 5292) (count_where (is_directory_dirty objects after) 84) all goes adds (omega (arith, sum, first)) lacks

  pub root_lacks : (r s t : Progress) (map_of : ℕ → ObjectPointers) (directories : ℕ → Pointer) → Goes free r s → Adds r.blocks s.blocks (all_addresses group map_of 5292)
      → Goes free s t → Adds s.blocks t.blocks (addresses_where (is_directory_dirty objects after) directories 84) → Lacks free t (count_if (is_dirty (root_state objects after))) → Lacks free r all
  root_lacks r s t map_of directories goes adds goes_on adds_more lacks =
      let sum = tree_length in
      let first = all_length group map_of 5292 in
      let second = where_length (is_directory_dirty objects after) directories 84 in
      let counted = length-append (all_addresses group map_of 5292) (addresses_where (is_directory_dirty objects after) directories 84) in
      lacks_behind free r t (all_addresses group map_of 5292 ++ addresses_where (is_directory_dirty objects after) directories 84) (count_if (is_dirty (root_state objects after))) all
      (goes_twice goes goes_on) (adds_twice r.blocks s.blocks t.blocks _ _ adds adds_more) (omega (arith, sum, first, second, counted)) lacks

-- a plan begins with no block
lacks_in_all : (free : FinSet nat_cmp) (next : ℕ) (blocks : List NewBlock) (count : ℕ) → next ≡ 0 → blocks ≡ [] → (new_addresses blocks ++ free_from next free ≡ rising free → length (rising free) < length blocks + count)
    → length (rising free) < count
lacks_in_all free next blocks count at_first none lacks =
    let h = lacks (ap (λ (l : List NewBlock). new_addresses l ++ free_from next free) none ∙ ap (λ (k : ℕ). free_from k free) at_first ∙ free_from-0 free) in
    let no_blocks : length blocks ≡ 0 = ap (λ (l : List NewBlock). length l) none in
    omega (arith, h, no_blocks)

pub plan_lacks : (free : FinSet nat_cmp) (next : ℕ) (blocks : List NewBlock) (g : GroupChanges) → next ≡ 0 → blocks ≡ []
    → (new_addresses blocks ++ free_from next free ≡ rising free → length (rising free) < length blocks + written_blocks g)
    → length (rising free) < length (written_by g)
unfolding written_blocks
plan_lacks free next blocks g at_first none lacks = lacks_in_all free next blocks _ at_first none lacks

-- a place that takes one block is refused for want of it
pub lacks_here : (free : FinSet nat_cmp) (s : Progress) (state : RecordState) → state ≡ Dirty → free_from s.next free ≡ [] → Lacks free s (count_if (is_dirty state))
lacks_here free s state is none = rw is (lacks_one free s none)

-- want of memory is not want of blocks
pub not_space : {P : Type 0} (e : PoolError) → e ≡ NoMemory → e ≡ NoSpace → P
not_space e memory space = absurd (let no : NoSpace ≡ NoMemory = sym space ∙ memory in cc)

-- a part of an object is refused: its records, then its indirect blocks, and then its top
pub records_lack : (free : FinSet nat_cmp) (s : Progress) (records strips tops : ℕ) → Lacks free s records → Lacks free s (records + strips + tops)
records_lack free s records strips tops = lacks_more free s records (records + strips + tops) (omega arith)

pub strips_lack : (free : FinSet nat_cmp) (s t : Progress) (added : List ℕ) (records strips tops made : ℕ) → length added ≡ records → made ≡ strips → Goes free s t → Adds s.blocks t.blocks added
    → Lacks free t made → Lacks free s (records + strips + tops)
strips_lack free s t added records strips tops made long same goes adds = lacks_behind free s t added made (records + strips + tops) goes adds (fits (length added) long)
  where
    fits : (taken : ℕ) → taken ≡ records → taken + made ≤ records + strips + tops
    fits taken is = omega (arith, is, same)

pub tops_lack : (free : FinSet nat_cmp) (s t : Progress) (added below : List ℕ) (records strips tops made top : ℕ) → length added ≡ records → length below ≡ made → made ≡ strips → top ≡ tops → Goes free s t
    → Adds s.blocks t.blocks (added ++ below) → Lacks free t top → Lacks free s (records + strips + tops)
tops_lack free s t added below records strips tops made top long more same last goes adds = lacks_behind free s t (added ++ below) top (records + strips + tops) goes adds
    (fits (length (added ++ below)) (length added) (length below) (length-append added below) long more)
  where
    fits : (all one two : ℕ) → all ≡ one + two → one ≡ records → two ≡ made → all + top ≤ records + strips + tops
    fits all one two sum one_is two_is = omega (arith, sum, one_is, two_is, same, last)

-- an error is handed on
pub handed_on : {A : Type 0} (r : Result A PoolError) (x : PoolError) (P : PoolError → Type 0) → IsErrAnd r (λ e. e ≡ x) → P x → IfErr r P
handed_on r x P is holds = let p = err_from_is_err_and r is in rw (p.1, p.2) holds
