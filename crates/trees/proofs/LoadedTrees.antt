-- A tree as it is loaded is the one that the image holds.
use Rattle.std.proofs.Common.{◌≡◌, ℕ, zero, suc, take, drop, replicate, ◌++◌, ◌∷◌, ◌+◌, ◌*◌, ◌/◌, ◌%◌, ◌<◌, ◌≤◌, List, [], length, refl, ap, sym, subst, ◌∙◌, arith, ◌⊎◌, inl, inr, Some, None}
use Rattle.std.specs.Prelude.{Bool, IsTrue, Option, IfSome, All, option_map}
use Rattle.std.specs.Ordering.{nat_cmp}
use Rattle.std.specs.FinMap as finite
use Rattle.std.specs.FinMap.{FinMap, get-empty}
use Rattle.std.proofs.lemmas.List.{take_at, get_or-replicate, get_or_past, length-replicate}
use Rattle.std.proofs.lemmas.List.Elements.{All-head, All-tail}
use Rattle.std.proofs.lemmas.Bool.{cases_lt}
use Rattle.base.specs.declared.pointer.Pointer.{Pointer}
use Rattle.base.specs.formats.Limits.{object_count, indirect_count, pointer_count, entry_count}
use Rattle.base.specs.formats.Fields.{entry_in, pointer_in, no_pointer}
use Rattle.base.specs.formats.Geometry.{IsBlockAddress}
use Rattle.base.specs.formats.Blocks.{Frame}
use Rattle.base.specs.tree.Places.{Place, IsPlace, object_of_indirect, strip_number, strip_of}
use Rattle.base.specs.tree.Places.Place.{Root, Directory, Top, Indirect, Data}
use Rattle.base.specs.tree.Tree.{IsRecord, OpensAt}
use Rattle.base.specs.kept.PlacedTrees.{ArePlaced, HasNonePast, HoldsTree, IsEntryFor, NeedsNoTop, StandsAt}
use Rattle.base.proofs.tree.Strips.{first-object, first-which, number-back, number-object, number-strip, strip-object, strip-which}
use Rattle.tree_blocks.specs.declared.tree.ObjectEntry.{ObjectEntry}
use Rattle.tree_blocks.specs.Pointers.{ObjectPointers, object_pointers, pointer_of_list, pointers_at}
use Rattle.tree_blocks.specs.EmptyEntries.{IsEmptyEntry}
use Rattle.tree_blocks.specs.Lengths.{length_in, HaveLengthsOf}
use Rattle.trees.proofs.FreeBlocks.{none_of_empty}
use Rattle.trees.specs.Loading.{AreEmptyFrom, AreLoadedDirectories, DirectoryStands, IndirectStands, IsLimitedObject, IsLoadedAt, IsLoadedTree, IsObjectContent, LevelsStand}
use Rattle.trees.proofs.LoadedEntries.{no_directory}

-- a tree with no root
pub no_tree : (keeps : Bool) (image : List ℕ) (frame : Frame) (root : Pointer) (directories : List Pointer) (objects : FinMap nat_cmp (List ℕ)) (maps : List ObjectEntry)
    → root ≡ no_pointer → ((d : ℕ) → pointer_of_list directories d ≡ no_pointer) → AreEmptyFrom 0 objects maps → IsLoadedTree keeps image frame root directories objects maps
no_tree keeps image frame root directories objects maps none no_directories empty = record {
  placed = inl none;
  stands = λ _. inl (none, λ d _. no_directories d);
  each = λ d _. no_directory keeps image frame d (pointer_of_list directories d) objects maps (no_directories d) (λ k _. empty.each (entry_count * d + k) (omega arith));
  rest = record { each = λ n _. empty.each n (omega arith) };
}

-- a tree with a root and all directories
pub tree_loaded : (keeps : Bool) (image : List ℕ) (frame : Frame) (root : Pointer) (directories : List Pointer) (payload : List ℕ) (objects : FinMap nat_cmp (List ℕ)) (maps : List ObjectEntry)
    → IsBlockAddress frame.blocks root.address → (IsTrue keeps → OpensAt image frame Root root payload)
    → ((d : ℕ) → d < pointer_count → pointer_of_list directories d ≡ pointer_in payload d)
    → AreLoadedDirectories keeps image frame directories pointer_count objects maps → IsLoadedTree keeps image frame root directories objects maps
tree_loaded keeps image frame root directories payload objects maps placed opens pointers all = record {
  placed = inr placed;
  stands = λ k. inr (payload, opens k, λ d low. sym (pointers d low));
  each = all.loaded;
  rest = all.rest;
}

-- an object of one of the directories
object_loaded_at : (keeps : Bool) (image : List ℕ) (frame : Frame) (root : Pointer) (directories : List Pointer) (objects : FinMap nat_cmp (List ℕ)) (maps : List ObjectEntry)
    → IsLoadedTree keeps image frame root directories objects maps → (n : ℕ) → n < object_count → IsLoadedAt keeps image frame objects maps n
object_loaded_at keeps image frame root directories objects maps t n low =
    let in_directory : n / entry_count < pointer_count = omega (arith, low) in
    let in_entries : n % entry_count < entry_count = omega arith in
    let whole : entry_count * (n / entry_count) + n % entry_count ≡ n = omega arith in
    subst (λ (i : ℕ). IsLoadedAt keeps image frame objects maps i) whole ((t.each (n / entry_count) in_directory).each (n % entry_count) in_entries)

strip_loaded_at : (keeps : Bool) (image : List ℕ) (frame : Frame) (root : Pointer) (directories : List Pointer) (objects : FinMap nat_cmp (List ℕ)) (maps : List ObjectEntry)
    → IsLoadedTree keeps image frame root directories objects maps → (m : ℕ) → IsLoadedAt keeps image frame objects maps (object_of_indirect m)
strip_loaded_at keeps image frame root directories objects maps t m = object_loaded_at keeps image frame root directories objects maps t (object_of_indirect m) (number-object m)

-- its pointers are to blocks
tree_placed : (keeps : Bool) (image : List ℕ) (frame : Frame) (root : Pointer) (directories : List Pointer) (objects : FinMap nat_cmp (List ℕ)) (maps : List ObjectEntry)
    → IsLoadedTree keeps image frame root directories objects maps → ArePlaced frame.blocks (pointers_at root directories maps)
tree_placed keeps image frame root directories objects maps t Root there = t.placed
tree_placed keeps image frame root directories objects maps t (Directory d) there = (t.each d there).placed
tree_placed keeps image frame root directories objects maps t (Top n) there = (object_loaded_at keeps image frame root directories objects maps t n there).placed
tree_placed keeps image frame root directories objects maps t (Indirect m) there = (strip_loaded_at keeps image frame root directories objects maps t m).strips_placed (strip_of m) (number-strip m there)
tree_placed keeps image frame root directories objects maps t (Data m k) there =
    (strip_loaded_at keeps image frame root directories objects maps t m).records_placed (strip_of m) k (number-strip m there.0) there.1

-- its objects are within their limits
tree_bounded : (keeps : Bool) (image : List ℕ) (frame : Frame) (root : Pointer) (directories : List Pointer) (objects : FinMap nat_cmp (List ℕ)) (maps : List ObjectEntry)
    → IsLoadedTree keeps image frame root directories objects maps → (n : ℕ) → IfSome (finite.get objects n) (IsLimitedObject n)
tree_bounded keeps image frame root directories objects maps t n = go (cases_lt n object_count)
  where
    both : (low : n < object_count) (o : Option (List ℕ)) → IfSome o IsObjectContent → IfSome o (IsLimitedObject n)
    both low None h = tt
    both low (Some bytes) h = (low, h.0, h.1)

    go : (n < object_count) ⊎ (object_count ≤ n) → IfSome (finite.get objects n) (IsLimitedObject n)
    go (inl low) = both low (finite.get objects n) (object_loaded_at keeps image frame root directories objects maps t n low).bounded
    go (inr past) = rw (t.rest.each n past).object tt

-- and the image holds it, if the device keeps the model
tree_holds : (keeps : Bool) (image : List ℕ) (frame : Frame) (root : Pointer) (directories : List Pointer) (objects : FinMap nat_cmp (List ℕ)) (maps : List ObjectEntry)
    → IsLoadedTree keeps image frame root directories objects maps → IsTrue keeps → HoldsTree image frame (pointers_at root directories maps) objects
tree_holds keeps image frame root directories objects maps t k = record { no_others = λ n past. (t.rest.each n past).object; each = stands }
  where
    pointers : Place → Pointer
    pointers = pointers_at root directories maps

    -- the first strip of an object of directory d
    first_of : (d e : ℕ) → d < pointer_count → e < entry_count → pointers (Indirect (entry_count * d + e)) ≡ (object_pointers maps (entry_count * d + e)).strip 0
    first_of d e low inside =
        let n_low : entry_count * d + e < 5292 = omega (arith, low, inside) in
        ap (λ (n : ℕ). (object_pointers maps n).strip (strip_of (entry_count * d + e))) (first-object (entry_count * d + e) n_low)
        ∙ ap (λ (j : ℕ). (object_pointers maps (entry_count * d + e)).strip j) (first-which (entry_count * d + e) n_low)

    at_directory : (d : ℕ) → d < pointer_count → DirectoryStands image frame d (pointer_of_list directories d) objects maps → StandsAt image frame pointers objects (Directory d)
    at_directory d low (inl none) = inl (none.0, λ e inside. ((none.1 e inside).object, first_of d e low inside ∙ ap (λ (p : ObjectPointers). p.strip 0) (none.1 e inside).pointers))
    at_directory d low (inr (payload, opens, each)) = inr (
      payload,
      opens,
      λ e inside. subst (λ (p : Pointer). IsEntryFor frame (entry_in payload e) (object_pointers maps (entry_count * d + e)).top p (finite.get objects (entry_count * d + e))) (sym (first_of d e low inside)) (each e inside),
    )

    -- a strip of an object
    strip_is : (n j : ℕ) → n < object_count → pointers (Indirect (strip_number n j)) ≡ (object_pointers maps n).strip j
    strip_is n j low =
        ap (λ (o : ℕ). (object_pointers maps o).strip (strip_of (strip_number n j))) (strip-object n j low) ∙ ap (λ (i : ℕ). (object_pointers maps n).strip i) (strip-which n j low)

    at_top : (n : ℕ) → n < object_count → LevelsStand image frame n (finite.get objects n) (object_pointers maps n) → StandsAt image frame pointers objects (Top n)
    at_top n low (inl none) = inl (none.0, λ j inside. subst (λ (p : Pointer). NeedsNoTop (finite.get objects n) j p) (sym (strip_is n j low)) (none.1 j inside))
    at_top n low (inr (long, payload, opens, each)) = inr (
      long,
      payload,
      opens,
      λ j inside. ((each j inside).0 ∙ sym (strip_is n j low), subst (λ (p : Pointer). HasNonePast (finite.get objects n) j p) (sym (strip_is n j low)) (each j inside).1),
    )

    at_strip : (m : ℕ) → m < indirect_count → StandsAt image frame pointers objects (Indirect m)
    at_strip m low =
        subst (λ (i : ℕ). IndirectStands image frame i (pointers (Indirect m)) (λ r. pointers (Data m r))) (number-back m)
        ((strip_loaded_at keeps image frame root directories objects maps t m).strips_stand k (strip_of m) (number-strip m low))

    at_record : (m r : ℕ) → m < indirect_count → r < pointer_count → StandsAt image frame pointers objects (Data m r)
    at_record m r low inside =
        subst (λ (i : ℕ). IfSome (finite.get objects (object_of_indirect m)) (λ bytes. IsRecord image frame i r (pointers (Data m r)) bytes)) (number-back m)
        ((strip_loaded_at keeps image frame root directories objects maps t m).records_stand k (strip_of m) r (number-strip m low) inside)

    stands : (place : Place) → IsPlace place → StandsAt image frame pointers objects place
    stands Root there = t.stands k
    stands (Directory d) there = at_directory d there ((t.each d there).stands k)
    stands (Top n) there = at_top n there ((object_loaded_at keeps image frame root directories objects maps t n there).stands k)
    stands (Indirect m) there = at_strip m there
    stands (Data m r) there = at_record m r there.0 there.1

no_length : (maps : List ObjectEntry) → All IsEmptyEntry maps → (n : ℕ) → length_in maps n ≡ None
no_length [] empty n = refl
no_length (m ∷ maps) empty zero = (All-head IsEmptyEntry m maps empty).2
no_length (m ∷ maps) empty (suc n) = no_length maps (All-tail IsEmptyEntry m maps empty) n

-- new entries are of no objects
pub none_there : (maps : List ObjectEntry) → All IsEmptyEntry maps → AreEmptyFrom 0 finite.empty maps
none_there maps empty = record { each = λ n _. record { object = get-empty {X = List ℕ} nat_cmp n; pointers = none_of_empty maps empty n } }

pub no_lengths : (maps : List ObjectEntry) → All IsEmptyEntry maps → HaveLengthsOf maps finite.empty
no_lengths maps empty n = no_length maps empty n ∙ ap (option_map length) (sym (get-empty {X = List ℕ} nat_cmp n))

-- a list that stands in a Vec of its length
abbrev standing : {X : Type 0} → List X → ℕ → List X → List X
standing new len items = take len (new ++ drop (length new) items)

-- a tree has pointers to blocks alone, and objects within their limits with which the image holds it, if the device
-- keeps the model
pub record IsWhole (keeps : Bool) (image : List ℕ) (frame : Frame) (root : Pointer) (directories : List Pointer) (objects : FinMap nat_cmp (List ℕ)) (maps : List ObjectEntry) : Type 0 where
  pub placed : ArePlaced frame.blocks (pointers_at root directories maps)
  pub bounded : (n : ℕ) → IfSome (finite.get objects n) (IsLimitedObject n)
  pub held : IsTrue keeps → HoldsTree image frame (pointers_at root directories maps) objects

-- such is a tree that was loaded, once its directories stand in their Vec, and of objects that are the same
pub whole_tree : (keeps : Bool) (image : List ℕ) (frame : Frame) (root : Pointer) (directories old_directories : List Pointer) (objects : FinMap nat_cmp (List ℕ)) (maps : List ObjectEntry) (d : ℕ)
    → length directories ≡ d → IsLoadedTree keeps image frame root directories objects maps → (same : FinMap nat_cmp (List ℕ)) → same ≡ objects
    → IsWhole keeps image frame root (standing directories d old_directories) same maps
whole_tree keeps image frame root directories old_directories objects maps d long t same is =
    rw (take_at directories (drop (length directories) old_directories) d long, is) (record {
      placed = tree_placed keeps image frame root directories objects maps t;
      bounded = tree_bounded keeps image frame root directories objects maps t;
      held = tree_holds keeps image frame root directories objects maps t;
    })

-- pointers to nothing
pub no_pointers : (pointers : List Pointer) (count : ℕ) → pointers ≡ replicate count no_pointer → (d : ℕ) → pointer_of_list pointers d ≡ no_pointer
no_pointers pointers count none d = ap (λ (l : List Pointer). pointer_of_list l d) none ∙ go (cases_lt d count)
  where
    go : (d < count) ⊎ (count ≤ d) → pointer_of_list (replicate count no_pointer) d ≡ no_pointer
    go (inl low) = get_or-replicate count d no_pointer no_pointer low
    go (inr past) = get_or_past (replicate count no_pointer) d no_pointer (omega (arith, past, length-replicate count no_pointer))
