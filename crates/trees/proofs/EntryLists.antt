-- The list of a tree's objects, directory by directory, and that of all objects of a tree that is whole.
use Rattle.std.proofs.Common.{◌≡◌, ◌≢◌, ℕ, zero, suc, ◌+◌, ◌*◌, ◌/◌, ◌%◌, ◌<◌, ◌≤◌, ◌⊎◌, List, [], ◌∷◌, ◌++◌, length, Option, Some, None, refl, ap, sym, subst, ◌∙◌, arith, add-one, append-nil, inl, inr}
use Rattle.std.specs.Prelude.{Contains, IfSome, option_map}
use Rattle.std.specs.Option.{option_map_or}
use Rattle.std.specs.Ordering.{nat_cmp}
use Rattle.std.specs.FinMap as finite
use Rattle.std.specs.FinMap.{FinMap}
use Rattle.std.proofs.Math.Nat.{div-add-mod}
use Rattle.std.proofs.lemmas.Bool.{cases_eq, cases_lt}
use Rattle.std.proofs.lemmas.List.Elements.{Contains-append_cases, Contains-append_left, Contains-append_right}
use Rattle.base.specs.declared.names.ObjectId.{ObjectId}
use Rattle.base.specs.declared.pointer.Pointer.{Pointer}
use Rattle.base.specs.formats.Blocks.{Frame}
use Rattle.base.specs.formats.Fields.{entry_in, entry_present, no_pointer, pointer_in}
use Rattle.base.specs.formats.Limits.{max_length, object_count, one_level_length}
use Rattle.base.specs.tree.Damages.{IsSoundAt, length_in}
use Rattle.base.specs.tree.Places.{directory_pointer, levels_in, pointer_of}
use Rattle.base.specs.tree.Places.Place.{Directory, Root}
use Rattle.base.specs.tree.Tree.{IsEntry, IsTree, OpensAt}
use Rattle.base.proofs.tree.LevelPointers.{number_below-none, pointer_below-none}
use Rattle.base.proofs.tree.SoundTrees.{directory-at}
use Rattle.tree_blocks.specs.ListedObjects.{AreWithin, listed}
use Rattle.tree_blocks.proofs.ListedObjects.{listed_below, listed_below-all}
use Rattle.tree_blocks.specs.declared.forms.Entry.{Entry}
use Rattle.tree_blocks.specs.Forms.{IsEntryOf}
use Rattle.trees.specs.EntryLists.{AreListed, AreRising, ListsEntries, NamesDirectories, length_of_entry, listed_to}
use Rattle.trees.specs.ObjectPaths.{IsOnPath}
use Rattle.trees.specs.Walking.{IsObjectAt}
use Rattle.trees.proofs.ObjectPaths.{tree_by_path}
use Rattle.trees.proofs.WalkDamages.{below_block}

-- an object with a greater number
pub rising_push : (start n size : ℕ) (list : List (ObjectId × ℕ)) → AreRising start list n → size ≤ max_length → AreRising start (list ++ (record { 0 = n }, size) ∷ []) (n + 1)
rising_push start n size [] low fits = (low, fits, omega arith)
rising_push start n size (o ∷ others) (low, within, rest) fits = (low, within, rising_push (o.0.0 + 1) n size others rest fits)

pub rising_more : (start m n : ℕ) (list : List (ObjectId × ℕ)) → AreRising start list m → m ≤ n → AreRising start list n
rising_more start m n [] low more = omega (arith, low, more)
rising_more start m n (o ∷ others) (low, within, rest) more = (low, within, rising_more (o.0.0 + 1) m n others rest more)

-- the entry of an object that is there has a length within the limit
pub entry_fits : (frame : Frame) (entry : Entry) → IsEntryOf frame entry → entry.length ≤ max_length
unfolding one_level_length
entry_fits frame entry (inl one) = omega (arith, one.1)
entry_fits frame entry (inr two) = two.3

module _ (image : List ℕ) (root : Pointer) where
  -- the length of object n by its directory
  abbrev there : ℕ → Option ℕ
  there n = length_of_entry (levels_in image root n) (length_in image root n)

  abbrev line : ℕ → Option ℕ → List (ObjectId × ℕ)
  line n o = option_map_or (λ (size : ℕ). (record { 0 = n }, size) ∷ []) o []

  pub listed_more : (n : ℕ) (o : Option ℕ) → o ≡ there n → listed_to image root n ++ line n o ≡ listed_to image root (n + 1)
  unfolding listed_to
  listed_more n o is = rw add-one (ap (λ (p : Option ℕ). listed_to image root n ++ line n p) is)

  not_there : (levels size : ℕ) → levels ≡ 0 → length_of_entry levels size ≡ None
  not_there zero size none = refl
  not_there (suc levels) size none = absurd (omega (arith, none))

  is_there : (levels size : ℕ) → levels ≢ 0 → length_of_entry levels size ≡ Some size
  is_there zero size some = absurd (some refl)
  is_there (suc levels) size some = refl

  -- one object more, which is there, or isn't
  pub listed_object : (n : ℕ) (entry : Entry) → IsObjectAt image root n entry → entry.present ≢ 0 → listed_to image root n ++ (record { 0 = n }, entry.length) ∷ [] ≡ listed_to image root (n + 1)
  listed_object n entry at some =
      listed_more n (Some entry.length)
      (sym (is_there (levels_in image root n) (length_in image root n) (λ none. some (sym at.levels ∙ none)) ∙ ap (λ (size : ℕ). Some size) at.size_is))

  pub listed_none : (n : ℕ) → levels_in image root n ≡ 0 → listed_to image root n ≡ listed_to image root (n + 1)
  listed_none n none = sym (append-nil (listed_to image root n)) ∙ listed_more n None (sym (not_there (levels_in image root n) (length_in image root n) none))

  -- so many objects more, of which none is there
  listed_skip : (m k : ℕ) → ((i : ℕ) → i < k → levels_in image root (m + i) ≡ 0) → listed_to image root m ≡ listed_to image root (m + k)
  listed_skip m zero none = ap (listed_to image root) (let e : m ≡ m + 0 = omega arith in e)
  listed_skip m (suc k) none =
      listed_skip m k (λ i low. none i (omega (arith, low))) ∙ listed_none (m + k) (none k (omega arith))
      ∙ ap (listed_to image root) (let e : m + k + 1 ≡ m + suc k = omega arith in e)

  pub listed_absent : (d : ℕ) → pointer_of image root (Directory d) ≡ no_pointer → listed_to image root (63 * d) ≡ listed_to image root (63 * (d + 1))
  listed_absent d none =
      listed_skip (63 * d) 63
      (λ i low. number_below-none image (directory_pointer image root ((63 * d + i) / 63)) (λ l. entry_present (entry_in l ((63 * d + i) % 63)))
      (ap (λ (c : ℕ). directory_pointer image root c) (let q : (63 * d + i) / 63 ≡ d = omega (arith, low) in q) ∙ none))
      ∙ ap (listed_to image root) (let e : 63 * d + 63 ≡ 63 * (d + 1) = omega arith in e)

  -- a tree with no root has no objects
  pub listed_no_tree : root ≡ no_pointer → [] ≡ listed_to image root object_count
  unfolding listed_to
  listed_no_tree none =
      listed_skip 0 5292
      (λ i low. number_below-none image (directory_pointer image root ((0 + i) / 63)) (λ l. entry_present (entry_in l ((0 + i) % 63))) (pointer_below-none image root (λ l. pointer_in l ((0 + i) / 63)) none))

  -- the objects of a list
  of_line : (n : ℕ) (levels length : ℕ) (object : ObjectId) (size : ℕ) → Contains (line n (length_of_entry levels length)) (object, size) → (object.0 ≡ n) × (levels ≢ 0) × (length ≡ size)
  of_line n zero length object size (k, low, is) = absurd (omega (arith, low))
  of_line n (suc levels) length object size (zero, low, is) =
      let same : ◌≡◌ {A = ObjectId × ℕ} (record { 0 = n }, length) (object, size) = is in
      (ap (λ (p : ObjectId × ℕ). p.0.0) (sym same), λ none. omega (arith, none), ap (λ (p : ObjectId × ℕ). p.1) same)
  of_line n (suc levels) length object size (suc k, low, is) = absurd (omega (arith, low))

  listed_each : (n : ℕ) (object : ObjectId) (size : ℕ) → Contains (listed_to image root n) (object, size) → (levels_in image root object.0 ≢ 0) × (length_in image root object.0 ≡ size)
  unfolding listed_to
  listed_each zero object size (k, low, is) = absurd (omega (arith, low))
  listed_each (suc n) object size has = go (Contains-append_cases (listed_to image root n) (line n (there n)) (object, size) has) (listed_each n object size)
    where
      go : Contains (listed_to image root n) (object, size) ⊎ Contains (line n (there n)) (object, size)
          → (Contains (listed_to image root n) (object, size) → (levels_in image root object.0 ≢ 0) × (length_in image root object.0 ≡ size))
          → (levels_in image root object.0 ≢ 0) × (length_in image root object.0 ≡ size)
      go (inl before) each = each before
      go (inr last) each = let (at, some, long) = of_line n (levels_in image root n) (length_in image root n) object size last in
          subst (λ (m : ℕ). (levels_in image root m ≢ 0) × (length_in image root m ≡ size)) (sym at) (some, long)

  in_line : (n levels length : ℕ) → levels ≢ 0 → Contains (line n (length_of_entry levels length)) (record { 0 = n }, length)
  in_line n zero length some = absurd (some refl)
  in_line n (suc levels) length some = (0, omega arith, refl)

  listed_all : (n k : ℕ) → k < n → levels_in image root k ≢ 0 → Contains (listed_to image root n) (record { 0 = k }, length_in image root k)
  unfolding listed_to
  listed_all zero k low some = absurd (omega (arith, low))
  listed_all (suc n) k low some = go (cases_eq k n) (λ below. listed_all n k below some)
    where
      go : (k ≡ n) ⊎ (k ≢ n) → (k < n → Contains (listed_to image root n) (record { 0 = k }, length_in image root k))
          → Contains (listed_to image root n ++ line n (there n)) (record { 0 = k }, length_in image root k)
      go (inl e) all =
          Contains-append_right (listed_to image root n) (line n (there n)) (record { 0 = k }, length_in image root k)
          (subst (λ (m : ℕ). Contains (line m (there m)) (record { 0 = k }, length_in image root k)) e (in_line k (levels_in image root k) (length_in image root k) some))
      go (inr other) all = Contains-append_left (listed_to image root n) (line n (there n)) (record { 0 = k }, length_in image root k) (all (omega (arith, low, other)))

  pub lists_entries : (list : List (ObjectId × ℕ)) → list ≡ listed_to image root object_count → ListsEntries image root list
  lists_entries list is = record {
    each = λ object size has. listed_each object_count object size (subst (λ (l : List (ObjectId × ℕ)). Contains l (object, size)) is has);
    all = λ n low some. subst (λ (l : List (ObjectId × ℕ)). Contains l (record { 0 = n }, length_in image root n)) (sym is) (listed_all object_count n low some);
  }

  -- in a tree they are its objects
  module _ (frame : Frame) (objects : FinMap nat_cmp (List ℕ)) (tree : IsTree image frame root objects) where
    there_is : (n : ℕ) → n < object_count → there n ≡ option_map length (finite.get objects n)
    there_is n low = go (finite.get objects n) (tree_by_path image frame root objects tree n low)
      where
        go : (o : Option (List ℕ)) → IsOnPath image frame root n o → there n ≡ option_map length o
        go None none = not_there (levels_in image root n) (length_in image root n) none
        go (Some bytes) path = is_there (levels_in image root n) (length_in image root n) path.there ∙ ap (λ (size : ℕ). Some size) path.size

    listed_as : (n : ℕ) → n ≤ object_count → listed_to image root n ≡ listed_below objects n
    unfolding listed_to listed_below
    listed_as zero low = refl
    listed_as (suc n) low =
        ap (λ (l : List (ObjectId × ℕ)). l ++ line n (there n)) (listed_as n (omega (arith, low)))
        ∙ ap (λ (o : Option ℕ). listed_below objects n ++ line n o) (there_is n (omega (arith, low)))

    within : AreWithin objects
    unfolding one_level_length
    within n = go (cases_lt n object_count)
      where
        by_entry : n < object_count → (entry : List ℕ) (o : Option (List ℕ)) → IsEntry image frame n entry o → IfSome o (λ bytes. (n < object_count) × (length bytes ≤ max_length))
        by_entry low entry None is = tt
        by_entry low entry (Some bytes) (long, inl one) = (low, omega (arith, one.1))
        by_entry low entry (Some bytes) (long, inr two) = (low, two.1.2)

        go : (n < object_count) ⊎ (object_count ≤ n) → IfSome (finite.get objects n) (λ bytes. (n < object_count) × (length bytes ≤ max_length))
        go (inr past) = rw (tree.no_others n past) tt
        go (inl low) =
            let inside : n % 63 < 63 = omega arith in
            elim (directory-at image frame root objects tree (n / 63) (omega (arith, low))) as (λ _. IfSome (finite.get objects n) (λ bytes. (n < object_count) × (length bytes ≤ max_length))) [
              | inl h ↦ rw (ap (λ (m : ℕ). finite.get objects m) (sym (div-add-mod n 63)) ∙ h.1 (n % 63) inside) tt
              | inr h ↦ by_entry low (entry_in h.0 (n % 63)) (finite.get objects n)
                  (subst (λ (m : ℕ). IsEntry image frame m (entry_in h.0 (n % 63)) (finite.get objects m)) (div-add-mod n 63) (h.2 (n % 63) inside))
            ]

    pub lists_tree : (list : List (ObjectId × ℕ)) → list ≡ listed_to image root object_count → list ≡ listed objects
    lists_tree list is = is ∙ listed_as object_count (omega arith) ∙ listed_below-all objects within

-- one directory more
pub directory_listed : (image : List ℕ) (frame : Frame) (root : Pointer) (d : ℕ) (old new : List (ObjectId × ℕ)) → AreListed image frame root d old → IsSoundAt image frame root (Directory d)
    → new ≡ listed_to image root (63 * (d + 1)) → AreListed image frame root (d + 1) new
directory_listed image frame root d old new before here is = record { sound = λ c low. go c low (cases_eq c d); list_is = is }
  where
    go : (c : ℕ) → c < d + 1 → (c ≡ d) ⊎ (c ≢ d) → IsSoundAt image frame root (Directory c)
    go c low (inl e) = subst (λ (b : ℕ). IsSoundAt image frame root (Directory b)) (sym e) here
    go c low (inr other) = before.sound c (omega (arith, low, other))

-- the directories that the root names
pub names_directories : (image : List ℕ) (frame : Frame) (root : Pointer) (payload : List ℕ) → OpensAt image frame Root root payload → NamesDirectories image root payload
names_directories image frame root payload opens = λ d low. below_block image frame 2 0 root payload (λ (l : List ℕ). pointer_in l d) opens

-- no directory yet
pub none_listed_yet : (image : List ℕ) (frame : Frame) (root : Pointer) (list : List (ObjectId × ℕ)) → list ≡ [] → AreListed image frame root 0 list
unfolding listed_to
none_listed_yet image frame root list none = record { sound = λ d low. absurd (omega (arith, low)); list_is = none }
