-- What comes back comes back once, if no two places of the tree before have blocks at one address.
use Rattle.std.proofs.Common.{◌≡◌, ◌≢◌, ◌==◌, ℕ, suc, ◌+◌, ◌<◌, ◌⊎◌, inl, inr, Bool, true, false, List, [], ◌∷◌, ◌++◌, nat_eq, Some, None, refl, sym, ◌∙◌, ap, subst, arith}
use Rattle.std.specs.Prelude.{slice_get, slice_index_or, is_some}
use Rattle.std.specs.Global.{Vec}
use Rattle.std.specs.List.{IsDistinct, list_any}
use Rattle.std.specs.Ordering.{nat_cmp}
use Rattle.std.specs.FinMap as finite
use Rattle.std.specs.FinMap.{FinMap}
use Rattle.std.proofs.lemmas.Bool.{eq-eqb, eqb-true, false≢true}
use Rattle.std.proofs.lemmas.Cmp.{nat_eq_equiv}
use Rattle.std.proofs.lemmas.Map.Keys.{IsDistinct-push}
use Rattle.base.specs.declared.pointer.Pointer.{Pointer}
use Rattle.base.specs.declared.names.ObjectId.{ObjectId}
use Rattle.base.specs.declared.record_state.RecordState.{RecordState}
use Rattle.base.specs.formats.Limits.{object_count}
use Rattle.base.specs.formats.Fields.{no_pointer}
use Rattle.base.specs.tree.Places.{Place, IsPlace, object_of_indirect, strip_number, strip_of}
use Rattle.base.specs.tree.Places.Place.{Root, Directory, Top, Indirect, Data}
use Rattle.base.proofs.tree.Strips.{strip-low, strip-object, strip-which}
use Rattle.tree_blocks.specs.declared.tree.ObjectEntry.{ObjectEntry}
use Rattle.tree_blocks.specs.Pointers.{ObjectPointers}
use Rattle.tree_plans.specs.declared.changed_object.ChangedObject.{ChangedObject}
use Rattle.tree_plans.specs.declared.changes.ObjectChanges.{ObjectChanges}
use Rattle.tree_plans.specs.Changes.{has_two_levels}
use Rattle.tree_plans.specs.Parts.{IsOfMade, IsOfMadeAt, old_in}
use Rattle.tree_plans.specs.Pointers.{IsPut, OldTree, entry_of, old_pointers}
use Rattle.tree_plans.specs.Plans.{AreApart, FreesFrom, FreesOnce, IsAmong, IsApart, IsOf, IsOfIndirect, IsOfMap, IsOfPlace, IsOfRecord, IsOfStrip, kept_state, replaces}
use Rattle.tree_plans.specs.Walks.{DirectoriesFree, IsOfDirectory, IsOfObject, ObjectsFree, directory_state, root_state}
use Rattle.tree_plans.proofs.Progress.{frees_more, record_below, record_here, strip_below, strip_here}
use Rattle.tree_plans.proofs.Strips.{made_below, made_here}
use Rattle.tree_plans.proofs.Walks.{some_either}

-- a list has no element equal to an address that is not in it
absent : (xs : List ℕ) (y : ℕ) → (IsAmong xs y → ⊥) → list_any (nat_eq y) xs ≡ false
absent [] y none = refl
absent (x ∷ xs) y none = go (nat_eq y x) refl (absent xs y (λ more. none (suc more.0, more.1)))
  where
    go : (b : Bool) → nat_eq y x ≡ b → list_any (nat_eq y) xs ≡ false → list_any (nat_eq y) (x ∷ xs) ≡ false
    go true e rest = absurd (none (0, ap Some (sym (eqb-true y x e))))
    go false e rest = rw e rest

-- the block that a pointer names comes back
pub once_pushed : (xs : List ℕ) (replaced : Pointer) → replaced ≢ no_pointer → FreesOnce xs (xs ++ replaced.address ∷ []) (IsOf replaced)
once_pushed xs replaced named fresh distinct = IsDistinct-push nat_eq_equiv xs replaced.address distinct (absent xs replaced.address (fresh replaced.address (named, refl)))

-- what comes back of one part and then of another, which have no address in common
once_twice : (f0 f1 f2 : List ℕ) (One Two Both : ℕ → Type 0) → ((address : ℕ) → IsAmong f1 address → IsAmong f0 address ⊎ One address)
    → ((address : ℕ) → One address → Both address) → ((address : ℕ) → Two address → Both address) → ((address : ℕ) → One address → Two address → ⊥)
    → FreesOnce f0 f1 One → FreesOnce f1 f2 Two → FreesOnce f0 f2 Both
once_twice f0 f1 f2 One Two Both only first second apart one two fresh distinct =
    two
    (λ address of among. elim (only address among) [ inl before ↦ fresh address (second address of) before | inr earlier ↦ apart address earlier of ])
    (one (λ address of. fresh address (first address of)) distinct)

-- one record more
pub once_push : (first old new : List ℕ) (is_long : Bool) (changes : ObjectChanges) (map : ObjectPointers) (j i : ℕ) (state : RecordState) (was : Pointer) → was ≡ map.record_at j i → state ≡ kept_state is_long changes j i → j < 84 → i < 84 → IsApart map
    → FreesFrom first old (IsOfRecord is_long changes map j i) → FreesOnce first old (IsOfRecord is_long changes map j i) → FreesOnce old new (IsOfPlace state was) → FreesOnce first new (IsOfRecord is_long changes map j (i + 1))
once_push first old new is_long changes map j i state was is state_is strip_low low apart frees one two =
    once_twice first old new (IsOfRecord is_long changes map j i) (IsOfPlace state was) (IsOfRecord is_long changes map j (i + 1)) frees
    (record_below is_long changes map j i)
    (λ address. record_here is_long changes map j i state was address is state_is)
    (λ address of here.
    let before = of.low in
    let same : of.index ≡ i = (apart.records j j of.index i address strip_low strip_low (omega (arith, before, low)) low of.is_of (rw (← is) here.1)).1 in
    omega (arith, before, same))
    one two

-- one strip more
pub strip_once : (first old new : List ℕ) (is_long : Bool) (changes : ObjectChanges) (map : ObjectPointers) (j : ℕ) → j < 84 → IsApart map
    → FreesFrom first old (IsOfStrip is_long changes map j) → FreesOnce first old (IsOfStrip is_long changes map j) → FreesOnce old new (IsOfRecord is_long changes map j 84) → FreesOnce first new (IsOfStrip is_long changes map (j + 1))
strip_once first old new is_long changes map j low apart frees one two =
    once_twice first old new (IsOfStrip is_long changes map j) (IsOfRecord is_long changes map j 84) (IsOfStrip is_long changes map (j + 1)) frees
    (strip_below is_long changes map j) (strip_here is_long changes map j)
    (λ address of here.
    let before = of.low in
    let same : of.strip ≡ j = (apart.records of.strip j of.record_is.index here.index address (omega (arith, before, low)) low of.record_is.low here.low of.record_is.is_of here.is_of).0 in
    omega (arith, before, same))
    one two

-- one indirect block more
pub indirect_once : (first old new : List ℕ) (object : ChangedObject) (strips : List (ℕ × Vec Pointer)) (j : ℕ) → j < 84 → IsApart (old_in object)
    → FreesFrom first old (IsOfMade object strips j) → FreesOnce first old (IsOfMade object strips j) → FreesOnce old new (IsOfMadeAt object strips j) → FreesOnce first new (IsOfMade object strips (j + 1))
indirect_once first old new object strips j low apart frees one two =
    once_twice first old new (IsOfMade object strips j) (IsOfMadeAt object strips j) (IsOfMade object strips (j + 1)) frees (made_below object strips j) (made_here object strips j)
    (λ address of here.
    let before = of.low in
    let same : of.strip ≡ j = apart.strips of.strip j address (omega (arith, before, low)) low of.made.is_of.1 here.is_of.1 in
    omega (arith, before, same))
    one two

-- the records of an object, then its indirect blocks, and then its top
pub object_once : (f0 f1 f2 f3 : List ℕ) (is_long : Bool) (changes : ObjectChanges) (map : ObjectPointers) → IsApart map
    → FreesFrom f0 f1 (IsOfStrip is_long changes map 84) → FreesFrom f1 f2 (IsOfIndirect is_long changes map 84)
    → FreesOnce f0 f1 (IsOfStrip is_long changes map 84) → FreesOnce f1 f2 (IsOfIndirect is_long changes map 84) → FreesOnce f2 f3 (IsOf map.top) → FreesOnce f0 f3 (IsOfMap is_long changes map)
object_once f0 f1 f2 f3 is_long changes map apart records indirects one two three =
    once_twice f0 f2 f3 Below (IsOf map.top) (IsOfMap is_long changes map)
    (frees_more f0 f1 f2 (IsOfStrip is_long changes map 84) (IsOfIndirect is_long changes map 84) Below (λ address of. inl of) (λ address of. inr of) records indirects)
    (λ address of. elim of [ inl record_is ↦ inl record_is | inr strip_is ↦ inr (inl strip_is) ]) (λ address here. inr (inr here))
    (λ address of here. elim of [
      | inl record_is ↦ apart.top_record record_is.strip record_is.record_is.index address record_is.low record_is.record_is.low here record_is.record_is.is_of
      | inr strip_is ↦ apart.top_strip strip_is.strip address strip_is.low here strip_is.is_of
    ])
    (once_twice f0 f1 f2 (IsOfStrip is_long changes map 84) (IsOfIndirect is_long changes map 84) Below records (λ address of. inl of) (λ address of. inr of)
    (λ address of here. apart.strip_record here.strip of.strip of.record_is.index address here.low of.low of.record_is.low here.is_of of.record_is.is_of)
    one two)
    three
  where
    Below : ℕ → Type 0
    Below address = IsOfStrip is_long changes map 84 address ⊎ IsOfIndirect is_long changes map 84 address

-- the places of an object, and those of the directories
abbrev IsPlaceOf : ℕ → Place → Type 0
IsPlaceOf n Root = ⊥
IsPlaceOf n (Directory d) = ⊥
IsPlaceOf n (Top m) = m ≡ n
IsPlaceOf n (Indirect m) = object_of_indirect m ≡ n
IsPlaceOf n (Data m k) = object_of_indirect m ≡ n

same_number : (n k : ℕ) (place : Place) → IsPlaceOf n place → IsPlaceOf k place → n ≡ k
same_number n k Root one two = absurd one
same_number n k (Directory d) one two = absurd one
same_number n k (Top m) one two = sym one ∙ two
same_number n k (Indirect m) one two = sym one ∙ two
same_number n k (Data m r) one two = sym one ∙ two

-- which place it is: its kind, its strip, and its record
abbrev kind_in : Place → ℕ
kind_in Root = 0
kind_in (Directory d) = 1
kind_in (Top n) = 2
kind_in (Indirect m) = 3
kind_in (Data m k) = 4

abbrev number_in : Place → ℕ
number_in Root = 0
number_in (Directory d) = d
number_in (Top n) = n
number_in (Indirect m) = m
number_in (Data m k) = m

abbrev record_in_strip : Place → ℕ
record_in_strip Root = 0
record_in_strip (Directory d) = 0
record_in_strip (Top n) = 0
record_in_strip (Indirect m) = 0
record_in_strip (Data m k) = k

module _ (t : OldTree) where
  -- an address that a place of a kind had
  record HasPlace (Kind : Place → Type 0) (address : ℕ) : Type 0 where
    place : Place
    in_range : IsPlace place
    is_of : IsOf (old_pointers t place) address
    kind : Kind place

  data_was : (n j k : ℕ) (m : ObjectPointers) → n < object_count → t.maps n ≡ m → old_pointers t (Data (strip_number n j) k) ≡ m.record_at j k
  data_was n j k m low is =
      ap (λ (i : ℕ). (t.maps i).record_at (strip_of (strip_number n j)) k) (strip-object n j low) ∙ ap (λ (i : ℕ). (t.maps n).record_at i k) (strip-which n j low) ∙ ap (λ (m : ObjectPointers). m.record_at j k) is

  indirect_was : (n j : ℕ) (m : ObjectPointers) → n < object_count → t.maps n ≡ m → old_pointers t (Indirect (strip_number n j)) ≡ m.strip j
  indirect_was n j m low is =
      ap (λ (i : ℕ). (t.maps i).strip (strip_of (strip_number n j))) (strip-object n j low) ∙ ap (λ (i : ℕ). (t.maps n).strip i) (strip-which n j low) ∙ ap (λ (m : ObjectPointers). m.strip j) is

  top_was : (n : ℕ) (m : ObjectPointers) → t.maps n ≡ m → old_pointers t (Top n) ≡ m.top
  top_was n m is = ap (λ (m : ObjectPointers). m.top) is

  -- an address at a place
  at_place : (place : Place) (p : Pointer) (address : ℕ) → old_pointers t place ≡ p → IsOf p address → IsOf (old_pointers t place) address
  at_place place p address is of = subst (λ (q : Pointer). IsOf q address) (sym is) of

  object_place : (is_long : Bool) (changes : ObjectChanges) (n : ℕ) (m : ObjectPointers) (address : ℕ) → n < object_count → t.maps n ≡ m → IsOfMap is_long changes m address → HasPlace (IsPlaceOf n) address
  object_place is_long changes n m address low is (inl of) = record {
    place = Data (strip_number n of.strip) of.record_is.index;
    in_range = (strip-low n of.strip low of.low, of.record_is.low);
    is_of = at_place (Data (strip_number n of.strip) of.record_is.index) _ address (data_was n of.strip of.record_is.index m low is) of.record_is.is_of;
    kind = strip-object n of.strip low;
  }
  object_place is_long changes n m address low is (inr (inl of)) = record {
    place = Indirect (strip_number n of.strip);
    in_range = strip-low n of.strip low of.low;
    is_of = at_place (Indirect (strip_number n of.strip)) _ address (indirect_was n of.strip m low is) of.is_of;
    kind = strip-object n of.strip low;
  }
  object_place is_long changes n m address low is (inr (inr of)) = record {
    place = Top n;
    in_range = low;
    is_of = at_place (Top n) _ address (top_was n m is) of;
    kind = refl;
  }

  module _ (apart : AreApart (old_pointers t)) where
    apart_kinds : (One Two : Place → Type 0) (address : ℕ) → HasPlace One address → HasPlace Two address → (place : Place) × One place × Two place
    apart_kinds One Two address one two =
        let same : one.place ≡ two.place = apart one.place two.place address one.in_range two.in_range one.is_of two.is_of in
        (two.place, subst One same one.kind, two.kind)

    -- two places of an object with one address are of one kind, strip and record
    same_places : (p q : Place) (a b : Pointer) (address : ℕ) → IsPlace p → IsPlace q → old_pointers t p ≡ a → old_pointers t q ≡ b → IsOf a address → IsOf b address
        → (kind_in p ≡ kind_in q) × (number_in p ≡ number_in q) × (record_in_strip p ≡ record_in_strip q)
    same_places p q a b address p_in q_in p_is q_is one two =
        let same : p ≡ q = apart p q address p_in q_in (at_place p a address p_is one) (at_place q b address q_is two) in
        (ap kind_in same, ap number_in same, ap record_in_strip same)

    -- the map of an object
    apart_map : (n : ℕ) (m : ObjectPointers) → n < object_count → t.maps n ≡ m → IsApart m
    apart_map n m low is = record {
      records = λ i j k l address i_low j_low k_low l_low one two.
          let same = same_places (Data (strip_number n i) k) (Data (strip_number n j) l) _ _ address (strip-low n i low i_low, k_low) (strip-low n j low j_low, l_low)
          (data_was n i k m low is) (data_was n j l m low is) one two in
          (sym (strip-which n i low) ∙ ap strip_of same.1 ∙ strip-which n j low, same.2);
      strips = λ i j address i_low j_low one two.
          let same = same_places (Indirect (strip_number n i)) (Indirect (strip_number n j)) _ _ address (strip-low n i low i_low) (strip-low n j low j_low)
          (indirect_was n i m low is) (indirect_was n j m low is) one two in
          sym (strip-which n i low) ∙ ap strip_of same.1 ∙ strip-which n j low;
      strip_record = λ i j k address i_low j_low k_low one two.
          let same = same_places (Indirect (strip_number n i)) (Data (strip_number n j) k) _ _ address (strip-low n i low i_low) (strip-low n j low j_low, k_low)
          (indirect_was n i m low is) (data_was n j k m low is) one two in
          let kinds : 3 ≡ 4 = same.0 in omega (arith, kinds);
      top_record = λ j k address j_low k_low one two.
          let same = same_places (Top n) (Data (strip_number n j) k) _ _ address low (strip-low n j low j_low, k_low) (top_was n m is) (data_was n j k m low is) one two in
          let kinds : 2 ≡ 4 = same.0 in omega (arith, kinds);
      top_strip = λ j address j_low one two.
          let same = same_places (Top n) (Indirect (strip_number n j)) _ _ address low (strip-low n j low j_low) (top_was n m is) (indirect_was n j m low is) one two in
          let kinds : 2 ≡ 3 = same.0 in omega (arith, kinds);
    }

  -- one object more
  pub objects_once_put : (first freed released : List ℕ) (after : FinMap nat_cmp (List ℕ)) (objects : List (ObjectId × ObjectChanges)) (old new : List (ObjectId × ObjectEntry)) (id : ObjectId) (changes : ObjectChanges) (was : ObjectPointers) (m : ObjectEntry)
      → IsPut old id m new → id.0 < object_count → entry_of objects id.0 ≡ Some changes → t.maps id.0 ≡ was → entry_of old id.0 ≡ None
      → AreApart (old_pointers t) → ObjectsFree first freed t.maps after objects old → FreesOnce first freed (IsOfObject t.maps after objects old)
      → (IsApart was → FreesOnce freed released (IsOfMap (has_two_levels (finite.get after id.0)) changes was)) → FreesOnce first released (IsOfObject t.maps after objects new)
  objects_once_put first freed released after objects old new id changes was m put low changes_are was_is unplanned apart frees one two =
      once_twice first freed released (IsOfObject t.maps after objects old) (IsOfMap (has_two_levels (finite.get after id.0)) changes was) (IsOfObject t.maps after objects new) frees
      (λ address of. record {
        number = of.number;
        low = of.low;
        there = ap is_some (put of.number) ∙ some_either (id.0 == of.number) m (entry_of old of.number) (inr of.there);
        changes = of.changes;
        changes_are = of.changes_are;
        old = of.old;
        old_is = of.old_is;
        is_of = of.is_of;
      })
      (λ address here. record {
        number = id.0;
        low = low;
        there = ap is_some (put id.0) ∙ some_either (id.0 == id.0) m (entry_of old id.0) (inl (eq-eqb id.0 id.0 refl));
        changes = changes;
        changes_are = changes_are;
        old = was;
        old_is = was_is;
        is_of = here;
      })
      (λ address of here.
      let both = apart_kinds apart (IsPlaceOf of.number) (IsPlaceOf id.0) address (object_place (has_two_levels (finite.get after of.number)) of.changes of.number of.old address of.low of.old_is of.is_of)
      (object_place (has_two_levels (finite.get after id.0)) changes id.0 was address low was_is here) in
      let same : of.number ≡ id.0 = same_number of.number id.0 both.0 both.1 both.2 in
      let none : is_some (entry_of old of.number) ≡ false = ap (λ (n : ℕ). is_some (entry_of old n)) same ∙ ap is_some unplanned in
      false≢true (sym none ∙ of.there))
      one (two (apart_map apart id.0 was low was_is))

  -- one directory more
  pub directories_once_push : (first old new : List ℕ) (objects : List (ObjectId × ObjectChanges)) (after : FinMap nat_cmp (List ℕ)) (i : ℕ) (state : RecordState) → state ≡ directory_state objects after i → i < 84
      → AreApart (old_pointers t) → DirectoriesFree first old objects after t.directories i → FreesOnce first old (IsOfDirectory objects after t.directories i)
      → FreesOnce old new (IsOfPlace state (slice_index_or t.directories i no_pointer)) → FreesOnce first new (IsOfDirectory objects after t.directories (i + 1))
  directories_once_push first old new objects after i state is low apart frees one two =
      once_twice first old new (IsOfDirectory objects after t.directories i) (IsOfPlace state (slice_index_or t.directories i no_pointer)) (IsOfDirectory objects after t.directories (i + 1)) frees
      (λ address of. record { number = of.number; low = (let before = of.low in omega (arith, before)); replaced = of.replaced; is_of = of.is_of })
      (λ address here. record { number = i; low = omega arith; replaced = ap replaces (sym is) ∙ here.0; is_of = here.1 })
      (λ address of here.
      let before = of.low in
      let same : Directory of.number ≡ Directory i = apart (Directory of.number) (Directory i) address (omega (arith, before, low)) low of.is_of here.1 in
      let numbers : of.number ≡ i = ap number_in same in
      omega (arith, before, numbers))
      one two

  -- the whole walk
  pub tree_once : (objects : List (ObjectId × ObjectChanges)) (after : FinMap nat_cmp (List ℕ)) (planned : List (ObjectId × ObjectEntry)) (f0 f1 f2 f3 : List ℕ) → f0 ≡ [] → AreApart (old_pointers t)
      → ObjectsFree f0 f1 t.maps after objects planned → FreesOnce f0 f1 (IsOfObject t.maps after objects planned)
      → DirectoriesFree f1 f2 objects after t.directories 84 → FreesOnce f1 f2 (IsOfDirectory objects after t.directories 84)
      → FreesOnce f2 f3 (IsOfPlace (root_state objects after) t.root) → IsDistinct nat_eq f3
  unfolding IsDistinct
  tree_once objects after planned f0 f1 f2 f3 start apart frees one more two three = all nothing (subst (λ (l : List ℕ). IsDistinct nat_eq l) (sym start) tt)
    where
      AtObject : ℕ → Type 0
      AtObject = IsOfObject t.maps after objects planned

      AtDirectory : ℕ → Type 0
      AtDirectory = IsOfDirectory objects after t.directories 84

      AtRoot : ℕ → Type 0
      AtRoot = IsOfPlace (root_state objects after) t.root

      object_at : (address : ℕ) (of : AtObject address) → HasPlace (IsPlaceOf of.number) address
      object_at address of = object_place (has_two_levels (finite.get after of.number)) of.changes of.number of.old address of.low of.old_is of.is_of

      directory_at : (address : ℕ) (of : AtDirectory address) → HasPlace (λ place. place ≡ Directory of.number) address
      directory_at address of = record { place = Directory of.number; in_range = of.low; is_of = of.is_of; kind = refl }

      root_at : (address : ℕ) → AtRoot address → HasPlace (λ place. place ≡ Root) address
      root_at address of = record { place = Root; in_range = tt; is_of = of.1; kind = refl }

      below : FreesOnce f0 f2 (λ address. AtObject address ⊎ AtDirectory address)
      below = once_twice f0 f1 f2 AtObject AtDirectory (λ address. AtObject address ⊎ AtDirectory address) frees (λ address of. inl of) (λ address of. inr of)
          (λ address object directory.
          let both = apart_kinds apart (IsPlaceOf object.number) (λ place. place ≡ Directory directory.number) address (object_at address object) (directory_at address directory) in
          subst (IsPlaceOf object.number) both.2 both.1)
          one two

      freed_below : (address : ℕ) → IsAmong f2 address → IsAmong f0 address ⊎ (AtObject address ⊎ AtDirectory address)
      freed_below address among = elim (more address among) [
        | inr of ↦ inr (inr of)
        | inl before ↦ elim (frees address before) [ inl at_first ↦ inl at_first | inr of ↦ inr (inl of) ]
      ]

      not_root : (address : ℕ) → AtObject address ⊎ AtDirectory address → AtRoot address → ⊥
      not_root address (inl object) root =
          let both = apart_kinds apart (IsPlaceOf object.number) (λ place. place ≡ Root) address (object_at address object) (root_at address root) in
          subst (IsPlaceOf object.number) both.2 both.1
      not_root address (inr directory) root =
          let both = apart_kinds apart (λ place. place ≡ Directory directory.number) (λ place. place ≡ Root) address (directory_at address directory) (root_at address root) in
          let same : Directory directory.number ≡ Root = sym both.1 ∙ both.2 in
          absurd (cc)

      all : FreesOnce f0 f3 (λ address. (AtObject address ⊎ AtDirectory address) ⊎ AtRoot address)
      all = once_twice f0 f2 f3 (λ address. AtObject address ⊎ AtDirectory address) AtRoot (λ address. (AtObject address ⊎ AtDirectory address) ⊎ AtRoot address) freed_below
          (λ address of. inl of) (λ address of. inr of) not_root below three

      nothing : (address : ℕ) → (AtObject address ⊎ AtDirectory address) ⊎ AtRoot address → IsAmong f0 address → ⊥
      nothing address of among = let at : slice_get [] among.0 ≡ Some address = rw start at among.1 in absurd (cc)
