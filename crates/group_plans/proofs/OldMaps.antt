-- The maps of objects before a group, as they are read.
use Rattle.std.proofs.Common.{cond, eqb-true, is_some, Bool, true, false, ◌||◌, ◌≡◌, ℕ, ◌+◌, ◌-◌, ◌<◌, ◌≤◌, ◌⊎◌, inl, inr, List, [], ◌∷◌, ◌++◌, length, get_or, Option, Some, None, refl, sym, ap, subst, ◌∙◌, arith}
use Rattle.std.specs.Prelude.{◌==◌, IfErr, IfSome, Result, Ok, Err, nat_lt, option_map, slice_get, unwrap_or, if◌then◌else◌}
use Rattle.std.specs.Global.{Vec}
use Rattle.std.specs.Option.{option_map_or}
use Rattle.std.specs.FinMap as finite
use Rattle.std.specs.FinMap.{FinMap}
use Rattle.std.specs.Ordering.{nat_cmp}
use Rattle.std.proofs.lemmas.Bool.{cases_eq, cases_lt, eq-eqb, false≢true, ltb-true, ne_eqb, or_parts}
use Rattle.std.proofs.lemmas.List.{get_or_append_left, get_or-append_right}
use Rattle.std.proofs.lemmas.Option.{slice_get-get_or}
use Rattle.base.specs.declared.error.PoolError.{PoolError}
use Rattle.base.specs.declared.error.PoolError.TheVariants as error
use Rattle.base.specs.declared.names.ObjectId.{ObjectId}
use Rattle.base.specs.declared.pointer.Pointer.{Pointer}
use Rattle.base.specs.formats.Blocks.{Frame}
use Rattle.base.specs.formats.Fields.{no_pointer, pointer_in}
use Rattle.base.specs.formats.Limits.{object_count, one_level_length, pointer_count}
use Rattle.base.specs.kept.PlacedTrees.{HasNonePast, IsPlaced, IsShort, NeedsNoTop}
use Rattle.base.specs.tree.Places.{Place, object_of_indirect, strip_number, strip_start}
use Rattle.base.specs.tree.Places.Place.{Top, Indirect}
use Rattle.base.proofs.tree.PlacedTrees.{NoneOrOpens, absent-strip, none_or_opens, not_both}
use Rattle.base.proofs.tree.Strips.{strip-low, strip-object, strip-which}
use Rattle.tree_blocks.specs.declared.tree.ObjectEntry.{ObjectEntry}
use Rattle.tree_blocks.specs.declared.tree.Tree.{Tree}
use Rattle.object_maps.specs.Cached.{BeginsInside, HoldsStrip, HoldsTop, IsPointerInside}
use Rattle.tree_blocks.specs.TreeObjects.{lengths_of, objects_of}
use Rattle.tree_blocks.specs.Pointers.{ObjectPointers, is_long_entry, no_pointers, object_pointers, pointer_of_list, pointers_of, pointers_of_entry}
use Rattle.tree_plans.specs.declared.changes.ObjectChanges.{ObjectChanges}
use Rattle.tree_blocks.specs.declared.object_map.ObjectMap.{ObjectMap}
use Rattle.tree_plans.specs.Pointers.{IsPut, entry_of}
use Rattle.tree_blocks.specs.ReadPointers.{records_among}
use Rattle.group_plans.specs.declared.old_maps.OldObject.{OldObject}
use Rattle.group_plans.specs.OldMaps.{AreMapsReadFor, AreMapRecords, AreStripsRead, HasReadMap, HoldsOwn, HoldsStripsOf, IsReadFor, IsStripRead}
use Rattle.group_plans.specs.Prepared.{IsPlainRefusal}
use Rattle.group_plans.proofs.ToldStrips.{long-top, short-strip}

-- the first pointers of a payload, to blocks of the area and to what begins before the end of the object, by where the
-- things begin that they point to
pub record AreFirst (payload : List ℕ) (blocks size : ℕ) (start : ℕ → ℕ) (pointers : List Pointer) (count : ℕ) : Type 0 where
  pub are : (r : ℕ) → r < count → pointer_of_list pointers r ≡ pointer_in payload r
  pub placed : (r : ℕ) → r < count → IsPlaced blocks (pointer_of_list pointers r)
  pub inside : (r : ℕ) → r < count → BeginsInside size (start r) (pointer_of_list pointers r)

pub none_first : (payload : List ℕ) (blocks size : ℕ) (start : ℕ → ℕ) (pointers : List Pointer) → AreFirst payload blocks size start pointers 0
none_first payload blocks size start pointers = record { are = λ r low. absurd (omega (arith, low)); placed = λ r low. absurd (omega (arith, low)); inside = λ r low. absurd (omega (arith, low)) }

pub one_more : (payload : List ℕ) (blocks size : ℕ) (start : ℕ → ℕ) (pointers : List Pointer) (count : ℕ) (p : Pointer) → length pointers ≡ count → p ≡ pointer_in payload count → IsPlaced blocks p → BeginsInside size (start count) p
    → AreFirst payload blocks size start pointers count → AreFirst payload blocks size start (pointers ++ p ∷ []) (count + 1)
one_more payload blocks size start pointers count p long is placed inside first = record {
  are = each (λ r q. q ≡ pointer_in payload r) is first.are;
  placed = each (λ r q. IsPlaced blocks q) placed first.placed;
  inside = each (λ r q. BeginsInside size (start r) q) inside first.inside;
}
  where
    before : (r : ℕ) → r < count → get_or (pointers ++ p ∷ []) r no_pointer ≡ get_or pointers r no_pointer
    before r below = get_or_append_left pointers (p ∷ []) no_pointer r (omega (arith, below, long))

    minus-self : (k : ℕ) → k - k ≡ 0
    minus-self k = omega arith

    last_is : get_or (pointers ++ p ∷ []) count no_pointer ≡ p
    last_is = ap (λ (k : ℕ). get_or (pointers ++ p ∷ []) k no_pointer) (sym long) ∙ get_or-append_right pointers (p ∷ []) (length pointers) (length pointers) no_pointer refl (omega arith) ∙ ap (λ (k : ℕ). get_or (p ∷ []) k no_pointer) (minus-self (length pointers))

    each : (P : ℕ → Pointer → Type 0) → P count p → ((r : ℕ) → r < count → P r (get_or pointers r no_pointer)) → (r : ℕ) → r < count + 1 → P r (get_or (pointers ++ p ∷ []) r no_pointer)
    each P last others r low = elim (cases_lt r count) [
      | inl below ↦ subst (P r) (sym (before r below)) (others r below)
      | inr past ↦ (let same : count ≡ r = omega (arith, low, past) in subst (λ (k : ℕ). P k (get_or (pointers ++ p ∷ []) k no_pointer)) same (subst (P count) (sym last_is) last))
    ]

-- a refusal for memory
pub of_memory : {A : Type 0} (r : Result A PoolError) → IfErr r (λ e. e ≡ error.NoMemory) → IfErr r IsPlainRefusal
of_memory (Ok a) memory = tt
of_memory (Err e) memory = inl memory

-- the pointer that a tree in memory has to a strip's indirect block
pub strip_told : (tree : Tree) (n j : ℕ) → n < object_count → pointers_of tree (Indirect (strip_number n j)) ≡ (object_pointers tree.entries.items n).strip j
strip_told tree n j low = λ x. (object_pointers tree.entries.items (strip-object n j low x)).strip (strip-which n j low x)

-- the entry of an object
module _ (tree : Tree) (n : ℕ) (e : ObjectEntry) (low : n < length tree.entries.items) (is : e ≡ get_or tree.entries.items n e) where
  at : slice_get tree.entries.items n ≡ Some e
  at = slice_get-get_or tree.entries.items n e low ∙ ap Some (sym is)

  pub own_is : object_pointers tree.entries.items n ≡ pointers_of_entry e
  own_is = ap (λ (o : Option ObjectEntry). option_map_or pointers_of_entry o no_pointers) at

  length_is : lengths_of tree n ≡ e.length
  length_is = ap (λ (o : Option ObjectEntry). option_map_or (λ (x : ObjectEntry). x.length) o None) at

  -- if it has two levels, the object is there and has so many bytes
  pub long_there : (image : List ℕ) (frame : Frame) → HoldsOwn image frame tree → is_long_entry e ≡ true
      → (bytes : List ℕ) × HoldsTop image frame n e.pointer (pointers_of tree) bytes × (finite.get (objects_of tree) n ≡ Some bytes)
  long_there image frame held long = by (finite.get (objects_of tree) n) refl (ap (λ (o : Option ℕ). option_map_or (λ size. nat_lt one_level_length size) o false) (sym (tree.sized n) ∙ length_is) ∙ long)
    where
      top_is : pointers_of tree (Top n) ≡ e.pointer
      top_is = ap (λ (o : ObjectPointers). o.top) own_is ∙ long-top e long

      by : (o : Option (List ℕ)) → finite.get (objects_of tree) n ≡ o → option_map_or (λ size. nat_lt one_level_length size) (option_map length o) false ≡ true
          → (bytes : List ℕ) × HoldsTop image frame n e.pointer (pointers_of tree) bytes × (finite.get (objects_of tree) n ≡ Some bytes)
      by None none above = absurd (false≢true above)
      by (Some bytes) there above =
          (bytes, record { objects = objects_of tree; tree = held; object = there; long = ltb-true one_level_length (length bytes) above; top_is = top_is }, there)

-- the strips of an entry of one level
pub short_strips : (e : ObjectEntry) (l : List Pointer) → is_long_entry e ≡ false → pointer_of_list l 0 ≡ e.pointer → ((j : ℕ) → 0 < j → pointer_of_list l j ≡ no_pointer)
    → (j : ℕ) → pointer_of_list l j ≡ (pointers_of_entry e).strip j
short_strips e l short first others j = elim (cases_eq j 0) [
  | inl zero_is ↦ ap (pointer_of_list l) zero_is ∙ first ∙ sym (short-strip e j short ∙ ap (λ (b : Bool). if b then e.pointer else no_pointer) (eq-eqb j 0 zero_is))
  | inr later ↦ others j (omega (arith, later)) ∙ sym (short-strip e j short ∙ ap (λ (b : Bool). if b then e.pointer else no_pointer) (ne_eqb j 0 later))
]

-- each pointer of a top is one to a strip
pub strips_formed : (image : List ℕ) (frame : Frame) (n : ℕ) (top : Pointer) (pointers : Place → Pointer) (bytes : List ℕ) → n < object_count
    → HoldsTop image frame n top pointers bytes → (j : ℕ) → j < pointer_count → IsPointerInside frame.blocks (length bytes) (strip_start j) (pointers (Indirect (strip_number n j)))
strips_formed image frame n top pointers bytes low holds j j_low =
    by (none_or_opens image frame pointers holds.objects holds.tree (Indirect (strip_number n j)) (strip-low n j low j_low)) (cases_lt (strip_start j) (length bytes))
  where
    named : Pointer
    named = pointers (Indirect (strip_number n j))

    needs : NeedsNoTop (finite.get holds.objects n) j named → named ≡ no_pointer
    needs (inl none) = none
    needs (inr h) = absurd (not_both (Some bytes) (subst IsShort holds.object h.1) holds.long)

    past_end : length bytes ≤ strip_start j → named ≡ no_pointer
    past_end past = elim (holds.tree.each (Top n) low) as (λ _. named ≡ no_pointer) [
      | inl h ↦ needs (h.1 j j_low)
      | inr h ↦ (subst (λ (o : Option (List ℕ)). HasNonePast o j named) holds.object (h.3 j j_low).1) past
    ]

    by : NoneOrOpens image frame pointers holds.objects holds.tree (Indirect (strip_number n j)) → (strip_start j < length bytes) ⊎ (length bytes ≤ strip_start j) → IsPointerInside frame.blocks (length bytes) (strip_start j) named
    by (inl none) _ = inl none
    by (inr opens) (inl before) = inr (before, opens.1.in_area)
    by (inr opens) (inr past) = inl (past_end past)

-- an object that has an indirect block is there, with its length
pub there_with : (image : List ℕ) (frame : Frame) (object : OldObject) (indirects : List Pointer) (pointers : Place → Pointer) → HoldsStripsOf image frame object indirects pointers
    → object.id.0 < object_count → (j : ℕ) → j < pointer_count → (indirect : Pointer) → pointer_of_list indirects j ≡ indirect → (indirect ≡ no_pointer → ⊥)
    → (bytes : List ℕ) × HoldsStrip image frame (strip_number object.id.0 j) indirect pointers bytes × (length bytes ≡ object.size)
there_with image frame object indirects pointers holds low j j_low indirect is some = by (finite.get holds.objects object.id.0) refl
  where
    m : ℕ
    m = strip_number object.id.0 j

    named : pointers (Indirect m) ≡ indirect
    named = sym (holds.strips j j_low) ∙ is

    found : finite.get holds.objects (object_of_indirect m) ≡ finite.get holds.objects object.id.0
    found = ap (λ (i : ℕ). finite.get holds.objects i) (strip-object object.id.0 j low)

    by : (o : Option (List ℕ)) → finite.get holds.objects object.id.0 ≡ o → (bytes : List ℕ) × HoldsStrip image frame m indirect pointers bytes × (length bytes ≡ object.size)
    by None none = absurd (some (sym named ∙ absent-strip image frame pointers holds.objects holds.tree m (strip-low object.id.0 j low j_low) (found ∙ none)))
    by (Some bytes) there = (
      bytes,
      record { objects = holds.objects; tree = holds.tree; object = found ∙ there; indirect_is = named },
      sym (holds.size ∙ ap (λ (o : Option (List ℕ)). unwrap_or (option_map length o) 0) there),
    )

-- a strip that was read goes to those before it
module _ (blocks : ℕ) (object : OldObject) (strip : ℕ) (indirects : List Pointer) (old new : List (ℕ × Vec Pointer)) (o : Option (Vec Pointer)) where
  absent_yet : AreStripsRead blocks object strip indirects old → records_among old strip ≡ None
  absent_yet before = by (records_among old strip) refl
    where
      by : (r : Option (Vec Pointer)) → records_among old strip ≡ r → r ≡ None
      by None none = refl
      by (Some v) there = let low = before.below strip (ap is_some there) in absurd (omega (arith, low))

  module _ (here : records_among old strip ≡ None → records_among new strip ≡ o) (others : (j : ℕ) → (strip ≡ j → ⊥) → records_among new j ≡ records_among old j)
      (before : AreStripsRead blocks object strip indirects old) where
    -- what holds of each strip before it, and of it, holds of one more
    pub strips_more : (P : ℕ → Option (Vec Pointer) → Type 0) → P strip o → ((j : ℕ) → j < strip → P j (records_among old j)) → (j : ℕ) → j < strip + 1 → P j (records_among new j)
    strips_more P own below j low = elim (cases_eq strip j) [
      | inl same ↦ subst (λ (i : ℕ). P i (records_among new i)) same (subst (P strip) (sym (here (absent_yet before))) own)
      | inr other ↦ subst (P j) (sym (others j other)) (below j (omega (arith, low, other)))
    ]

    pub strip_read_more : IsStripRead blocks object strip (pointer_of_list indirects strip) o → AreStripsRead blocks object (strip + 1) indirects new
    strip_read_more own = record {
      each = strips_more (λ j r. IsStripRead blocks object j (pointer_of_list indirects j) r) own before.each;
      below = λ j there. elim (cases_eq strip j) [
        | inl same ↦ omega (arith, same)
        | inr other ↦ (let low = before.below j (sym (ap is_some (others j other)) ∙ there) in omega (arith, low))
      ];
    }

-- a strip that was read as a plan asks for it has pointers with addresses, or none
placed_none : (blocks : ℕ) (p : Pointer) → IsPlaced blocks p → p.address ≡ 0 → p ≡ no_pointer
placed_none blocks p (inl none) zero_is = none
placed_none blocks p (inr (k, low, at)) zero_is = absurd (omega (arith, zero_is, at))

module _ (blocks : ℕ) (object : OldObject) (m : ObjectMap) (strips : AreStripsRead blocks object pointer_count m.indirects.items m.strips.entries) where
  pub read_for : IsReadFor object.is_long object.changes.now m
  read_for = record {
    read = record {
      strips = λ j low replaced. (strips.each j low).there replaced;
      named = λ j k low k_low. named (strip_number object.id.0 j) k k_low (records_among m.strips.entries j) (strips.each j low).records;
    };
    only = λ j there. (strips.each j (strips.below j there)).only there;
  }
    where
      named : (number k : ℕ) → k < pointer_count → (o : Option (Vec Pointer)) → IfSome o (λ (v : Vec Pointer). AreMapRecords blocks object.size number v.items)
          → IfSome o (λ (v : Vec Pointer). (pointer_of_list v.items k).address ≡ 0 → pointer_of_list v.items k ≡ no_pointer)
      named number k k_low None are = tt
      named number k k_low (Some v) are = placed_none blocks (pointer_of_list v.items k) (are.placed k k_low)

-- a map is put among others
pub put_each : (P : ℕ → ObjectMap → Type 0) (old new : List (ObjectId × ObjectMap)) (id : ObjectId) (map : ObjectMap) → IsPut old id map new → P id.0 map
    → ((n : ℕ) (m : ObjectMap) → entry_of old n ≡ Some m → P n m) → (n : ℕ) (m : ObjectMap) → entry_of new n ≡ Some m → P n m
put_each P old new id map put own others n m at = by (id.0 == n) refl (sym (put n) ∙ at)
  where
    by : (b : Bool) → (id.0 == n) ≡ b → cond b (Some map) (entry_of old n) ≡ Some m → P n m
    by true here is = subst (λ (k : ℕ). P k m) (eqb-true id.0 n here) (subst (λ (x : ObjectMap). P id.0 x) (let e : Some map ≡ Some m = is in cc) own)
    by false there is = others n m is

pub put_other : (old new : List (ObjectId × ObjectMap)) (id : ObjectId) (map : ObjectMap) → IsPut old id map new → (n : ℕ) → (id.0 ≡ n → ⊥) → entry_of new n ≡ entry_of old n
put_other old new id map put n other = put n ∙ ap (λ (b : Bool). cond b (Some map) (entry_of old n)) (ne_eqb id.0 n other)

pub put_here : (old new : List (ObjectId × ObjectMap)) (id : ObjectId) (map : ObjectMap) → IsPut old id map new → entry_of new id.0 ≡ Some map
put_here old new id map put = put id.0 ∙ ap (λ (b : Bool). cond b (Some map) (entry_of old id.0)) (eq-eqb id.0 id.0 refl)

-- an entry more at the end
pub entry_last : {X : Type 0} (entries : List (ObjectId × X)) (e : ObjectId × X) (n : ℕ) → is_some (entry_of (entries ++ (e ∷ [])) n) ≡ (is_some (entry_of entries n) || (n == e.0.0))
entry_last [] e n = by (n == e.0.0)
  where
    by : (b : Bool) → is_some (cond b (Some e.1) None) ≡ b
    by true = refl
    by false = refl
entry_last (x ∷ entries) e n = by (n == x.0.0) (entry_last entries e n)
  where
    by : (b : Bool) → is_some (entry_of (entries ++ (e ∷ [])) n) ≡ (is_some (entry_of entries n) || (n == e.0.0))
        → is_some (cond b (Some x.1) (entry_of (entries ++ (e ∷ [])) n)) ≡ (is_some (cond b (Some x.1) (entry_of entries n)) || (n == e.0.0))
    by true rest = refl
    by false rest = rest

-- what is first found stays found
found_first : {X : Type 0} (done rest : List (ObjectId × X)) (n : ℕ) (x : X) → entry_of done n ≡ Some x → entry_of (done ++ rest) n ≡ Some x
found_first [] rest n x at = absurd (cc)
found_first {X} (e ∷ done) rest n x at = by (n == e.0.0) at (found_first done rest n x)
  where
    by : (b : Bool) → cond b (Some e.1) (entry_of done n) ≡ Some x → (entry_of done n ≡ Some x → entry_of (done ++ rest) n ≡ Some x) → cond b (Some e.1) (entry_of (done ++ rest) n) ≡ Some x
    by true here later = here
    by false there later = later there

-- an entry among some and one more
pub entry_pushed : (done : List (ObjectId × ObjectChanges)) (e : ObjectId × ObjectChanges) (n : ℕ) (changes : ObjectChanges) → entry_of (done ++ (e ∷ [])) n ≡ Some changes
    → (entry_of done n ≡ Some changes) ⊎ ((n ≡ e.0.0) × (changes ≡ e.1))
entry_pushed [] e n changes at = elim (n == e.0.0) as (λ t. (n == e.0.0) ≡ t → cond t (Some e.1) None ≡ Some changes → (entry_of [] n ≡ Some changes) ⊎ ((n ≡ e.0.0) × (changes ≡ e.1))) [
  | true ↦ λ is here. inr (eqb-true n e.0.0 is, (let same : e.1 ≡ changes = cc in sym same))
  | false ↦ λ is here. absurd (cc)
] refl at
entry_pushed (x ∷ done) e n changes at = elim (n == x.0.0) as (λ t. (n == x.0.0) ≡ t → cond t (Some x.1) (entry_of (done ++ (e ∷ [])) n) ≡ Some changes → (cond t (Some x.1) (entry_of done n) ≡ Some changes) ⊎ ((n ≡ e.0.0) × (changes ≡ e.1))) [
  | true ↦ λ is here. inl here
  | false ↦ λ is here. entry_pushed done e n changes here
] refl at

-- the maps of one object more, which has these changes among all objects
module _ (done rest : List (ObjectId × ObjectChanges)) (e : ObjectId × ObjectChanges) (old new : List (ObjectId × ObjectMap)) (others : (n : ℕ) → (e.0.0 ≡ n → ⊥) → entry_of new n ≡ entry_of old n) where
  pub read_more : (after : FinMap nat_cmp (List ℕ)) → entry_of (done ++ (e ∷ rest)) e.0.0 ≡ Some e.1 → (e.0.0 < object_count → HasReadMap after new e.0.0 e.1)
      → AreMapsReadFor after done old → AreMapsReadFor after (done ++ (e ∷ [])) new
  read_more after found own before n changes low at = go (entry_pushed done e n changes at)
    where
      as_own : n ≡ e.0.0 → changes ≡ e.1 → HasReadMap after new n changes
      as_own same is = subst (λ (m : ℕ). HasReadMap after new m changes) (sym same) (subst (λ (c : ObjectChanges). HasReadMap after new e.0.0 c) (sym is) (own (omega (arith, same, low))))

      kept : (n ≡ e.0.0 → ⊥) → HasReadMap after old n changes → HasReadMap after new n changes
      kept other h = record { map = h.map; map_is = others n (λ same. other (sym same)) ∙ h.map_is; read = h.read }

      go : (entry_of done n ≡ Some changes) ⊎ ((n ≡ e.0.0) × (changes ≡ e.1)) → HasReadMap after new n changes
      go (inr both) = as_own both.0 both.1
      go (inl was) = elim (cases_eq n e.0.0) [
        | inl same ↦ (let first : entry_of (done ++ (e ∷ rest)) e.0.0 ≡ Some changes = found_first done (e ∷ rest) e.0.0 changes (ap (λ (i : ℕ). entry_of done i) (sym same) ∙ was) in
            as_own same (let both : Some changes ≡ Some e.1 = sym first ∙ found in cc))
        | inr other ↦ kept other (before n changes low was)
      ]

  pub none_more : ((n : ℕ) → is_some (entry_of done n) ≡ false → is_some (entry_of old n) ≡ false) → (n : ℕ) → is_some (entry_of (done ++ (e ∷ [])) n) ≡ false → is_some (entry_of new n) ≡ false
  none_more none n is =
      let parts = or_parts (is_some (entry_of done n)) (n == e.0.0) (sym (entry_last done e n) ∙ is) in
      ap is_some (others n (λ here. let same : (n == e.0.0) ≡ true = eq-eqb n e.0.0 (sym here) in false≢true (sym parts.1 ∙ same))) ∙ none n parts.0
