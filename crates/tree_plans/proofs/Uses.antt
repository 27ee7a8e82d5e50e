-- Each block that a plan makes is at a place of the new tree.
use Rattle.std.proofs.Common.{◌≡◌, ◌==◌, ℕ, zero, suc, ◌+◌, ◌<◌, inl, inr, true, false, cond, List, [], ◌∷◌, ◌++◌, length, map, Option, Ordering, Less, Some, None, refl, sym, ◌∙◌, ap, arith}
use Rattle.std.specs.Prelude.{slice_get, All}
use Rattle.std.specs.Global.{Vec}
use Rattle.std.specs.List.{AllByRecursion}
use Rattle.std.specs.List.Sorted.{IsStrictlySortedBy}
use Rattle.std.specs.Map.{keys_of}
use Rattle.std.specs.Option.{option_map_or}
use Rattle.std.specs.Ordering.{is_eq}
use Rattle.std.proofs.lemmas.Bool.{eq-eqb, eqb-true}
use Rattle.base.specs.declared.pointer.Pointer.{Pointer}
use Rattle.base.specs.declared.names.ObjectId.{ObjectId}
use Rattle.base.specs.formats.Fields.{no_pointer}
use Rattle.base.specs.formats.Limits.{pointer_count}
use Rattle.base.specs.tree.Places.{Place, IsPlace, strip_number, strip_of}
use Rattle.base.specs.tree.Places.Place.{Root, Directory, Top, Indirect, Data}
use Rattle.base.proofs.tree.Strips.{strip-low, strip-object, strip-which}
use Rattle.base.specs.kept.PlannedTrees.{NewBlock}
use Rattle.base.specs.kept.Stored.{AreUsed}
use Rattle.tree_blocks.specs.declared.tree.ObjectEntry.{ObjectEntry}
use Rattle.tree_blocks.specs.Pointers.{ObjectPointers, pointer_of_list, pointers_by, pointers_of_entry}
use Rattle.tree_plans.specs.declared.planner.PlannedBlock.{PlannedBlock}
use Rattle.tree_plans.specs.Pointers.{IsPut, entry_of, planned_map}
use Rattle.tree_blocks.specs.ReadPointers.{records_among}
use Rattle.tree_plans.specs.Plans.{new_block}
use Rattle.tree_plans.specs.Uses.{AreOf, IsPointedAt, IsInObject, IsInPlanned, ObjectUses, ObjectsUse, PointersUse, StripsUse, UsesOnly}
use Rattle.tree_plans.proofs.Progress.{front_of, last_of}
use Rattle.tree_plans.proofs.Walks.{push_cases}

-- a block is taken for a pointer
pub uses_one : (s t : List NewBlock) (block : NewBlock) (place : ℕ) → t ≡ s ++ block ∷ [] → place ≡ block.address → UsesOnly s t place
uses_one s t block place pushed here address taken =
    let at : slice_get (s ++ block ∷ []) taken.0 ≡ Some taken.1 = rw pushed at taken.2 in
    elim (push_cases s block taken.1 taken.0 at) [
      | inl before ↦ inl (taken.0, taken.1, before, taken.3)
      | inr same ↦ inr (here ∙ ap (λ (b : NewBlock). b.address) same ∙ taken.3)
    ]

-- one pointer more
pub pointers_use_push : (first s t : List NewBlock) (pointers : List Pointer) (i : ℕ) (new : Pointer) → length pointers ≡ i → PointersUse first s (pointer_of_list pointers) i → UsesOnly s t new.address
    → PointersUse first t (pointer_of_list (pointers ++ new ∷ [])) (i + 1)
pointers_use_push first s t pointers i new long uses more address taken =
    elim (more address taken) [
      | inl before ↦ elim (uses address before) [
        | inl at_first ↦ inl at_first
        | inr of ↦
            let low : of.index < length pointers = let low = of.low in omega (arith, long) in
            inr (record { index = of.index; low = omega (arith, long); is = ap (λ (p : Pointer). p.address) (front_of pointers new no_pointer of.index low) ∙ of.is })
      ]
      | inr here ↦ inr (record {
        index = length pointers;
        low = omega (arith, long);
        is = ap (λ (p : Pointer). p.address) (last_of pointers new no_pointer) ∙ here;
      })
    ]

-- pointers that are the same
pub pointed_same : (f g : ℕ → Pointer) (count address : ℕ) → ((i : ℕ) → i < count → f i ≡ g i) → IsPointedAt f count address → IsPointedAt g count address
pointed_same f g count address same of = record { index = of.index; low = of.low; is = ap (λ (p : Pointer). p.address) (sym (same of.index of.low)) ∙ of.is }

-- the records of one strip more, and a strip that takes none
pub strips_use_push : (first s t : List NewBlock) (old new : List (ℕ × Vec Pointer)) (i : ℕ) (v : Vec Pointer) → ((j : ℕ) → j < i → records_among new j ≡ records_among old j) → records_among new i ≡ Some v
    → StripsUse first s old i → PointersUse s t (pointer_of_list v.items) pointer_count → StripsUse first t new (i + 1)
strips_use_push first s t old new i v same there uses more address taken = elim (more address taken) [
  | inl before ↦ elim (uses address before) [
    | inl at_first ↦ inl at_first
    | inr of ↦ inr (record { strip = of.strip; low = (let low = of.low in omega arith); records = of.records; records_are = same of.strip of.low ∙ of.records_are; is_in = of.is_in })
  ]
  | inr here ↦ inr (record { strip = i; low = omega arith; records = v; records_are = there; is_in = here })
]

pub strips_use_passed : (first s : List NewBlock) (strips : List (ℕ × Vec Pointer)) (i : ℕ) → StripsUse first s strips i → StripsUse first s strips (i + 1)
strips_use_passed first s strips i uses address taken = elim (uses address taken) [
  | inl at_first ↦ inl at_first
  | inr of ↦ inr (record { strip = of.strip; low = (let low = of.low in omega arith); records = of.records; records_are = of.records_are; is_in = of.is_in })
]

-- the records of an object, then its indirect blocks, and then its top, which are the pointers that it has after
pub object_uses : (first s t u : List NewBlock) (strips : List (ℕ × Vec Pointer)) (indirects : List Pointer) (top : Pointer) (o : ObjectPointers) → StripsUse first s strips pointer_count → PointersUse s t (pointer_of_list indirects) pointer_count
    → UsesOnly t u top.address → ((j : ℕ) (v : Vec Pointer) → j < pointer_count → records_among strips j ≡ Some v → (k : ℕ) → k < pointer_count → pointer_of_list v.items k ≡ o.record_at j k)
    → ((j : ℕ) → j < pointer_count → pointer_of_list indirects j ≡ o.strip j) → top ≡ o.top → ObjectUses first u o
object_uses first s t u strips indirects top o below middle above same_records same_strips same_top address taken = elim (above address taken) [
  | inr here ↦ inr (inr (inr (ap (λ (p : Pointer). p.address) (sym same_top) ∙ here)))
  | inl after ↦ elim (middle address after) [
    | inr of ↦ inr (inr (inl (pointed_same (pointer_of_list indirects) o.strip pointer_count address same_strips of)))
    | inl before ↦ elim (below address before) [
      | inl at_first ↦ inl at_first
      | inr of ↦ inr (inl (record { strip = of.strip; low = of.low; is_in = pointed_same (pointer_of_list of.records.items) (o.record_at of.strip) pointer_count address (same_records of.strip of.records of.low of.records_are) of.is_in }))
    ]
  ]
]

-- an object that was not planned yet is put
entry_kept : (old new : List (ObjectId × ObjectEntry)) (id : ObjectId) (m : ObjectEntry) → IsPut old id m new → entry_of old id.0 ≡ None → (n : ℕ) (k : ObjectEntry) → entry_of old n ≡ Some k → entry_of new n ≡ Some k
entry_kept old new id m put none n k e =
    put n ∙ (elim (id.0 == n) as (λ t. (id.0 == n) ≡ t → cond t (Some m) (entry_of old n) ≡ Some k) [
      | true ↦ λ is. let there : entry_of old id.0 ≡ Some k = ap (entry_of old) (eqb-true id.0 n is) ∙ e in absurd (cc)
      | false ↦ λ is. e
    ] refl)

pub objects_use_put : (first s t : List NewBlock) (old new : List (ObjectId × ObjectEntry)) (id : ObjectId) (m : ObjectEntry) → IsPut old id m new → entry_of old id.0 ≡ None → id.0 < 5292 → ObjectUses s t (pointers_of_entry m)
    → ObjectsUse first s old → ObjectsUse first t new
objects_use_put first s t old new id m put none low more uses address taken =
    elim (more address taken) [
      | inl before ↦ elim (uses address before) [
        | inl at_first ↦ inl at_first
        | inr of ↦ inr (record { number = of.number; low = of.low; entry = of.entry; entry_is = entry_kept old new id m put none of.number of.entry of.entry_is; is_in = of.is_in })
      ]
      | inr here ↦ inr (record {
        number = id.0;
        low = low;
        entry = m;
        entry_is = put id.0 ∙ ap (λ b. cond b (Some m) (entry_of old id.0)) (eq-eqb id.0 id.0 refl);
        is_in = here;
      })
    ]

-- the other entries stay
pub others_put : (old new : List (ObjectId × ObjectEntry)) (id : ObjectId) (m : ObjectEntry) → IsPut old id m new → (n : ℕ) → (id.0 == n) ≡ false → entry_of new n ≡ entry_of old n
others_put old new id m put n other = put n ∙ ap (λ b. cond b (Some m) (entry_of old n)) other

-- one object more is gone over
pub are_of_more : {X Y : Type 0} (done : List (ObjectId × X)) (e : ObjectId × X) (old new : List (ObjectId × Y)) → AreOf done old → ((n : ℕ) → (e.0.0 == n) ≡ false → entry_of new n ≡ entry_of old n)
    → AreOf (done ++ e ∷ []) new
are_of_more {X} {Y} done e old new are others n none =
    let parts = split done none in
    others n (apart parts.1) ∙ are n parts.0
  where
    split : (xs : List (ObjectId × X)) → entry_of (xs ++ e ∷ []) n ≡ None → (entry_of xs n ≡ None) × ((n == e.0.0) ≡ false)
    split [] is = (refl, elim (n == e.0.0) as (λ t. cond t (Some e.1) None ≡ None → t ≡ false) [ true ↦ λ s. absurd (cc) | false ↦ λ s. refl ] is)
    split (x ∷ xs) is = elim (n == x.0.0) as (λ t. cond t (Some x.1) (entry_of (xs ++ e ∷ []) n) ≡ None → (cond t (Some x.1) (entry_of xs n) ≡ None) × ((n == e.0.0) ≡ false)) [
      | true ↦ λ s. absurd (cc)
      | false ↦ λ s. split xs s
    ] is

    apart : (n == e.0.0) ≡ false → (e.0.0 == n) ≡ false
    apart ne = elim (e.0.0 == n) as (λ t. (e.0.0 == n) ≡ t → t ≡ false) [
      | true ↦ λ is. let same : (n == e.0.0) ≡ true = eq-eqb n e.0.0 (sym (eqb-true e.0.0 n is)) in absurd (cc)
      | false ↦ λ is. refl
    ] refl

-- of entries in order, the next one was not gone over
module _ (R : ObjectId → ObjectId → Ordering) (ties : (a b : ObjectId) → is_eq (R a b) ≡ (a.0 == b.0)) where
  further : (x : ObjectId) {X : Type 0} (done : List (ObjectId × X)) (e : ObjectId × X) (rest : List (ObjectId × X)) → AllByRecursion (λ y. R x y ≡ Less) (keys_of (done ++ (e ∷ rest))) → R x e.0 ≡ Less
  further x [] e rest all = all.0
  further x (d ∷ done) e rest all = further x done e rest all.1

  unlike : (x y : ObjectId) → R x y ≡ Less → (y.0 == x.0) ≡ false
  unlike x y below = elim (y.0 == x.0) as (λ t. (y.0 == x.0) ≡ t → t ≡ false) [
    | true ↦ λ is.
        let same : (x.0 == y.0) ≡ true = eq-eqb x.0 y.0 (sym (eqb-true y.0 x.0 is)) in
        let tie : is_eq Less ≡ (x.0 == y.0) = ap is_eq (sym below) ∙ ties x y in absurd (cc)
    | false ↦ λ is. refl
  ] refl

  not_yet : {X : Type 0} (done : List (ObjectId × X)) (e : ObjectId × X) (rest : List (ObjectId × X)) → IsStrictlySortedBy R (keys_of (done ++ (e ∷ rest))) → entry_of done e.0.0 ≡ None
  unfolding IsStrictlySortedBy
  not_yet [] e rest sorted = refl
  not_yet (d ∷ done) e rest sorted = rw (unlike d.0 e.0 (further d.0 done e rest sorted.0)) (not_yet done e rest sorted.1)

  pub next_is_new : {X : Type 0} (all done rest : List (ObjectId × X)) (e : ObjectId × X) → all ≡ done ++ (e ∷ rest) → IsStrictlySortedBy R (keys_of all) → entry_of done e.0.0 ≡ None
  next_is_new all done rest e split sorted = not_yet done e rest (rw split at sorted)

-- of a whole walk, each block is one of the new tree
pub tree_used : (first one two three : List NewBlock) (maps : ℕ → ObjectPointers) (planned : List (ObjectId × ObjectEntry)) (directories : List Pointer) (root : Pointer)
    → first ≡ [] → ObjectsUse first one planned → PointersUse one two (pointer_of_list directories) 84 → UsesOnly two three root.address → AreUsed three (pointers_by root directories (planned_map maps planned))
tree_used first one two three maps planned directories root none objects across top i b e =
    elim (top b.address (i, b, e, refl)) [
      | inr here ↦ (Root, tt, here)
      | inl before ↦ elim (across b.address before) [
        | inr of ↦ (Directory of.index, of.low, of.is)
        | inl earlier ↦ elim (objects b.address earlier) [
          | inl at_first ↦ absurd (nothing at_first.0 at_first.1 at_first.2)
          | inr of ↦ in_object of of.is_in
        ]
      ]
    ]
  where
    after : Place → Pointer
    after = pointers_by root directories (planned_map maps planned)

    nothing : (j : ℕ) (c : NewBlock) → slice_get first j ≡ Some c → ⊥
    nothing j c is = let at : slice_get [] j ≡ Some c = rw none at is in absurd (cc)

    map_is : (of : IsInPlanned planned b.address) → planned_map maps planned of.number ≡ pointers_of_entry of.entry
    map_is of = ap (λ (o : Option ObjectEntry). option_map_or pointers_of_entry o (maps of.number)) of.entry_is

    in_object : (of : IsInPlanned planned b.address) → IsInObject (pointers_of_entry of.entry) b.address → (place : Place) × IsPlace place × ((after place).address ≡ b.address)
    in_object of (inl r) = (
      Data (strip_number of.number r.strip) r.is_in.index,
      (strip-low of.number r.strip of.low r.low, r.is_in.low),
      ap (λ (n : ℕ). ((planned_map maps planned n).record_at (strip_of (strip_number of.number r.strip)) r.is_in.index).address) (strip-object of.number r.strip of.low)
          ∙ ap (λ (j : ℕ). ((planned_map maps planned of.number).record_at j r.is_in.index).address) (strip-which of.number r.strip of.low)
          ∙ ap (λ (o : ObjectPointers). (o.record_at r.strip r.is_in.index).address) (map_is of) ∙ r.is_in.is,
    )
    in_object of (inr (inl r)) = (
      Indirect (strip_number of.number r.index),
      strip-low of.number r.index of.low r.low,
      ap (λ (n : ℕ). ((planned_map maps planned n).strip (strip_of (strip_number of.number r.index))).address) (strip-object of.number r.index of.low)
          ∙ ap (λ (j : ℕ). ((planned_map maps planned of.number).strip j).address) (strip-which of.number r.index of.low)
          ∙ ap (λ (o : ObjectPointers). (o.strip r.index).address) (map_is of) ∙ r.is,
    )
    in_object of (inr (inr is)) = (Top of.number, of.low, ap (λ (o : ObjectPointers). o.top.address) (map_is of) ∙ is)

-- each block is whole
pub all_whole : (blocks : List PlannedBlock) → All (λ (b : PlannedBlock). length b.block ≡ 4096) blocks → (i : ℕ) (b : NewBlock) → slice_get (map new_block blocks) i ≡ Some b → length b.content ≡ 4096
all_whole [] all i b e = absurd (cc)
all_whole (x ∷ blocks) all zero b e =
    let is : new_block x ≡ b = cc in
    ap (λ (c : NewBlock). length c.content) (sym is) ∙ all 0 x (omega arith)
all_whole (x ∷ blocks) all (suc i) b e = all_whole blocks (λ k d low. all (suc k) d (omega arith)) i b e
