-- An image that holds a tree has no damage in it, and its entries and records say what the objects are.
use Rattle.std.proofs.Common.{◌≡◌, ℕ, ◌<◌, ◌≤◌, List, refl, ap, sym, subst, ◌∙◌, arith, replicate, ◌⊎◌, inl, inr}
use Rattle.std.specs.Prelude.{Option, Some, None, IfSome, ◌≢◌, length, option_map}
use Rattle.std.specs.Ordering.{nat_cmp}
use Rattle.std.specs.FinMap as map
use Rattle.std.specs.FinMap.{FinMap}
use Rattle.base.specs.declared.pointer.Pointer.{Pointer}
use Rattle.base.specs.declared.error.PoolError.{PoolError}
use Rattle.base.specs.declared.error.PoolError.TheVariants.{Damaged, NoMemory, Read}
use Rattle.base.specs.formats.Fields.{number_at, entry_in, entry_length, entry_present, no_pointer}
use Rattle.base.specs.formats.Blocks.{Frame, payload_at}
use Rattle.base.specs.tree.Damages.{IsFirstDamage, IsSoundAt}
use Rattle.base.specs.kept.PlacedTrees.{HoldsTree, padded_record}
use Rattle.base.specs.tree.Places.{Place, IsPlace, directory_pointer, kind_of, pointer_of, walk_index_of}
use Rattle.base.specs.tree.Places.Place.{Root, Directory, Top, Indirect, Data}
use Rattle.base.specs.tree.Tree.{IsEntry, IsRecord, IsTree}
use Rattle.base.proofs.tree.PlacedTrees.{holds-tree, pointers-told}
use Rattle.base.proofs.tree.SoundTrees.{directory-at, sound}
use Rattle.base.proofs.tree.Strips.{first-low}
use Rattle.object_maps.specs.BlockReads.{IsLoadRefusal}

zeros-present : entry_present (replicate 64 0) ≡ 0
unfolding number_at
zeros-present = refl

-- an entry of zeros is that of no object, and one that is present has its length
zeros-absent : (image : List ℕ) (frame : Frame) (n : ℕ) (entry : List ℕ) (o : Option (List ℕ)) → IsEntry image frame n entry o → entry ≡ replicate 64 0 → o ≡ None
zeros-absent image frame n entry None h zeros = refl
zeros-absent image frame n entry (Some bytes) h zeros =
    let none : entry_present entry ≡ 0 = ap entry_present zeros ∙ zeros-present in
    elim (h.1) as (λ _. Some bytes ≡ None) [
      | inl one ↦ (let is = one.0 in absurd (omega (arith, none, is)))
      | inr two ↦ (let is = (two.1).0 in absurd (omega (arith, none, is)))
    ]

length-entry : (image : List ℕ) (frame : Frame) (n size : ℕ) (entry : List ℕ) (o : Option (List ℕ)) → IsEntry image frame n entry o → entry_present entry ≡ 1 → entry_length entry ≡ size
    → option_map length o ≡ Some size
length-entry image frame n size entry None zeros one is =
    let none : entry_present entry ≡ 0 = ap entry_present zeros ∙ zeros-present in
    absurd (omega arith)
length-entry image frame n size entry (Some bytes) h one is = ap Some (sym h.0 ∙ is)

record-held : (image : List ℕ) (frame : Frame) (pointer : Pointer) (o : Option (List ℕ)) → pointer ≢ no_pointer
    → IfSome o (λ bytes. IsRecord image frame 7 1 pointer bytes) → IfSome o (λ bytes. padded_record 1 bytes ≡ payload_at image pointer.address)
record-held image frame pointer None there h = h
record-held image frame pointer (Some bytes) there (inl hole) = absurd (there hole.0)
record-held image frame pointer (Some bytes) there (inr block) = sym block.1.block.payload_is

module _ (image : List ℕ) (frame : Frame) (pointers : Place → Pointer) (objects : FinMap nat_cmp (List ℕ)) (holds : HoldsTree image frame pointers objects)
    (root : Pointer) (is_root : pointers Root ≡ root) where
  tree-held : IsTree image frame root objects
  tree-held = subst (λ (p : Pointer). IsTree image frame p objects) is_root (holds-tree image frame pointers objects holds)

  pub sound-held : (place : Place) → IsPlace place → IsSoundAt image frame root place
  sound-held place in_range = sound image frame root objects tree-held place in_range

  pub absent-held : entry_in (payload_at image (directory_pointer image root 0).address) 7 ≡ replicate 64 0 → map.get objects 7 ≡ None
  absent-held zeros = elim (directory-at image frame root objects tree-held 0 (omega arith)) as (λ _. map.get objects 7 ≡ None) [
    | inl h ↦ h.1 7 (omega arith)
    | inr h ↦ zeros-absent image frame 7 (entry_in h.0 7) (map.get objects 7) (h.2 7 (omega arith)) (ap (λ p. entry_in p 7) (sym h.1.block.payload_is) ∙ zeros)
  ]

  pub length-held : (size : ℕ) → directory_pointer image root 0 ≢ no_pointer
      → entry_present (entry_in (payload_at image (directory_pointer image root 0).address) 7) ≡ 1
      → entry_length (entry_in (payload_at image (directory_pointer image root 0).address) 7) ≡ size
      → option_map length (map.get objects 7) ≡ Some size
  length-held size there one is = elim (directory-at image frame root objects tree-held 0 (omega arith)) as (λ _. option_map length (map.get objects 7) ≡ Some size) [
    | inl h ↦ absurd (there h.0)
    | inr h ↦ length-entry image frame 7 size (entry_in h.0 7) (map.get objects 7) (h.2 7 (omega arith))
        (ap (λ p. entry_present (entry_in p 7)) (sym h.1.block.payload_is) ∙ one) (ap (λ p. entry_length (entry_in p 7)) (sym h.1.block.payload_is) ∙ is)
  ]

  pub record-in_place : pointer_of image root (Data 7 1) ≢ no_pointer
      → IfSome (map.get objects 7) (λ bytes. padded_record 1 bytes ≡ payload_at image (pointer_of image root (Data 7 1)).address)
  record-in_place there =
      let told : pointer_of image root (Data 7 1) ≡ pointers (Data 7 1) =
      ap (λ (p : Pointer). pointer_of image p (Data 7 1)) (sym is_root) ∙ pointers-told image frame pointers objects holds (Data 7 1) (first-low 7 (omega arith), omega arith) in
      record-held image frame (pointer_of image root (Data 7 1)) (map.get objects 7) there
      (subst (λ (p : Pointer). IfSome (map.get objects 7) (λ bytes. IsRecord image frame 7 1 p bytes)) (sym told) (holds.each (Data 7 1) (first-low 7 (omega arith), omega arith)))

-- if the root is not sound, it is the first damage
at-root : (image : List ℕ) (frame : Frame) (root : Pointer) (place : Place) → (IsSoundAt image frame root Root → ⊥)
    → ((other : Place) → IsPlace other → walk_index_of other < walk_index_of place → IsSoundAt image frame root other)
    → (kind address : ℕ) → kind_of place ≡ kind → (pointer_of image root place).address ≡ address → (2 ≡ kind) × (root.address ≡ address)
at-root image frame root Root damaged before kind address is_kind is_address = (is_kind, is_address)
at-root image frame root (Directory d) damaged before kind address is_kind is_address = absurd (damaged (before Root tt (omega arith)))
at-root image frame root (Top n) damaged before kind address is_kind is_address = absurd (damaged (before Root tt (omega arith)))
at-root image frame root (Indirect n) damaged before kind address is_kind is_address = absurd (damaged (before Root tt (omega arith)))
at-root image frame root (Data n r) damaged before kind address is_kind is_address = absurd (damaged (before Root tt (omega arith)))

pub root-damage : (image : List ℕ) (frame : Frame) (root : Pointer) (kind address : ℕ) → (IsSoundAt image frame root Root → ⊥)
    → IsFirstDamage image frame root kind address → (2 ≡ kind) × (root.address ≡ address)
root-damage image frame root kind address damaged damage = at-root image frame root damage.place damaged damage.sound_before kind address damage.kind_is damage.address_is

-- a root that was born after the frame's group is not sound
pub late-root : (image : List ℕ) (frame : Frame) (root : Pointer) → root.address ≢ 0 → frame.group < root.birth → IsSoundAt image frame root Root → ⊥
late-root image frame root there late (inl none) = there (ap (λ (p : Pointer). p.address) none)
late-root image frame root there late (inr block) = let born : root.birth ≤ frame.group = block.1.born in omega arith

-- so a load is refused for it, or for memory or a read
pub root-refusal : (image : List ℕ) (frame : Frame) (root : Pointer) (e : PoolError) → (IsSoundAt image frame root Root → ⊥) → IsLoadRefusal e
    → ((kind address : ℕ) → e ≡ Damaged kind address → IsFirstDamage image frame root kind address) → (e ≡ NoMemory) ⊎ ((e ≡ Read) ⊎ (e ≡ Damaged 2 root.address))
root-refusal image frame root e damaged (inl h) damage = inl h
root-refusal image frame root e damaged (inr (inl h)) damage = inr (inl h)
root-refusal image frame root e damaged (inr (inr h)) damage =
    let at = root-damage image frame root h.0 h.1 damaged (damage h.0 h.1 h.2) in
    inr (inr (h.2 ∙ ap (λ k. Damaged k h.1) (sym at.0) ∙ ap (λ a. Damaged 2 a) (sym at.1)))
