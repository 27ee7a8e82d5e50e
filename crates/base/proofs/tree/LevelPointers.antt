-- The pointers of a tree by how many levels the entries of its objects give them.
use Rattle.std.proofs.Common.{◌≡◌, ◌≢◌, ℕ, List, replicate, refl, ◌∙◌, ap, arith}
use Rattle.std.specs.Prelude.{◌==◌, Bool, false, cond, if◌then◌else◌}
use Rattle.std.proofs.lemmas.Bool.{eq-eqb, ne_eqb}
use Rattle.base.specs.declared.pointer.Pointer.{Pointer}
use Rattle.base.specs.formats.Fields.{number_at, pointer_in, entry_present, entry_pointer, no_pointer}
use Rattle.base.specs.formats.Geometry.{block_address}
use Rattle.base.specs.formats.Blocks.{Frame, Opens, payload_at}
use Rattle.base.specs.tree.Places.{object_of_indirect, strip_of, pointer_below, number_below, levels_in, below_pointer, top_pointer, indirect_pointer}

-- an absent entry names nothing and gives no level
pub zero_entry : entry_pointer (replicate 64 0) ≡ no_pointer
unfolding number_at
zero_entry = refl

pub zero_present : entry_present (replicate 64 0) ≡ 0
unfolding number_at
zero_present = refl

module _ (image : List ℕ) where
  -- below no pointer is no pointer, and no number
  pub pointer_below-none : (p : Pointer) (f : List ℕ → Pointer) → p ≡ no_pointer → pointer_below image p f ≡ no_pointer
  pointer_below-none p f e = ap (λ (q : Pointer). pointer_below image q f) e

  pub number_below-none : (p : Pointer) (f : List ℕ → ℕ) → p ≡ no_pointer → number_below image p f ≡ 0
  number_below-none p f e = ap (λ (q : Pointer). number_below image q f) e

  module _ (frame : Frame) where
    -- a pointer whose block opens has an address
    pub opens-address : (kind number : ℕ) (p : Pointer) (payload : List ℕ) → Opens image frame kind number p payload → p.address ≢ 0
    opens-address kind number p payload o = λ zero_is. let at : p.address ≡ block_address o.in_area.0 = o.in_area.2 in absurd (omega arith)

    -- and what is below it is read from its payload
    pub pointer_below-opens : (kind number : ℕ) (p : Pointer) (payload : List ℕ) (f : List ℕ → Pointer) → Opens image frame kind number p payload → pointer_below image p f ≡ f payload
    pointer_below-opens kind number p payload f o =
        ap (λ b. cond b no_pointer (f (payload_at image p.address))) (ne_eqb p.address 0 (opens-address kind number p payload o)) ∙ ap f o.block.payload_is

    pub number_below-opens : (kind number : ℕ) (p : Pointer) (payload : List ℕ) (f : List ℕ → ℕ) → Opens image frame kind number p payload → number_below image p f ≡ f payload
    number_below-opens kind number p payload f o =
        ap (λ b. cond b 0 (f (payload_at image p.address))) (ne_eqb p.address 0 (opens-address kind number p payload o)) ∙ ap f o.block.payload_is

  module _ (root : Pointer) where
    -- the entry of an object of two levels names its top, and any other has none
    pub top-one : (n : ℕ) → levels_in image root n ≢ 2 → top_pointer image root n ≡ no_pointer
    top-one n other = ap (λ (b : Bool). if b then below_pointer image root n else no_pointer) (ne_eqb (levels_in image root n) 2 other)

    pub top-two : (n : ℕ) → levels_in image root n ≡ 2 → top_pointer image root n ≡ below_pointer image root n
    top-two n two = ap (λ (b : Bool). if b then below_pointer image root n else no_pointer) (eq-eqb (levels_in image root n) 2 two)

    -- an indirect block is named by the top, or the first one by the entry
    indirect_choice : ℕ → Bool → Bool → Pointer
    indirect_choice m two first =
        if two then pointer_below image (top_pointer image root (object_of_indirect m)) (λ payload. pointer_in payload (strip_of m))
        else if first then below_pointer image root (object_of_indirect m)
        else no_pointer

    pub indirect-two : (m : ℕ) → levels_in image root (object_of_indirect m) ≡ 2
        → indirect_pointer image root m ≡ pointer_below image (top_pointer image root (object_of_indirect m)) (λ payload. pointer_in payload (strip_of m))
    unfolding indirect_choice
    indirect-two m two = ap (λ (b : Bool). indirect_choice m b (strip_of m == 0)) (eq-eqb (levels_in image root (object_of_indirect m)) 2 two)

    pub indirect-first : (m : ℕ) → levels_in image root (object_of_indirect m) ≢ 2 → strip_of m ≡ 0 → indirect_pointer image root m ≡ below_pointer image root (object_of_indirect m)
    unfolding indirect_choice
    indirect-first m other first =
        ap (λ (b : Bool). indirect_choice m b (strip_of m == 0)) (ne_eqb (levels_in image root (object_of_indirect m)) 2 other) ∙ ap (λ (b : Bool). indirect_choice m false b) (eq-eqb (strip_of m) 0 first)

    pub indirect-later : (m : ℕ) → levels_in image root (object_of_indirect m) ≢ 2 → strip_of m ≢ 0 → indirect_pointer image root m ≡ no_pointer
    unfolding indirect_choice
    indirect-later m other later =
        ap (λ (b : Bool). indirect_choice m b (strip_of m == 0)) (ne_eqb (levels_in image root (object_of_indirect m)) 2 other) ∙ ap (λ (b : Bool). indirect_choice m false b) (ne_eqb (strip_of m) 0 later)
