-- Blocks of the area that are written one after another: each stands, and every other block is the same.
use Rattle.std.proofs.Common.{◌≡◌, ℕ, zero, suc, Bool, true, ◌+◌, ◌*◌, ◌<◌, ◌≤◌, List, [], ◌∷◌, length, refl, ap, sym, subst, ◌∙◌, arith, inl, inr}
use Rattle.std.specs.Prelude.{Some, None, ◌≢◌, slice_get}
use Rattle.std.proofs.lemmas.Bool.{cases_lt}
use Rattle.std.specs.Ordering.{nat_cmp}
use Rattle.std.specs.FinMap as map
use Rattle.std.specs.FinMap.{FinMap}
use Rattle.base.specs.declared.pointer.Pointer.{Pointer}
use Rattle.base.specs.formats.Limits.{object_count}
use Rattle.base.specs.formats.Fields.{part}
use Rattle.base.specs.formats.Geometry.{block_area, block_size, block_address, IsBlockAddress}
use Rattle.base.specs.formats.Blocks.{Frame}
use Rattle.base.specs.disk.Disk.{put, Apart}
use Rattle.base.specs.tree.Places.{Place, IsPlace, IsInTree}
use Rattle.base.specs.tree.Places.Place.{Root}
use Rattle.base.specs.kept.PlacedTrees.{HoldsTree, ArePlaced}
use Rattle.base.specs.kept.PlannedTrees.{NewBlock, IsTreePlan, SameBlock, IsBlockWritten}
pub use Rattle.base.specs.kept.Stored.{AreBlocks, IsUnwritten, LeavesTree}
use Rattle.base.proofs.disk.Put.{length-put, part-put_same, part-put_apart}
use Rattle.base.proofs.tree.PlacedTrees.{holds-placed, told-in_tree}
use Rattle.base.proofs.tree.PlannedTrees.{planned-holds}

-- the bytes with these blocks written over them, the first one first
abbrev pub put_blocks : List NewBlock → List ℕ → List ℕ
put_blocks [] image = image
put_blocks (b ∷ bs) image = put_blocks bs (put b.address b.content image)

-- two blocks at different addresses have no byte in common
pub blocks-apart : (blocks a b : ℕ) → IsBlockAddress blocks a → IsBlockAddress blocks b → a ≢ b → Apart a block_size b block_size
blocks-apart blocks a b a_in b_in differ =
    let a_at : a ≡ block_address a_in.0 = a_in.2 in
    let b_at : b ≡ block_address b_in.0 = b_in.2 in
    elim (cases_lt a b) as (λ _. Apart a block_size b block_size) [
      | inl below ↦ inl (omega (arith, below, a_at, b_at))
      | inr above ↦ inr (omega (arith, above, differ, a_at, b_at))
    ]

-- free addresses, of which none is in the old tree, are apart from it
pub free-leaves_tree : (image : List ℕ) (frame : Frame) (old : Place → Pointer) (before : FinMap nat_cmp (List ℕ)) (is_free : ℕ → Bool) (bs : List NewBlock) → HoldsTree image frame old before
    → ((address : ℕ) → is_free address ≡ true → IsInTree image (old Root) address → ⊥) → ((i : ℕ) (b : NewBlock) → slice_get bs i ≡ Some b → is_free b.address ≡ true) → LeavesTree bs old
free-leaves_tree image frame old before is_free bs holds not_in_tree free place in_range some i b at same =
    not_in_tree b.address (free i b at) (subst (λ (a : ℕ). IsInTree image (old Root) a) (sym same) (told-in_tree image frame old before holds place in_range some))

module _ (blocks : ℕ) where
  rest-are : (b : NewBlock) (bs : List NewBlock) → AreBlocks blocks (b ∷ bs) → AreBlocks blocks bs
  rest-are b bs are = record {
    in_area = λ i c at. are.in_area (suc i) c at;
    whole = λ i c at. are.whole (suc i) c at;
    apart = λ i j c d at_i at_j same. let e = are.apart (suc i) (suc j) c d at_i at_j same in omega (arith, e);
  }

  -- a block lies within an image that has the whole area
  block-fits : (address size : ℕ) → IsBlockAddress blocks address → block_area + block_size * blocks ≤ size → address + block_size ≤ size
  block-fits address size is room =
      let at : address ≡ block_address is.0 = is.2 in
      let below : is.0 < blocks = is.1 in
      omega (arith, at, below, room)

  first-fits : (b : NewBlock) (bs : List NewBlock) (image : List ℕ) → AreBlocks blocks (b ∷ bs) → block_area + block_size * blocks ≤ length image → b.address + length b.content ≤ length image
  first-fits b bs image are room =
      let long = are.whole zero b refl in
      let fits = block-fits b.address (length image) (are.in_area zero b refl) room in
      omega (arith, long, fits)

  -- a block at another address is as before
  pub others-same : (bs : List NewBlock) (image : List ℕ) (address : ℕ) → AreBlocks blocks bs → block_area + block_size * blocks ≤ length image → IsBlockAddress blocks address
      → IsUnwritten bs address → part (put_blocks bs image) address block_size ≡ part image address block_size
  others-same [] image address are room is other = refl
  others-same (b ∷ bs) image address are room is other =
      let fits = first-fits b bs image are room in
      let long = length-put b.address b.content image fits in
      let side : Apart b.address (length b.content) address block_size = subst (λ (n : ℕ). Apart b.address n address block_size) (sym (are.whole zero b refl))
      (blocks-apart blocks b.address address (are.in_area zero b refl) is (other zero b refl)) in
      others-same bs (put b.address b.content image) address (rest-are b bs are) (omega (arith, long, room)) is (λ i c at. other (suc i) c at)
      ∙ part-put_apart b.address b.content image address block_size fits side

  -- each of the blocks has its bytes
  stands-in : (bs : List NewBlock) (image : List ℕ) (i : ℕ) (b : NewBlock) → AreBlocks blocks bs → block_area + block_size * blocks ≤ length image → slice_get bs i ≡ Some b
      → part (put_blocks bs image) b.address block_size ≡ b.content
  stands-in [] image i b are room at = absurd (let no_way : None ≡ Some b = at in cc)
  stands-in (c ∷ bs) image zero b are room at =
      let fits = first-fits c bs image are room in
      let long = length-put c.address c.content image fits in
      let is : c ≡ b = cc in
      subst (λ (d : NewBlock). part (put_blocks (c ∷ bs) image) d.address block_size ≡ d.content) is
      (others-same bs (put c.address c.content image) c.address (rest-are c bs are) (omega (arith, long, room)) (are.in_area zero c refl)
      (λ j d at_j same. let e = are.apart (suc j) zero d c at_j refl same in omega (arith, e))
      ∙ ap (λ (n : ℕ). part (put c.address c.content image) c.address n) (sym (are.whole zero c refl)) ∙ part-put_same c.address c.content image fits)
  stands-in (c ∷ bs) image (suc i) b are room at =
      let long = length-put c.address c.content image (first-fits c bs image are room) in
      stands-in bs (put c.address c.content image) i b (rest-are c bs are) (omega (arith, long, room)) at

  pub new-stand : (bs : List NewBlock) (image : List ℕ) → AreBlocks blocks bs → block_area + block_size * blocks ≤ length image
      → (i : ℕ) (b : NewBlock) → slice_get bs i ≡ Some b → IsBlockWritten (put_blocks bs image) blocks b
  new-stand bs image are room i b at = record { in_area = are.in_area i b at; stands = stands-in bs image i b are room at }

  -- the blocks of a tree that has none of these addresses are as before
  pub tree-same : (old : Place → Pointer) (bs : List NewBlock) (image : List ℕ) → ArePlaced blocks old → LeavesTree bs old → AreBlocks blocks bs → block_area + block_size * blocks ≤ length image
      → (place : Place) → IsPlace place → SameBlock image (put_blocks bs image) (old place)
  tree-same old bs image placed leaves are room place in_range some = elim (placed place in_range) as (λ _. part (put_blocks bs image) (old place).address block_size ≡ part image (old place).address block_size) [
    | inl none ↦ absurd (some none)
    | inr is ↦ others-same bs image (old place).address are room is (leaves place in_range some)
  ]

-- a planned tree is held once its blocks are written, where none of them is at an address of the old tree
pub planned-written : (image : List ℕ) (frame grown : Frame) (bs : List NewBlock) (old new : Place → Pointer) (before after : FinMap nat_cmp (List ℕ))
    → grown.guid ≡ frame.guid → grown.blocks ≡ frame.blocks → frame.group ≤ grown.group → frame.version ≤ grown.version → HoldsTree image frame old before → IsTreePlan bs grown old new before after
    → ((n : ℕ) → object_count ≤ n → map.get after n ≡ None) → AreBlocks grown.blocks bs → LeavesTree bs old → block_area + block_size * grown.blocks ≤ length image
    → HoldsTree (put_blocks bs image) grown new after
planned-written image frame grown bs old new before after guid_same blocks_same later newer holds planned no_others are leaves room =
    let placed : ArePlaced grown.blocks old = subst (λ (n : ℕ). ArePlaced n old) (sym blocks_same) (holds-placed image frame old before holds) in
    planned-holds image (put_blocks bs image) frame grown guid_same blocks_same later newer bs (new-stand grown.blocks bs image are room) old new before after holds planned
    (λ place in_range _. tree-same grown.blocks old bs image placed leaves are room place in_range) no_others
