-- A block of the area that is none of a sync's is apart from all that the sync writes. So what the sync has written
-- stands where such a block is written beside it, and so does the tree that its blocks make.
use Rattle.std.proofs.Common.{◌≡◌, ◌⊎◌, inl, inr, ℕ, ◌+◌, ◌-◌, ◌<◌, ◌≤◌, List, ◌++◌, length, take, drop, get_or, Some, None, refl, sym, ◌∙◌, ap, subst, arith, vec_len}
use Rattle.std.specs.Prelude.{◌≢◌, slice_get}
use Rattle.std.specs.Option.{option_map}
use Rattle.std.proofs.lemmas.Bool.{cases_lt}
use Rattle.std.proofs.lemmas.List.{get_or-append_right, get_or-drop, get_or-take, get_or_append_left, length-take-le}
use Rattle.base.specs.kept.Views.{View, view_frame}
use Rattle.base.specs.disk.Disk.{Apart, IsInRange, put}
use Rattle.base.specs.disk.SyncOrder.{DeviceCall}
use Rattle.base.specs.disk.SyncOrder.DeviceCall.{Block, Config, Uberblock, Flush}
use Rattle.base.specs.formats.Fields.{no_pointer, part}
use Rattle.base.specs.formats.Geometry.{IsBlockAddress, block_address, block_count, block_size}
use Rattle.base.specs.kept.PlacedTrees.{HoldsTree}
use Rattle.base.specs.tree.Places.{Place, IsPlace}
use Rattle.base.proofs.disk.Put.{get_or-put_other, length-part, length-put, part-put_apart}
use Rattle.base.proofs.disk.WrittenBlocks.{blocks-apart}
use Rattle.base.proofs.formats.LabelPlaces.{block-label_apart}
use Rattle.base.proofs.tree.PlacedTrees.{holds-placed}
use Rattle.base.proofs.tree.PlannedTrees.{holds-elsewhere}
use Rattle.tree_plans.specs.declared.planner.PlannedBlock.{PlannedBlock}
use Rattle.sync.specs.declared.run.SyncRun.{SyncRun}
use Rattle.sync.specs.Calls.{Target, block_target, target_of}
use Rattle.sync.specs.Made.{BlocksWritten, HasMade, IsTarget, targets_of}
use Rattle.sync.specs.Phases.{MakesTree}
use Rattle.sync.proofs.Targets.{InLabels, IsSound, block_lies, call_in_labels, call_of_target, config_lies, uberblock_lies}

-- a byte of what is put
get_or-put_inside : (place : ℕ) (content bytes : List ℕ) (i : ℕ) → place + length content ≤ length bytes → IsInRange place (length content) i → get_or (put place content bytes) i 0 ≡ get_or content (i - place) 0
get_or-put_inside place content bytes i fits here =
    let short : length (take place bytes) ≡ place = length-take-le place bytes (omega (arith, fits)) in
    get_or-append_right (take place bytes) (content ++ drop (place + length content) bytes) place i 0 short here.0
    ∙ get_or_append_left content (drop (place + length content) bytes) 0 (i - place) (omega (arith, here.0, here.1))

-- a byte is one of a range, or comes before or after it
in_or_out : (place n i : ℕ) → IsInRange place n i ⊎ ((i < place) ⊎ (place + n ≤ i))
in_or_out place n i = elim (cases_lt i place) as (λ _. IsInRange place n i ⊎ ((i < place) ⊎ (place + n ≤ i))) [
  | inl before ↦ inr (inl before)
  | inr from ↦ elim (cases_lt i (place + n)) as (λ _. IsInRange place n i ⊎ ((i < place) ⊎ (place + n ≤ i))) [
    | inl to ↦ inl (from, to)
    | inr after ↦ inr (inr after)
  ]
]

module _ (run : SyncRun) (sound : IsSound run) (address : ℕ) (is : IsBlockAddress (block_count run.geometry) address) (other : (k : ℕ) (b : PlannedBlock) → slice_get run.blocks.items k ≡ Some b → block_address b.index ≢ address) where
  -- the target of a call is apart from it
  pub call_apart : (call : DeviceCall) (t : Target) → InLabels call → target_of run call ≡ Some t → Apart address block_size t.place t.size
  call_apart (Block k) t within at =
      let (b, at_b, below, same) = block_lies run sound k t at in
      subst (λ (u : Target). Apart address block_size u.place u.size) same
      (blocks-apart (block_count run.geometry) address (block_address b.index) is (b.index, below, refl) (λ equal. other k b at_b (sym equal)))
  call_apart (Config label) t within at =
      let lies = (config_lies run label t at).0 in
      block-label_apart run.geometry label t.place t.size address sound.geometry within lies.from lies.to is
  call_apart (Uberblock label) t within at =
      let lies = (uberblock_lies run sound label t at).0 in
      block-label_apart run.geometry label t.place t.size address sound.geometry within lies.from lies.to is
  call_apart Flush t within at = absurd (let no_way : None ≡ Some t = at in cc)

  target_apart : (k : ℕ) (t : Target) → IsTarget (targets_of run) k t → Apart address block_size t.place t.size
  target_apart k t at =
      let (call, stands, is_t) = call_of_target run k t at in
      call_apart call t (call_in_labels run k call stands) is_t

  -- what the sync has written stands, over the base with the block
  pub made_with : (base image content : List ℕ) → length content ≡ block_size → address + length content ≤ length image → HasMade base run image → HasMade (put address content base) run (put address content image)
  made_with base image content long fits made = record {
    size = length-put address content image fits ∙ made.size ∙ sym (length-put address content base within);
    each = λ k t below at. part-put_apart address content image t.place t.size fits (subst (λ (n : ℕ). Apart address n t.place t.size) (sym long) (target_apart k t at)) ∙ made.each k t below at;
    others = λ i out. elim (in_or_out address (length content) i) as (λ _. get_or (put address content image) i 0 ≡ get_or (put address content base) i 0) [
      | inl here ↦ get_or-put_inside address content image i fits here ∙ sym (get_or-put_inside address content base i within here)
      | inr away ↦ get_or-put_other address content image i fits away ∙ made.others i out ∙ sym (get_or-put_other address content base i within away)
    ];
  }
    where
      within : address + length content ≤ length base
      within = omega (arith, fits, made.size)

  -- and its blocks make the same tree, which has no block there
  module _ (base content : List ℕ) (long : length content ≡ block_size) (within : address + block_size ≤ length base) (v : View) (spare : (p : Place) → IsPlace p → v.pointers p ≢ no_pointer → (v.pointers p).address ≢ address)
      (makes : MakesTree base run v) where
    -- the base's bytes there
    abbrev was : List ℕ
    was = part base address block_size

    was_long : length was ≡ block_size
    was_long = length-part address block_size base within

    module _ (image : List ℕ) (size : length image ≡ length (put address content base)) (written : BlocksWritten (put address content base) run.geometry run.blocks.items (vec_len run.blocks) image) where
      base_fits : address + length content ≤ length base
      base_fits = omega (arith, long, within)

      same_size : length image ≡ length base
      same_size = size ∙ length-put address content base base_fits

      fits : address + length was ≤ length image
      fits = omega (arith, was_long, within, same_size)

      -- the image with them
      abbrev before : List ℕ
      before = put address was image

      before_written : BlocksWritten base run.geometry run.blocks.items (vec_len run.blocks) before
      before_written = record {
        each = λ k b below at.
            part-put_apart address was image (block_address b.index) block_size fits
            (subst (λ (n : ℕ). Apart address n (block_address b.index) block_size) (sym was_long) (call_apart (Block k) (block_target b) tt (ap (λ o. option_map block_target o) at))) ∙ written.each k b below at;
        others = λ i from to out. elim (in_or_out address (length was) i) as (λ _. get_or before i 0 ≡ get_or base i 0) [
          | inl here ↦
              let back : address + (i - address) ≡ i = omega (arith, here.0) in
              get_or-put_inside address was image i fits here ∙ get_or-take block_size (drop address base) (i - address) 0 (omega (arith, here.0, here.1, was_long)) ∙ get_or-drop address base (i - address) 0
              ∙ ap (λ (k : ℕ). get_or base k 0) back
          | inr away ↦
              get_or-put_other address was image i fits away ∙ written.others i from to out
              ∙ get_or-put_other address content base i base_fits (subst (λ (n : ℕ). (i < address) ⊎ (address + n ≤ i)) (was_long ∙ sym long) away)
        ];
      }

      tree_there : HoldsTree image (view_frame run.geometry v) v.pointers v.synced.objects
      tree_there =
          let holds = makes before (length-put address was image fits ∙ same_size) before_written in
          holds-elsewhere before image (view_frame run.geometry v) (view_frame run.geometry v) refl refl (omega arith) (omega arith) v.pointers v.synced.objects holds
          (λ p in_range some. elim (holds-placed before (view_frame run.geometry v) v.pointers v.synced.objects holds p in_range) as (λ _. part image (v.pointers p).address block_size ≡ part before (v.pointers p).address block_size) [
            | inl none ↦ absurd (some none)
            | inr area ↦ sym (part-put_apart address was image (v.pointers p).address block_size fits
                (subst (λ (n : ℕ). Apart address n (v.pointers p).address block_size) (sym was_long)
                (blocks-apart (block_count run.geometry) address (v.pointers p).address is area (λ equal. spare p in_range some (sym equal)))))
          ])

    pub tree_with : MakesTree (put address content base) run v
    tree_with image size written = tree_there image size written
