-- A block of a place that was tested is sound there, or its refusal tells that none is.
use Rattle.std.proofs.Common.{◌≡◌, ◌≢◌, ◌⊎◌, ◌-◌, ◌<◌, ◌≤◌, ℕ, List, [], min, length, drop, replicate, ap, sym, subst, ◌∙◌, arith, inl, inr}
use Rattle.std.proofs.lemmas.Bool.{cases_lt}
use Rattle.std.proofs.lemmas.List.{length-drop, drop_all}
use Rattle.base.specs.declared.error.PoolError.{PoolError}
use Rattle.base.specs.declared.error.PoolError.TheVariants.{Damaged}
use Rattle.base.specs.declared.pointer.Pointer.{Pointer}
use Rattle.base.specs.formats.Blocks.{Frame, Opens}
use Rattle.base.specs.formats.Fields.{no_pointer}
use Rattle.base.specs.formats.Limits.{record_size}
use Rattle.base.specs.tree.Damages.{IsSoundAt, IsWellFormed}
use Rattle.base.specs.tree.Places.{Place, kind_of, number_of_place, pointer_of}
use Rattle.base.specs.tree.Tree.{OpensAt}
use Rattle.object_maps.specs.BlockReads.{TellsBlock}
use Rattle.object_maps.proofs.BlockReads.{same-address, same-kind}
use Rattle.trees.specs.ObjectPaths.{TellsPlace}

-- a pointer names the block of one payload
pub one_payload : (image : List ℕ) (frame : Frame) (kind number : ℕ) (pointer : Pointer) (a b : List ℕ) → Opens image frame kind number pointer a → Opens image frame kind number pointer b → a ≡ b
one_payload image frame kind number pointer a b x y = sym x.block.payload_is ∙ y.block.payload_is

-- a place with its block, and what the block holds well formed
pub tested : (image : List ℕ) (frame : Frame) (root : Pointer) (place : Place) (pointer : Pointer) (payload : List ℕ) → pointer_of image root place ≡ pointer → OpensAt image frame place pointer payload
    → IsWellFormed image frame root place payload → IsSoundAt image frame root place
tested image frame root place pointer payload at opens formed = inr (payload, subst (λ (p : Pointer). OpensAt image frame place p payload) (sym at) opens, formed)

module _ (image : List ℕ) (frame : Frame) (root : Pointer) (place : Place) (pointer : Pointer) (at : pointer_of image root place ≡ pointer) (named : pointer ≢ no_pointer) where
  unsound : ((payload : List ℕ) → OpensAt image frame place pointer payload → IsWellFormed image frame root place payload → ⊥) → IsSoundAt image frame root place → ⊥
  unsound bad (inl none) = named (sym at ∙ none)
  unsound bad (inr block) = bad block.0 (subst (λ (p : Pointer). OpensAt image frame place p block.0) at block.1) block.2

  -- the block is not there
  pub tells_missing : (e : PoolError) → TellsBlock image frame (kind_of place) (number_of_place place) pointer e → TellsPlace image frame root place e
  tells_missing e tells = λ kind address d.
      let t = tells kind address d in
      (t.0, ap (λ (p : Pointer). p.address) at ∙ t.1.0, unsound (λ payload opens formed. t.1.1 payload opens))

  -- or its form is none
  pub tells_formless : (payload : List ℕ) (e : PoolError) → OpensAt image frame place pointer payload → (IsWellFormed image frame root place payload → ⊥) → e ≡ Damaged (kind_of place) pointer.address
      → TellsPlace image frame root place e
  tells_formless payload e opens not is = λ kind address d.
      let told : Damaged (kind_of place) pointer.address ≡ Damaged kind address = sym is ∙ d in (
        same-kind (kind_of place) pointer.address kind address told,
        ap (λ (p : Pointer). p.address) at ∙ same-address (kind_of place) pointer.address kind address told,
        unsound (λ other opened formed. not (subst (λ (l : List ℕ). IsWellFormed image frame root place l)
            (one_payload image frame (kind_of place) (number_of_place place) pointer other payload opened opens) formed)),
      )

-- past the object's end the payload of a record is zeros
pub padded : (payload : List ℕ) (past count : ℕ) → length payload ≡ 4032 → count ≡ min past 4032 → drop count payload ≡ replicate (length (drop count payload)) 0
    → drop past payload ≡ replicate (record_size - past) 0
padded payload past count long is zeros = go (cases_lt past 4032)
  where
    go : (past < 4032) ⊎ (4032 ≤ past) → drop past payload ≡ replicate (record_size - past) 0
    go (inl low) =
        let e : past ≡ count = omega (arith, is, low) in
        let size : length (drop count payload) ≡ record_size - past = omega (arith, length-drop count payload, long, e) in
        ap (λ (k : ℕ). drop k payload) e ∙ zeros ∙ ap (λ (k : ℕ). replicate k 0) size
    go (inr high) =
        let none : record_size - past ≡ 0 = omega (arith, high) in
        drop_all past payload (omega (arith, long, high)) ∙ sym (ap (λ (k : ℕ). replicate k 0) none)

pub padded_zeros : (payload : List ℕ) (past count : ℕ) → length payload ≡ 4032 → count ≡ min past 4032 → drop past payload ≡ replicate (record_size - past) 0
    → drop count payload ≡ replicate (length (drop count payload)) 0
padded_zeros payload past count long is padding = go (cases_lt past 4032)
  where
    go : (past < 4032) ⊎ (4032 ≤ past) → drop count payload ≡ replicate (length (drop count payload)) 0
    go (inl low) =
        let e : count ≡ past = omega (arith, is, low) in
        let size : record_size - past ≡ length (drop count payload) = omega (arith, length-drop count payload, long, e) in
        ap (λ (k : ℕ). drop k payload) e ∙ padding ∙ ap (λ (k : ℕ). replicate k 0) size
    go (inr high) =
        let e : drop count payload ≡ [] = drop_all count payload (omega (arith, long, is, high)) in
        e ∙ sym (ap (λ (l : List ℕ). replicate (length l) 0) e)
