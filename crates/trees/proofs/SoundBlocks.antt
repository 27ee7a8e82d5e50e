-- A block that was tested is sound at its place, or its refusal tells that it isn't.
use Rattle.std.proofs.Common.{◌≡◌, ◌≢◌, ℕ, List, ap, sym, subst, ◌∙◌, inl, inr}
use Rattle.base.specs.declared.error.PoolError.{PoolError}
use Rattle.base.specs.declared.pointer.Pointer.{Pointer}
use Rattle.base.specs.formats.Blocks.{Frame}
use Rattle.base.specs.formats.Fields.{no_pointer}
use Rattle.base.specs.tree.Damages.{IsSoundAt, IsWellFormed}
use Rattle.base.specs.tree.Places.{Place, kind_of, number_of_place, pointer_of}
use Rattle.base.specs.tree.Places.Place.{Root, Directory, Top, Indirect, Data}
use Rattle.base.specs.tree.Tree.{OpensAt}
use Rattle.object_maps.specs.BlockReads.{TellsBlock}
use Rattle.trees.specs.ObjectPaths.{TellsPlace}
use Rattle.trees.specs.SoundBlocks.{IsFormed, TellsUnsound, length_at}
use Rattle.trees.proofs.WalkDamages.{sound_at}

-- what is well formed by the length that the directory's entry gives
module _ (image : List ℕ) (frame : Frame) (root : Pointer) where
  formed_of : (place : Place) (payload : List ℕ) → IsFormed frame (length_at image root place) place payload → IsWellFormed image frame root place payload
  formed_of Root payload formed = formed
  formed_of (Directory d) payload formed = formed
  formed_of (Top n) payload formed = formed
  formed_of (Indirect m) payload formed = formed
  formed_of (Data m k) payload formed = formed

  of_formed : (place : Place) (payload : List ℕ) → IsWellFormed image frame root place payload → IsFormed frame (length_at image root place) place payload
  of_formed Root payload formed = formed
  of_formed (Directory d) payload formed = formed
  of_formed (Top n) payload formed = formed
  of_formed (Indirect m) payload formed = formed
  of_formed (Data m k) payload formed = formed

  module _ (place : Place) (pointer : Pointer) (size : ℕ) (at : pointer_of image root place ≡ pointer) (long : length_at image root place ≡ size) where
    -- a block that was taken
    pub block_sound : (payload : List ℕ) → OpensAt image frame place pointer payload → IsFormed frame size place payload → IsSoundAt image frame root place
    block_sound payload opens formed =
        sound_at image frame root place pointer payload at opens (formed_of place payload (subst (λ (s : ℕ). IsFormed frame s place payload) (sym long) formed))

    -- and one that was refused
    pub tells_place : (e : PoolError) → pointer ≢ no_pointer → TellsUnsound image frame size place pointer e → TellsPlace image frame root place e
    tells_place e named tells = λ kind address d.
        let t = tells kind address d in
        (t.0, ap (λ (p : Pointer). p.address) at ∙ t.1.0, bad t.1.1)
      where
        bad : ((payload : List ℕ) → OpensAt image frame place pointer payload → IsFormed frame size place payload → ⊥) → IsSoundAt image frame root place → ⊥
        bad none_opens (inl none) = named (sym at ∙ none)
        bad none_opens (inr block) =
            none_opens block.0 (subst (λ (p : Pointer). OpensAt image frame place p block.0) at block.1)
            (subst (λ (s : ℕ). IsFormed frame s place block.0) long (of_formed place block.0 block.2))

-- a block that is not there is not sound
pub missing_unsound : (image : List ℕ) (frame : Frame) (size : ℕ) (place : Place) (pointer : Pointer) (e : PoolError) → TellsBlock image frame (kind_of place) (number_of_place place) pointer e
    → TellsUnsound image frame size place pointer e
missing_unsound image frame size place pointer e tells = λ kind address d. let t = tells kind address d in (t.0, (t.1.0, λ payload opens formed. t.1.1 payload opens))
