use Rattle.std.proofs.Common.{◌≡◌, [], ◌∷◌, ℕ, List, arith, refl, subst}
use Rattle.std.specs.Prelude.{Contains, map}
use Rattle.base.specs.declared.pointer.Pointer.{Pointer}
use Rattle.base.specs.disk.Disk.{bytes_of}
use Rattle.base.specs.formats.Blocks.{Frame}
use Rattle.base.specs.tree.Damages.{IsSoundAt}
use Rattle.base.specs.tree.Places.{IsPlace, Place}
use Rattle.trees.specs.DamageLists.{ListsDamages, block_damage}
use Rattle.trees.specs.Examined.{IsExamined, damages_of}
use Rattle.trees.specs.declared.damages.BlockDamage.{BlockDamage}
use Rattle.trees.specs.declared.damages.Examined.{Examined}
use Rattle.object_maps_clients.proofs.damages.a_sound_tree_is_whole.Goals as goal

-- nothing is listed of a sound tree
none_of_sound : (image : List ℕ) (frame : Frame) (root : Pointer) (list : List BlockDamage) → ListsDamages image frame root list → ((place : Place) → IsPlace place → IsSoundAt image frame root place) → list ≡ []
none_of_sound image frame root list lists sound = go lists.places lists.damaged lists.listed
  where
    go : (places : List Place) → ((place : Place) → Contains places place → IsPlace place × (IsSoundAt image frame root place → ⊥)) → list ≡ map (block_damage image root) places → list ≡ []
    go [] damaged is = is
    go (p ∷ ps) damaged is = absurd (let (there, bad) = damaged p (0, omega arith, refl) in bad (sound p there))

pub unreachable-requires : goal.unreachable-requires
unreachable-requires g c =
    let image : List ℕ = bytes_of (g.D.SectorDevice.disk c.args.device.now).now in
    let told = subst (λ (e : Examined). IsExamined g.D.SectorDevice.keeps_model image c.args.frame.now c.args.root e) c.in-Damaged.is c.in_ok-examined.ensures.examined in
    let lists = subst (λ (e : Examined). ListsDamages image c.args.frame.now c.args.root (damages_of e)) c.in-Damaged.is (c.in_ok-examined.ensures.listed c.requires.keeps) in
    told (none_of_sound image c.args.frame.now c.args.root _ lists c.requires.sound)
