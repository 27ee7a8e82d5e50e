-- The damages that are listed for a pool are those of its image.
use Rattle.std.proofs.Common.{◌≡◌, ◌≢◌, inl, inr, ℕ, zero, suc, List, [], ◌∷◌, length, refl, ap, sym, subst, ◌∙◌, arith}
use Rattle.std.specs.Prelude.{Contains}
use Rattle.base.specs.tree.Mount.{HasPool, IsChainDamaged, MountsTo, frame_of}
use Rattle.base.specs.declared.error.PoolError.{PoolError}
use Rattle.base.specs.declared.error.PoolError.TheVariants as refusal
use Rattle.base.specs.formats.Blocks.{Frame}
use Rattle.base.specs.formats.Uberblocks.{IsActive, Uberblock}
use Rattle.base.specs.history.Contents.{Contents}
use Rattle.base.specs.tree.Damages.{IsSoundAt}
use Rattle.base.specs.tree.Places.{Place, kind_of, pointer_of}
use Rattle.base.specs.tree.Places.Place.{Root, Directory, Top, Indirect, Data}
use Rattle.base.proofs.crash.LogChains.{mounted_not_damaged}
use Rattle.trees.specs.DamageLists.{ListsDamages}
use Rattle.trees.specs.declared.damages.BlockDamage.{BlockDamage}
use Rattle.trees.proofs.DamageLists.{first_listed, listed_damaged}
use Rattle.log_replay.specs.Replays.{IsReplayCause}
use Rattle.object_maps.proofs.BlockReads.{same-kind}
use Rattle.import_replay.specs.ImportRefusals.{IsFindRefusal, IsWalkRefusal}
use Rattle.import_replay.specs.ReadPools.{frame_of_size}
use Rattle.import_replay.proofs.OwnRefusals.{is_sound}
use Rattle.inspections.specs.PoolDamages.{HasDamages, HasTreeDamages}

-- no place of a tree has kind 6
pub not_of_tree : (place : Place) → kind_of place ≡ 6 → ⊥
not_of_tree Root is = omega (arith, is)
not_of_tree (Directory d) is = omega (arith, is)
not_of_tree (Top n) is = omega (arith, is)
not_of_tree (Indirect n) is = omega (arith, is)
not_of_tree (Data n r) is = omega (arith, is)

-- a list of one has that one
only : (d e : BlockDamage) → Contains (d ∷ []) e → e ≡ d
only d e (zero, low, is) = sym is
only d e (suc k, low, is) = absurd (omega (arith, low))

-- the damage of a chain is listed alone
pub log_damage : (image : List ℕ) (kind address : ℕ) (list : List BlockDamage) → IsReplayCause (refusal.Damaged kind address)
    → ((a : ℕ) → refusal.Damaged kind address ≡ refusal.Damaged 6 a → IsChainDamaged image a) → list ≡ record { kind = kind; address = address } ∷ [] → HasDamages image list
log_damage image kind address list (inl none) damaged is = absurd (let no : refusal.Damaged kind address ≡ refusal.NoMemory = none in cc)
log_damage image kind address list (inr (a, same)) damaged is =
    let one : list ≡ record { kind = 6; address = address } ∷ [] = is ∙ ap (λ (k : ℕ). record { kind = k; address = address } ∷ []) (same-kind kind address 6 a same) in (
      (λ none. let long : 1 ≡ 0 = sym (ap (λ (l : List BlockDamage). length l) is) ∙ ap (λ (l : List BlockDamage). length l) none in omega (arith, long)),
      inr (address, one, damaged address (ap (λ (k : ℕ). refusal.Damaged k address) (same-kind kind address 6 a same))),
    )

-- what is listed in the frame of this uberblock is of its pool
pub has_tree_damages : (image now : List ℕ) (size : ℕ) (frame : Frame) (u : Uberblock) (name : List ℕ) (list : List BlockDamage) → length image ≡ size → now ≡ image → HasPool image u name
    → frame ≡ frame_of_size u size → ListsDamages now frame u.root list → HasTreeDamages image list
has_tree_damages image now size frame u name list long same pool framed lists = record {
  u = u;
  name = name;
  pool = pool;
  lists = subst (λ (n : ℕ). ListsDamages image (frame_of_size u n) u.root list) (sym long)
      (subst (λ (b : List ℕ). ListsDamages b (frame_of_size u size) u.root list) same
      (subst (λ (f : Frame). ListsDamages now f u.root list) framed lists));
}

-- an image that mounts contents has no damages
pub mounted_whole : (image : List ℕ) (contents : Contents) (list : List BlockDamage) → MountsTo image contents → HasDamages image list → ⊥
mounted_whole image contents list (u, chain, mounts) (some, inr log) = mounted_not_damaged image contents log.0 (u, chain, mounts) log.2
mounted_whole image contents [] (u, chain, mounts) (some, inl tree) = some refl
mounted_whole image contents (d ∷ others) (u, chain, mounts) (some, inl tree) =
    is_sound image u chain contents mounts d.kind d.address
    (record {
      u = tree.u;
      name = tree.name;
      pool = tree.pool;
      damage = first_listed image (frame_of image tree.u) tree.u.root (d ∷ others) tree.lists d others refl;
    })

-- a search that is refused
pub find_walk : (e : PoolError) → IsFindRefusal e → IsWalkRefusal e
find_walk e (inl is) = subst IsWalkRefusal (sym is) tt
find_walk e (inr (inl is)) = subst IsWalkRefusal (sym is) tt
find_walk e (inr (inr is)) = subst IsWalkRefusal (sym is) tt

-- each damage of a list is one
pub listed_log : (image : List ℕ) (list : List BlockDamage) → HasDamages image list → (d : BlockDamage) → Contains list d → d.kind ≡ 6 → IsChainDamaged image d.address
listed_log image list (some, inl tree) d there log =
    let (place, in_range, kind_is, address_is, bad) = listed_damaged image (frame_of image tree.u) tree.u.root list tree.lists d there in
    absurd (not_of_tree place (kind_is ∙ log))
listed_log image list (some, inr (address, is, chain)) d there log =
    let same : d ≡ record { kind = 6; address = address } = only (record { kind = 6; address = address }) d (subst (λ (l : List BlockDamage). Contains l d) is there) in
    subst (λ (a : ℕ). IsChainDamaged image a) (sym (ap (λ (b : BlockDamage). b.address) same)) chain

pub listed_in_tree : (image : List ℕ) (list : List BlockDamage) → HasDamages image list → (d : BlockDamage) → Contains list d → d.kind ≢ 6
    → (u : Uberblock) × IsActive image u × (place : Place) × (kind_of place ≡ d.kind) × ((pointer_of image u.root place).address ≡ d.address)
    × (IsSoundAt image (frame_of image u) u.root place → ⊥)
listed_in_tree image list (some, inl tree) d there other =
    let (place, in_range, kind_is, address_is, bad) = listed_damaged image (frame_of image tree.u) tree.u.root list tree.lists d there in
    (tree.u, tree.pool.active, place, kind_is, address_is, bad)
listed_in_tree image list (some, inr (address, is, chain)) d there other =
    let same : d ≡ record { kind = 6; address = address } = only (record { kind = 6; address = address }) d (subst (λ (l : List BlockDamage). Contains l d) is there) in
    absurd (other (ap (λ (b : BlockDamage). b.kind) same))
