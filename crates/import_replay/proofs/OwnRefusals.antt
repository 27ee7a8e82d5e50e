-- Of a disk that its pool alone wrote the pool is found, its tree and its chain have no damage, and there is room for
-- its import.
use Rattle.std.proofs.Common.{◌≡◌, ◌≢◌, inl, inr, ⊎_elim, ℕ, List, Some, length, take, refl, sym, ◌∙◌, ap, subst, arith}
use Rattle.std.specs.Prelude.{Contains, slice_get}
use Rattle.std.specs.List.{flat_map}
use Rattle.base.specs.declared.error.PoolError.{PoolError}
use Rattle.base.specs.tree.Mount.{HasNoPool, IsChainOf, IsTreeDamaged, Mounts, MountsTo, frame_of, header_of}
use Rattle.base.specs.kept.Own.{IsOwnImage, IsOwnWith}
use Rattle.base.specs.kept.Views.{IsFoundAs, Logged, view_frame}
use Rattle.base.specs.declared.pointer.Pointer.{Pointer}
use Rattle.base.specs.disk.Fairness.{passes_check}
use Rattle.base.specs.disk.Disk.{Disk, Moment, bytes_of, certain, disk_size, settled}
use Rattle.base.specs.formats.Chain.{LogPiece, addresses_of}
use Rattle.base.specs.formats.Geometry.{block_count}
use Rattle.base.specs.formats.Labels.{HasNoConfig}
use Rattle.base.specs.formats.Uberblocks.{IsActive, Uberblock}
use Rattle.base.specs.history.Contents.{Contents}
use Rattle.base.specs.tree.Damages.{IsFirstDamage}
use Rattle.base.specs.tree.Places.{IsInTree, Place}
use Rattle.base.specs.tree.Places.Place.{Root}
use Rattle.base.proofs.crash.CrashRule.{own_mounts}
use Rattle.base.proofs.crash.CutPlaces.{chain_logged}
use Rattle.base.proofs.crash.FoundViews.{rest_found}
use Rattle.base.proofs.crash.LogChains.{mounted_not_damaged}
use Rattle.base.proofs.crash.LogFronts.{at-take}
use Rattle.base.proofs.crash.ImportPlaces.{found-places}
use Rattle.base.proofs.crash.LogRoom.{import_fits}
use Rattle.base.proofs.crash.OneMount.{one-active, one-chain}
use Rattle.base.proofs.disk.Fairness.{fair_settled}
use Rattle.base.proofs.disk.Moments.{bytes_may_be_left}
use Rattle.base.proofs.disk.Regions.{flushed_clean}
use Rattle.base.proofs.tree.PlacedTrees.{in-tree}
use Rattle.base.proofs.tree.SoundTrees.{no_damage}
use Rattle.import_replay.specs.ImportRefusals.{FindsOwn, LacksImportRoom, IsReason}

module _ (image : List ℕ) (u : Uberblock) (chain : List LogPiece) (contents : Contents) (mounts : Mounts image u chain contents) where
  pub has_pool : HasNoPool image → ⊥
  has_pool (inl none) = let active = mounts.found.pool.active in none active.label u active.in_range active.stands
  has_pool (inr (v, active, none)) =
      let same : v ≡ u = one-active image v u active mounts.found.pool.active in
      let chosen = mounts.found.pool.chosen in
      subst (λ (w : Uberblock). HasNoConfig image w.guid w.group) same none chosen.label mounts.found.pool.config_group mounts.synced.name chosen.in_range chosen.not_above chosen.stands

  pub is_sound : (kind address : ℕ) → IsTreeDamaged image kind address → ⊥
  is_sound kind address damaged =
      let same : damaged.u ≡ u = one-active image damaged.u u damaged.pool.active mounts.found.pool.active in
      no_damage image (frame_of image u) u.root mounts.synced.objects mounts.found.tree kind address
      (subst (λ (w : Uberblock). IsFirstDamage image (frame_of image w) w.root kind address) same damaged.damage)

-- a disk that its pool alone wrote has room for an import, whose records don't name the pool
module _ (disk : Disk) (created guid : ℕ) (contents : Contents) (own : IsOwnWith disk created guid contents) where
  abbrev image : List ℕ
  image = bytes_of disk.now

  abbrev still : Moment
  still = settled image disk.now

  here : IsOwnImage (disk_size disk) created image disk.now guid contents
  here = own.left.each image (bytes_may_be_left disk.now) own.left.bytes.fair

  found : IsFoundAs image here.flushed here.v
  found = rest_found created still image (bytes_may_be_left still) (fair_settled (passes_check (disk_size disk)) created image disk.now own.left.bytes.fair) here.flushed here.v here.rest

  abbrev front : List Logged
  front = take found.count here.v.logged

  abbrev logged : List LogPiece
  logged = found.cut.chain

  -- an active uberblock is the view's, and its chain has all records of the log
  uberblock_is : (u : Uberblock) → IsActive image u → u ≡ here.v.u
  uberblock_is u active = one-active image u here.v.u active found.found.pool.active

  chain_is : (u : Uberblock) (chain : List LogPiece) → IsActive image u → IsChainOf image u chain → chain ≡ logged
  chain_is u chain active is =
      let of_view : IsChainOf image here.v.u chain = subst (λ (w : Uberblock). IsChainOf image w chain) (uberblock_is u active) is in
      one-chain image (frame_of image here.v.u) here.v.u.import_number (header_of here.v.u) chain logged of_view found.found.chain_is

  -- no block of it is spare
  not_logged : (address : ℕ) → ((i : ℕ) (l : Logged) → slice_get here.v.logged i ≡ Some l → l.block.address ≢ address) → Contains (flat_map addresses_of logged) address → ⊥
  not_logged address none there =
      let (i, l, at, same) = chain_logged here.v.u.version front found.cut address there in none i l (at-take found.count here.v.logged i l at).1 same

  -- its free blocks suffice for the places that its records write
  has_room : LacksImportRoom image → ⊥
  has_room full =
      let laid = here.rest.laid in
      let same : full.u ≡ here.v.u = uberblock_is full.u full.mounts.found.pool.active in
      let root : full.u.root ≡ here.v.pointers Root = ap (λ (w : Uberblock). w.root) same ∙ sym laid.view.root in
      let chains : full.chain ≡ logged = chain_is full.u full.chain full.mounts.found.pool.active full.mounts.found.chain_is in
      let fits = import_fits (block_count (disk_size disk)) here.v full.spare here.room (λ address in_area spare.
      full.all address in_area (λ used. ⊎_elim
      (λ in_tree.
      let there : IsInTree image (here.v.pointers Root) address = subst (λ (r : Pointer). IsInTree image r address) root in_tree in
      let (place, in_range, names, some) = in-tree image (view_frame (disk_size disk) here.v) here.v.pointers here.v.synced.objects laid.firm.tree.holds address there in
      spare.not_in_tree place in_range some names)
      (λ is_logged. not_logged address spare.not_logged (subst (λ (bs : List LogPiece). Contains (flat_map addresses_of bs) address) chains is_logged)) used)) found.count in
      let places = ap (λ (ps : List Place). length ps)
      (found-places (disk_size disk) image here.flushed here.v found laid.firm.tree.holds laid.view.root full.u full.synced full.chain full.found) in
      omega (arith, fits, full.few, places)

pub finds_own : (disk : Disk) (e : PoolError) → IsReason (bytes_of disk.now) e → FindsOwn disk e
finds_own disk e reason created guid contents own =
    let flushed : Disk = certain (bytes_of disk.now) disk in
    let same : bytes_of flushed.now ≡ bytes_of disk.now = (flushed_clean disk flushed refl).1 in
    let (u, chain, mounts) = subst (λ (image : List ℕ). MountsTo image contents) same (own_mounts flushed created guid contents own) in
    record {
      not_missing = λ is. has_pool (bytes_of disk.now) u chain contents mounts (reason.no_pool is);
      not_full = λ is. has_room flushed created guid contents own (subst (λ (image : List ℕ). LacksImportRoom image) (sym same) (reason.no_space is));
      not_damaged = λ kind address is. ⊎_elim (is_sound (bytes_of disk.now) u chain contents mounts kind address)
          (λ refused. mounted_not_damaged (bytes_of disk.now) contents address (u, chain, mounts) refused.1) (reason.damaged kind address is);
    }
