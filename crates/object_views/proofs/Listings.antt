-- What a list of a pool has is what the image mounts, and why one is refused.
use Rattle.std.proofs.Common.{◌≡◌, ◌⊎◌, inl, inr, ℕ, zero, suc, arith, List, length, Ok, sym, ap, subst, ◌∙◌}
use Rattle.std.specs.Prelude.{IsTrue, unwrap_or}
use Rattle.std.specs.Ordering.{nat_cmp}
use Rattle.std.specs.FinMap.{FinMap}
use Rattle.base.specs.declared.error.PoolError.{PoolError}
use Rattle.base.specs.declared.error.PoolError.TheVariants.{Damaged, NoMemory}
use Rattle.base.specs.declared.names.ObjectId.{ObjectId}
use Rattle.base.specs.disk.Disk.{bytes_of}
use Rattle.base.specs.formats.Blocks.{Frame}
use Rattle.base.specs.formats.Chain.{LogPiece}
use Rattle.base.specs.formats.Geometry.{IsGeometry, block_count}
use Rattle.base.specs.formats.Limits.{object_count}
use Rattle.base.specs.formats.Uberblocks.{Uberblock}
use Rattle.base.specs.history.Contents.{Contents, length_of}
use Rattle.base.specs.tree.Damages.{IsSoundAt}
use Rattle.base.specs.tree.Mount.{HasPool, IsMounted, Mount, MountsTo, apply_records, frame_of, records_above}
use Rattle.base.specs.tree.Places.{pointer_of}
use Rattle.base.specs.tree.Places.Place.{Directory, Root}
use Rattle.base.specs.tree.Tree.{IsTree}
use Rattle.base.proofs.crash.OneMount.{one-active, one-name}
use Rattle.device_model.specs.declared.device.SectorDevice.{Ghosts}
use Rattle.object_maps.specs.BlockReads.{IsLoadRefusal}
use Rattle.contents.specs.Judging.{with_name}
use Rattle.extents.specs.declared.extents.Extents.{Extents}
use Rattle.extents.specs.Patches.{laid_over}
use Rattle.extents.specs.Tables.{name_of, patches_of}
use Rattle.extents.proofs.LaidWithin.{stay_within}
use Rattle.log_replay.specs.AddedRecords.{AreChangesOf, with_changes}
use Rattle.log_replay.specs.Replays.{IsRecordRefused, IsReplayRefusal}
use Rattle.log_replay.proofs.RefusedRecords.{none_reached}
use Rattle.tree_blocks.specs.ListedObjects.{AreWithin, listed}
use Rattle.trees.specs.EntryLists.{AreRising, AreSoundAbove, ListsEntries, TellsDirectory, TellsFirstAbove}
use Rattle.inspections.specs.PoolDamages.{IsOfNoDamage}
use Rattle.object_views.proofs.ChainRecords.{counted-above}
use Rattle.object_views.specs.Listings.{HasEntries, IsListingOf, IsListingOfMount, IsListingRefused, IsOfLengths, IsRecordDamage, IsRefusedOn, IsReplayedOn, ListsContents, TellsListingDamage, records_of}
use Rattle.object_views.specs.Zeros.{HasListedLengths, length_among}
use Rattle.object_views.specs.declared.zeros.ZeroObjects.{ZeroObjects}
use Rattle.object_views.specs.PoolPaths.{ArePathsOf, IsFindingRefused, IsPathsRefusal, uberblock_of}
use Rattle.object_views.specs.declared.listing.ListedPool.{ListedPool}
use Rattle.object_views.specs.declared.paths.PoolPaths.{PoolPaths}
use Rattle.object_views.proofs.AlikeContents.{AreAlike, alike_led, alike_refused}
use Rattle.object_views.proofs.FoundViews.{damage_told, kind_told, not_missing, refused_plainly}
use Rattle.object_views.proofs.ListedLengths.{among-listed, listed-same, listed_rises, listed_within}
use Rattle.object_views.proofs.ObjectViews.{mine, same_chain, sound_place}

-- the records of a chain, on contents with the name of the paths and the lengths of a list
module _ (p : PoolPaths) (entries : List (ObjectId × ℕ)) (rising : AreRising 0 entries object_count) (zeros : ZeroObjects) (has : HasListedLengths entries zeros) where
  abbrev given : Contents
  given = with_name zeros.told.value p.found.name

  lengths_given : (c : Contents) → IsOfLengths p.found.name entries c → (n : ℕ) → length_of c n ≡ length_among entries n
  lengths_given c is n = sym (among-listed c.objects n) ∙ ap (λ (l : List (ObjectId × ℕ)). length_among l n) is.objects_are

  alike : (c : Contents) → IsOfLengths p.found.name entries c → AreAlike given c
  alike c is = record { name_is = sym is.name_is; lengths = λ n. has n ∙ sym (lengths_given c is n) }

  -- take place on all contents of these lengths
  module _ (changes : Extents) (count : ℕ) (are : AreChangesOf (records_of p) given (changes, count)) (list : List (ObjectId × ℕ))
      (lists : AreWithin (laid_over (patches_of changes) given.objects) → list ≡ listed (laid_over (patches_of changes) given.objects)) where
    within : AreWithin (laid_over (patches_of changes) given.objects)
    within = (stay_within changes).1 given.objects (listed_within given.objects entries rising has)

    pub list_rises : AreRising 0 list object_count
    list_rises = subst (λ (l : List (ObjectId × ℕ)). AreRising 0 l object_count) (sym (lists within)) (listed_rises (laid_over (patches_of changes) given.objects) within)

    pub led : (l : ListedPool) → l.name ≡ unwrap_or (name_of changes) p.found.name → l.objects.items ≡ list → (synced : Contents) → IsOfLengths p.found.name entries synced
        → (now : Contents) × (apply_records (records_of p) synced ≡ Ok now) × ListsContents l now
    led l named_so are_so synced is =
        let (now, reaches, same) = alike_led (records_of p) given synced (with_changes changes given) (alike synced is) are.1 in (
          now,
          reaches,
          record {
            name_is = named_so ∙ same.name_is;
            objects_are = are_so ∙ lists within ∙ listed-same (laid_over (patches_of changes) given.objects) now.objects same.lengths within;
          },
        )

  -- or one of them can't on any
  pub stopped : (e : PoolError) → IsReplayRefusal (records_of p) given e → IsRefusedOn p entries e
  stopped e (inl none) = inl none
  stopped e (inr (address, is, refused)) = inr (address, is, λ synced of. alike_refused (records_of p) given synced address (alike synced of) refused)

-- what the directories of an image have
pub has_entries : (image : List ℕ) (u : Uberblock) (frame : Frame) (entries : List (ObjectId × ℕ)) → frame ≡ frame_of image u → AreSoundAbove image frame u.root → ListsEntries image u.root entries
    → AreRising 0 entries object_count → HasEntries image u entries
has_entries image u frame entries framed above each rising = record { above = subst (λ (f : Frame). AreSoundAbove image f u.root) framed above; each = each; rising = rising }

-- and that it is all of each tree, in the frame of the image
pub exact_on : (image : List ℕ) (u : Uberblock) (frame : Frame) (entries : List (ObjectId × ℕ)) → frame ≡ frame_of image u
    → ((objects : FinMap nat_cmp (List ℕ)) → IsTree image frame u.root objects → entries ≡ listed objects)
    → (objects : FinMap nat_cmp (List ℕ)) → IsTree image (frame_of image u) u.root objects → entries ≡ listed objects
exact_on image u frame entries framed exact objects tree = exact objects (subst (λ (f : Frame). IsTree image f u.root objects) (sym framed) tree)

-- where an image mounts, neither the root nor a directory is refused
pub no_first_above : (image : List ℕ) (p : PoolPaths) → ArePathsOf image p → (contents : Contents) → MountsTo image contents → (e : PoolError)
    → TellsFirstAbove image (frame_of image (uberblock_of p)) (uberblock_of p).root e → IsOfNoDamage e
no_first_above image p paths contents mounts e (inl root) kind address is = (root kind address is).2 (sound_place image (uberblock_of p) p.found.name paths.pool contents mounts Root tt)
no_first_above image p paths contents mounts e (inr (sound, (d, low, tells, before))) kind address is =
    (tells kind address is).2 (sound_place image (uberblock_of p) p.found.name paths.pool contents mounts (Directory d) low)

-- a list by the paths of an image
module _ (image : List ℕ) (p : PoolPaths) (paths : ArePathsOf image p) (entries : List (ObjectId × ℕ)) where
  abbrev u : Uberblock
  u = uberblock_of p

  module _ (l : ListedPool) (replayed : IsReplayedOn p entries l) (long : length image ≡ p.geometry) where
    counted : l.records ≡ length (records_of p)
    counted = replayed.records ∙ counted-above image u u.group p.logged.items paths.pool.geometry paths.chain_is

    blocks_are : l.blocks ≡ block_count (length image)
    blocks_are = replayed.blocks ∙ ap block_count (sym long)

    pub is_listing : HasEntries image u entries → IsListingOf image l
    is_listing has = record {
      u = u;
      name = p.found.name;
      chain = p.logged.items;
      entries = entries;
      pool = paths.pool;
      chain_is = paths.chain_is;
      entries_are = has;
      replayed = replayed.replayed;
      guid = replayed.guid;
      group = replayed.group;
      import_number = replayed.import_number;
      blocks = blocks_are;
      records = counted;
    }

  -- where the entries are those of each tree that the image has
  module _ (exact : (objects : FinMap nat_cmp (List ℕ)) → IsTree image (frame_of image u) u.root objects → entries ≡ listed objects) where
    of_mount : (contents : Contents) (mounts : MountsTo image contents) → IsOfLengths p.found.name entries (mine image u p.found.name paths.pool contents mounts).synced
    of_mount contents mounts =
        let m = mine image u p.found.name paths.pool contents mounts in
        record {
          name_is = one-name image u.guid u.group m.found.pool.config_group paths.pool.config_group m.synced.name p.found.name m.found.pool.chosen paths.pool.chosen;
          objects_are = sym (exact m.synced.objects m.found.tree);
        }

    applied : (contents : Contents) (mounts : MountsTo image contents) → apply_records (records_of p) (mine image u p.found.name paths.pool contents mounts).synced ≡ Ok contents
    applied contents mounts =
        let m = mine image u p.found.name paths.pool contents mounts in
        subst (λ (c : List LogPiece). apply_records (records_above u.group c) m.synced ≡ Ok contents) (same_chain image u p.found.name paths.pool contents mounts p.logged.items paths.chain_is) m.applied

    pub lists_contents : (l : ListedPool) → IsReplayedOn p entries l → (contents : Contents) → MountsTo image contents → ListsContents l contents
    lists_contents l replayed contents mounts =
        let (now, reaches, told) = replayed.replayed (mine image u p.found.name paths.pool contents mounts).synced (of_mount contents mounts) in
        let is : now ≡ contents = (let both : Ok now ≡ Ok contents = sym reaches ∙ applied contents mounts in cc) in
        record { name_is = told.name_is ∙ ap (λ (c : Contents). c.name) is; objects_are = told.objects_are ∙ ap (λ (c : Contents). listed c.objects) is }

    pub lists_mount : (l : ListedPool) → IsReplayedOn p entries l → length image ≡ p.geometry → (m : Mount) → IsMounted image m → IsListingOfMount m l
    lists_mount l replayed long m mounted =
        let mounts : MountsTo image m.contents = (mounted.u, mounted.chain, mounted.mounts) in
        let told = lists_contents l replayed m.contents mounts in
        let same : u ≡ mounted.u = one-active image u mounted.u paths.pool.active mounted.mounts.found.pool.active in
        let chains : p.logged.items ≡ mounted.chain = sym (same_chain image u p.found.name paths.pool m.contents mounts p.logged.items paths.chain_is) in
        record {
          name_is = told.name_is;
          objects_are = told.objects_are;
          guid = replayed.guid ∙ ap (λ (v : Uberblock). v.guid) same ∙ mounted.guid;
          group = replayed.group ∙ ap (λ (v : Uberblock). v.group) same ∙ mounted.group;
          import_number = replayed.import_number ∙ ap (λ (v : Uberblock). v.import_number) same ∙ mounted.import_number;
          blocks = blocks_are l replayed long ∙ mounted.blocks;
          records = counted l replayed long ∙ ap (λ (v : Uberblock). length (records_above v.group p.logged.items)) same ∙ ap (λ (c : List LogPiece). length (records_above mounted.u.group c)) chains ∙ mounted.records;
        }

    -- no record of an image that mounts is refused
    pub no_record_refused : (contents : Contents) → MountsTo image contents → (e : PoolError) → IsRefusedOn p entries e → IsOfNoDamage e
    no_record_refused contents mounts e (inl is) kind address told = let f : NoMemory ≡ Damaged kind address = sym is ∙ told in cc
    no_record_refused contents mounts e (inr (at, is, refused)) kind address told =
        none_reached (records_of p) (mine image u p.found.name paths.pool contents mounts).synced contents at
        (refused (mine image u p.found.name paths.pool contents mounts).synced (of_mount contents mounts)) (applied contents mounts)

module _ {Dev : Type 0} (D : Ghosts Dev) where
  -- a list by paths is refused for the root or a directory
  module _ (p : PoolPaths) (old : Dev) (e : PoolError) where
    pub list_refused_above : IsLoadRefusal e → (IsTrue D.keeps_model → TellsFirstAbove (bytes_of (D.disk old).now) (frame_of (bytes_of (D.disk old).now) (uberblock_of p)) (uberblock_of p).root e)
        → IsPathsRefusal D p old TellsListingDamage e
    list_refused_above kind tells = record {
      kind = kind;
      damaged = λ keeps paths k address is. record { u = uberblock_of p; name = p.found.name; pool = paths.pool; damaged = inl (tells keeps) };
    }

    -- or for a record
    pub list_refused_on : (entries : List (ObjectId × ℕ)) → (IsTrue D.keeps_model → HasEntries (bytes_of (D.disk old).now) (uberblock_of p) entries) → IsRefusedOn p entries e → IsPathsRefusal D p old TellsListingDamage e
    list_refused_on entries has (inl is) = refused_plainly D p old TellsListingDamage e (inl is)
    list_refused_on entries has (inr (at, is, refused)) = record {
      kind = inr (inr (6, at, is));
      damaged = λ keeps paths kind address same.
          let both : Damaged 6 at ≡ Damaged kind address = sym is ∙ same in
          let kind_is : kind ≡ 6 = cc in
          let at_is : at ≡ address = cc in
          record {
            u = uberblock_of p;
            name = p.found.name;
            pool = paths.pool;
            damaged = inr (
              kind_is,
              record {
                chain = p.logged.items;
                chain_is = paths.chain_is;
                entries = entries;
                entries_are = has keeps;
                refused = subst (λ (a : ℕ). (synced : Contents) → IsOfLengths p.found.name entries synced → IsRecordRefused (records_of p) synced a) at_is refused;
              },
            );
          };
    }

  -- and so is one that finds them itself
  module _ (old new : Dev) (e : PoolError) where
    pub list_refused_at_paths : IsFindingRefused D old new e → IsListingRefused D old new e
    list_refused_at_paths r = record { kind = r.kind; no_pool = r.no_pool; damaged = λ keeps kind address is. absurd (r.undamaged kind address is); untouched = r.untouched }

    pub list_refused_by_paths : (p : PoolPaths) (mid : Dev) → IsGeometry (D.size old) → (IsTrue D.keeps_model → D.disk mid ≡ D.disk old) → (IsTrue D.keeps_model → ArePathsOf (bytes_of (D.disk old).now) p)
        → IsPathsRefusal D p mid TellsListingDamage e → IsListingRefused D old new e
    list_refused_by_paths p mid sized same paths refused =
        let kinds = kind_told D p old mid same paths TellsListingDamage e refused sized in
        record {
          kind = kinds.0;
          no_pool = λ keeps none. absurd (not_missing D p old mid same paths TellsListingDamage e refused none);
          damaged = damage_told D p old mid same paths TellsListingDamage e refused;
          untouched = λ bad. absurd (kinds.1 bad);
        }

-- a list tells no block of an object's bytes
pub not_data : (image : List ℕ) (e : PoolError) (address : ℕ) → e ≡ Damaged 5 address → TellsListingDamage image e 5 address → ⊥
not_data image e address is told = go told.damaged
  where
    go : TellsFirstAbove image (frame_of image told.u) told.u.root e ⊎ (◌≡◌ {A = ℕ} 5 6 × IsRecordDamage image told.u told.name address) → ⊥
    go (inl (inl root)) = let kind = (root 5 address is).0 in omega (arith, kind)
    go (inl (inr (sound, (d, low, tells, before)))) = let kind = (tells 5 address is).0 in omega (arith, kind)
    go (inr log) = omega (arith, log.0)

-- where the first directory of a sound root isn't sound there is no list, and that directory is told
module _ (image : List ℕ) (u : Uberblock) (name : List ℕ) (pool : HasPool image u name) (bad : IsSoundAt image (frame_of image u) u.root (Directory 0) → ⊥) where
  pub not_listed : (l : ListedPool) → IsListingOf image l → ⊥
  not_listed l is =
      bad (subst (λ (v : Uberblock). IsSoundAt image (frame_of image v) v.root (Directory 0)) (one-active image is.u u is.pool.active pool.active) (is.entries_are.above.1 0 (omega arith)))

  pub first_told : (e : PoolError) (kind address : ℕ) → e ≡ Damaged kind address → IsSoundAt image (frame_of image u) u.root Root → TellsListingDamage image e kind address
      → (kind ≡ 3) × ((pointer_of image u.root (Directory 0)).address ≡ address)
  first_told e kind address is root_sound told = go told.damaged
    where
      same : told.u ≡ u
      same = one-active image told.u u told.pool.active pool.active

      by_directory : TellsDirectory image (frame_of image u) u.root e → (kind ≡ 3) × ((pointer_of image u.root (Directory 0)).address ≡ address)
      by_directory (zero, low, tells, before) = let t = tells kind address is in (sym t.0, t.1)
      by_directory (suc d, low, tells, before) = absurd (bad (before 0 (omega arith)))

      go : TellsFirstAbove image (frame_of image told.u) told.u.root e ⊎ ((kind ≡ 6) × IsRecordDamage image told.u told.name address) → (kind ≡ 3) × ((pointer_of image u.root (Directory 0)).address ≡ address)
      go (inl (inl root)) = absurd ((root kind address is).2 (subst (λ (v : Uberblock). IsSoundAt image (frame_of image v) v.root Root) (sym same) root_sound))
      go (inl (inr (sound, directory))) = by_directory (subst (λ (v : Uberblock). TellsDirectory image (frame_of image v) v.root e) same directory)
      go (inr log) = absurd (bad (subst (λ (v : Uberblock). IsSoundAt image (frame_of image v) v.root (Directory 0)) same (log.1.entries_are.above.1 0 (omega arith))))
