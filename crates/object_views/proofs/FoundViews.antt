-- What a search for paths, or a view by them, says of the image if it is refused, and how a view that is made stands for
-- it.
use Rattle.std.proofs.Common.{◌≡◌, ◌≢◌, ◌≤◌, ◌⊎◌, ◌∙◌, inl, inr, ℕ, List, [], Option, refl, sym, ap, subst, arith}
use Rattle.std.specs.Prelude.{IfErr, IsTrue, Result, Ok, Err, length}
use Rattle.base.specs.declared.error.PoolError.{PoolError}
use Rattle.base.specs.declared.error.PoolError.TheVariants.{BadGeometry, Damaged, NoMemory, NoPool, Read}
use Rattle.base.specs.disk.Disk.{Disk, bytes_of}
use Rattle.base.specs.formats.Blocks.{Frame}
use Rattle.base.specs.formats.Geometry.{IsGeometry, block_address, block_count}
use Rattle.base.specs.tree.Mount.{HasNoPool, MountsTo, frame_of, records_above}
use Rattle.base.proofs.formats.Geometry.{blocks-end}
use Rattle.device_model.specs.declared.device.SectorDevice.{Ghosts}
use Rattle.intent_log.specs.Chains.{IsChainRefusal}
use Rattle.object_maps.specs.BlockReads.{IsLoadRefusal}
use Rattle.object_maps.specs.Cached.{IsReadRefusal}
use Rattle.tree_blocks.specs.declared.forms.Entry.{Entry}
use Rattle.import_replay.specs.ImportRefusals.{IsFindRefusal, IsWalkRefusal}
use Rattle.import_replay.specs.ReadPools.{frame_with}
use Rattle.base.specs.history.Contents.{Contents}
use Rattle.inspections.specs.PoolDamages.{IsOfNoDamage}
use Rattle.inspections.specs.Refused.{IsInspectionRefusal}
use Rattle.object_views.proofs.ObjectViews.{undamaged}
use Rattle.object_views.specs.ObjectViews.{IsStoredEntry, IsViewingRefused, TellsOwnDamage, length_of_entry}
use Rattle.object_views.specs.OwnRecords.{IsOwnRefusal, IsOwnRefused, own_of_records}
use Rattle.object_views.specs.PoolPaths.{AreFoundOn, ArePathsOf, IsFindingRefused, IsPathsRefusal, uberblock_of}
use Rattle.object_views.specs.declared.paths.PoolPaths.{PoolPaths}

-- the blocks lie on the device that the paths were found on
pub fits_on : (size : ℕ) (p : PoolPaths) (frame : Frame) → AreFoundOn size p → frame ≡ frame_with (uberblock_of p) (block_count p.geometry) → block_address frame.blocks ≤ size
fits_on size p frame found framed =
    let end = blocks-end size found.geometry in
    let blocks : frame.blocks ≡ block_count size = ap (λ (f : Frame). f.blocks) framed ∙ ap block_count found.size_is in
    rw blocks (omega (arith, end))

-- and the frame is that of the image
pub framed_on : (image : List ℕ) (size : ℕ) (p : PoolPaths) (frame : Frame) → AreFoundOn size p → length image ≡ size → frame ≡ frame_with (uberblock_of p) (block_count p.geometry) → frame ≡ frame_of image (uberblock_of p)
framed_on image size p frame found long framed = framed ∙ ap (λ (s : ℕ). frame_with (uberblock_of p) (block_count s)) (found.size_is ∙ sym long)

module _ {Dev : Type 0} (D : Ghosts Dev) where
  -- a search for paths is refused by size
  pub refused_by_size : (old : Dev) (e : PoolError) → e ≡ BadGeometry → (IsGeometry (D.size old) → ⊥) → IsFindingRefused D old old e
  refused_by_size old e is not_sized = record {
    kind = subst (IsInspectionRefusal (D.size old)) (sym is) not_sized;
    no_pool = λ keeps no. absurd (let f : BadGeometry ≡ NoPool = sym is ∙ no in cc);
    undamaged = λ kind address no. (let f : BadGeometry ≡ Damaged kind address = sym is ∙ no in cc);
    untouched = λ again. refl;
  }

  walk_kind : (size : ℕ) (e : PoolError) → IsGeometry size → IsWalkRefusal e → IsInspectionRefusal size e × (e ≢ BadGeometry)
  walk_kind size NoMemory sized walk = ((sized, tt), λ is. let no : NoMemory ≡ BadGeometry = is in cc)
  walk_kind size Read sized walk = ((sized, tt), λ is. let no : Read ≡ BadGeometry = is in cc)
  walk_kind size NoPool sized walk = ((sized, tt), λ is. let no : NoPool ≡ BadGeometry = is in cc)
  walk_kind size (Damaged kind address) sized walk = ((sized, tt), λ is. let no : Damaged kind address ≡ BadGeometry = is in cc)
  walk_kind size _ sized walk = absurd walk

  searched : (old new : Dev) (e : PoolError) → IsGeometry (D.size old) → IsWalkRefusal e → (IsTrue D.keeps_model → e ≡ NoPool → HasNoPool (bytes_of (D.disk old).now)) → IsOfNoDamage e → IsFindingRefused D old new e
  searched old new e sized walk none no_damage =
      let kinds = walk_kind (D.size old) e sized walk in
      record { kind = kinds.0; no_pool = none; undamaged = no_damage; untouched = λ bad. absurd (kinds.1 bad) }

  -- or while the labels are read
  pub refused_at_labels : (old new : Dev) (e : PoolError) → IsGeometry (D.size old) → IsFindRefusal e → (IsTrue D.keeps_model → e ≡ NoPool → HasNoPool (bytes_of (D.disk old).now)) → IsFindingRefused D old new e
  refused_at_labels old new e sized (inl is) none =
      searched old new e sized (subst IsWalkRefusal (sym is) tt) none (λ kind address no. (let f : NoMemory ≡ Damaged kind address = sym is ∙ no in cc))
  refused_at_labels old new e sized (inr (inl is)) none =
      searched old new e sized (subst IsWalkRefusal (sym is) tt) none (λ kind address no. (let f : Read ≡ Damaged kind address = sym is ∙ no in cc))
  refused_at_labels old new e sized (inr (inr is)) none =
      searched old new e sized (subst IsWalkRefusal (sym is) tt) none (λ kind address no. (let f : NoPool ≡ Damaged kind address = sym is ∙ no in cc))

  -- or the chain
  pub refused_at_chain : (old new : Dev) (e : PoolError) → IsGeometry (D.size old) → IsChainRefusal e → IsFindingRefused D old new e
  refused_at_chain old new e sized (inl is) =
      searched old new e sized (subst IsWalkRefusal (sym is) tt) (λ keeps no. absurd (let f : NoMemory ≡ NoPool = sym is ∙ no in cc))
      (λ kind address no. (let f : NoMemory ≡ Damaged kind address = sym is ∙ no in cc))
  refused_at_chain old new e sized (inr is) =
      searched old new e sized (subst IsWalkRefusal (sym is) tt) (λ keeps no. absurd (let f : Read ≡ NoPool = sym is ∙ no in cc))
      (λ kind address no. (let f : Read ≡ Damaged kind address = sym is ∙ no in cc))

  load_walks : (e : PoolError) → IsLoadRefusal e → IsWalkRefusal e × (e ≢ NoPool)
  load_walks e (inl is) = (subst IsWalkRefusal (sym is) tt, λ no. let f : NoMemory ≡ NoPool = sym is ∙ no in cc)
  load_walks e (inr (inl is)) = (subst IsWalkRefusal (sym is) tt, λ no. let f : Read ≡ NoPool = sym is ∙ no in cc)
  load_walks e (inr (inr (kind, address, is))) = (subst IsWalkRefusal (sym is) tt, λ no. let f : Damaged kind address ≡ NoPool = sym is ∙ no in cc)

  -- what a call by paths that were just found is refused for, of the device as it was before them
  module _ (p : PoolPaths) (old mid : Dev) (same : IsTrue D.keeps_model → D.disk mid ≡ D.disk old) (paths : IsTrue D.keeps_model → ArePathsOf (bytes_of (D.disk old).now) p)
      (Tells : List ℕ → PoolError → ℕ → ℕ → Type 0) (e : PoolError) (refused : IsPathsRefusal D p mid Tells e) where
    pub kind_told : IsGeometry (D.size old) → IsInspectionRefusal (D.size old) e × (e ≢ BadGeometry)
    kind_told sized = walk_kind (D.size old) e sized (load_walks e refused.kind).0

    pub not_missing : e ≢ NoPool
    not_missing = (load_walks e refused.kind).1

    pub damage_told : IsTrue D.keeps_model → (kind address : ℕ) → e ≡ Damaged kind address → Tells (bytes_of (D.disk old).now) e kind address
    damage_told keeps kind address is =
        subst (λ (d : Disk). Tells (bytes_of d.now) e kind address) (same keeps)
        (refused.damaged keeps (subst (λ (d : Disk). ArePathsOf (bytes_of d.now) p) (sym (same keeps)) (paths keeps)) kind address is)

  module _ (n : ℕ) (old new : Dev) (e : PoolError) where
    -- so a view that finds them itself is refused
    pub refused_at_paths : IsFindingRefused D old new e → IsViewingRefused D n old new e
    refused_at_paths r = record { kind = r.kind; no_pool = r.no_pool; damaged = λ keeps kind address is. absurd (r.undamaged kind address is); untouched = r.untouched }

    pub refused_by_paths : (p : PoolPaths) (mid : Dev) → IsGeometry (D.size old) → (IsTrue D.keeps_model → D.disk mid ≡ D.disk old) → (IsTrue D.keeps_model → ArePathsOf (bytes_of (D.disk old).now) p)
        → IsPathsRefusal D p mid (λ (image : List ℕ). TellsOwnDamage image n) e → IsViewingRefused D n old new e
    refused_by_paths p mid sized same paths refused =
        let Tells : List ℕ → PoolError → ℕ → ℕ → Type 0 = λ (image : List ℕ). TellsOwnDamage image n in
        let kinds = kind_told p old mid same paths Tells e refused sized in
        record {
          kind = kinds.0;
          no_pool = λ keeps none. absurd (not_missing p old mid same paths Tells e refused none);
          damaged = damage_told p old mid same paths Tells e refused;
          untouched = λ bad. absurd (kinds.1 bad);
        }

  -- a call by paths is refused for memory or a read, or with a damage that it tells
  module _ (p : PoolPaths) (old : Dev) (Tells : List ℕ → PoolError → ℕ → ℕ → Type 0) (e : PoolError) where
    pub refused_plainly : (e ≡ NoMemory) ⊎ (e ≡ Read) → IsPathsRefusal D p old Tells e
    refused_plainly (inl is) = record { kind = inl is; damaged = λ keeps paths kind address no. absurd (let f : NoMemory ≡ Damaged kind address = sym is ∙ no in cc) }
    refused_plainly (inr is) = record { kind = inr (inl is); damaged = λ keeps paths kind address no. absurd (let f : Read ≡ Damaged kind address = sym is ∙ no in cc) }

  module _ (p : PoolPaths) (n : ℕ) (old : Dev) (e : PoolError) where
    abbrev Refusal : Type 0
    Refusal = IsPathsRefusal D p old (λ (image : List ℕ). TellsOwnDamage image n) e

    -- a view by them, for the root or the object's directory
    pub refused_at_tree : IsReadRefusal e → (IsTrue D.keeps_model → ArePathsOf (bytes_of (D.disk old).now) p → (kind address : ℕ) → e ≡ Damaged kind address → TellsOwnDamage (bytes_of (D.disk old).now) n e kind address) → Refusal
    refused_at_tree kind damaged = record { kind = inr kind; damaged = damaged }

    -- or for an operation of the object
    pub refused_at_own : (entry : Option Entry) → IsOwnRefusal n (length_of_entry entry) [] (own_of_records n (records_above (uberblock_of p).group p.logged.items)) e
        → (IsTrue D.keeps_model → IsStoredEntry (bytes_of (D.disk old).now) (uberblock_of p).root n entry) → Refusal
    refused_at_own entry (inl is) stored = refused_plainly p old (λ (image : List ℕ). TellsOwnDamage image n) e (inl is)
    refused_at_own entry (inr (at, is, refused)) stored = record {
      kind = inr (inr (6, at, is));
      damaged = λ keeps paths kind address same.
          let u = uberblock_of p in
          let both : Damaged 6 at ≡ Damaged kind address = sym is ∙ same in
          let kind_is : kind ≡ 6 = cc in
          let at_is : at ≡ address = cc in
          record {
            u = u;
            name = p.found.name;
            pool = paths.pool;
            damaged = inr (
              kind_is,
              record {
                chain = p.logged.items;
                chain_is = paths.chain_is;
                entry = entry;
                stored = stored keeps;
                refused = subst (λ (a : ℕ). IsOwnRefused n (length_of_entry entry) [] (own_of_records n (records_above u.group p.logged.items)) a) at_is refused;
              },
            );
          };
    }

-- such a refusal of an image that mounts tells no damage
pub sound_refused : {Dev A : Type 0} (D : Ghosts Dev) (p : PoolPaths) (n : ℕ) (old : Dev) (r : Result A PoolError) → IfErr r (IsPathsRefusal D p old (λ (image : List ℕ). TellsOwnDamage image n)) → IsTrue D.keeps_model
    → ArePathsOf (bytes_of (D.disk old).now) p → (contents : Contents) → MountsTo (bytes_of (D.disk old).now) contents → IfErr r IsOfNoDamage
sound_refused D p n old (Ok a) refused keeps paths contents mounts = tt
sound_refused D p n old (Err e) refused keeps paths contents mounts = undamaged (bytes_of (D.disk old).now) n contents e mounts (refused.damaged keeps paths)
