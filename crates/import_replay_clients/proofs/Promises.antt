-- What the contracts of a create, an import and an inspection say in one concrete case each.
use Rattle.std.proofs.Common.{◌≡◌, ◌≢◌, ◌⊎◌, inl, inr, ⊎_elim, ℕ, zero, suc, ◌+◌, true, false, List, [], length, Result, Ok, Err, refl, sym, ◌∙◌, ap, subst, arith}
use Rattle.std.specs.Prelude.{IfErr, IfOk, IsErr, MatchResult, OnOk, slice_index}
use Rattle.base.specs.kept.Imports.{IsImportOf}
use Rattle.base.specs.tree.Mount.{IsChainDamaged, Mounts, records_above}
use Rattle.base.specs.declared.error.PoolError.{PoolError}
use Rattle.base.specs.declared.error.PoolError.TheVariants.{BadGeometry, BadRange, Damaged, Flush, NoMemory, NoPool, Write}
use Rattle.base.specs.disk.Disk.{Disk, bytes_of, certain, certain_with}
use Rattle.base.specs.formats.Chain.{LogPiece}
use Rattle.base.specs.formats.Geometry.{IsGeometry}
use Rattle.base.specs.formats.Labels.{HasNoConfig}
use Rattle.base.specs.formats.Uberblocks.{Uberblock, IsActive}
use Rattle.base.specs.history.Contents.{Contents}
use Rattle.base.specs.steps.Groups.{Line}
use Rattle.base.proofs.crash.LogChains.{mounted_not_damaged}
use Rattle.base.proofs.crash.OneMount.{mounts_agree, one-active}
use Rattle.base.proofs.disk.Moments.{latest}
use Rattle.device_model.specs.declared.device.SectorDevice.{Ghosts}
use Rattle.contents.specs.ContentsShown.{contents_of}
use Rattle.tree_blocks.specs.ListedObjects.{listed}
use Rattle.import_replay.specs.CreateRefusals.{IsCreateRefusal}
use Rattle.import_replay.specs.Creations.{IsCreatedOn, IsNewPool, first_uberblock}
use Rattle.import_replay.specs.ImportRefusals.{CanImport, IsImportRefusal, IsReason, IsReadingRefusal}
use Rattle.inspections.specs.Refused.{IsInspectionRefusal}
use Rattle.import_replay.specs.ImportSyncs.{IsImportSynced, uberblock_of_import}
use Rattle.inspections.specs.Inspections.{IsInspectionOf}
use Rattle.mounted.specs.ShownMounted.{shown_of_import}
use Rattle.inspections.specs.Refused.{IsInspectionRefused}
use Rattle.import_replay.specs.Outside.{IsPoolByte, KeepsOutside, WritesPoolBytes}
use Rattle.inspections.specs.declared.inspection.Inspected.{Inspected}
use Rattle.mounted.specs.declared.mounted.Mounted.{Mounted}
use Rattle.inspections.proofs.PoolDamages.{not_of_tree}

-- what a refusal, or an answer, has of a clause on both
pub err_of : {A E : Type 0} (r : Result A E) (P : A → Type 0) (S T : E → Type 0) → ((e : E) → S e → T e) → MatchResult r P S → IfErr r T
err_of (Ok x) P S T g h = tt
err_of (Err e) P S T g h = g e h

pub ok_made : {A E : Type 0} (r : Result A E) (P : A → Type 0) (X : Type 0) → ((a : A) → P a → X) → IfOk r P → OnOk r X
ok_made (Ok x) P X f h = f x h
ok_made (Err e) P X f h = tt

pub each_weaker : {A E : Type 0} (r : Result A E) (P Q : A → Type 0) (S T : E → Type 0) → ((a : A) → P a → Q a) → ((e : E) → S e → T e) → MatchResult r P S → MatchResult r Q T
each_weaker (Ok x) P Q S T f g h = f x h
each_weaker (Err e) P Q S T f g h = g e h

-- what can't be answered is refused
pub is_refused : {A E : Type 0} (r : Result A E) (X : Type 0) → OnOk r X → (X → ⊥) → IsErr r
is_refused (Ok x) X made never = absurd (never made)
is_refused (Err e) X made never = refl

-- a new pool
module _ (image name : List ℕ) (guid moment : ℕ) (created : IsCreatedOn image name guid) (new : IsNewPool image name guid moment) where
  abbrev first : Uberblock
  first = first_uberblock guid moment

  -- each import of it
  pub import_of_new : (now : List ℕ) (dirty_max : ℕ) (m : Mounted) → IsImportOf image now dirty_max m.records (shown_of_import m)
      → (m.contents.name ≡ name) × (m.guid ≡ guid) × (m.group.0 ≡ 8) × (m.import_number ≡ 1)
  import_of_new now dirty_max m import =
      let mounted = created.1 in
      let is = created.2 in
      let (same, chains, contents) = mounts_agree image import.u mounted.u import.chain mounted.chain import.contents created.0.contents import.mounts mounted.mounts in (
        ap (λ (c : Contents). c.name) (import.imported.contents_are ∙ contents) ∙ is.name_is,
        import.imported.guid ∙ ap (λ (v : Uberblock). v.guid) same ∙ mounted.guid ∙ is.guid_is,
        ap (λ (l : Line). l.synced) import.imported.line ∙ ap (λ (v : Uberblock). v.group + 4) same ∙ ap (λ (g : ℕ). g + 4) (mounted.group ∙ is.group),
        import.imported.import_number ∙ ap (λ (v : Uberblock). v.import_number + 1) same ∙ ap (λ (n : ℕ). n + 1) (mounted.import_number ∙ is.import_number),
      )

  -- it is found
  pub new_found : (e : PoolError) → IsReason image e → e ≢ NoPool
  new_found e reason is = elim (reason.no_pool is) [
    | inl none ↦ none new.active.label first new.active.in_range new.active.stands
    | inr (v, active, none) ↦
        let same : v ≡ first = one-active image v first active new.active in
        subst (λ (w : Uberblock). HasNoConfig image w.guid w.group) same none 0 4 name (omega arith) (omega arith) (new.configs 0 (omega arith))
  ]

-- a create is never refused for want of a pool
pub create_found : (size : ℕ) (name : List ℕ) (e : PoolError) → IsCreateRefusal size name e → e ≢ NoPool
create_found size name e refused is = subst (IsCreateRefusal size name) is refused

-- the next uberblock
pub next_active : (old new : Disk) (moment : ℕ) (m : Mounted) → IsImportSynced old new moment m → IsActive (bytes_of new.now) (uberblock_of_import moment m)
    → (u : Uberblock) → IsActive (bytes_of old.now) u → u.group ≡ 9 → u.import_number ≡ 3
    → (v : Uberblock) × IsActive (bytes_of new.now) v × (v.group ≡ 13) × (v.import_number ≡ 4)
next_active old new moment m synced active u was group import_number =
    let same : synced.u ≡ u = one-active (bytes_of old.now) synced.u u synced.active was in (
      uberblock_of_import moment m,
      active,
      synced.group ∙ ap (λ (v : Uberblock). v.group + 4) same ∙ ap (λ (g : ℕ). g + 4) group,
      synced.import_number ∙ ap (λ (v : Uberblock). v.import_number + 1) same ∙ ap (λ (n : ℕ). n + 1) import_number,
    )

-- a disk where nothing was unflushed, before the first write
pub not_written : (old new : Disk) (e : PoolError) → (IsReadingRefusal e → new ≡ certain (bytes_of old.now) old) → e ≡ NoMemory → old.now.unflushed ≡ [] → new ≡ old
not_written old new e unchanged is none = unchanged (subst IsReadingRefusal (sym is) tt) ∙ ap (certain_with (bytes_of old.now) old) none

-- a limit that is not allowed
pub not_allowed : (size : ℕ) → CanImport size 4095 → ⊥
not_allowed size can = let no : false ≡ true = can.1 in cc

pub by_bounds : (size : ℕ) (e : PoolError) → IsImportRefusal size false e → (e ≡ BadGeometry) ⊎ (e ≡ BadRange)
by_bounds size BadGeometry refused = inl refl
by_bounds size BadRange refused = inr refl
by_bounds size _ refused = let no : false ≡ true = refused.0.1 in cc

-- no name, on a device of 8 MiB
pub by_name : (e : PoolError) → IsCreateRefusal 8388608 [] e → e ≡ BadRange
by_name BadGeometry refused = absurd (refused refl)
by_name BadRange refused = refl
by_name Write refused = let no : false ≡ true = refused.1 in cc
by_name Flush refused = let no : false ≡ true = refused.1 in cc
by_name _ refused = absurd refused

-- a device of 512 bytes
pub by_size : (e : PoolError) → IsInspectionRefusal 512 e → e ≡ BadGeometry
by_size BadGeometry refused = refl
by_size _ refused = let no : false ≡ true = refused.0 in cc

-- the byte after the first two labels is no pool's
outside_pool : IsPoolByte 8388608 524288 → ⊥
outside_pool (inl (zero, low, from, to)) = omega (arith, to)
outside_pool (inl (suc zero, low, from, to)) = omega (arith, to)
outside_pool (inl (suc (suc zero), low, from, to)) = omega (arith, from)
outside_pool (inl (suc (suc (suc k)), low, from, to)) = omega (arith, from)
outside_pool (inr (from, to)) = omega (arith, from)

pub byte_kept : (size : ℕ) (old new : Disk) → size ≡ 8388608 → WritesPoolBytes size old new → slice_index (bytes_of new.now) 524288 ≡ slice_index (bytes_of old.now) 524288
byte_kept size old new is writes =
    let last : KeepsOutside (IsPoolByte size) old.now new.now = latest (KeepsOutside (IsPoolByte size) old.now) old new writes in
    last.bytes.others 524288 (λ inside. outside_pool (subst (λ (n : ℕ). IsPoolByte n 524288) is inside))

-- what an inspection reports of what is mounted
module _ (image : List ℕ) (u : Uberblock) (chain : List LogPiece) (contents : Contents) (mounts : Mounts image u chain contents) where
  pub told_of : (i : Inspected) → IsInspectionOf image i
      → (i.name ≡ contents.name) × (i.objects.items ≡ listed contents.objects) × (i.group.0 ≡ u.group) × (i.import_number ≡ u.import_number) × (i.records ≡ length (records_above u.group chain))
  told_of i inspected =
      let (others, told, mounted) = inspected in
      let (same, chains, equal) = mounts_agree image u mounted.u chain mounted.chain contents others mounts mounted.mounts in (
        told.name_is ∙ ap (λ (c : Contents). c.name) (sym equal),
        told.objects_are ∙ ap (λ (c : Contents). listed c.objects) (sym equal),
        sym mounted.group ∙ ap (λ (v : Uberblock). v.group) (sym same),
        sym mounted.import_number ∙ ap (λ (v : Uberblock). v.import_number) (sym same),
        sym mounted.records ∙ ap (λ (v : Uberblock). length (records_above v.group mounted.chain)) (sym same) ∙ ap (λ (bs : List LogPiece). length (records_above u.group bs)) (sym chains),
      )

  -- an import of it
  pub mounted_replayed : (now : List ℕ) (dirty_max : ℕ) (m : Mounted) → IsImportOf image now dirty_max m.records (shown_of_import m)
      → (contents_of m.contents ≡ contents) × (m.records ≡ length (records_above u.group chain))
  mounted_replayed now dirty_max m import =
      let (same, chains, equal) = mounts_agree image import.u u import.chain chain import.contents contents import.mounts mounts in (
        import.imported.contents_are ∙ equal,
        sym import.records_are ∙ (λ i. length (records_above (same i).group (chains i))),
      )

  pub mounted_found : (e : PoolError) → IsReason image e → e ≢ NoPool
  mounted_found e reason is =
      let active = mounts.found.pool.active in
      let chosen = mounts.found.pool.chosen in
      elim (reason.no_pool is) [
        | inl none ↦ none active.label u active.in_range active.stands
        | inr (v, other, none) ↦
            let same : v ≡ u = one-active image v u other active in
            subst (λ (w : Uberblock). HasNoConfig image w.guid w.group) same none chosen.label mounts.found.pool.config_group mounts.synced.name chosen.in_range chosen.not_above chosen.stands
      ]

-- a refusal with kind 6 is of a record
pub record_damaged : (image : List ℕ) (e : PoolError) → IsReason image e → (address : ℕ) → e ≡ Damaged 6 address → IsChainDamaged image address
record_damaged image e reason address is = ⊎_elim (λ tree. absurd (not_of_tree tree.damage.place tree.damage.kind_is)) (λ chain. chain.1) (reason.damaged 6 address is)

-- and what is inspected has none
pub inspected_sound : (image : List ℕ) (i : Inspected) → IsInspectionOf image i → (address : ℕ) → IsChainDamaged image address → ⊥
inspected_sound image i (contents, told, mounted) address = mounted_not_damaged image contents address (mounted.u, mounted.chain, mounted.mounts)

-- it is untouched
pub inspection_untouched : {A Dev : Type 0} (D : Ghosts Dev) (r : Result A PoolError) (old new : Dev) → D.size old ≡ 512 → OnOk r (IsGeometry (D.size old)) → IfErr r (IsInspectionRefused D old new) → new ≡ old
inspection_untouched D (Ok a) old new is made refused = let no : false ≡ true = subst IsGeometry is made in absurd (cc)
inspection_untouched D (Err e) old new is made refused = refused.untouched (by_size e (subst (λ (n : ℕ). IsInspectionRefusal n e) is refused.kind))
