-- What an inspection tells is what the image mounts, and what each import of it gives.
use Rattle.std.proofs.Common.{◌≡◌, ℕ, ◌+◌, ◌<◌, ◌≤◌, inl, inr, List, Option, Some, None, length, sym, subst, ap, ◌∙◌}
use Rattle.std.specs.Prelude.{IfSome, unwrap_or}
use Rattle.std.specs.Ordering.{nat_cmp}
use Rattle.std.specs.FinMap as finite
use Rattle.std.specs.FinMap.{FinMap}
use Rattle.base.specs.tree.Mount.{IsChainDamaged, Mounts, records_above}
use Rattle.base.specs.declared.error.PoolError.{PoolError}
use Rattle.base.specs.declared.error.PoolError.TheVariants.{Damaged}
use Rattle.base.specs.declared.names.ObjectId.{ObjectId}
use Rattle.base.specs.formats.Chain.{LogPiece, chain_addresses}
use Rattle.base.specs.formats.Geometry.{block_count}
use Rattle.base.specs.formats.Limits.{max_length, object_count}
use Rattle.base.specs.formats.Names.{IsName}
use Rattle.base.specs.formats.Uberblocks.{Uberblock}
use Rattle.base.specs.history.Contents.{Contents}
use Rattle.base.specs.steps.Exact.{IsBounded}
use Rattle.base.specs.steps.Groups.{Line}
use Rattle.base.proofs.crash.OneMount.{mounts_agree}
use Rattle.contents.specs.ContentsShown.{contents_of}
use Rattle.tree_blocks.specs.TreeObjects.{objects_of}
use Rattle.extents.specs.Patches.{laid_over}
use Rattle.extents.specs.Tables.{name_of, patches_of}
use Rattle.tree_blocks.specs.declared.tree.Tree.{Tree}
use Rattle.trees.specs.Loading.{IsLimitedObject}
use Rattle.tree_blocks.specs.Pointers.{pointers_of}
use Rattle.tree_blocks.specs.ListedObjects.{AreWithin, listed}
use Rattle.log_replay.specs.Replays.{IsReplayCause, IsReplayRefusal}
use Rattle.import_replay.specs.FreeBlocks.{AreUnused}
use Rattle.import_replay.specs.NextPools.{IsReplayedPool, synced_with}
use Rattle.import_replay.specs.ReadPools.{IsLoadedFor, IsReadPool}
use Rattle.import_replay.specs.declared.next_pool.ReplayedPool.{ReplayedPool}
use Rattle.import_replay.proofs.MountedPools.{mounts_read}
use Rattle.import_replay.proofs.NextPools.{reason_of_replay}
use Rattle.import_replay.proofs.ReplayedPools as replays
use Rattle.inspections.specs.Inspections.{AgreesWithImports, IsInspectedFrom, IsInspectionOf, IsToldOf, IsToldOfBounded}
use Rattle.inspections.specs.declared.inspection.Inspected.{Inspected}
use Rattle.inspections.proofs.PoolDamages.{not_of_tree}
use Rattle.inspections.proofs.UsedBlocks.{use_count}

-- objects within the limits of a pool, whatever their bytes are
are_within : (objects : FinMap nat_cmp (List ℕ)) → ((n : ℕ) → IfSome (finite.get objects n) (IsLimitedObject n)) → AreWithin objects
are_within objects bounded n = go (finite.get objects n) (bounded n)
  where
    go : (o : Option (List ℕ)) → IfSome o (IsLimitedObject n) → IfSome o (λ bytes. (n < object_count) × (length bytes ≤ max_length))
    go None h = tt
    go (Some bytes) h = (h.0, h.1)

-- A pool that was read, and what is told of it once its records were replayed.
module _ (size : ℕ) (u : Uberblock) (name : List ℕ) (tree : Tree) (chain : List LogPiece) (pool : ReplayedPool) (named : IsName name) (loaded : IsLoadedFor u (block_count size) tree chain)
    (r : IsReplayedPool size u.group name tree chain pool) (lengths : List (ObjectId × ℕ))
    (lists : AreWithin (laid_over (patches_of pool.replayed.extents) (contents_of pool.synced).objects) → lengths ≡ listed (laid_over (patches_of pool.replayed.extents) (contents_of pool.synced).objects))
    (i : Inspected) (told : IsInspectedFrom u (unwrap_or (name_of pool.replayed.extents) pool.synced.name) lengths (length pool.replayed.records.items) (block_count size) pool.spare.free i) where
  abbrev contents : Contents
  contents = replays.after size u name tree chain pool named loaded r

  bounded : IsBounded contents
  bounded = replays.bounded size u name tree chain pool named loaded r

  tells : IsToldOf i contents
  tells = record { name_is = told.name_is; objects_are = told.lengths_are ∙ lists (are_within contents.objects bounded.objects) }

  pub is_told_bounded : IsToldOfBounded i
  is_told_bounded = (contents, tells, bounded)

  records_counted : length (records_above u.group chain) ≡ i.records
  records_counted = sym (replays.count size u name tree chain pool named loaded r) ∙ sym told.records_are

  module _ (image : List ℕ) (read : IsReadPool image size u name tree chain) where
    mounts : Mounts image u chain contents
    mounts = mounts_read image size u name tree chain read pool.synced r.name_is r.tree_is contents r.replayed.applied

    same_count : block_count (length image) ≡ i.blocks
    same_count = ap block_count read.long ∙ sym told.blocks_are

    unused : AreUnused (pointers_of tree) (chain_addresses chain) (block_count size) pool.spare.free
    unused = subst (λ (t : Tree). AreUnused (pointers_of t) (chain_addresses chain) (block_count size) pool.spare.free) r.tree_is r.spare

    is_inspection : IsInspectionOf image i
    is_inspection = (
      contents,
      tells,
      record {
        u = u;
        chain = chain;
        mounts = mounts;
        guid = sym told.guid;
        group = sym told.group;
        import_number = sym told.import_number;
        blocks = same_count;
        records = records_counted;
        used = use_count image size u name tree (objects_of tree) chain read loaded.placed loaded.sound pool.spare.free unused i.used told.used;
      },
    )

    agrees_with_imports : AgreesWithImports image i
    agrees_with_imports now dirty_max records shown import =
        let (same, chains, mounted_same) = mounts_agree image import.u u import.chain chain import.contents contents import.mounts mounts in
        record {
          contents = subst (λ (c : Contents). IsToldOf i c) (sym (import.imported.contents_are ∙ mounted_same)) tells;
          guid = import.imported.guid ∙ ap (λ (v : Uberblock). v.guid) same ∙ sym told.guid;
          group = ap (λ (l : Line). l.synced) import.imported.line ∙ ap (λ (v : Uberblock). v.group + 4) same ∙ ap (λ (g : ℕ). g + 4) (sym told.group);
          import_number = import.imported.import_number ∙ ap (λ (v : Uberblock). v.import_number + 1) same ∙ ap (λ (n : ℕ). n + 1) (sym told.import_number);
          blocks = import.imported.blocks_are ∙ same_count;
          records_are = sym import.records_are ∙ ap (λ (v : Uberblock). length (records_above v.group import.chain)) same ∙ ap (λ (bs : List LogPiece). length (records_above u.group bs)) chains ∙ records_counted;
        }

    pub inspected : IsInspectionOf image i × AgreesWithImports image i
    inspected = (is_inspection, agrees_with_imports)

-- where a record of its chain is refused, the chain is damaged
pub is_chain_damaged : (image : List ℕ) (size : ℕ) (u : Uberblock) (name : List ℕ) (tree : Tree) (chain : List LogPiece) → IsReadPool image size u name tree chain → (e : PoolError)
    → IsReplayCause e → IsReplayRefusal (records_above u.group chain) (synced_with name tree) e → (address : ℕ) → e ≡ Damaged 6 address → IsChainDamaged image address
is_chain_damaged image size u name tree chain read e cause refused address is =
    elim ((reason_of_replay image size u name tree chain read e cause refused).damaged 6 address is) as (λ _. IsChainDamaged image address) [
      | inl damaged ↦ absurd (not_of_tree damaged.damage.place damaged.damage.kind_is)
      | inr log ↦ log.1
    ]
