-- An import, whatever it answers, keeps a disk that its pool alone wrote the pool's own; one that answers Ok gives its
-- run a disk with the views of the pool that it shows.
use Rattle.std.proofs.Common.{◌≡◌, inl, inr, ⊎_elim, ℕ, zero, suc, ◌+◌, true, false, List, [], ◌∷◌, length, None, Some, Ok, refl, sym, ◌∙◌, ap, subst, arith}
use Rattle.std.specs.Prelude.{slice_get}
use Rattle.std.specs.Ordering.{nat_cmp}
use Rattle.std.specs.FinSet as set
use Rattle.std.specs.FinSet.{FinSet, contains-empty, len-empty}
use Rattle.std.proofs.lemmas.Bool.{false≢true}
use Rattle.base.specs.kept.CallStages.{FixedLabels}
use Rattle.base.specs.kept.CrashRule.{AreImportViews, HasSteadyPhases, IsImportMoment, IsOwnOnceFlushed, KeepsOwn}
use Rattle.base.specs.kept.LogRoom.{HasImportRoom}
use Rattle.base.specs.kept.LogRule.{AreChainsUpTo, IsLogHeld}
use Rattle.base.specs.kept.LogSteps.{IsSpareOf}
use Rattle.base.specs.tree.Mount.{HasPool, Mounts, apply_above}
use Rattle.base.specs.kept.Own.{AreConfigsBelowImport, IsAtRest, IsOwnWith}
use Rattle.base.specs.kept.PoolViews.{IsPoolDisk, IsSyncConfig, IsViewOf}
use Rattle.base.specs.kept.Layout.{header_now}
use Rattle.base.specs.kept.Views.{AreConfigsUpTo, View, Logged, config_content, ended_in}
use Rattle.base.specs.disk.Calls.{Flushes}
use Rattle.base.specs.disk.Disk.{Disk, EachMoment, Moment, bytes_of, certain, disk_size, handed}
use Rattle.base.specs.disk.Fairness.{HasFairBytes}
use Rattle.base.specs.formats.Chain.{LogPiece}
use Rattle.base.specs.formats.Geometry.{IsBlockAddress, block_address, block_count}
use Rattle.base.specs.formats.Uberblocks.{Uberblock}
use Rattle.base.specs.history.Contents.{Contents}
use Rattle.base.specs.history.Past.{Past, new_past}
use Rattle.base.specs.steps.Shown.{Shown}
use Rattle.base.proofs.common.KeptLists.{All-at, All-each}
use Rattle.base.proofs.crash.LogImports.{begun_held, chains_of_view}
use Rattle.base.proofs.crash.LogRoom.{enough_without_log, in-with_all, len-with_all, with_all}
use Rattle.base.proofs.crash.OwnDisks.{configs_weaker, import_kept}
use Rattle.base.proofs.disk.Moments.{latest, starts}
use Rattle.base.proofs.disk.Regions.{flushed_clean}
use Rattle.labels.specs.declared.stage.Stage.{Stage}
use Rattle.contents.specs.ContentsShown.{contents_of}
use Rattle.import_replay.specs.Found.{HasFirstStage}
use Rattle.import_replay.specs.ImportStops.{next_config, writes_of_next}
use Rattle.import_replay.specs.ImportSyncs.{writes_of_import}
use Rattle.import_replay.specs.ImportViews.{EndsBehind, IsReadyBehind, IsSpareFor, KeepsViews, MayBeWritten, ViewTree, view_of}
use Rattle.import_replay.specs.LabelSyncs.{ImportWrites, is_even}
use Rattle.import_replay.specs.Mounts.{IsMountedFrom, parts_mounted}
use Rattle.mounted.specs.ShownMounted.{shown_of_import}
use Rattle.import_replay.specs.NextPools.{AreMadeOver, ArePartsFor, IsUnusedBlock, PoolParts, pool_parts, tree_of}
use Rattle.import_replay.specs.RunStarts.{IsRunStart, StartsRun}
use Rattle.mounted.specs.declared.mounted.Mounted.{Mounted}
use Rattle.import_replay.specs.declared.next_pool.NextPool.{NextPool}
use Rattle.import_replay.proofs.WrittenImports.{written_same}
use Rattle.import_replay.proofs.ReadViews.{IsRestedOwn, found_mounts, found_name, found_uberblock, kept_count, kept_rested, rested_own, spared_at, unused_spare}

-- the view that an import writes after another: of the same pool, four groups later, with no log block, the contents
-- that the other mounts, and room for an import
record IsViewAfter (blocks : ℕ) (contents : Contents) (v later : View) : Type 0 where
  guid : later.u.guid ≡ v.u.guid
  group : later.u.group ≡ v.u.group + 4
  synced : later.synced ≡ contents
  no_log : later.logged ≡ []
  room : HasImportRoom blocks later

-- a view of the next import, of which nothing is written yet
abbrev unwritten : Contents → View → View
unwritten contents v = record v { u = record v.u { group = v.u.group + 4 }; synced = contents; logged = [] }

after_unwritten : (blocks : ℕ) (contents : Contents) (v : View) → HasImportRoom blocks v → IsViewAfter blocks contents v (unwritten contents v)
after_unwritten blocks contents v room = record {
  guid = refl;
  group = refl;
  synced = refl;
  no_log = refl;
  room = record {
    spare = room.spare;
    each = λ address is. let old = room.each address is in (old.0, record { not_in_tree = old.1.not_in_tree; not_logged = λ i l at. absurd (let no_way : None ≡ Some l = at in cc) });
    enough = enough_without_log (unwritten contents v) room.spare refl (let some = room.enough 0 in omega (arith, some));
  };
}

unwritten_moment : (size created flushed : ℕ) (contents : Contents) (v : View) (m : Moment) → HasFairBytes size created m → AreConfigsBelowImport size created (handed m) v contents.name → IsAtRest size created flushed m v
    → IsImportMoment size created flushed v (unwritten contents v) contents.name m
unwritten_moment size created flushed contents v m fair configs rest = record { bytes = fair; configs = configs; chains = chains_of_view size created (handed m) v rest.laid.logs; phase = inl rest }

one_at : (address i other : ℕ) → slice_get (address ∷ []) i ≡ Some other → (i ≡ 0) × (address ≡ other)
one_at address zero other at = (refl, let same : address ≡ other = cc in same)
one_at address (suc i) other at = let no_way : None ≡ Some other = at in cc

-- a view without a log block has room if one block is spare
room_of_one : (blocks address : ℕ) (v : View) → v.logged ≡ [] → IsBlockAddress blocks address → IsSpareOf v address → HasImportRoom blocks v
room_of_one blocks address v none block is = record {
  spare = one;
  each = λ other there. ⊎_elim (λ at. same other (one_at address at.0 other at.1).1) (λ no. absurd (nothing other no)) (in-with_all (address ∷ []) set.empty other there);
  enough = enough_without_log v one none (omega (arith, long, len-empty nat_cmp));
}
  where
    one : FinSet nat_cmp
    one = with_all (address ∷ []) set.empty

    nothing : (other : ℕ) → set.contains {R = nat_cmp} set.empty other ≡ true → ⊥
    nothing other there = false≢true (sym (contains-empty nat_cmp other) ∙ there)

    same : (other : ℕ) → address ≡ other → IsBlockAddress blocks other × IsSpareOf v other
    same other at = subst (λ (a : ℕ). IsBlockAddress blocks a × IsSpareOf v a) at (block, is)

    long : set.len one ≡ set.len {R = nat_cmp} set.empty + 1
    long = len-with_all (address ∷ []) set.empty (λ i j x at_i at_j. (one_at address i x at_i).0 ∙ sym (one_at address j x at_j).0) (λ i x at there. nothing x there)

-- the two views of an import
abbrev import_views : (size created guid flushed : ℕ) (contents : Contents) (v later : View) (m : Moment) → IsRestedOwn size created guid flushed contents v m → IsViewAfter (block_count size) contents v later
    → AreImportViews (block_count size) v later guid contents
import_views size created guid flushed contents v later m own after = record {
  old_guid = own.guid_is;
  new_guid = after.guid ∙ own.guid_is;
  next_group = after.group;
  flushed = flushed;
  all = own.all;
  old_mounts = own.mounts;
  new_mounts = ap (λ (ls : List Logged). apply_above later.u.group (ended_in ls) later.synced) after.no_log ∙ ap (λ (c : Contents). Ok c) after.synced;
  new_log = after.no_log;
  old_room = own.room;
  new_room = after.room;
}

-- a flush that was refused leaves the disk
pub kept_before : (old new : Disk) → new ≡ old → KeepsOwn old new
kept_before old new same created guid contents own = inl same

module _ (old mid : Disk) (flushes : Flushes old (Ok tt) mid) where
  long : disk_size mid ≡ disk_size old
  long = ap (λ (l : List ℕ). length l) (flushed_clean old mid flushes).1

  steady : (new : Disk) (created guid flushed : ℕ) (contents : Contents) (v later : View) → IsRestedOwn (disk_size mid) created guid flushed contents v mid.now → IsViewAfter (block_count (disk_size mid)) contents v later
      → EachMoment (IsImportMoment (disk_size mid) created flushed v later contents.name) mid new → HasSteadyPhases (disk_size old) created (certain (bytes_of old.now) old) new guid contents
  steady new created guid flushed contents v later own after each =
      subst (λ (d : Disk). HasSteadyPhases (disk_size old) created d new guid contents) flushes
      (subst (λ (n : ℕ). HasSteadyPhases n created mid new guid contents) long
      (record { old = v; new = later; views = import_views (disk_size mid) created guid flushed contents v later mid.now own after; each = each }))

  own_flushed : (created guid : ℕ) (contents : Contents) → IsOwnOnceFlushed old created guid contents → IsOwnWith mid created guid contents
  own_flushed created guid contents own = subst (λ (d : Disk). IsOwnWith d created guid contents) (sym flushes) own

  rested : (created guid : ℕ) (contents : Contents) → IsOwnOnceFlushed old created guid contents → (v : View) × (flushed : ℕ) × IsRestedOwn (disk_size mid) created guid flushed contents v mid.now
  rested created guid contents own = rested_own mid created guid contents (flushed_clean old mid flushes).0 (own_flushed created guid contents own)

  -- what is flushed and not written is the pool's own still
  pub kept_unwritten : (new : Disk) → new ≡ mid → KeepsOwn old new
  kept_unwritten new same created guid contents own =
      let (v, flushed, r) = rested created guid contents own in
      let later : View = unwritten contents v in
      let here = unwritten_moment (disk_size mid) created flushed contents v mid.now r.bytes r.configs r.rest in
      inr (import_kept old new created guid contents own
      (subst (λ (d : Disk). HasSteadyPhases (disk_size old) created (certain (bytes_of old.now) old) d guid contents) (sym same)
      (steady mid created guid flushed contents v later r (after_unwritten (block_count (disk_size mid)) contents v r.room) (starts (IsImportMoment (disk_size mid) created flushed v later contents.name) mid here))))

  module _ (size : ℕ) (u : Uberblock) (name : List ℕ) (first : Stage) (sized : length (bytes_of mid.now) ≡ size) (pool : HasPool (bytes_of mid.now) u name)
      (stage : HasFirstStage (bytes_of mid.now) u.guid u.group name (is_even first)) where
    -- A pool that is synced, made over this image and chain, of which the image mounts its contents.
    module _ (next : NextPool) (moment : ℕ) (chain : List LogPiece) (parts : ArePartsFor size (pool_parts next)) (over : AreMadeOver (bytes_of mid.now) u chain size next.blocks.items (pool_parts next))
        (mounts : Mounts (bytes_of mid.now) u chain (contents_of next.contents)) where
      abbrev w : ImportWrites
      w = writes_of_next size u moment next

      abbrev tree : ViewTree
      tree = tree_of (pool_parts next)

      -- what was found for a view, with so many of its log blocks to keep
      record IsFoundFor (created guid flushed : ℕ) (contents : Contents) (v : View) : Type 0 where
        own : IsRestedOwn size created guid flushed contents v mid.now
        uberblock : v.u ≡ u
        contents_are : contents_of next.contents ≡ contents
        at : FixedLabels
        may : MayBeWritten w first created flushed at v tree mid

      found_for : (created guid : ℕ) (contents : Contents) → IsOwnOnceFlushed old created guid contents → (v : View) × (flushed : ℕ) × IsFoundFor created guid flushed contents v
      found_for created guid contents own =
          let (v, flushed, r) = rested created guid contents own in
          let same : u ≡ v.u = found_uberblock mid.now created guid flushed contents v r u name pool in
          let named : v.name ≡ name = found_name mid.now created guid flushed contents v r u name pool in
          let whole = found_mounts mid.now created guid flushed contents v r u chain (contents_of next.contents) mounts in
          let count : ℕ = kept_count mid.now created guid flushed contents v r in
          let spared = spared_at mid.now created guid flushed contents v r u name first same named stage in
          let of_u : v.u ≡ u = sym same in (
            v,
            count,
            record {
              own = subst (λ (n : ℕ). IsRestedOwn n created guid count contents v mid.now) sized (kept_rested mid.now created guid flushed contents v r);
              uberblock = of_u;
              contents_are = whole.1;
              at = spared.0;
              may = record {
                began = (own_flushed created guid contents own).began;
                ready = subst (λ (c : Contents). IsReadyBehind size created count spared.0 v c.name mid.now) (sym whole.1)
                    (subst (λ (n : ℕ). IsReadyBehind n created count spared.0 v contents.name mid.now) sized spared.2);
                behind = record {
                  guid = ap (λ (x : Uberblock). x.guid) same;
                  group = ap (λ (x : Uberblock). x.group + 4) same;
                  import_number = ap (λ (x : Uberblock). x.import_number + 1) same;
                  root = refl;
                  config_is = λ i. next_config (same i) next.contents.name size;
                };
                spares = spared.1;
                apart = All-each (IsSpareFor count v) next.blocks.items (λ i b there.
                    let is = All-at (IsUnusedBlock (bytes_of mid.now) u chain) next.blocks.items i b over.unused there in
                    record { not_config = is.not_config; not_log = is.not_log; spare = unused_spare mid.now created guid flushed contents v r u chain (block_address b.index) same whole.0 is.unused });
                made = over.tree;
              };
            },
          )

      module _ (new : Disk) (kept : KeepsViews w first mid new) where
        -- the view that is written comes after the one that was found
        later_after : (created guid flushed : ℕ) (contents : Contents) (v : View) → IsFoundFor created guid flushed contents v → IsViewAfter (block_count size) contents v (view_of w tree)
        later_after created guid flushed contents v f = record {
          guid = f.may.behind.guid;
          group = f.may.behind.group;
          synced = f.contents_are;
          no_log = refl;
          room = room_of_one (block_count size) next.log_address (view_of w tree) refl parts.log_block (record {
            not_in_tree = λ place in_range some there. over.log_unnamed (place, in_range, there);
            not_logged = λ i l at. absurd (let no_way : None ≡ Some l = at in cc);
          });
        }

        pub kept_own : KeepsOwn old new
        kept_own created guid contents own =
            let (v, flushed, f) = found_for created guid contents own in
            inr (import_kept old new created guid contents own
            (steady new created guid flushed contents v (view_of w tree) (subst (λ (n : ℕ). IsRestedOwn n created guid flushed contents v mid.now) (sym sized) f.own)
            (subst (λ (n : ℕ). IsViewAfter (block_count n) contents v (view_of w tree)) (sym sized) (later_after created guid flushed contents v f))
            (subst (λ (n : ℕ). EachMoment (IsImportMoment n created flushed v (view_of w tree) contents.name) mid new) (sym sized)
            (subst (λ (c : Contents). EachMoment (IsImportMoment size created flushed v (view_of w tree) c.name) mid new) f.contents_are (kept created flushed f.at v tree f.may)))))

        module _ (dirty_max : ℕ) (m : Mounted) (from : IsMountedFrom size u (pool_parts next) dirty_max m) (ends : EndsBehind w first mid new) (settled : new.now.unflushed ≡ []) where
          abbrev shown : Shown
          shown = shown_of_import m

          abbrev past_of : ℕ → Past
          past_of created = new_past (contents_of m.contents) created dirty_max

          abbrev mine : View
          mine = view_of (writes_of_import moment next.blocks.items m) (tree_of (parts_mounted m))

          contents_same : contents_of m.contents ≡ contents_of next.contents
          contents_same = ap (λ (p : PoolParts). contents_of p.contents) from.parts

          view_same : view_of w tree ≡ mine
          view_same = λ i. view_of (written_same size u next dirty_max moment m from i) (tree_of ((sym from.parts) i))

          view_is : (created : ℕ) → IsViewOf 0 mine shown (past_of created) m.group.0 m.contents.tree.root (header_now shown.log)
          view_is created = record {
            guid = refl;
            group_is = refl;
            root_is = refl;
            import_is = refl;
            header_is = refl;
            replayed = refl;
            as_many = refl;
            blocks = λ i k l at. absurd (let none : None ≡ Some k = at in cc);
            flushed_are = λ i k at. absurd (let none : None ≡ Some k = at in cc);
            goes_on = refl;
            version_is = refl;
            pieces = record { chain = []; tail = []; cut = refl; ends = refl; left = refl };
          }

          at_rest : (created guid flushed : ℕ) (contents : Contents) (v : View) → IsFoundFor created guid flushed contents v → IsAtRest size created 0 new.now mine
          at_rest created guid flushed contents v f = subst (λ (x : View). IsAtRest size created 0 new.now x) view_same (ends created flushed f.at v tree f.may)

          -- no log block of the chain that the import begins was written
          log_held : (created : ℕ) (v : View) → m.guid ≡ v.u.guid → v.u ≡ u → AreChainsUpTo size created (handed new.now) v.u.guid v.u.import_number → IsLogHeld size created 0 false new.now mine
          log_held created v guid_same same chains =
              let one_more : m.import_number ≡ v.u.import_number + 1 = from.import_number ∙ ap (λ (x : Uberblock). x.import_number + 1) (sym same) in
              begun_held size created v.u.import_number false new.now mine
              (subst (λ (g : ℕ). AreChainsUpTo size created (handed new.now) g v.u.import_number) (sym guid_same) chains) (omega (arith, one_more)) refl

          run_start : (created guid flushed : ℕ) (contents : Contents) (v : View) → IsFoundFor created guid flushed contents v → IsRunStart created guid contents dirty_max m new.now
          run_start created guid flushed contents v f =
              let here = latest (IsImportMoment size created flushed v (view_of w tree) tree.contents.name) mid new (kept created flushed f.at v tree f.may) in
              let guid_same : m.guid ≡ v.u.guid = from.guid ∙ ap (λ (x : Uberblock). x.guid) (sym f.uberblock) in
              let group_same : m.group.0 ≡ v.u.group + 4 = from.group ∙ ap (λ (x : Uberblock). x.group + 4) (sym f.uberblock) in
              record {
                disk = subst (λ (n : ℕ). IsPoolDisk n new.now shown (past_of created)) (sym from.geometry) (record {
                  bytes = here.bytes;
                  configs = subst (λ (g : ℕ). AreConfigsUpTo size created (handed new.now) g m.group.0 (IsSyncConfig size shown (past_of created))) (sym guid_same)
                      (configs_weaker size created (handed new.now) v.u.guid (v.u.group + 3) m.group.0 (λ group content. (group ≡ v.u.group + 4) × (content ≡ config_content size v.u.guid group tree.contents.name))
                      (IsSyncConfig size shown (past_of created)) (omega (arith, group_same)) (λ group content other. inl (omega (arith, group_same, other.0))) here.configs);
                  laid = inl (record {
                    v = mine;
                    flushed = 0;
                    rest = at_rest created guid flushed contents v f;
                    is = view_is created;
                    held = log_held created v guid_same f.uberblock here.chains;
                  });
                });
                settled = settled;
                guid_is = guid_same ∙ f.own.guid_is;
                contents_are = contents_same ∙ f.contents_are;
              }

          pub starts_run : StartsRun old dirty_max new m
          starts_run created guid contents own = let (v, flushed, f) = found_for created guid contents own in run_start created guid flushed contents v f
