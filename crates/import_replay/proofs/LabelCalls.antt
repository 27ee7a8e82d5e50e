-- The calls of the sync of an import, and what they make of the disk.
use Rattle.std.proofs.Common.{◌≡◌, ℕ, suc, ◌+◌, Bool, true, false, List, [], ◌∷◌, ◌++◌, length, map, take, drop, nat_eq, Option, Some, None, Result, Ok, Err, refl, sym, ◌∙◌, ap, subst, arith}
use Rattle.std.specs.Prelude.{◌≢◌, All, is_some, slice_get, vec_len}
use Rattle.std.specs.List.{IsDistinct, range_with_len}
use Rattle.std.specs.Option.{option_map}
use Rattle.std.proofs.lemmas.List.{length-map, map-append, take-append-drop, take_all, take_more}
use Rattle.std.proofs.lemmas.Option.{get_or_from_slice_get, slice_get-map, slice_get_within}
use Rattle.std.proofs.lemmas.Simd.{map-map}
use Rattle.std.proofs.Math.Seq.{drop-cons}
use Rattle.base.specs.kept.Views.{IsLogContent}
use Rattle.base.specs.disk.DiskCalls.{DiskCall, IsStoppedIn, MakesDiskCall, Refuses, after_disk_call, after_disk_calls, refusal_of_call}
use Rattle.base.specs.disk.DiskCalls.DiskCall.{Put, Settle}
use Rattle.base.specs.declared.error.PoolError.{PoolError}
use Rattle.base.specs.declared.error.PoolError.TheVariants as refusal
use Rattle.base.specs.disk.Calls.{Writes}
use Rattle.base.specs.disk.Disk.{Disk}
use Rattle.base.specs.formats.Chain.{LogBlock}
use Rattle.base.specs.formats.Fields.{number_at}
use Rattle.base.specs.formats.Geometry.{config_place, slot_of, slot_place}
use Rattle.base.specs.formats.Labels.{even_labels, odd_labels}
use Rattle.base.specs.formats.Uberblocks.{slot_size}
use Rattle.base.specs.disk.SyncOrder.{DeviceCall, calls_in_order, import_calls, label_stage}
use Rattle.base.specs.disk.SyncOrder.DeviceCall.{Block, Config as ConfigCall, Uberblock as UberblockCall, Flush}
use Rattle.base.proofs.common.KeptLists.{All-at, mapped}
use Rattle.labels.specs.Configs.{config_block}
use Rattle.labels.specs.Stages.{labels_of}
use Rattle.labels.specs.declared.stage.Stage.{Stage}
use Rattle.labels.specs.declared.stage.Stage.TheVariants.{Even, Odd}
use Rattle.tree_plans.specs.declared.planner.PlannedBlock.{PlannedBlock}
use Rattle.uberblocks.specs.Slots.{slot_bytes}
use Rattle.sync.specs.declared.run.LabelStages.{LabelStages}
use Rattle.sync.specs.declared.run.SyncRun.{SyncRun}
use Rattle.sync.specs.CallOrder.{stage_after}
use Rattle.sync.specs.Made.{HasDistinctBlocks}
use Rattle.sync.specs.Phases.{IsWrittenNext}
use Rattle.sync.specs.Runs.{call_count}
use Rattle.sync.specs.Calls.{IsNextCall, MakesCall, Target, block_target, calls_of, config_target, first_labels, last_labels, refusal_of, target_of}
use Rattle.sync.proofs.CallPlaces.{count_calls}
use Rattle.sync.proofs.Targets.{WritesTarget, call_of_target}
use Rattle.import_replay.specs.CreateCalls.{each_label, write_config, write_uberblock}
use Rattle.import_replay.specs.LabelSyncs.{ImportWrites, IsGroupSync, calls_of_import, is_even, write_block, write_stage}
use Rattle.import_replay.proofs.CreateCalls.{made_then}

-- a call of the sync, as one of the disk
abbrev block_call : Option PlannedBlock → DiskCall
block_call None = Put 0 []
block_call (Some b) = write_block b

abbrev disk_call : ImportWrites → DeviceCall → DiskCall
disk_call w (Block k) = block_call (slice_get w.blocks k)
disk_call w (ConfigCall label) = write_config w.size w.config label
disk_call w (UberblockCall label) = write_uberblock w.size w.u label
disk_call w Flush = Settle

-- each block, at its place in the order
blocks_called : (blocks : List PlannedBlock) (f : ℕ → DiskCall) (from : ℕ) → ((k : ℕ) → f (from + k) ≡ block_call (slice_get blocks k))
    → map f (range_with_len from (length blocks)) ≡ map write_block blocks
blocks_called [] f from each = refl
blocks_called (b ∷ blocks) f from each =
    ap (λ (call : DiskCall). call ∷ map f (range_with_len (from + 1) (length blocks))) (ap f (omega arith) ∙ each 0)
    ∙ ap (λ (calls : List DiskCall). write_block b ∷ calls) (blocks_called blocks f (from + 1) (λ k. ap f (omega arith) ∙ each (suc k)))

map_stages : {A B : Type 0} (f : A → B) (blocks flush first ubers last : List A)
    → map f (blocks ++ flush ++ first ++ ubers ++ flush ++ last) ≡ map f blocks ++ map f flush ++ map f first ++ map f ubers ++ map f flush ++ map f last
map_stages f blocks flush first ubers last =
    map-append f (blocks ++ flush ++ first ++ ubers ++ flush) last
    ∙ ap (λ l. l ++ map f last) (map-append f (blocks ++ flush ++ first ++ ubers) flush
    ∙ ap (λ l. l ++ map f flush) (map-append f (blocks ++ flush ++ first) ubers
    ∙ ap (λ l. l ++ map f ubers) (map-append f (blocks ++ flush) first
    ∙ ap (λ l. l ++ map f first) (map-append f blocks flush))))

-- the calls of an import, one by one
disk_calls_are : (w : ImportWrites) (even_first : Bool) → map (disk_call w) (import_calls (length w.blocks) even_first) ≡ calls_of_import w even_first
disk_calls_are w even_first = in_stages even_first
  where
    blocks : List DeviceCall
    blocks = map (λ k. Block k) (range_with_len 0 (length w.blocks))

    blocks_are : map (disk_call w) blocks ≡ map write_block w.blocks
    blocks_are = map-map (disk_call w) (λ k. Block k) (range_with_len 0 (length w.blocks)) ∙ blocks_called w.blocks (λ k. block_call (slice_get w.blocks k)) 0 (λ k. ap (λ n. block_call (slice_get w.blocks n)) (omega arith))

    ubers : List DeviceCall
    ubers = map (λ l. UberblockCall l) (range_with_len 0 4)

    in_stages : (even : Bool) → map (disk_call w) (import_calls (length w.blocks) even) ≡ calls_of_import w even
    in_stages true =
        map_stages (disk_call w) blocks (Flush ∷ []) (label_stage even_labels) ubers (label_stage odd_labels)
        ∙ ap (λ (l : List DiskCall). l ++ Settle ∷ [] ++ write_stage w even_labels ++ each_label (write_uberblock w.size w.u) ++ Settle ∷ [] ++ write_stage w odd_labels) blocks_are
    in_stages false =
        map_stages (disk_call w) blocks (Flush ∷ []) (label_stage odd_labels) ubers (label_stage even_labels)
        ∙ ap (λ (l : List DiskCall). l ++ Settle ∷ [] ++ write_stage w odd_labels ++ each_label (write_uberblock w.size w.u) ++ Settle ∷ [] ++ write_stage w even_labels) blocks_are

-- a block is written, or there is none
block_made : (o : Option PlannedBlock) (old : Disk) (r : Result (Unit {0}) PoolError) (new : Disk) → WritesTarget (option_map block_target o) old r new → MakesDiskCall (block_call o) old r new
block_made None old r new made = absurd made
block_made (Some b) old r new made = made

-- and its refusal is that of a write
block_refused : (o : Option PlannedBlock) → refusal.Write ≡ refusal_of_call (block_call o)
block_refused None = refl
block_refused (Some b) = refl

call_refused : (w : ImportWrites) (c : DeviceCall) → refusal_of c ≡ refusal_of_call (disk_call w c)
call_refused w (Block k) = block_refused (slice_get w.blocks k)
call_refused w (ConfigCall label) = refl
call_refused w (UberblockCall label) = refl
call_refused w Flush = refl

module _ (w : ImportWrites) (first : Stage) (run : SyncRun) (is : IsGroupSync w first run) where
  pub block_count_is : vec_len run.blocks ≡ length w.blocks
  block_count_is = let long = ap length is.blocks in omega (arith, run.blocks.ok.0, long)

  -- its calls are those of an import with so many blocks
  pub calls_are : calls_of run ≡ import_calls (length w.blocks) (is_even first)
  calls_are =
      ap (λ n. calls_in_order n (is_some run.stages) (first_labels run.stages) (last_labels run.stages)) block_count_is
      ∙ ap (λ (s : Option LabelStages). calls_in_order (length w.blocks) (is_some s) (first_labels s) (last_labels s)) is.stages
      ∙ by_stage first
    where
      by_stage : (s : Stage) → calls_in_order (length w.blocks) true (labels_of s) (labels_of (stage_after s)) ≡ import_calls (length w.blocks) (is_even s)
      by_stage Even = refl
      by_stage Odd = refl

  -- each call makes of the disk what it has to
  call_makes : (c : DeviceCall) (old : Disk) (r : Result (Unit {0}) PoolError) (new : Disk) → MakesCall run c old r new → MakesDiskCall (disk_call w c) old r new
  call_makes (Block k) old r new made =
      subst (λ (bs : List PlannedBlock). MakesDiskCall (block_call (slice_get bs k)) old r new) is.blocks (block_made (slice_get run.blocks.items k) old r new made)
  call_makes (ConfigCall label) old r new made =
      subst (λ n. Writes old (config_place n label) (config_block w.config) r new) is.geometry
      (subst (λ (s : Option LabelStages). WritesTarget (option_map (config_target run.geometry label) s) old r new) is.stages made)
  call_makes (UberblockCall label) old r new made =
      subst (λ (bytes : List ℕ). Writes old (slot_place w.size label (slot_of w.u.group)) bytes r new) is.uberblock
      (subst (λ n. Writes old (slot_place w.size label n) run.uberblock r new) is.slot (subst (λ n. Writes old (slot_place n label run.slot) run.uberblock r new) is.geometry made))
  call_makes Flush old r new made = made

  -- and stands at its place
  call_there : (c : DeviceCall) → IsNextCall run c → slice_get (calls_of_import w (is_even first)) run.done ≡ Some (disk_call w c)
  call_there c at =
      ap (λ (l : List DiskCall). slice_get l run.done) (sym (disk_calls_are w (is_even first)))
      ∙ slice_get-map (disk_call w) (import_calls (length w.blocks) (is_even first)) run.done
      ∙ ap (option_map (disk_call w)) (ap (λ (l : List DeviceCall). slice_get l run.done) (sym calls_are) ∙ at)

module _ (calls : List DiskCall) (k : ℕ) (call : DiskCall) (at : slice_get calls k ≡ Some call) (start old new : Disk) (before : old ≡ after_disk_calls (take k calls) start) where
  -- one call more
  one_made : new ≡ after_disk_call call old → new ≡ after_disk_calls (take (k + 1) calls) start
  one_made made =
      made_then (take k calls) (call ∷ []) (Ok tt) start old new before made
      ∙ ap (λ (l : List DiskCall). after_disk_calls l start)
      (sym (take_more calls k call (slice_get_within calls k call at) ∙ ap (λ d. take k calls ++ d ∷ []) (get_or_from_slice_get calls k call call at)))

  -- one that the device refuses
  one_refused : (e : PoolError) → Refuses call e old new → IsStoppedIn calls e start new
  one_refused e refuses = record {
    made = take k calls;
    refused = call;
    left_out = drop (suc k) calls;
    order = sym (take-append-drop k calls)
        ∙ ap (λ (l : List DiskCall). take k calls ++ l)
        (drop-cons calls k call (slice_get_within calls k call at) ∙ ap (λ (d : DiskCall). d ∷ drop (suc k) calls) (get_or_from_slice_get calls k call call at));
    refuses = subst (λ (d : Disk). Refuses call e d new) before refuses;
  }

module _ (w : ImportWrites) (first : Stage) (run : SyncRun) (is : IsGroupSync w first run) where
  abbrev calls : List DiskCall
  calls = calls_of_import w (is_even first)

  -- the disk after one call more
  pub after_next : (start old new : Disk) (c : DeviceCall) → IsNextCall run c → old ≡ after_disk_calls (take run.done calls) start
      → MakesCall run c old (Ok tt) new → (done : ℕ) → done ≡ run.done + 1 → new ≡ after_disk_calls (take done calls) start
  after_next start old new c at before made done more =
      one_made calls run.done (disk_call w c) (call_there w first run is c at) start old new before (by_call (disk_call w c) (call_makes w first run is c old (Ok tt) new made))
      ∙ ap (λ n. after_disk_calls (take n calls) start) (sym more)
    where
      by_call : (d : DiskCall) → MakesDiskCall d old (Ok tt) new → new ≡ after_disk_call d old
      by_call (Put place content) made = made
      by_call Settle made = made

  -- a call that the device refused stops the sync
  pub stopped_at : (start old new : Disk) (c : DeviceCall) (e : PoolError) → IsNextCall run c → old ≡ after_disk_calls (take run.done calls) start
      → MakesCall run c old (Err e) new → e ≡ refusal_of c → IsStoppedIn calls e start new
  stopped_at start old new c e at before made refusal =
      one_refused calls run.done (disk_call w c) (call_there w first run is c at) start old new before e (refusal ∙ call_refused w c, call_makes w first run is c old (Err e) new made)

  -- at the end all calls are made
  pub whole : run.done ≡ call_count run → take run.done calls ≡ calls
  whole all = take_all run.done calls (omega (arith, all, count))
    where
      count : length calls ≡ call_count run
      count = ap (λ (l : List DiskCall). length l) (sym (disk_calls_are w (is_even first)))
          ∙ length-map (import_calls (length w.blocks) (is_even first)) (disk_call w)
          ∙ ap (λ (l : List DeviceCall). length l) (sym (calls_are w first run is)) ∙ count_calls (vec_len run.blocks) run.stages

  -- no two blocks have one place
  pub distinct_blocks : HasDistinctBlocks run
  distinct_blocks = subst (λ (bs : List PlannedBlock). IsDistinct nat_eq (map (λ (b : PlannedBlock). b.index) bs)) (sym is.blocks) is.distinct

  -- and if none of its blocks is a log block, none of the calls writes one
  pub writes_no_log : All (λ (b : PlannedBlock). number_at b.block 0 ≢ 6) w.blocks → (guid chain number place : ℕ) (content : List ℕ) (block : LogBlock) → IsWrittenNext run place content
      → IsLogContent content guid chain number block → ⊥
  writes_no_log none guid chain number place content block written log =
      let (call, stands, made) = call_of_target run run.done written.target written.at in
      by_call call written.target made (subst (λ (l : List ℕ). IsLogContent l guid chain number block) (sym written.content_is) log)
    where
      by_call : (call : DeviceCall) (t : Target) → target_of run call ≡ Some t → IsLogContent t.content guid chain number block → ⊥
      by_call (ConfigCall label) t made told =
          let (stages, at, same) = mapped (config_target run.geometry label) run.stages t made in
          let given : run.stages ≡ Some (record { config = config_block w.config; first = first }) = is.stages in
          let one : stages ≡ record { config = config_block w.config; first = first } = cc in
          let bytes : t.content ≡ config_block w.config = ap (λ (x : Target). x.content) (sym same) ∙ ap (λ (s : LabelStages). s.config) one in
          let kind : number_at t.content 0 ≡ 1 = ap (λ (l : List ℕ). number_at l 0) bytes ∙ is.is_config.sealed.kind_is in
          omega (arith, kind, told.sealed.kind_is)
      by_call (UberblockCall label) t made told =
          let same : record { place = slot_place run.geometry label run.slot; size = 1024; content = run.uberblock } ≡ t = cc in
          let bytes : t.content ≡ slot_bytes w.u = ap (λ (x : Target). x.content) (sym same) ∙ is.uberblock in
          let short : length t.content ≡ slot_size = ap (λ (l : List ℕ). length l) bytes ∙ is.is_uberblock.size in
          omega (arith, short, told.sealed.size)
      by_call (Block k) t made told =
          let (b, at, same) = mapped block_target (slice_get run.blocks.items k) t made in
          let there : slice_get w.blocks k ≡ Some b = ap (λ (bs : List PlannedBlock). slice_get bs k) (sym is.blocks) ∙ at in
          All-at (λ (c : PlannedBlock). number_at c.block 0 ≢ 6) w.blocks k b none there (ap (λ (x : Target). number_at x.content 0) same ∙ told.sealed.kind_is)
      by_call Flush t made told = absurd (let no_way : None ≡ Some t = made in cc)
