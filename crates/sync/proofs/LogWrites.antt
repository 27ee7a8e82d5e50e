-- A log block is written between two calls of a sync: the sync is under way then over its base with the block, and the
-- logs of both views have it and are held.
use Rattle.std.proofs.Common.{◌≡◌, inl, inr, ℕ, ◌+◌, ◌<◌, ◌≤◌, Bool, true, false, not, List, [], ◌∷◌, ◌++◌, length, Option, Some, None, Result, Ok, Err, refl, sym, ◌∙◌, ap, subst, arith}
use Rattle.std.specs.Prelude.{◌≢◌, All, is_ok, slice_get}
use Rattle.std.proofs.lemmas.List.{length_push}
use Rattle.base.specs.declared.error.PoolError.{PoolError}
use Rattle.base.specs.tree.Mount.{header_of}
use Rattle.base.specs.kept.Views.{IsView, Logged, View}
use Rattle.base.specs.disk.Calls.{Writes}
use Rattle.base.specs.disk.Disk.{Apart, Disk, Moment, bytes_of, moments, put, wrote}
use Rattle.base.specs.formats.Fields.{part}
use Rattle.base.specs.formats.Geometry.{IsBlockAddress, IsGeometry, block_address, block_count, block_size, slot_of, slot_place}
use Rattle.base.specs.formats.Uberblocks.{slot_size}
use Rattle.base.proofs.common.KeptLists.{All-at, All-each, at_last, at_old, push-cases}
use Rattle.base.proofs.crash.LogCalls.{held_logged}
use Rattle.base.proofs.crash.LogSpares.{block_fits}
use Rattle.base.proofs.crash.LogUnwritten.{held_more}
use Rattle.base.proofs.crash.LogViews.{with_block, linked_push}
use Rattle.base.proofs.disk.Put.{part-put_apart}
use Rattle.base.proofs.disk.WrittenBlocks.{blocks-apart}
use Rattle.base.proofs.formats.Geometry.{slot-below}
use Rattle.base.proofs.formats.LabelPlaces.{block-label_apart}
use Rattle.tree_plans.specs.declared.planner.PlannedBlock.{PlannedBlock}
use Rattle.sync.specs.declared.run.LabelStages.{LabelStages}
use Rattle.sync.specs.declared.run.SyncRun.{SyncRun}
use Rattle.sync.specs.LogCalls.{IsNextLogBlock, IsNextInBoth, base_with, with_log_block}
use Rattle.sync.specs.Made.{HasMade}
use Rattle.sync.specs.Phases.{HasConfigOf, HasPhase, HasPhaseOf, HoldsLogs, IsApartFromLog, IsLoggedBefore, IsSpareBlock, IsUnderWay, LeadsViews, MakesTree, SyncViews, calls_before_slots, new_config_label}
use Rattle.sync.proofs.LogPhases.{phase_logged, phase_more}
use Rattle.sync.proofs.PhaseSteps.{sized_now}
use Rattle.sync.proofs.SpareBlocks.{made_with, tree_with}
use Rattle.sync.proofs.SparedPlaces.{linked_placed}
use Rattle.sync.proofs.Targets.{IsSound, is_sound}

-- a view with the next block is one
view_with : (size : ℕ) (v : View) (l : Logged) → IsNextLogBlock size v l → IsView size v → IsView size (with_block l v)
view_with size v l next view = record {
  geometry = view.geometry;
  uberblock = view.uberblock;
  config = view.config;
  not_above = view.not_above;
  name = view.name;
  root = view.root;
  linked = linked_push v.u.guid (block_count size) v.u.import_number (header_of v.u) v.logged l view.linked next.linked;
  cut = next.cut;
}

module _ (base : List ℕ) (v : SyncViews) (run : SyncRun) (l : Logged) (m : Moment) (next : IsNextInBoth run v l) (holds : HoldsLogs run v false m) (way : IsUnderWay base v run m) where
  abbrev with : SyncViews
  with = with_log_block l v

  abbrev place : ℕ
  place = l.block.address

  g : IsGeometry run.geometry
  g = way.leads.view.geometry

  sound : IsSound run
  sound = is_sound run g

  in_area : IsBlockAddress (block_count run.geometry) place
  in_area = subst (λ (a : ℕ). IsBlockAddress (block_count run.geometry) a) (sym next.old.linked.0.0) next.old.linked.0.2

  whole : length l.content ≡ block_size
  whole = next.old.linked.0.3.sealed.size

  image_long : length (bytes_of m) ≡ run.geometry
  image_long = sized_now v run m way.phase

  fits : place + length l.content ≤ length (bytes_of m)
  fits = let within : place + block_size ≤ run.geometry = block_fits run.geometry g place in_area in omega (arith, within, whole, image_long)

  base_fits : place + length l.content ≤ length base
  base_fits = omega (arith, fits, way.made.size)

  no_block : (k : ℕ) (b : PlannedBlock) → slice_get run.blocks.items k ≡ Some b → block_address b.index ≢ place
  no_block k b at = All-at (λ (c : PlannedBlock). block_address c.index ≢ place) run.blocks.items k b next.no_block at

  config_with : (o : Option LabelStages) → HasConfigOf o v → HasConfigOf o with
  config_with None has = has
  config_with (Some stages) has = has

  label_with : (o : Option LabelStages) → new_config_label v o ≡ new_config_label with o
  label_with None = refl
  label_with (Some stages) = refl

  blocks_with : All (IsSpareBlock with) run.blocks.items
  blocks_with = All-each (IsSpareBlock with) run.blocks.items (λ k b at.
      let spare : IsSpareBlock v b = All-at (IsSpareBlock v) run.blocks.items k b way.leads.blocks at in
      record {
        not_config = spare.not_config;
        not_log = spare.not_log;
        not_in_tree = spare.not_in_tree;
        not_logged = λ i x below there. elim (push-cases v.old.logged l x i there) as (λ _. block_address b.index ≢ x.block.address) [
          | inl was ↦ spare.not_logged i x below was
          | inr last ↦ subst (λ (y : Logged). block_address b.index ≢ y.block.address) last.1 (no_block k b at)
        ];
      })

  apart_with : All (IsApartFromLog with.old) run.blocks.items
  apart_with = All-each (IsApartFromLog with.old) run.blocks.items (λ k b at i x there.
      elim (push-cases v.old.logged l x i there) as (λ _. block_address b.index ≢ x.block.address) [
        | inl was ↦ All-at (IsApartFromLog v.old) run.blocks.items k b holds.apart at i x was
        | inr last ↦ subst (λ (y : Logged). block_address b.index ≢ y.block.address) last.1 (no_block k b at)
      ])

  log_with : IsLoggedBefore with
  log_with = (
    omega (arith, way.leads.log.0, length_push v.new.logged l),
    λ i x there. elim (push-cases v.new.logged l x i there) as (λ _. (j : ℕ) × (slice_get (v.old.logged ++ l ∷ []) j ≡ Some x) × (i < v.new_flushed → j < v.flushed)) [
      | inl was ↦ let old = way.leads.log.1 i x was in (old.0, at_old v.old.logged l x old.0 old.1, old.2)
      | inr last ↦ (length v.old.logged, at_last v.old.logged l ∙ ap (λ (y : Logged). Some y) last.1, λ below. absurd (omega (arith, below, last.0, way.leads.log.0)))
    ],
  )

  leads_with : (now : List ℕ) → MakesTree now run with.new → LeadsViews now run with
  leads_with now tree = record {
    old_view = view_with run.geometry v.old l next.old way.leads.old_view;
    view = view_with run.geometry v.new l next.new way.leads.view;
    above = way.leads.above;
    slot = way.leads.slot;
    other_slot = way.leads.other_slot;
    uberblock = way.leads.uberblock;
    config = config_with run.stages way.leads.config;
    blocks = blocks_with;
    tree = tree;
    log = log_with;
  }

  abbrev Phase : SyncViews → ℕ → Moment → Type 0
  Phase w config n = HasPhase w run.geometry (calls_before_slots run) config run.done n

  -- the write counts for a crash
  counted : (done : Bool) (moment : ℕ) → HasPhaseOf run with (wrote moment place l.content done m)
  counted done moment = subst (λ (config : ℕ). Phase with config (wrote moment place l.content done m)) (label_with run.stages)
      (phase_logged v run.geometry (calls_before_slots run) (new_config_label v run.stages) g l m next.old next.new holds.old.below holds.new.below moment done fits run.done way.phase)

  refused : (n : Moment) → bytes_of n ≡ bytes_of m → HasPhaseOf run with n → IsUnderWay base with run n
  refused n same phase = record {
    leads = leads_with base way.leads.tree;
    distinct = way.distinct;
    unwritten = way.unwritten;
    made = subst (λ (image : List ℕ). HasMade base run image) (sym same) way.made;
    phase = phase;
  }

  pub way_written : (moment : ℕ) → IsUnderWay (put place l.content base) with run (wrote moment place l.content true m)
  way_written moment = record {
    leads = leads_with (put place l.content base) (tree_with run sound place in_area no_block base l.content whole (omega (arith, base_fits, whole)) v.new next.new.spare.not_in_tree way.leads.tree);
    distinct = way.distinct;
    unwritten = λ label below same. way.unwritten label below (sym (slot_stays label below) ∙ same);
    made = made_with run sound place in_area no_block base (bytes_of m) l.content whole fits way.made;
    phase = counted true moment;
  }
    where
      slot_stays : (label : ℕ) → label < 4 → part (put place l.content base) (slot_place run.geometry label (slot_of v.new.u.group)) slot_size ≡ part base (slot_place run.geometry label (slot_of v.new.u.group)) slot_size
      slot_stays label below =
          let in_array : slot_of v.new.u.group < 128 = slot-below v.new.u.group in
          part-put_apart place l.content base (slot_place run.geometry label (slot_of v.new.u.group)) slot_size base_fits
          (subst (λ (n : ℕ). Apart place n (slot_place run.geometry label (slot_of v.new.u.group)) slot_size) (sym whole)
          (block-label_apart run.geometry label (slot_place run.geometry label (slot_of v.new.u.group)) slot_size place g below (omega arith) (omega (arith, in_array)) in_area))

  pub way_counted : (moment : ℕ) → IsUnderWay base with run (wrote moment place l.content false m)
  way_counted moment = refused (wrote moment place l.content false m) refl (counted false moment)

  pub way_refused : IsUnderWay base with run m
  way_refused = refused m refl (subst (λ (config : ℕ). Phase with config m) (label_with run.stages)
      (phase_more v run.geometry (calls_before_slots run) (new_config_label v run.stages) g l m next.old next.new holds.old.below holds.new.below run.done way.phase))

  -- the block is apart from the log of a view that it goes on
  log_apart : (w : View) → IsView run.geometry w → IsNextLogBlock run.geometry w l → (i : ℕ) (x : Logged) → slice_get w.logged i ≡ Some x → Apart place (length l.content) x.block.address (length x.content)
  log_apart w view is i x at =
      let there = linked_placed w.u.guid (block_count run.geometry) w.u.import_number (header_of w.u) w.logged view.linked i x at in
      subst (λ (n : ℕ). Apart place n x.block.address (length x.content)) (sym whole)
      (subst (λ (n : ℕ). Apart place block_size x.block.address n) (sym there.0)
      (blocks-apart (block_count run.geometry) place x.block.address in_area there.1 (λ same. is.spare.not_logged i x at (sym same))))

  pub holds_written : (done : Bool) (moment : ℕ) → HoldsLogs run with (not done) (wrote moment place l.content done m)
  holds_written done moment = record {
    apart = apart_with;
    old = held_logged moment place done m l fits run.geometry v.created v.flushed false v.old refl next.old.linked (log_apart v.old way.leads.old_view next.old) holds.old;
    new = held_logged moment place done m l fits run.geometry v.created v.new_flushed false v.new refl next.new.linked (log_apart v.new way.leads.view next.new) holds.new;
  }

  pub holds_refused : HoldsLogs run with true m
  holds_refused = record {
    apart = apart_with;
    old = held_more run.geometry v.created v.flushed m v.old l false holds.old;
    new = held_more run.geometry v.created v.new_flushed m v.new l false holds.new;
  }

-- whatever the device answers
pub log_written : (base : List ℕ) (before after : Disk) (answer : Result (Unit {0}) PoolError) (v : SyncViews) (run : SyncRun) (l : Logged) → IsNextInBoth run v l → HoldsLogs run v false before.now
    → Writes before l.block.address l.content answer after → IsUnderWay base v run before.now → IsUnderWay (base_with answer l base) (with_log_block l v) run after.now × HoldsLogs run (with_log_block l v) (not (is_ok answer)) after.now
log_written base before after (Ok x) v run l next holds writes way =
    subst (λ (d : Disk). IsUnderWay (put l.block.address l.content base) (with_log_block l v) run d.now × HoldsLogs run (with_log_block l v) false d.now) (sym writes)
    (way_written base v run l before.now next holds way (moments before), holds_written base v run l before.now next holds way true (moments before))
log_written base before after (Err e) v run l next holds (inl noted) way =
    subst (λ (d : Disk). IsUnderWay base (with_log_block l v) run d.now × HoldsLogs run (with_log_block l v) true d.now) (sym noted)
    (way_counted base v run l before.now next holds way (moments before), holds_written base v run l before.now next holds way false (moments before))
log_written base before after (Err e) v run l next holds (inr same) way =
    subst (λ (d : Disk). IsUnderWay base (with_log_block l v) run d.now × HoldsLogs run (with_log_block l v) true d.now) (sym same)
    (way_refused base v run l before.now next holds way, holds_refused base v run l before.now next holds way)
