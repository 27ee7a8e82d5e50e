use Rattle.std.proofs.Common.{◌≡◌, ◌<◌, ◌≤◌, ◌+◌, ◌*◌, ◌∙◌, ℕ, List, length, refl, ap, subst, sym, arith}
use Rattle.std.specs.FinMap as finite
use Rattle.std.proofs.lemmas.Bool.{and_parts}
use Rattle.std.proofs.lemmas.Result.{err_from_is_err_and}
use Rattle.base.specs.disk.Disk.{Disk, bytes_of}
use Rattle.base.specs.formats.Fields.{entry_in}
use Rattle.base.specs.tree.Places.{walk_index_of_object}
use Rattle.tree_blocks.specs.declared.tree.ObjectEntry.{ObjectEntry}
use Rattle.tree_blocks.proofs.EntryForms.{entry_absent, entry_there}
use Rattle.trees.specs.DamageLists.{AddsDamages}
use Rattle.trees.specs.FreeBlocks.{AreMarked}
use Rattle.trees.specs.Loading.{AreLoadedEntries}
use Rattle.trees.specs.Noted.{kept_entry}
use Rattle.trees.specs.Walking.{objects_index}
use Rattle.trees.proofs.DamageLists.{no_damages, object_added, sound_added}
use Rattle.trees.proofs.FreeBlocks.{marked_set}
use Rattle.trees.proofs.LoadedBlocks.{still_shows}
use Rattle.trees.proofs.LoadedEntries.{entries_put, entries_skip, entry_for, next_empty, no_entries}
use Rattle.trees.proofs.NotedWalks.{noted_none, noted_then, tells_after}
use Rattle.trees.proofs.WalkOrder.{index_within}
use Rattle.trees.proofs.WalkParts.{directory_end, entry_linked, entry_none, objects_begun}
use Rattle.trees.proofs.walk.Loader.walk_entries.Goals as goal

pub loop-index-init : goal.loop-index-init
loop-index-init g c = record {
  size = refl;
  disk = λ keeps. refl;
  count = refl;
  noted = noted_none c.args.damages.now;
  listed = λ keeps image top shows payload.
      let s : ℕ = objects_index c.args.directory in
      no_damages image c.args.self.now.frame.now top s (s + 7141 * 0) c.args.damages.now.list.items (omega arith) (objects_begun image c.args.self.now.frame.now top c.args.directory);
  loaded = λ image shows whole before stood empty. (
    before,
    stood,
    (λ blocks marked. marked),
    no_entries g.D.SectorDevice.keeps_model image c.args.self.now.frame.now c.args.directory c.args.payload.now before c.args.objects.now.entries.items,
  );
}

next_behind : (s k : ℕ) → s + 7141 * k ≤ s + 7141 * (k + 1)
next_behind s k = omega arith

begun_before : (s k : ℕ) → s ≤ s + 7141 * k
begun_before s k = omega arith

pub loop-index-preserved-then-entry-eq0 : goal.loop-index-preserved-then-entry-eq0
loop-index-preserved-then-entry-eq0 g c =
    let i = c.loop-index.invariant in
    let d : ℕ = c.args.directory in
    let k : ℕ = c.loop-index.index in
    let frame = c.args.self.now.frame.now in
    let entry : List ℕ = entry_in c.args.payload.now k in
    let absent = entry_absent frame entry (c.requires.payload.each k c.loop-index-test.true) (sym c.read_entry-entry.ensures.present ∙ c.if-entry-eq0.true) in
    record {
      size = i.size;
      disk = i.disk;
      count = i.count;
      noted = i.noted;
      listed = λ keeps image top shows payload.
          sound_added image frame top (objects_index d) (objects_index d + 7141 * k) (objects_index d + 7141 * (k + 1)) c.args.damages.now.list.items c.loop-index.damages.list.items
          (next_behind (objects_index d) k) (i.listed keeps image top shows payload) (entry_none image frame top d k c.args.payload.now c.requires.in_range c.loop-index-test.true payload absent);
      loaded = λ image shows whole before stood empty.
          let (after, stands, marks, so_far) = i.loaded image shows whole before stood empty in (
            after,
            stands,
            marks,
            entries_skip g.D.SectorDevice.keeps_model image frame d c.args.payload.now k
                before after c.args.objects.now.entries.items c.loop-index.objects.entries.items so_far empty absent,
          );
    }

pub walk_object-requires-clause-entry : goal.walk_object-requires-clause-entry
walk_object-requires-clause-entry g c =
    let entry = c.read_entry-entry.ensures in
    entry_there c.args.self.now.frame.now (entry_in c.args.payload.now c.loop-index.index) c.read_entry-entry.result (c.requires.payload.each c.loop-index.index c.loop-index-test.true) entry.present entry.length
    c.if-entry-eq0.false

pub loop-index-preserved : goal.loop-index-preserved
loop-index-preserved g c =
    let i = c.loop-index.invariant in
    let call = c.in_ok-is_sound.ensures in
    let sound = c.in_ok-is_sound.is_sound in
    let entry = c.read_entry-entry.ensures in
    let payload : List ℕ = c.args.payload.now in
    let d : ℕ = c.args.directory in
    let k : ℕ = c.loop-index.index in
    let frame = c.args.self.now.frame.now in
    let number : ℕ = 63 * d + k in
    let bytes = c.walk_object.new.object.bytes.value in
    let kept : ObjectEntry = kept_entry c.read_entry-entry.result c.walk_object.new.object in
    let entries : List ObjectEntry = c.loop-index.objects.entries.items in
    let low : number < 5292 = omega (arith, c.requires.in_range, c.loop-index-test.true) in
    let in_place : number < length entries = omega (arith, low, c.loop-index.objects.entries.ok.0, c.loop-index.objects.all_entries) in
    let there = entry_there frame (entry_in payload k) c.read_entry-entry.result (c.requires.payload.each k c.loop-index-test.true) entry.present entry.length c.if-entry-eq0.false in
    record {
      size = call.reads.size ∙ i.size;
      disk = λ keeps. call.reads.disk keeps ∙ i.disk keeps;
      count = call.reads.count ∙ i.count;
      noted = noted_then c.args.damages.now c.loop-index.damages c.walk_object.new.damages c.loop-index.whole sound i.noted call.notes;
      listed = λ keeps image top shows of_directory.
          object_added image frame top d k c.args.damages.now.list.items c.loop-index.damages.list.items c.walk_object.new.damages.list.items c.loop-index-test.true
          (i.listed keeps image top shows of_directory)
          (call.found keeps image top (ap (λ (x : Disk). bytes_of x.now) (i.disk keeps) ∙ shows)
          (entry_linked image frame top d k payload c.read_entry-entry.result c.loop-index-test.true of_directory entry.present entry.pointer entry.length));
      loaded = λ image shows whole before stood empty.
          let both = and_parts c.loop-index.whole sound whole in
          let (after, stands, marks, so_far) = i.loaded image shows both.0 before stood empty in
          let old_entries : List ObjectEntry = c.args.objects.now.entries.items in
          let none = next_empty g.D.SectorDevice.keeps_model image frame d payload k before after old_entries entries so_far (empty.each number (omega arith)) in
          let put = entries_put g.D.SectorDevice.keeps_model image frame d payload k before after old_entries entries bytes kept so_far in_place
          (call.loaded image (still_shows g.D.SectorDevice.keeps_model (g.D.SectorDevice.disk c.args.device.now) (g.D.SectorDevice.disk c.loop-index.device) image i.disk shows) both.1)
          (entry_for frame (entry_in payload k) c.read_entry-entry.result bytes kept entry.present entry.length entry.pointer there (record { size = call.size; pointer = refl; length = refl })) in (
            finite.insert after number bytes,
            c.put.ensures.objects after stands,
            (λ blocks marked. subst (λ (new : List ObjectEntry). AreMarked new blocks c.walk_object.new.free) (sym c.put.ensures.entries)
                (marked_set entries number kept blocks c.loop-index.free c.walk_object.new.free low in_place none.pointers (marks blocks marked) (call.taken both.1))),
            subst (λ (new : List ObjectEntry). AreLoadedEntries g.D.SectorDevice.keeps_model image frame d payload (k + 1) before (finite.insert after number bytes) old_entries new) (sym c.put.ensures.entries) put,
          );
    }

pub returns-clause-loaded : goal.returns-clause-loaded
returns-clause-loaded g c = λ image shows whole.
    let e : c.loop-index.index ≡ 63 = omega (arith, c.loop-index.auto.index-end, c.loop-index-test.false) in
    rw e at (c.loop-index.invariant.loaded image shows whole)

pub returns-clause-found : goal.returns-clause-found
returns-clause-found g c = λ keeps image top shows payload.
    let frame = c.args.self.now.frame.now in
    let s : ℕ = objects_index c.args.directory in
    let e : c.loop-index.index ≡ 63 = omega (arith, c.loop-index.auto.index-end, c.loop-index-test.false) in
    subst (λ (k : ℕ). AddsDamages image frame top s k c.args.damages.now.list.items c.loop-index.damages.list.items) (directory_end c.args.directory)
    (subst (λ (k : ℕ). AddsDamages image frame top s (s + 7141 * k) c.args.damages.now.list.items c.loop-index.damages.list.items) e (c.loop-index.invariant.listed keeps image top shows payload))

pub returns-in_err-is_sound-clause-found : goal.returns-in_err-is_sound-clause-found
returns-in_err-is_sound-clause-found g c = λ keeps image top shows of_directory.
    let p = err_from_is_err_and c.from_residual.result c.from_residual.ensures.1 in
    let i = c.loop-index.invariant in
    let call = c.in_err-is_sound.ensures in
    let entry = c.read_entry-entry.ensures in
    let d : ℕ = c.args.directory in
    let k : ℕ = c.loop-index.index in
    let frame = c.args.self.now.frame.now in
    rw (p.1, p.2) (tells_after image frame top (objects_index d) (objects_index d + 7141 * k) (walk_index_of_object (63 * d + k)) c.in_err-is_sound.field-0.0
    c.args.damages.now c.loop-index.damages c.loop-index.whole (begun_before (objects_index d) k) (sym (index_within d k c.loop-index-test.true)) i.noted (i.listed keeps image top shows of_directory) call.notes
    (call.found keeps image top (ap (λ (x : Disk). bytes_of x.now) (i.disk keeps) ∙ shows)
    (entry_linked image frame top d k c.args.payload.now c.read_entry-entry.result c.loop-index-test.true of_directory entry.present entry.pointer entry.length)))
