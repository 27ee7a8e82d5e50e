use Rattle.std.proofs.Common.{◌≡◌, ◌+◌, ◌∙◌, ℕ, ap, sym, refl, arith, inl}
use Rattle.std.proofs.lemmas.Bool.{and_parts}
use Rattle.std.proofs.lemmas.Result.{err_from_is_err_and}
use Rattle.std.specs.Prelude.{IsTrue}
use Rattle.base.specs.disk.Disk.{Disk, bytes_of}
use Rattle.base.specs.tree.Places.{record_start, strip_of, walk_index_of_indirect}
use Rattle.base.specs.tree.Places.Place.{Data}
use Rattle.trees.proofs.LoadedBlocks.{still_shows}
use Rattle.trees.proofs.LoadedRecords.{begins_inside, keeps_more, keeps_none, no_records_yet, records_load, records_skip}
use Rattle.trees.proofs.DamageLists.{damages_then, no_damages}
use Rattle.trees.proofs.NotedWalks.{noted_none, noted_then, tells_after}
use Rattle.trees.proofs.WalkOrder.{sound_none, sound_one}
use Rattle.trees.proofs.WalkParts.{data_in}
use Rattle.trees.proofs.walk.Loader.walk_records.Goals as goal

pub loop-index-init : goal.loop-index-init
loop-index-init g c = record {
  size = refl;
  disk = λ keeps. refl;
  count = refl;
  ahead = λ image shows. c.new-ahead.ensures g.D.SectorDevice.keeps_model image c.args.self.now.frame.now;
  kept = keeps_none (strip_of c.args.number) c.args.bytes.now.value;
  noted = noted_none c.args.damages.now;
  listed = λ keeps image top shows all.
      let start : ℕ = walk_index_of_indirect c.args.number + 1 in
      no_damages image c.args.self.now.frame.now top start (start + 0) c.args.damages.now.list.items (omega arith)
      (sound_none image c.args.self.now.frame.now top start (start + 0) (omega arith));
  loaded = λ image shows whole. no_records_yet g.D.SectorDevice.keeps_model image c.args.self.now.frame.now c.args.number c.args.payload.now c.args.bytes.now.value c.requires.zeros;
}

pub read_ahead-requires-clause-ahead : goal.read_ahead-requires-clause-ahead
read_ahead-requires-clause-ahead g c = λ image shows.
    let i = c.loop-index.invariant in
    i.ahead image (λ k. ap (λ (d : Disk). bytes_of d.now) (sym (i.disk k)) ∙ shows k)

pub loop-index-preserved-then-is_none : goal.loop-index-preserved-then-is_none
loop-index-preserved-then-is_none g c =
    let i = c.loop-index.invariant in
    let read = c.in_ok-read_ahead.ensures in
    let here : ℕ = walk_index_of_indirect c.args.number + 1 + c.loop-index.index in
    record {
      size = read.reads.size ∙ i.size;
      disk = λ keeps. read.reads.disk keeps ∙ i.disk keeps;
      count = read.reads.count ∙ i.count;
      ahead = λ image shows. read.ahead image (still_shows g.D.SectorDevice.keeps_model (g.D.SectorDevice.disk c.args.device.now) (g.D.SectorDevice.disk c.loop-index.device) image i.disk shows);
      kept = i.kept;
      noted = i.noted;
      listed = λ keeps image top shows all.
          damages_then image c.args.self.now.frame.now top (walk_index_of_indirect c.args.number + 1) here here (here + 1) (walk_index_of_indirect c.args.number + 1 + (c.loop-index.index + 1))
          c.args.damages.now.list.items c.loop-index.damages.list.items c.loop-index.damages.list.items refl (omega arith) (i.listed keeps image top shows all)
          (no_damages image c.args.self.now.frame.now top here (here + 1) c.loop-index.damages.list.items (omega arith)
          (sound_one image c.args.self.now.frame.now top (Data c.args.number c.loop-index.index) here (here + 1) (c.requires.in_range, c.loop-index-test.true) refl refl
          (inl (all.at c.loop-index.index c.loop-index-test.true ∙ sym c.pointer_in-pointer.ensures ∙ c.if-is_none.ensures.0 refl))));
      loaded = λ image shows whole. records_skip g.D.SectorDevice.keeps_model image c.args.self.now.frame.now c.args.number c.args.payload.now c.loop-index.bytes.value c.loop-index.index
          c.pointer_in-pointer.result (i.loaded image shows whole) c.loop-index-test.true c.pointer_in-pointer.ensures (c.if-is_none.ensures.0 refl);
    }

pub walk_record-requires-clause-ahead : goal.walk_record-requires-clause-ahead
walk_record-requires-clause-ahead g c = λ image shows.
    let read = c.in_ok-read_ahead.ensures in
    read.ahead image (λ k. ap (λ (d : Disk). bytes_of d.now) (sym (read.reads.disk k)) ∙ shows k)

pub walk_record-requires-clause-size : goal.walk_record-requires-clause-size
walk_record-requires-clause-size g c = c.loop-index.invariant.kept.size ∙ c.requires.size

pub walk_record-requires-clause-within : goal.walk_record-requires-clause-within
walk_record-requires-clause-within g c =
    begins_inside c.args.size (record_start c.args.number c.loop-index.index) _ (c.requires.records c.loop-index.index c.loop-index-test.true)
    (λ none. let no = c.if-is_none.ensures.1 (c.pointer_in-pointer.ensures ∙ none) in cc)

pub returns-in_err-is_sound-clause-found : goal.returns-in_err-is_sound-clause-found
returns-in_err-is_sound-clause-found g c = λ keeps image top shows all.
    let p = err_from_is_err_and c.from_residual-in_err-is_sound.result c.from_residual-in_err-is_sound.ensures.1 in
    let i = c.loop-index.invariant in
    let call = c.in_err-is_sound.ensures in
    let w : ℕ = walk_index_of_indirect c.args.number in
    rw (p.1, p.2) (tells_after image c.args.self.now.frame.now top (w + 1) (w + 1 + c.loop-index.index) (w + 1 + c.loop-index.index) c.in_err-is_sound.field-0.0
    c.args.damages.now c.loop-index.damages c.loop-index.whole (omega arith) refl i.noted (i.listed keeps image top shows all) call.notes
    (call.found keeps image top (ap (λ (d : Disk). bytes_of d.now) (c.in_ok-read_ahead.ensures.reads.disk keeps ∙ i.disk keeps) ∙ shows)
    (data_in image top c.args.number c.loop-index.index c.args.size c.args.payload.now c.pointer_in-pointer.result c.loop-index-test.true all c.pointer_in-pointer.ensures
    (λ none. let no = c.if-is_none.ensures.1 none in cc))))

pub loop-index-preserved : goal.loop-index-preserved
loop-index-preserved g c =
    let i = c.loop-index.invariant in
    let read = c.in_ok-read_ahead.ensures in
    let call = c.in_ok-is_sound.ensures in
    let here : ℕ = walk_index_of_indirect c.args.number + 1 + c.loop-index.index in
    let long = i.kept.size ∙ c.requires.size in
    let start : Disk = g.D.SectorDevice.disk c.args.device.now in
    let stays : IsTrue g.D.SectorDevice.keeps_model → g.D.SectorDevice.disk c.read_ahead.new.device ≡ start = λ keeps. read.reads.disk keeps ∙ i.disk keeps in
    record {
      size = call.reads.size ∙ read.reads.size ∙ i.size;
      disk = λ keeps. call.reads.disk keeps ∙ stays keeps;
      count = call.reads.count ∙ read.reads.count ∙ i.count;
      ahead = λ image shows. read.ahead image (still_shows g.D.SectorDevice.keeps_model start (g.D.SectorDevice.disk c.loop-index.device) image i.disk shows);
      kept = keeps_more (strip_of c.args.number) c.loop-index.index c.args.size c.args.bytes.now.value c.loop-index.bytes.value c.walk_record.new.bytes.value c.loop-index-test.true c.requires.size i.kept
          call.size call.bytes call.others;
      noted = noted_then c.args.damages.now c.loop-index.damages c.walk_record.new.damages c.loop-index.whole c.in_ok-is_sound.is_sound i.noted call.notes;
      listed = λ keeps image top shows all.
          damages_then image c.args.self.now.frame.now top (walk_index_of_indirect c.args.number + 1) here here (here + 1) (walk_index_of_indirect c.args.number + 1 + (c.loop-index.index + 1))
          c.args.damages.now.list.items c.loop-index.damages.list.items c.walk_record.new.damages.list.items refl (omega arith) (i.listed keeps image top shows all)
          (call.found keeps image top (ap (λ (d : Disk). bytes_of d.now) (stays keeps) ∙ shows)
          (data_in image top c.args.number c.loop-index.index c.args.size c.args.payload.now c.pointer_in-pointer.result c.loop-index-test.true all c.pointer_in-pointer.ensures
          (λ none. let no = c.if-is_none.ensures.1 none in cc)));
      loaded = λ image shows whole.
          let both = and_parts c.loop-index.whole c.in_ok-is_sound.is_sound whole in
          records_load g.D.SectorDevice.keeps_model image c.args.self.now.frame.now c.args.number c.args.payload.now c.loop-index.bytes.value
          c.walk_record.new.bytes.value c.loop-index.index c.pointer_in-pointer.result (i.loaded image shows both.0) c.pointer_in-pointer.ensures
          (call.loaded image (still_shows g.D.SectorDevice.keeps_model start (g.D.SectorDevice.disk c.read_ahead.new.device) image stays shows) both.1)
          call.others (call.size ∙ sym long);
    }

pub returns-clause-loaded : goal.returns-clause-loaded
returns-clause-loaded g c = λ image shows whole.
    let e : c.loop-index.index ≡ 84 = omega (arith, c.loop-index.auto.index-end, c.loop-index-test.false) in
    rw e at (c.loop-index.invariant.loaded image shows whole)
