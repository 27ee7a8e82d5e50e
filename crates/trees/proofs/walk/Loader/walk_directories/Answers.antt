use Rattle.std.proofs.Common.{◌≡◌, ◌<◌, ◌+◌, ◌∙◌, ℕ, length, ap, subst, refl, arith}
use Rattle.std.proofs.lemmas.Bool.{and_parts}
use Rattle.std.proofs.lemmas.List.{get_or_default}
use Rattle.std.proofs.lemmas.Result.{err_from_is_err_and}
use Rattle.base.specs.disk.Disk.{Disk, bytes_of}
use Rattle.base.specs.formats.Fields.{no_pointer}
use Rattle.trees.specs.DamageLists.{AddsDamages}
use Rattle.trees.specs.Walking.{directory_index}
use Rattle.trees.proofs.DamageLists.{behind_directory, damages_more, no_damages, sound_added}
use Rattle.trees.proofs.LoadedBlocks.{still_shows}
use Rattle.trees.proofs.LoadedEntries.{directories_skip, directories_load, no_directories}
use Rattle.trees.proofs.NotedWalks.{noted_none, noted_then, tells_after}
use Rattle.trees.proofs.WalkParts.{directories_begun, directory_absent, directory_behind}
use Rattle.trees.proofs.walk.Loader.walk_directories.Goals as goal

pub loop-index-init : goal.loop-index-init
loop-index-init g c = record {
  size = refl;
  disk = λ keeps. refl;
  count = refl;
  noted = noted_none c.args.damages.now;
  listed = λ keeps image top shows all.
      no_damages image c.args.self.now.frame.now top 1 (directory_index 0) c.args.damages.now.list.items (directory_behind 0) (directories_begun image c.args.self.now.frame.now top);
  loaded = λ image shows whole before stood empty. (
    before,
    stood,
    (λ blocks marked. marked),
    no_directories g.D.SectorDevice.keeps_model image c.args.self.now.frame.now c.args.directories.now before c.args.objects.now.entries.items empty,
  );
}

pub loop-index-preserved-then-is_none : goal.loop-index-preserved-then-is_none
loop-index-preserved-then-is_none g c =
    let i = c.loop-index.invariant in
    let d : ℕ = c.loop-index.index in
    let within : d < length c.args.directories.now = omega (arith, c.requires.directories, c.loop-index-test.true) in
    record {
      size = i.size;
      disk = i.disk;
      count = i.count;
      noted = i.noted;
      listed = λ keeps image top shows all.
          sound_added image c.args.self.now.frame.now top 1 (directory_index d) (directory_index (d + 1)) c.args.damages.now.list.items c.loop-index.damages.list.items
          (let after = behind_directory d in omega (arith, after)) (i.listed keeps image top shows all)
          (directory_absent image c.args.self.now.frame.now top d c.loop-index-test.true
          (all.at d c.loop-index-test.true ∙ get_or_default c.args.directories.now d no_pointer _ within ∙ c.if-is_none.ensures.0 refl));
      loaded = λ image shows whole before stood empty.
          let (after, stands, marks, so_far) = i.loaded image shows whole before stood empty in (
            after,
            stands,
            marks,
            directories_skip g.D.SectorDevice.keeps_model image c.args.self.now.frame.now c.args.directories.now d
                after c.loop-index.objects.entries.items so_far _ within (c.if-is_none.ensures.0 refl),
          );
    }

pub loop-index-preserved : goal.loop-index-preserved
loop-index-preserved g c =
    let i = c.loop-index.invariant in
    let call = c.in_ok-is_sound.ensures in
    let sound = c.in_ok-is_sound.is_sound in
    let within : c.loop-index.index < length c.args.directories.now = omega (arith, c.requires.directories, c.loop-index-test.true) in
    record {
      size = call.reads.size ∙ i.size;
      disk = λ keeps. call.reads.disk keeps ∙ i.disk keeps;
      count = call.reads.count ∙ i.count;
      noted = noted_then c.args.damages.now c.loop-index.damages c.walk_directory.new.damages c.loop-index.whole sound i.noted call.notes;
      listed = λ keeps image top shows all.
          damages_more image c.args.self.now.frame.now top 1 (directory_index c.loop-index.index) (directory_index (c.loop-index.index + 1)) c.args.damages.now.list.items
          c.loop-index.damages.list.items c.walk_directory.new.damages.list.items (i.listed keeps image top shows all)
          (call.found keeps image top (ap (λ (d : Disk). bytes_of d.now) (i.disk keeps) ∙ shows)
          (all.at c.loop-index.index c.loop-index-test.true ∙ get_or_default c.args.directories.now c.loop-index.index no_pointer _ within)
          (λ none. let no = c.if-is_none.ensures.1 none in cc));
      loaded = λ image shows whole before stood empty.
          let both = and_parts c.loop-index.whole sound whole in
          let (so_many, stood_then, marks, so_far) = i.loaded image shows both.0 before stood empty in
          let now_shows = still_shows g.D.SectorDevice.keeps_model (g.D.SectorDevice.disk c.args.device.now) (g.D.SectorDevice.disk c.loop-index.device) image i.disk shows in
          let (after, stands, more_marks, here) = call.loaded image now_shows both.1 so_many stood_then so_far.rest in (
            after,
            stands,
            (λ blocks marked. more_marks blocks (marks blocks marked)),
            directories_load g.D.SectorDevice.keeps_model image c.args.self.now.frame.now c.args.directories.now c.loop-index.index
                so_many after c.loop-index.objects.entries.items c.walk_directory.new.objects.entries.items so_far _ within here,
          );
    }

pub returns-clause-loaded : goal.returns-clause-loaded
returns-clause-loaded g c = λ image shows whole.
    let e : c.loop-index.index ≡ 84 = omega (arith, c.loop-index.auto.index-end, c.loop-index-test.false) in
    rw e at (c.loop-index.invariant.loaded image shows whole)

pub returns-clause-found : goal.returns-clause-found
returns-clause-found g c = λ keeps image top shows all.
    let e : c.loop-index.index ≡ 84 = omega (arith, c.loop-index.auto.index-end, c.loop-index-test.false) in
    subst (λ (k : ℕ). AddsDamages image c.args.self.now.frame.now top 1 (directory_index k) c.args.damages.now.list.items c.loop-index.damages.list.items) e
    (c.loop-index.invariant.listed keeps image top shows all)

pub returns-in_err-is_sound-clause-found : goal.returns-in_err-is_sound-clause-found
returns-in_err-is_sound-clause-found g c = λ keeps image top shows all.
    let p = err_from_is_err_and c.from_residual.result c.from_residual.ensures.1 in
    let i = c.loop-index.invariant in
    let call = c.in_err-is_sound.ensures in
    let within : c.loop-index.index < length c.args.directories.now = omega (arith, c.requires.directories, c.loop-index-test.true) in
    rw (p.1, p.2) (tells_after image c.args.self.now.frame.now top 1 (directory_index c.loop-index.index) (directory_index c.loop-index.index) c.in_err-is_sound.field-0.0
    c.args.damages.now c.loop-index.damages c.loop-index.whole (directory_behind c.loop-index.index) refl i.noted (i.listed keeps image top shows all) call.notes
    (call.found keeps image top (ap (λ (d : Disk). bytes_of d.now) (i.disk keeps) ∙ shows)
    (all.at c.loop-index.index c.loop-index-test.true ∙ get_or_default c.args.directories.now c.loop-index.index no_pointer _ within)
    (λ none. let no = c.if-is_none.ensures.1 none in cc)))
