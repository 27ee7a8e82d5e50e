use Rattle.std.proofs.Common.{◌+◌, ◌≤◌, ◌∙◌, ℕ, List, ap, sym, subst, refl, arith}
use Rattle.std.specs.Prelude.{IsTrue}
use Rattle.base.specs.disk.Disk.{Disk, bytes_of}
use Rattle.base.specs.tree.Places.Place.{Directory}
use Rattle.base.specs.tree.Tree.{OpensAt}
use Rattle.trees.specs.SoundBlocks.{IsFormed}
use Rattle.trees.specs.Walking.{directory_index, objects_index}
use Rattle.trees.proofs.LoadedBlocks.{still_shows}
use Rattle.trees.proofs.LoadedEntries.{directory_loaded}
use Rattle.trees.proofs.NotedWalks.{found_behind, if_ok_whole, place_found}
use Rattle.trees.proofs.SoundBlocks.{block_sound, tells_place}
use Rattle.trees.proofs.WalkOrder.{sound_one}
use Rattle.trees.proofs.WalkParts.{objects_begin}
use Rattle.trees.proofs.walk.Loader.walk_directory.Goals as goal

pub returns-in-Err-clause-found : goal.returns-in-Err-clause-found
returns-in-Err-clause-found g c = λ keeps image top shows at named.
    let frame = c.args.self.now.frame.now in
    let d : ℕ = c.args.directory in
    place_found image frame top (Directory d) (directory_index d) _ c.in-Err.error c.args.damages.now c.note.new.self c.note.result c.requires.in_range refl refl
    (tells_place image frame top (Directory d) c.args.pointer.now 0 at refl c.in-Err.error named (c.in-Err.ensures.refused keeps image shows))
    c.note.ensures.added c.note.ensures.told

pub walk_entries-requires-clause-payload : goal.walk_entries-requires-clause-payload
walk_entries-requires-clause-payload g c = record {
  size = c.payload_of-payload.ensures.length;
  each = subst (λ (l : List ℕ). IsFormed c.args.self.now.frame.now 0 (Directory c.args.directory) l) (sym c.payload_of-payload.ensures.payload) c.in_default.ensures.formed;
}

pub returns-clause-loaded : goal.returns-clause-loaded
returns-clause-loaded g c = λ image shows.
    let keeps_model = g.D.SectorDevice.keeps_model in
    let frame = c.args.self.now.frame.now in
    let read = c.in_default.ensures in
    let same = still_shows keeps_model (g.D.SectorDevice.disk c.args.device.now) (g.D.SectorDevice.disk c.sound_block.new.device) image read.reads.disk shows in
    let opens = λ (keeps : IsTrue keeps_model). subst (λ (l : List ℕ). OpensAt image frame (Directory c.args.directory) c.args.pointer.now l) (sym c.payload_of-payload.ensures.payload)
    (read.opens image shows keeps) in
    let old_maps = c.args.objects.now.entries.items in
    let maps = c.walk_entries.new.objects.entries.items in
    if_ok_whole c.walk_entries.result
    (λ loads before stood empty.
    let (after, stands, marks, all) = loads before stood empty in
    (after, stands, marks, directory_loaded keeps_model image frame c.args.directory c.args.pointer.now c.payload_of-payload.result.now before after old_maps maps read.placed opens all))
    (c.walk_entries.ensures.loaded image same)

pub returns-clause-found : goal.returns-clause-found
returns-clause-found g c = λ keeps image top shows at named.
    let frame = c.args.self.now.frame.now in
    let d : ℕ = c.args.directory in
    let read = c.in_default.ensures in
    let opens = read.opens image (λ k. shows) keeps in
    found_behind image frame top (directory_index d) (objects_index d) (directory_index (d + 1)) c.args.damages.now c.walk_entries.new.damages c.walk_entries.result
    (subst (λ (i : ℕ). directory_index d ≤ i) (sym (objects_begin d)) (omega arith))
    (sound_one image frame top (Directory d) (directory_index d) (objects_index d) c.requires.in_range refl (objects_begin d)
    (block_sound image frame top (Directory d) c.args.pointer.now 0 at refl _ opens read.formed))
    (c.walk_entries.ensures.found keeps image top (ap (λ (disk : Disk). bytes_of disk.now) (read.reads.disk keeps) ∙ shows)
    (record {
      pointer = c.args.pointer.now;
      at = at;
      opens = subst (λ (l : List ℕ). OpensAt image frame (Directory d) c.args.pointer.now l) (sym c.payload_of-payload.ensures.payload) opens;
    }))
