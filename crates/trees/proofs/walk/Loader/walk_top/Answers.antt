use Rattle.std.proofs.Common.{◌≡◌, ◌+◌, ◌∙◌, ℕ, List, replicate, refl, sym, subst, ap, arith}
use Rattle.std.specs.Prelude.{IsTrue}
use Rattle.base.specs.declared.pointer.Pointer.{Pointer}
use Rattle.base.specs.disk.Disk.{Disk, bytes_of}
use Rattle.base.specs.formats.Limits.{object_stride}
use Rattle.base.specs.tree.Places.{walk_index_of_object}
use Rattle.base.specs.tree.Places.Place.{Top}
use Rattle.base.specs.tree.Tree.{OpensAt}
use Rattle.tree_blocks.specs.Forms.{AreStripForms}
use Rattle.tree_blocks.specs.Bytes.{AreBytes}
use Rattle.tree_blocks.specs.Pointers.{strip_in}
use Rattle.trees.specs.SoundBlocks.{IsFormed}
use Rattle.trees.proofs.DamageLists.{no_damages}
use Rattle.trees.proofs.LoadedBlocks.{still_shows}
use Rattle.trees.proofs.LoadedObjects.{levels_hole, levels_loaded}
use Rattle.trees.proofs.LoadedRecords.{bytes-zeros, zeros-records}
use Rattle.trees.proofs.NotedWalks.{found_behind, if_ok_all, if_ok_whole, on_ok_always, place_found}
use Rattle.trees.proofs.SoundBlocks.{block_sound, tells_place}
use Rattle.trees.proofs.TakenStrips.{levels_named, no_levels_named}
use Rattle.trees.proofs.WalkOrder.{sound_one}
use Rattle.trees.proofs.WalkParts.{levels_none, top_at, top_strips}
use Rattle.trees.proofs.walk.Loader.walk_top.Goals as goal

-- zeros are bytes
are_bytes : (size : ℕ) (bytes : List ℕ) → bytes ≡ replicate size 0 → AreBytes bytes
are_bytes size bytes zeros = subst (λ (l : List ℕ). AreBytes l) (sym zeros) (bytes-zeros size)

pub returns-then-is_none-clause-bytes : goal.returns-then-is_none-clause-bytes
returns-then-is_none-clause-bytes g c = are_bytes c.args.size c.args.object.now.bytes.value c.requires.zeros

pub returns-then-is_none-clause-taken : goal.returns-then-is_none-clause-taken
returns-then-is_none-clause-taken g c = λ whole.
    no_levels_named c.args.pointer.now c.args.object.now.strips.value c.args.free.now (c.if-is_none.ensures.0 refl)
    (λ j. ap (λ (l : List (ℕ × (Pointer × List Pointer))). (strip_in l j).0) c.requires.no_strips)

pub returns-then-is_none-clause-loaded : goal.returns-then-is_none-clause-loaded
returns-then-is_none-clause-loaded g c = λ image shows whole.
    levels_hole g.D.SectorDevice.keeps_model image c.args.self.now.frame.now c.args.number c.args.pointer.now c.args.object.now.strips.value c.args.object.now.bytes.value
    (c.if-is_none.ensures.0 refl) c.requires.no_strips (zeros-records c.args.size c.args.object.now.bytes.value c.requires.zeros)

pub returns-then-is_none-clause-found : goal.returns-then-is_none-clause-found
returns-then-is_none-clause-found g c = λ keeps image top shows is.
    no_damages image c.args.self.now.frame.now top _ _ c.args.damages.now.list.items (omega arith)
    (levels_none image c.args.self.now.frame.now top c.args.number c.args.size c.args.pointer.now c.requires.in_range is (c.if-is_none.ensures.0 refl))

pub returns-in-Err-clause-bytes : goal.returns-in-Err-clause-bytes
returns-in-Err-clause-bytes g c = on_ok_always c.note.result (are_bytes c.args.size c.args.object.now.bytes.value c.requires.zeros)

pub returns-in-Err-clause-found : goal.returns-in-Err-clause-found
returns-in-Err-clause-found g c = λ keeps image top shows is.
    let frame = c.args.self.now.frame.now in
    let n : ℕ = c.args.number in
    place_found image frame top (Top n) (walk_index_of_object n) _ c.in-Err.error c.args.damages.now c.note.new.self c.note.result c.requires.in_range refl refl
    (tells_place image frame top (Top n) c.args.pointer.now c.args.size (top_at image top n c.args.size c.args.pointer.now is) is.size_is c.in-Err.error
    (λ none. let no = c.if-is_none.ensures.1 none in cc) (c.in-Err.ensures.refused keeps image shows))
    c.note.ensures.added c.note.ensures.told

pub walk_strips-requires-clause-zeros : goal.walk_strips-requires-clause-zeros
walk_strips-requires-clause-zeros g c = zeros-records c.args.size c.args.object.now.bytes.value c.requires.zeros

pub walk_strips-requires-clause-bytes : goal.walk_strips-requires-clause-bytes
walk_strips-requires-clause-bytes g c = are_bytes c.args.size c.args.object.now.bytes.value c.requires.zeros

pub returns-clause-taken : goal.returns-clause-taken
returns-clause-taken g c =
    if_ok_whole c.walk_strips.result
    (levels_named c.args.pointer.now c.walk_strips.new.object.strips.value c.args.free.now c.take_block.new.free c.walk_strips.new.free c.take_block.ensures) c.walk_strips.ensures.taken

pub returns-clause-loaded : goal.returns-clause-loaded
returns-clause-loaded g c = λ image shows.
    let keeps_model = g.D.SectorDevice.keeps_model in
    let frame = c.args.self.now.frame.now in
    let place = Top c.args.number in
    let payload : List ℕ = c.payload_of-payload.result.now in
    let read = c.in_default.ensures in
    let same = sym c.payload_of-payload.ensures.payload in
    let still = still_shows keeps_model (g.D.SectorDevice.disk c.args.device.now) (g.D.SectorDevice.disk c.sound_block.new.device) image read.reads.disk shows in
    let opens = λ (keeps : IsTrue keeps_model). subst (λ (l : List ℕ). OpensAt image frame place c.args.pointer.now l) same (read.opens image shows keeps) in
    let formed = subst (λ (l : List ℕ). IsFormed frame c.args.size place l) same read.formed in
    let call = c.walk_strips.ensures in
    if_ok_all c.walk_strips.result
    (λ size named all. levels_loaded keeps_model image frame c.args.number c.args.pointer.now payload c.walk_strips.new.object.strips.value c.walk_strips.new.object.bytes.value read.placed opens
    (subst (λ (s : ℕ). AreStripForms s payload) (sym size) formed) named all) call.size call.named (call.loaded image still)

pub returns-clause-found : goal.returns-clause-found
returns-clause-found g c = λ keeps image top shows is.
    let frame = c.args.self.now.frame.now in
    let n : ℕ = c.args.number in
    let w : ℕ = walk_index_of_object n in
    let read = c.in_default.ensures in
    let opens = read.opens image (λ k. shows) keeps in
    found_behind image frame top w (w + 1) (w + object_stride) c.args.damages.now c.walk_strips.new.damages c.walk_strips.result (omega arith)
    (sound_one image frame top (Top n) w (w + 1) c.requires.in_range refl refl
    (block_sound image frame top (Top n) c.args.pointer.now c.args.size (top_at image top n c.args.size c.args.pointer.now is) is.size_is _ opens read.formed))
    (c.walk_strips.ensures.found keeps image top (ap (λ (d : Disk). bytes_of d.now) (read.reads.disk keeps) ∙ shows)
    (top_strips image frame top n c.args.size c.args.pointer.now c.payload_of-payload.result.now c.requires.in_range is
    (subst (λ (l : List ℕ). OpensAt image frame (Top n) c.args.pointer.now l) (sym c.payload_of-payload.ensures.payload) opens)))
