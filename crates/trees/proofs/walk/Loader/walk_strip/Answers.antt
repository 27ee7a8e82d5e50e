use Rattle.std.proofs.Common.{◌≡◌, ◌+◌, ◌∙◌, ℕ, List, refl, sym, subst, ap, arith}
use Rattle.std.specs.Prelude.{IsTrue}
use Rattle.base.specs.declared.pointer.Pointer.{Pointer}
use Rattle.base.specs.disk.Disk.{Disk, bytes_of}
use Rattle.base.specs.tree.Places.{strip_of, walk_index_of_indirect}
use Rattle.base.specs.tree.Places.Place.{Indirect}
use Rattle.base.specs.tree.Tree.{OpensAt}
use Rattle.trees.specs.Loading.{IsLoadedStrip}
use Rattle.trees.specs.SoundBlocks.{IsFormed}
use Rattle.tree_blocks.specs.Pointers.{payload_pointers, strip_in, told_record}
use Rattle.tree_blocks.proofs.ToldStrips.{strip-is}
use Rattle.trees.proofs.DamageLists.{no_damages}
use Rattle.trees.proofs.LoadedBlocks.{still_shows}
use Rattle.trees.proofs.LoadedRecords.{some_address, strip_loaded}
use Rattle.trees.proofs.NotedWalks.{found_behind, if_ok_from, if_ok_whole, place_found}
use Rattle.trees.proofs.SoundBlocks.{block_sound, tells_place}
use Rattle.trees.proofs.TakenStrips.{strip_taken}
use Rattle.trees.proofs.WalkOrder.{sound_one}
use Rattle.trees.proofs.WalkParts.{records_linked, strip_none}
use Rattle.trees.proofs.walk.Loader.walk_strip.Goals as goal

pub returns-then-is_none-clause-found : goal.returns-then-is_none-clause-found
returns-then-is_none-clause-found g c = λ keeps image top shows indirect.
    no_damages image c.args.self.now.frame.now top _ _ c.args.damages.now.list.items (omega arith)
    (strip_none image c.args.self.now.frame.now top c.args.number c.requires.in_range (indirect.at ∙ c.if-is_none.ensures.0 refl))

pub returns-in-Err-clause-found : goal.returns-in-Err-clause-found
returns-in-Err-clause-found g c = λ keeps image top shows indirect.
    let frame = c.args.self.now.frame.now in
    let place = Indirect c.args.number in
    place_found image frame top place (walk_index_of_indirect c.args.number) _ c.in-Err.error c.args.damages.now c.note.new.self c.note.result c.requires.in_range refl refl
    (tells_place image frame top place c.args.indirect.now c.args.size indirect.at indirect.size_is c.in-Err.error (λ none. let no = c.if-is_none.ensures.1 none in cc)
    (c.in-Err.ensures.refused keeps image shows))
    c.note.ensures.added c.note.ensures.told

pub walk_records-requires-clause-records : goal.walk_records-requires-clause-records
walk_records-requires-clause-records g c =
    subst (λ (l : List ℕ). IsFormed c.args.self.now.frame.now c.args.size (Indirect c.args.number) l) (sym c.payload_of-payload.ensures.payload) c.in_default.ensures.formed

pub returns-clause-taken : goal.returns-clause-taken
returns-clause-taken g c =
    let payload : List ℕ = c.payload_of-payload.result.now in
    let strips = c.with_strip-2.result.value in
    let told : strip_in strips (strip_of c.args.number) ≡ (c.args.indirect.now, payload_pointers payload) =
    subst (λ (j : ℕ). strip_in strips j ≡ (c.args.indirect.now, payload_pointers payload)) c.strip_of-index.ensures.index
    (strip-is c.args.object.now.strips.value strips c.strip_of-index.result (c.args.indirect.now, payload_pointers payload) c.with_strip-2.ensures) in
    if_ok_from c.walk_records.result
    (strip_taken c.args.indirect.now payload (some_address c.args.self.now.frame.now.blocks c.args.indirect.now.address c.in_default.ensures.placed)
    (strip_in strips (strip_of c.args.number)) c.args.free.now c.take_block.new.free c.take_named.new.free told c.take_block.ensures c.take_named.ensures)

pub returns-clause-loaded : goal.returns-clause-loaded
returns-clause-loaded g c = λ image shows.
    let keeps_model = g.D.SectorDevice.keeps_model in
    let frame = c.args.self.now.frame.now in
    let payload : List ℕ = c.payload_of-payload.result.now in
    let read = c.in_default.ensures in
    let same = still_shows keeps_model (g.D.SectorDevice.disk c.args.device.now) (g.D.SectorDevice.disk c.sound_block.new.device) image read.reads.disk shows in
    let strips = c.with_strip-2.result.value in
    let told : strip_in strips (strip_of c.args.number) ≡ (c.args.indirect.now, payload_pointers payload) =
    subst (λ (j : ℕ). strip_in strips j ≡ (c.args.indirect.now, payload_pointers payload)) c.strip_of-index.ensures.index
    (strip-is c.args.object.now.strips.value strips c.strip_of-index.result (c.args.indirect.now, payload_pointers payload) c.with_strip-2.ensures) in
    let opens = λ (keeps : IsTrue keeps_model). subst (λ (l : List ℕ). OpensAt image frame (Indirect c.args.number) c.args.indirect.now l) (sym c.payload_of-payload.ensures.payload) (read.opens image shows keeps) in
    if_ok_whole c.walk_records.result
    (λ all. subst (λ (s : Pointer × List Pointer). IsLoadedStrip keeps_model image frame c.args.number c.args.indirect.now (told_record s) c.walk_records.new.bytes.value) (sym told)
    (strip_loaded keeps_model image frame c.args.number c.args.indirect.now c.walk_records.new.bytes.value payload read.placed opens all))
    (c.walk_records.ensures.loaded image same)

pub returns-clause-found : goal.returns-clause-found
returns-clause-found g c = λ keeps image top shows indirect.
    let frame = c.args.self.now.frame.now in
    let place = Indirect c.args.number in
    let w : ℕ = walk_index_of_indirect c.args.number in
    let read = c.in_default.ensures in
    let opens = read.opens image (λ k. shows) keeps in
    found_behind image frame top w (w + 1) (w + 85) c.args.damages.now c.walk_records.new.damages c.walk_records.result (omega arith)
    (sound_one image frame top place w (w + 1) c.requires.in_range refl refl (block_sound image frame top place c.args.indirect.now c.args.size indirect.at indirect.size_is _ opens read.formed))
    (c.walk_records.ensures.found keeps image top (ap (λ (d : Disk). bytes_of d.now) (read.reads.disk keeps) ∙ shows)
    (records_linked image frame top c.args.number c.args.size c.args.indirect.now c.payload_of-payload.result.now indirect
    (subst (λ (l : List ℕ). OpensAt image frame place c.args.indirect.now l) (sym c.payload_of-payload.ensures.payload) opens)))
