use Rattle.std.proofs.Common.{◌∙◌, ℕ, List, refl, ap, sym, subst, arith}
use Rattle.std.specs.Prelude.{IsTrue}
use Rattle.base.specs.disk.Disk.{Disk, bytes_of}
use Rattle.base.specs.tree.Places.Place.{Root}
use Rattle.base.specs.tree.Tree.{OpensAt}
use Rattle.trees.specs.Walking.{directory_index}
use Rattle.trees.proofs.DamageLists.{no_damages, no_tree_sound}
use Rattle.trees.proofs.LoadedBlocks.{still_shows}
use Rattle.trees.proofs.LoadedTrees.{no_tree, tree_loaded}
use Rattle.trees.proofs.NotedWalks.{found_behind, if_ok_whole, place_found}
use Rattle.trees.proofs.SoundBlocks.{block_sound, tells_place}
use Rattle.trees.proofs.WalkOrder.{sound_one}
use Rattle.trees.proofs.WalkParts.{directories_linked}
use Rattle.trees.proofs.walk.Loader.walk_tree.Goals as goal

pub returns-then-is_none-clause-loaded : goal.returns-then-is_none-clause-loaded
returns-then-is_none-clause-loaded g c = λ image shows whole before stood empty. (
  before,
  stood,
  (λ blocks marked. marked),
  no_tree g.D.SectorDevice.keeps_model image c.args.self.now.frame.now c.args.root.now c.args.directories.now before c.args.objects.now.entries.items
      (c.if-is_none.ensures.0 refl) c.requires.no_directories empty,
)

pub returns-then-is_none-clause-found : goal.returns-then-is_none-clause-found
returns-then-is_none-clause-found g c = λ keeps image shows.
    no_damages image c.args.self.now.frame.now c.args.root.now 0 (directory_index 84) c.args.damages.now.list.items (omega arith)
    (no_tree_sound image c.args.self.now.frame.now c.args.root.now (directory_index 84) (c.if-is_none.ensures.0 refl))

pub returns-in-Err-clause-found : goal.returns-in-Err-clause-found
returns-in-Err-clause-found g c = λ keeps image shows.
    let frame = c.args.self.now.frame.now in
    let root = c.args.root.now in
    place_found image frame root Root 0 (directory_index 84) c.in-Err.error c.args.damages.now c.note.new.self c.note.result (tt {0}) refl refl
    (tells_place image frame root Root root 0 refl refl c.in-Err.error (λ none. let no = c.if-is_none.ensures.1 none in cc) (c.in-Err.ensures.refused keeps image shows))
    c.note.ensures.added c.note.ensures.told

pub returns-clause-loaded : goal.returns-clause-loaded
returns-clause-loaded g c = λ image shows.
    let keeps_model = g.D.SectorDevice.keeps_model in
    let frame = c.args.self.now.frame.now in
    let read = c.in_default.ensures in
    let same = still_shows keeps_model (g.D.SectorDevice.disk c.args.device.now) (g.D.SectorDevice.disk c.sound_block.new.device) image read.reads.disk shows in
    let opens = λ (keeps : IsTrue keeps_model). subst (λ (l : List ℕ). OpensAt image frame Root c.args.root.now l) (sym c.payload_of-payload.ensures.payload)
    (read.opens image shows keeps) in
    if_ok_whole c.walk_directories.result
    (λ loads before stood empty.
    let (after, stands, marks, all) = loads before stood empty in (
      after,
      stands,
      marks,
      tree_loaded keeps_model image frame c.args.root.now c.read_pointers.new.pointers c.payload_of-payload.result.now after
          c.walk_directories.new.objects.entries.items read.placed opens c.read_pointers.ensures all,
    ))
    (c.walk_directories.ensures.loaded image same)

pub returns-clause-found : goal.returns-clause-found
returns-clause-found g c = λ keeps image shows.
    let frame = c.args.self.now.frame.now in
    let root = c.args.root.now in
    let read = c.in_default.ensures in
    let opens = read.opens image (λ k. shows) keeps in
    found_behind image frame root 0 1 (directory_index 84) c.args.damages.now c.walk_directories.new.damages c.walk_directories.result (omega arith)
    (sound_one image frame root Root 0 1 (tt {0}) refl refl (block_sound image frame root Root root 0 refl refl _ opens read.formed))
    (c.walk_directories.ensures.found keeps image root (ap (λ (d : Disk). bytes_of d.now) (read.reads.disk keeps) ∙ shows)
    (directories_linked image frame root c.payload_of-payload.result.now c.read_pointers.new.pointers
    (subst (λ (l : List ℕ). OpensAt image frame Root root l) (sym c.payload_of-payload.ensures.payload) opens) c.read_pointers.ensures))
