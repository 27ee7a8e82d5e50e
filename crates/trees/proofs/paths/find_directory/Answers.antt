use Rattle.std.proofs.Common.{◌∙◌, ℕ, List, refl, sym, subst, inl}
use Rattle.std.proofs.lemmas.Result.{err_from_is_err_and}
use Rattle.base.specs.formats.Fields.{pointer_in}
use Rattle.base.specs.tree.Places.Place.{Root}
use Rattle.base.specs.tree.Tree.{OpensAt}
use Rattle.base.proofs.tree.LevelPointers.{pointer_below-none}
use Rattle.trees.proofs.SoundBlocks.{block_sound, tells_place}
use Rattle.trees.proofs.WalkDamages.{below_block}
use Rattle.trees.proofs.paths.find_directory.Goals as goal

pub returns-then-is_none-clause-found : goal.returns-then-is_none-clause-found
returns-then-is_none-clause-found g c = λ keeps image shows. pointer_below-none image c.args.root.now (λ (l : List ℕ). pointer_in l c.args.directory) (c.if-is_none.ensures.0 refl)

pub returns-then-is_none-clause-sound : goal.returns-then-is_none-clause-sound
returns-then-is_none-clause-sound g c = λ keeps image shows. inl (c.if-is_none.ensures.0 refl)

pub returns-in_err-sound_block-clause-damage : goal.returns-in_err-sound_block-clause-damage
returns-in_err-sound_block-clause-damage g c = λ keeps image shows.
    let p = err_from_is_err_and c.from_residual.result c.from_residual.ensures.1 in
    rw (p.1, p.2) (tells_place image c.args.frame.now c.args.root.now Root c.args.root.now 0 refl refl c.in_err-sound_block.field-0.0
    (λ none. let no = c.if-is_none.ensures.1 none in cc) (c.in_err-sound_block.ensures.refused keeps image shows))

pub returns-clause-found : goal.returns-clause-found
returns-clause-found g c = λ keeps image shows.
    let root = c.args.root.now in
    let opens = subst (λ (l : List ℕ). OpensAt image c.args.frame.now Root root l) (sym c.payload_of.ensures.payload) (c.in_ok-sound_block.ensures.opens image (λ k. shows) keeps) in
    below_block image c.args.frame.now 2 0 root c.payload_of.result.now (λ (l : List ℕ). pointer_in l c.args.directory) opens ∙ sym c.pointer_in.ensures

pub returns-clause-sound : goal.returns-clause-sound
returns-clause-sound g c = λ keeps image shows.
    let root = c.args.root.now in
    let read = c.in_ok-sound_block.ensures in
    block_sound image c.args.frame.now root Root root 0 refl refl _ (read.opens image (λ k. shows) keeps) read.formed
