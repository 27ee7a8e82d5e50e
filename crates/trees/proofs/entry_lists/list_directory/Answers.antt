use Rattle.std.proofs.Common.{ℕ, List, refl, subst, sym}
use Rattle.std.proofs.lemmas.Result.{err_from_is_err_and}
use Rattle.base.specs.tree.Places.Place.{Directory}
use Rattle.base.specs.tree.Tree.{OpensAt}
use Rattle.trees.specs.SoundBlocks.{IsFormed}
use Rattle.trees.proofs.SoundBlocks.{block_sound, tells_place}
use Rattle.trees.proofs.entry_lists.list_directory.Goals as goal

pub returns-in_err-sound_block-clause-damage : goal.returns-in_err-sound_block-clause-damage
returns-in_err-sound_block-clause-damage g c = λ keeps image top shows at named.
    let p = err_from_is_err_and c.from_residual.result c.from_residual.ensures.1 in
    rw (p.1, p.2) (tells_place image c.args.frame.now top (Directory c.args.directory) c.args.pointer.now 0 at refl c.in_err-sound_block.field-0.0 named
    (c.in_err-sound_block.ensures.refused keeps image shows))

pub returns-clause-form : goal.returns-clause-form
returns-clause-form g c =
    c.in_ok-list_payload.ensures.form c.args.frame.now
    (record {
      size = c.payload_of.ensures.length;
      each = subst (λ (l : List ℕ). IsFormed c.args.frame.now 0 (Directory c.args.directory) l) (sym c.payload_of.ensures.payload) c.in_ok-sound_block.ensures.formed;
    })
    c.requires.rising

pub returns-clause-listed : goal.returns-clause-listed
returns-clause-listed g c = λ keeps image top shows at before.
    let place = Directory c.args.directory in
    let opens = subst (λ (l : List ℕ). OpensAt image c.args.frame.now place c.args.pointer.now l) (sym c.payload_of.ensures.payload) (c.in_ok-sound_block.ensures.opens image (λ k. shows) keeps) in
    c.in_ok-list_payload.ensures.listed image c.args.frame.now top (record { pointer = c.args.pointer.now; at = at; opens = opens }) before

pub returns-clause-sound : goal.returns-clause-sound
returns-clause-sound g c = λ keeps image top shows at.
    let read = c.in_ok-sound_block.ensures in
    block_sound image c.args.frame.now top (Directory c.args.directory) c.args.pointer.now 0 at refl _ (read.opens image (λ k. shows) keeps) read.formed
