use Rattle.std.proofs.Common.{◌/◌, ◌∙◌, ◌%◌, ◌<◌, ℕ, List, refl, sym, subst, arith}
use Rattle.std.proofs.lemmas.Result.{err_from_is_err_and}
use Rattle.base.specs.formats.Fields.{entry_in}
use Rattle.base.specs.formats.Limits.{entry_count}
use Rattle.base.specs.tree.Places.Place.{Directory}
use Rattle.base.specs.tree.Tree.{OpensAt}
use Rattle.tree_blocks.proofs.EntryForms.{entry_there}
use Rattle.trees.specs.SoundBlocks.{IsFormed}
use Rattle.trees.proofs.ObjectPaths.{entry_at}
use Rattle.trees.proofs.SoundBlocks.{block_sound, tells_place}
use Rattle.trees.proofs.paths.find_in_directory.Goals as goal

pub returns-in_err-sound_block-clause-damage : goal.returns-in_err-sound_block-clause-damage
returns-in_err-sound_block-clause-damage g c = λ keeps image top shows at named.
    let p = err_from_is_err_and c.from_residual.result c.from_residual.ensures.1 in
    rw (p.1, p.2) (tells_place image c.args.frame.now top (Directory (c.args.number / entry_count)) c.args.pointer.now 0 at refl c.in_err-sound_block.field-0.0 named
    (c.in_err-sound_block.ensures.refused keeps image shows))

pub returns-then-entry-eq0-clause-sound : goal.returns-then-entry-eq0-clause-sound
returns-then-entry-eq0-clause-sound g c = λ keeps image top shows at named.
    let read = c.in_ok-sound_block.ensures in
    block_sound image c.args.frame.now top (Directory (c.args.number / entry_count)) c.args.pointer.now 0 at refl _ (read.opens image (λ k. shows) keeps) read.formed

pub returns-clause-sound : goal.returns-clause-sound
returns-clause-sound g c = λ keeps image top shows at named.
    let read = c.in_ok-sound_block.ensures in
    block_sound image c.args.frame.now top (Directory (c.args.number / entry_count)) c.args.pointer.now 0 at refl _ (read.opens image (λ k. shows) keeps) read.formed

pub returns-then-entry-eq0-clause-found : goal.returns-then-entry-eq0-clause-found
returns-then-entry-eq0-clause-found g c = λ keeps image top shows at named.
    let frame = c.args.frame.now in
    let place = Directory (c.args.number / entry_count) in
    let entry = c.read_entry-entry.ensures in
    let opens = subst (λ (l : List ℕ). OpensAt image frame place c.args.pointer.now l) (sym c.payload_of.ensures.payload) (c.in_ok-sound_block.ensures.opens image (λ k. shows) keeps) in
    (entry_at image frame top c.args.number c.args.pointer.now c.payload_of.result.now c.read_entry-entry.result at opens entry.present entry.pointer entry.length).levels ∙ c.if-entry-eq0.true

pub returns-clause-found : goal.returns-clause-found
returns-clause-found g c = λ keeps image top shows at named.
    let frame = c.args.frame.now in
    let place = Directory (c.args.number / entry_count) in
    let entry = c.read_entry-entry.ensures in
    let opens = subst (λ (l : List ℕ). OpensAt image frame place c.args.pointer.now l) (sym c.payload_of.ensures.payload) (c.in_ok-sound_block.ensures.opens image (λ k. shows) keeps) in
    entry_at image frame top c.args.number c.args.pointer.now c.payload_of.result.now c.read_entry-entry.result at opens entry.present entry.pointer entry.length

pub returns-clause-form : goal.returns-clause-form
returns-clause-form g c =
    let frame = c.args.frame.now in
    let entry = c.read_entry-entry.ensures in
    let low : c.args.number % 63 < 63 = omega arith in
    let formed = subst (λ (l : List ℕ). IsFormed frame 0 (Directory (c.args.number / entry_count)) l) (sym c.payload_of.ensures.payload) c.in_ok-sound_block.ensures.formed in
    entry_there frame (entry_in c.payload_of.result.now (c.args.number % entry_count)) c.read_entry-entry.result (formed (c.args.number % entry_count) low) entry.present entry.length c.if-entry-eq0.false
