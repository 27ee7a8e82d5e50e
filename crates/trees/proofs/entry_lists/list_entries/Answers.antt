use Rattle.std.proofs.Common.{◌∙◌, ℕ, List, ap, inl, inr, refl, sym, subst}
use Rattle.std.proofs.lemmas.Result.{err_from_is_err_and}
use Rattle.base.specs.disk.Disk.{Disk, bytes_of}
use Rattle.base.specs.formats.Fields.{pointer_in}
use Rattle.base.specs.tree.Places.Place.{Root}
use Rattle.base.specs.tree.Tree.{OpensAt}
use Rattle.base.proofs.tree.LevelPointers.{pointer_below-none}
use Rattle.trees.proofs.EntryLists.{listed_no_tree, lists_entries, lists_tree, names_directories}
use Rattle.trees.proofs.SoundBlocks.{block_sound, tells_place}
use Rattle.trees.proofs.entry_lists.list_entries.Goals as goal

pub returns-then-is_none-clause-listed : goal.returns-then-is_none-clause-listed
returns-then-is_none-clause-listed g c = λ keeps.
    let image : List ℕ = bytes_of (g.D.SectorDevice.disk c.args.device.now).now in
    lists_entries image c.args.root c.new-list.result.items (c.new-list.ensures.items ∙ listed_no_tree image c.args.root (c.if-is_none.ensures.0 refl))

pub returns-then-is_none-clause-exact : goal.returns-then-is_none-clause-exact
returns-then-is_none-clause-exact g c = λ keeps objects tree.
    let image : List ℕ = bytes_of (g.D.SectorDevice.disk c.args.device.now).now in
    lists_tree image c.args.root c.args.frame.now objects tree c.new-list.result.items (c.new-list.ensures.items ∙ listed_no_tree image c.args.root (c.if-is_none.ensures.0 refl))

pub returns-then-is_none-clause-sound : goal.returns-then-is_none-clause-sound
returns-then-is_none-clause-sound g c = λ keeps.
    let image : List ℕ = bytes_of (g.D.SectorDevice.disk c.args.device.now).now in
    let none = c.if-is_none.ensures.0 refl in
    (inl none, λ d low. inl (pointer_below-none image c.args.root (λ (l : List ℕ). pointer_in l d) none))

pub returns-in_err-sound_block-clause-damage : goal.returns-in_err-sound_block-clause-damage
returns-in_err-sound_block-clause-damage g c = λ keeps.
    let image : List ℕ = bytes_of (g.D.SectorDevice.disk c.args.device.now).now in
    let p = err_from_is_err_and c.from_residual.result c.from_residual.ensures.1 in
    rw (p.1, p.2) (inl (tells_place image c.args.frame.now c.args.root Root c.args.root 0 refl refl c.in_err-sound_block.field-0.0
    (λ none. let no = c.if-is_none.ensures.1 none in cc) (c.in_err-sound_block.ensures.refused keeps image refl)))

pub returns-in_err-list_directories-clause-damage : goal.returns-in_err-list_directories-clause-damage
returns-in_err-list_directories-clause-damage g c = λ keeps.
    let image : List ℕ = bytes_of (g.D.SectorDevice.disk c.args.device.now).now in
    let p = err_from_is_err_and c.from_residual-in_err-list_directories.result c.from_residual-in_err-list_directories.ensures.1 in
    let read = c.in_ok-sound_block.ensures in
    let opens = read.opens image (λ k. refl) keeps in
    rw (p.1, p.2) (inr (
      block_sound image c.args.frame.now c.args.root Root c.args.root 0 refl refl _ opens read.formed,
      c.in_err-list_directories.ensures.damage keeps image c.args.root (ap (λ (d : Disk). bytes_of d.now) (read.reads.disk keeps))
          (names_directories image c.args.frame.now c.args.root c.payload_of.result.now (subst (λ (l : List ℕ). OpensAt image c.args.frame.now Root c.args.root l) (sym c.payload_of.ensures.payload) opens)),
    ))

pub returns-clause-listed : goal.returns-clause-listed
returns-clause-listed g c = λ keeps.
    let image : List ℕ = bytes_of (g.D.SectorDevice.disk c.args.device.now).now in
    let read = c.in_ok-sound_block.ensures in
    let opens = subst (λ (l : List ℕ). OpensAt image c.args.frame.now Root c.args.root l) (sym c.payload_of.ensures.payload) (read.opens image (λ k. refl) keeps) in
    let all = c.in_ok-list_directories.ensures.listed keeps image c.args.root (ap (λ (d : Disk). bytes_of d.now) (read.reads.disk keeps))
    (names_directories image c.args.frame.now c.args.root c.payload_of.result.now opens) in
    lists_entries image c.args.root c.list_directories.new.list.items all.list_is

pub returns-clause-exact : goal.returns-clause-exact
returns-clause-exact g c = λ keeps objects tree.
    let image : List ℕ = bytes_of (g.D.SectorDevice.disk c.args.device.now).now in
    let read = c.in_ok-sound_block.ensures in
    let opens = subst (λ (l : List ℕ). OpensAt image c.args.frame.now Root c.args.root l) (sym c.payload_of.ensures.payload) (read.opens image (λ k. refl) keeps) in
    let all = c.in_ok-list_directories.ensures.listed keeps image c.args.root (ap (λ (d : Disk). bytes_of d.now) (read.reads.disk keeps))
    (names_directories image c.args.frame.now c.args.root c.payload_of.result.now opens) in
    lists_tree image c.args.root c.args.frame.now objects tree c.list_directories.new.list.items all.list_is

pub returns-clause-sound : goal.returns-clause-sound
returns-clause-sound g c = λ keeps.
    let image : List ℕ = bytes_of (g.D.SectorDevice.disk c.args.device.now).now in
    let read = c.in_ok-sound_block.ensures in
    let opens = read.opens image (λ k. refl) keeps in
    let all = c.in_ok-list_directories.ensures.listed keeps image c.args.root (ap (λ (d : Disk). bytes_of d.now) (read.reads.disk keeps))
    (names_directories image c.args.frame.now c.args.root c.payload_of.result.now
    (subst (λ (l : List ℕ). OpensAt image c.args.frame.now Root c.args.root l) (sym c.payload_of.ensures.payload) opens)) in
    (block_sound image c.args.frame.now c.args.root Root c.args.root 0 refl refl _ opens read.formed, all.sound)
