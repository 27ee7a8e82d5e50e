use Rattle.std.proofs.lemmas.Result.{err_from_is_err_and}
use Rattle.tree_blocks.specs.BlockPlaces.{place_of}
use Rattle.trees.proofs.SoundBlocks.{missing_unsound}
use Rattle.trees.proofs.sound_blocks.sound_block.Goals as goal

pub returns-in_err-read_block-clause-refused : goal.returns-in_err-read_block-clause-refused
returns-in_err-read_block-clause-refused g c = λ keeps image shows.
    let p = err_from_is_err_and c.from_residual.result c.from_residual.ensures.1 in
    rw (p.1, p.2) (missing_unsound image c.args.frame.now c.args.size (place_of c.args.place) c.args.pointer.now c.in_err-read_block.field-0.0 (c.in_err-read_block.ensures.refused keeps image shows))
