use Rattle.std.proofs.Common.{[]}
use Rattle.std.proofs.lemmas.List.{take_rest}
use Rattle.checked_blocks.proofs.payload.digest_of.Goals as goal

pub returns : goal.returns
returns c =
    let head = c.update.ensures [] c.new-hasher.ensures in
    let zeros = c.update-2.ensures _ head in
    let whole = c.update-3.ensures _ zeros in
    rw (rw c.told-block at (take_rest c.args.block.now 64)) at (c.finalize.ensures _ whole)
