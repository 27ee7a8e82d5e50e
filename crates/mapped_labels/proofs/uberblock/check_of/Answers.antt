use Rattle.std.proofs.Common.{arith, sym}
use Rattle.std.proofs.lemmas.List.{length-take-le}
use Rattle.mapped_labels.proofs.uberblock.check_of.Goals as goal

pub slice_bounds-digest-end : goal.slice_bounds-digest-end
slice_bounds-digest-end c = sym (length-take-le 4064 c.args.bytes.now (omega arith))
