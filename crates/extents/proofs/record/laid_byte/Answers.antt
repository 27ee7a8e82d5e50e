use Rattle.std.proofs.Common.{rules}
use Rattle.extents.proofs.MaskedBytes.{masked_byte}
use Rattle.extents.proofs.record.laid_byte.Goals as goal

pub returns : goal.returns
returns c = masked_byte c.args.mark c.args.byte c.args.below (search rules) (search rules) (search rules)
