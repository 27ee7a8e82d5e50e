use Rattle.std.proofs.Common.{sym, subst, arith}
use Rattle.base.specs.formats.Blocks.{IsSealed}
use Rattle.checked_blocks.proofs.SealedBytes.{digest-is}
use Rattle.checked_blocks.proofs.SealedBlocks.{clear-sealed}
use Rattle.checked_blocks.proofs.sealing.write_digest.Goals as goal

pub returns-clause-whole : goal.returns-clause-whole
returns-clause-whole c =
    let a = c.args in
    digest-is a.bytes.now a.digest.now c.write_bytes.new.bytes (omega arith) c.requires.clear c.requires.digest c.write_bytes.ensures

pub returns-clause-sealed : goal.returns-clause-sealed
returns-clause-sealed c = subst IsSealed (sym (returns-clause-whole c)) (clear-sealed c.args.bytes.now (omega arith) c.requires.clear)
