use Rattle.checked_blocks.proofs.SealedBytes.{payload-is}
use Rattle.checked_blocks.proofs.sealing.write_payload.Goals as goal

pub returns : goal.returns
returns c = payload-is c.args.payload.now c.args.bytes.now c.write_bytes.new.bytes c.requires.zeros c.requires.fits c.write_bytes.ensures
