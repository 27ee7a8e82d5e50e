use Rattle.read_commands.specs.Reads.{asked_range}
use Rattle.read_commands.proofs.ScopedReads.{range_written}
use Rattle.read_commands.proofs.Undone.{get_undone}
use Rattle.read_commands.proofs.reads.run_get.Goals as goal

pub returns-in-Ok-clause-written : goal.returns-in-Ok-clause-written
returns-in-Ok-clause-written g c = λ zero.
    range_written g.D.SectorDevice c.args.scope c.args.arguments.object (asked_range c.args.arguments) (g.W.Write.contents c.args.out.now) (g.W.Write.contents c.write_read.new.out)
    c.args.opened c.get_bytes-read.result.0 c.get_bytes-read.ensures.bytes c.get_bytes-read.ensures.checked c.in-Ok.ensures.written

pub returns-in-Err-clause-undone : goal.returns-in-Err-clause-undone
returns-in-Err-clause-undone g c = λ some.
    get_undone g.D.SectorDevice c.args.opened c.args.scope c.get_bytes-read.result.1 c.args.arguments.object (asked_range c.args.arguments) c.get_bytes-read.result.0 c.write_read.result c.in-Err.failure c.report_failure.result
    c.in-Err.is c.report_failure.ensures.status c.get_bytes-read.ensures.failed c.get_bytes-read.ensures.bytes c.write_read.ensures.failed c.write_read.ensures.unwritten
