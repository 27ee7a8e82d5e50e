use Rattle.read_commands.proofs.ProgressTexts.{eight_million_written}
use Rattle.read_commands.proofs.clients.progress.the_line_has_the_bytes_and_the_rate.Goals as goal

pub returns : goal.returns
returns g c = eight_million_written c.write.result _ _ c.of.result.bytes c.of.result.rate c.of.ensures.bytes c.of.ensures.rate c.write.ensures.bytes
