use Rattle.std.proofs.Common.{◌∙◌, arith}
use Rattle.tree_blocks.proofs.Entries.{entry_in-zeros}
use Rattle.base.specs.formats.Limits.{one_level_length}
use Rattle.block_clients.proofs.payloads.a_written_entry_is_read.Goals as goal

pub put_entry-requires-clause-empty : goal.put_entry-requires-clause-empty
put_entry-requires-clause-empty c = rw c.empty_payload-payload.ensures (entry_in-zeros 62 (omega arith))

pub returns-clause-present : goal.returns-clause-present
unfolding one_level_length
returns-clause-present c = c.read_entry.ensures.present ∙ c.put_entry.ensures.here.0
