use Rattle.read_commands.specs.ReadLabels.{arrays_of, slots_read}
use Rattle.read_commands.proofs.ReportClients.{none_counted}
use Rattle.read_commands.proofs.clients.reports.a_label_whose_slots_hold_nothing_has_no_uberblock.Goals as goal

pub returns : goal.returns
returns c = none_counted (slots_read (arrays_of c.args.labels.now) 0) 128 c.count_uberblocks.result.0 _ c.requires c.count_uberblocks.ensures.counted
