use Rattle.read_commands.proofs.LinesWritten.{name_text, shown_unnamed}
use Rattle.read_commands.proofs.named_lists.text_of.Goals as goal

pub returns-in-Err-clause-none : goal.returns-in-Err-clause-none
returns-in-Err-clause-none c = absurd (c.in-Err.ensures.cases.0 (name_text c.in-Some.name.now c.in-Some.ensures.text))

pub returns-in-None-clause-none : goal.returns-in-None-clause-none
returns-in-None-clause-none c = shown_unnamed c.args.table.now c.args.object.0 c.in-None.ensures.none
