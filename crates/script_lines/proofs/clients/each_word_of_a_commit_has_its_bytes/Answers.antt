use Rattle.script_lines.proofs.Readings.{commit_read}
use Rattle.script_lines.proofs.clients.each_word_of_a_commit_has_its_bytes.Goals as goal

pub returns-in-Ok-Pool-Commit : goal.returns-in-Ok-Pool-Commit
returns-in-Ok-Pool-Commit c =
    let here = c.in-Ok-Pool-Commit in
    commit_read here.field-0-0-0 here.contents (rw (here.field-0-is, here.field-0-0-is) at here.ensures)
