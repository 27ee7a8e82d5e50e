use Rattle.std.proofs.Common.{rules, arith}
use Rattle.extents.proofs.ReadRecords.{shown_count}
use Rattle.extents.proofs.basis.shown_of.Goals as goal

pub returns-clause-shown : goal.returns-clause-shown
returns-clause-shown c = λ k inside. shown_count c.args.kept c.args.begin _ k inside (search (rules, arith))
