use Rattle.std.proofs.Common.{arith, rules, tests}
use Rattle.std.specs.Char.{is_ascii_graphic}
use Rattle.std.proofs.lemmas.Bool.Decides.{nat_tests}
use Rattle.std.proofs.lemmas.Iterator.Adapters.{YieldsList-from_bytes}
use Rattle.std.proofs.lemmas.Iterator.Search.{all_from_yields_List}
use Rattle.script_lines.proofs.command.is_printable.Goals as goal

pub returns-then-not-is_empty : goal.returns-then-not-is_empty
returns-then-not-is_empty c =
    let all = all_from_yields_List is_ascii_graphic _ _ c.all.result c.all.ensures.ran (YieldsList-from_bytes c.args.word.now cc) (λ x b q k. search (rules, tests)) in
    grind (arith, nat_tests)
