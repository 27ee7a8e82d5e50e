use Rattle.std.proofs.Common.{None, Some, arith, rules}
use Rattle.std.proofs.lemmas.Str.Pattern.{strip_prefix_char}
use Rattle.script_lines.proofs.Copies.{copies_of, own_bytes}
use Rattle.script_lines.proofs.command.parse_content.Goals as goal

pub returns-in_ok-from_slice-in-None-clause-content : goal.returns-in_ok-from_slice-in-None-clause-content
returns-in_ok-from_slice-in-None-clause-content c =
    rw (c.in_ok-from_slice-in-None.ensures, c.as_bytes.ensures.value)
    (own_bytes c.args.word.now (search rules) (strip_prefix_char 64 c.args.word.now None c.in-None.ensures.cases (omega arith)))

pub returns-in-Some-clause-refused : goal.returns-in-Some-clause-refused
returns-in-Some-clause-refused c content =
    let after = strip_prefix_char 64 c.args.word.now (Some c.in-Some.copies) c.in-Some.ensures.cases (omega arith) in
    c.parse_copies.ensures.refused content.0 (copies_of c.args.word.now c.in-Some.copies.now content.0 after content.1)
