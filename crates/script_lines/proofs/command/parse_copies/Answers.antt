use Rattle.std.proofs.Common.{◌≡◌, None, Some, arith, length, refl}
use Rattle.script_lines.proofs.Copies.{copies_cut}
use Rattle.script_lines.proofs.command.parse_copies.Goals as goal
use Rattle.script_lines.proofs.command.parse_copies.Goals.{in_default-as_bytes-via-then-as_bytes-lt1, in_default-as_bytes-via-else-as_bytes-lt1+else-this-lt2}

pub returns-in_default-clause-refused : goal.returns-in_default-clause-refused
returns-in_default-clause-refused c bytes are = absurd (copies_cut c.args.copies.now bytes are None c.in_default.ensures.cases)

pub returns-in_default-as_bytes-clause-refused : goal.returns-in_default-as_bytes-clause-refused
returns-in_default-as_bytes-clause-refused c bytes are =
    let cut = copies_cut c.args.copies.now bytes are (Some (c.in-Some.count, c.in-Some.character)) c.in-Some.ensures.cases in
    let one : length c.as_bytes.result.now ≡ 1 = rw (c.as_bytes.ensures.value, cut.1) refl in
    elim c.in_default-as_bytes.branch [ in_default-as_bytes-via-then-as_bytes-lt1 w ↦ grind (arith, one) | in_default-as_bytes-via-else-as_bytes-lt1+else-this-lt2 w ↦ grind (arith, one) ]
