use Rattle.std.proofs.Common.{◌≡◌, ap, arith, length, ◌∙◌}
use Rattle.object_names.proofs.NamesFound.{named_there}
use Rattle.object_names.proofs.name_table.NameTable.named.Goals as goal
use Rattle.object_names.proofs.name_table.NameTable.named.Goals.{then-number-eq0-via-then-number-eq0, then-number-eq0-via-else-number-eq0+then-number-slot_count}

pub returns-then-number-eq0-clause-none : goal.returns-then-number-eq0-clause-none
returns-then-number-eq0-clause-none c = λ name is.
    let low = is.number in
    let there = named_there c.args.self.now c.args.object.0 name is in
    let size : length c.as_slice-bytes.result.now ≡ length c.args.self.now = ap length (c.as_slice-bytes.ensures ∙ c.self.view_is) in
    elim c.then-number-eq0.branch [
      | then-number-eq0-via-then-number-eq0 w ↦ absurd (omega (arith, low, w.if-number-eq0.true))
      | then-number-eq0-via-else-number-eq0+then-number-slot_count w ↦ absurd (omega (arith, there, size, w.slot_count.ensures.count, w.if-number-slot_count.true))
    ]
