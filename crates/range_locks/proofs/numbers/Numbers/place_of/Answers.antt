use Rattle.std.proofs.Common.{sym}
use Rattle.range_locks.proofs.NumberParts.{found_place}
use Rattle.range_locks.proofs.numbers.Numbers.place_of.Goals as goal

pub returns-in-Some : goal.returns-in-Some
returns-in-Some c = found_place c.args.self.now.parts c.args.number.0 c.in-Some.place c.in-Some.field-0-1.now c.in-Some.field-0-2.now (sym c.in-Some.ensures.key) c.in-Some.ensures.entry (sym c.in-Some.ensures.value)
