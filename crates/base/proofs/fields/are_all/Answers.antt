use Rattle.std.proofs.Common.{length, take}
use Rattle.std.proofs.lemmas.Bool.Decides.{Decides-eqb}
use Rattle.std.proofs.lemmas.Slice.Eq.{slice_eq-Decides}
use Rattle.base.proofs.common.Zeros.{are_shifted}
use Rattle.base.proofs.fields.are_all.Goals as goal

pub returns-then-first-value : goal.returns-then-first-value
returns-then-first-value c =
    are_shifted c.args.value c.args.bytes.now c.in-Some.first.now c.in-Some.rest.now c.eq.result c.in-Some.ensures.cases.0 c.if-first-value.true
    (slice_eq-Decides Decides-eqb c.in-Some.rest.now (take (length c.in-Some.rest.now) c.args.bytes.now) c.eq.result c.eq.ensures)
