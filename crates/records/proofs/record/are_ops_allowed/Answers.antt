use Rattle.std.proofs.Common.{◌≡◌, length, nat_lt, true, arith}
use Rattle.std.proofs.lemmas.Bool.Decides.{nat_tests}
use Rattle.records.proofs.AllowedOps.{some_are_allowed}
use Rattle.records.proofs.record.are_ops_allowed.Goals as goal

pub returns-then-not-is_empty : goal.returns-then-not-is_empty
returns-then-not-is_empty c =
    let some : nat_lt 0 (length c.args.ops.now) ≡ true = grind (arith, nat_tests) in
    some_are_allowed c.args.ops.now some c.is_each_allowed.ensures
