use Rattle.std.proofs.Common.{◌≡◌, ◌∙◌, ◌-◌, List, ℕ, length, take, drop, subst, arith}
use Rattle.intent_log.proofs.PackedRecords.{part_is}
use Rattle.intent_log.proofs.begun.BegunRecord.next_part.Goals as goal

pub returns-clause-part : goal.returns-clause-part
returns-clause-part c =
    let b = c.args.self.now in
    subst (λ (l : List ℕ). take c.min.result (take (length c.deref.result.now - c.min-from.result) (drop c.min-from.result c.deref.result.now)) ≡ take 4008 (drop b.written l)) (c.deref.ensures.value ∙ b.spelled)
    (part_is c.deref.result.now b.written c.min-from.result c.min.result (omega (arith, c.min-from.ensures, c.len.ensures, c.deref.ensures.len)) (omega (arith, c.min.ensures)))
