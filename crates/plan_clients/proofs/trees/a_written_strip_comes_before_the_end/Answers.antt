use Rattle.std.proofs.Common.{arith, sym, true≢false, ◌∙◌}
use Rattle.plan_clients.proofs.trees.a_written_strip_comes_before_the_end.Goals as goal

pub prove-unreachable-requires : goal.prove-unreachable-requires
prove-unreachable-requires c =
    true≢false (sym c.if-writes_strip.true ∙ c.writes_strip.ensures ∙ c.written_end.ensures.past 5 (omega arith) (omega arith))
