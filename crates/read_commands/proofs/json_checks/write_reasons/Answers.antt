use Rattle.std.proofs.Common.{◌++◌, ℕ, List, arith, get_or, subst, sym, ◌∙◌}
use Rattle.std.specs.Io.KnownBytes.{Appends}
use Rattle.read_commands.specs.declared.label_states.ConfigState.TheVariants.{Whole}
use Rattle.read_commands.specs.declared.label_states.LabelState.{LabelState}
use Rattle.read_commands.specs.Json.{json_reason}
use Rattle.read_commands.proofs.PrintedLabels.{next_printed}
use Rattle.read_commands.proofs.json_checks.write_reasons.Goals as goal

pub loop-state-preserved : goal.loop-state-preserved
loop-state-preserved g c =
    let (front, written, left) = c.loop-state.invariant in
    let d : LabelState = record { label = 0; config = Whole } in
    let before = g.W.Write.contents c.loop-state.out in
    let after = g.W.Write.contents c.write.new.self in
    next_printed c.args.labels.now c.loop-state.state-index d c.loop-state.is_first front
    (let low = c.loop-state-test.true in let four = c.told-labels in omega (arith, low, four)) left
    (g.W.Write.contents c.args.out.now) before after written (sym c.is_whole.ensures ∙ c.if-is_whole.false)
    (subst (λ (t : List ℕ). Appends before after (t ++ json_reason (get_or c.args.labels.now c.loop-state.state-index d))) c.comma_before.ensures c.in_ok-write.ensures.bytes)
