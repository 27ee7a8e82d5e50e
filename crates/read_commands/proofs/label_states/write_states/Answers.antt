use Rattle.std.proofs.Common.{ℕ, List, subst, sym, ◌∙◌}
use Rattle.std.proofs.KnownBytes.{Appends-nil}
use Rattle.std.proofs.lemmas.Result.{on_ok_weaker}
use Rattle.std.specs.Io.KnownBytes.{Appends}
use Rattle.read_commands.proofs.FoundLabels.{lines_of_none, lines_of_some}
use Rattle.read_commands.proofs.label_states.write_states.Goals as goal

pub returns-then-is_some_whole-clause-written : goal.returns-then-is_some_whole-clause-written
returns-then-is_some_whole-clause-written g c =
    on_ok_weaker c.write_all.result
    (λ lines. subst (λ (l : List ℕ). Appends (g.W.Write.contents c.args.out.now) (g.W.Write.contents c.write_all.new.out) l) (sym (lines_of_some c.args.states.now (sym c.is_some_whole.ensures ∙ c.if-is_some_whole.true))) lines)
    c.write_all.ensures.written

pub returns-else-is_some_whole-clause-written : goal.returns-else-is_some_whole-clause-written
returns-else-is_some_whole-clause-written g c =
    subst (λ (l : List ℕ). Appends (g.W.Write.contents c.args.out.now) (g.W.Write.contents c.args.out.now) l) (sym (lines_of_none c.args.states.now (sym c.is_some_whole.ensures ∙ c.if-is_some_whole.false))) (Appends-nil (g.W.Write.contents c.args.out.now))
