use Rattle.std.proofs.Common.{ℕ, List, subst, sym, ◌∙◌}
use Rattle.std.proofs.KnownBytes.{Appends-nil}
use Rattle.std.proofs.lemmas.Result.{on_ok_weaker}
use Rattle.std.specs.Io.KnownBytes.{Appends}
use Rattle.read_commands.proofs.PrintedLabels.{lost_of_none, lost_of_some}
use Rattle.read_commands.proofs.json_checks.write_lost.Goals as goal

pub returns-then-is_some_whole : goal.returns-then-is_some_whole
returns-then-is_some_whole g c =
    on_ok_weaker c.write_reasons.result
    (λ reasons. subst (λ (l : List ℕ). Appends (g.W.Write.contents c.args.out.now) (g.W.Write.contents c.write_reasons.new.out) l) (sym (lost_of_some c.args.labels.now (sym c.is_some_whole.ensures ∙ c.if-is_some_whole.true))) reasons)
    c.write_reasons.ensures

pub returns-else-is_some_whole : goal.returns-else-is_some_whole
returns-else-is_some_whole g c =
    subst (λ (l : List ℕ). Appends (g.W.Write.contents c.args.out.now) (g.W.Write.contents c.args.out.now) l) (sym (lost_of_none c.args.labels.now (sym c.is_some_whole.ensures ∙ c.if-is_some_whole.false))) (Appends-nil (g.W.Write.contents c.args.out.now))
