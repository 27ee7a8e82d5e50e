use Rattle.std.proofs.Common.{ap, sym, ◌∙◌, true, false}
use Rattle.std.specs.Option.{is_some}
use Rattle.std.specs.FinMap as finite
use Rattle.contents.specs.Presence.{is_there_noted}
use Rattle.contents.proofs.Judged.{tells_made}
use Rattle.contents.proofs.judging.has_after.Goals as goal

pub returns-in-AsBefore : goal.returns-in-AsBefore
returns-in-AsBefore g c = λ before are.
    tells_made before c.args.made (g.O.ObjectSource.objects c.args.objects.now) c.args.id.0 c.has.result are
    (c.has.ensures ∙ sym (ap (λ p. is_there_noted p (is_some (finite.get (g.O.ObjectSource.objects c.args.objects.now) c.args.id.0))) c.in-AsBefore.is))

pub returns-in-Created : goal.returns-in-Created
returns-in-Created g c = λ before are.
    tells_made before c.args.made (g.O.ObjectSource.objects c.args.objects.now) c.args.id.0 true are
    (sym (ap (λ p. is_there_noted p (is_some (finite.get (g.O.ObjectSource.objects c.args.objects.now) c.args.id.0))) c.in-Created.is))

pub returns-in-Removed : goal.returns-in-Removed
returns-in-Removed g c = λ before are.
    tells_made before c.args.made (g.O.ObjectSource.objects c.args.objects.now) c.args.id.0 false are
    (sym (ap (λ p. is_there_noted p (is_some (finite.get (g.O.ObjectSource.objects c.args.objects.now) c.args.id.0))) c.in-Removed.is))
