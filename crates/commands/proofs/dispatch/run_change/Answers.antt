use Rattle.std.proofs.Common.{List, ℕ, subst, sym}
use Rattle.commands.specs.Asked.{MayBeDone}
use Rattle.commands.specs.NameRefusals.{is_named_target}
use Rattle.commands.proofs.Endings.{put_if_done}
use Rattle.commands.proofs.dispatch.run_change.Goals as goal

pub returns-in-PutNamed-clause-done : goal.returns-in-PutNamed-clause-done
returns-in-PutNamed-clause-done g c = λ zero.
    let given = c.in-PutNamed.arguments in
    let put = c.run_put_named in
    subst MayBeDone (sym c.in-PutNamed.is)
    (put_if_done (λ (bytes : List ℕ). is_named_target given.name.now given.offset bytes) c.read_object-input-in-PutNamed.result c.open_shown-opened-in-PutNamed.result put.result zero put.ensures.unread put.ensures.unusable put.ensures.target)
