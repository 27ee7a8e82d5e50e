use Rattle.std.proofs.Common.{ap, arith, inl, refl, ◌∙◌}
use Rattle.std.specs.Prelude.{Err, Ok}
use Rattle.base.specs.declared.error.PoolError.TheVariants.{NoMemory}
use Rattle.frames.specs.declared.answer.Outcome.TheVariants as outcome
use Rattle.pool_threads.specs.Answers.{state_seen}
use Rattle.serving.proofs.ListedBelow.{all_below, few_first}
use Rattle.serving.proofs.listing.list_objects.Goals as goal

pub returns-in_default : goal.returns-in_default
returns-in_default g c = (Err NoMemory, inl (refl, refl), refl)

pub below-requires-clause-room : goal.below-requires-clause-room
below-requires-clause-room g c =
    let contents = (state_seen c.objects.new.self).shown.contents in
    let few = few_first contents c.saturating_sub-most.result c.args.first.0 c.in-Ok-objects.objects.items c.in-Ok-objects.ensures.listed.objects in
    omega (arith, few, c.in-Ok-objects.objects.ok.0, c.in-Ok.ensures.len, c.in-Ok.ensures.capacity, c.min.ensures)

pub returns-in-Ok-objects : goal.returns-in-Ok-objects
returns-in-Ok-objects g c =
    let contents = (state_seen c.objects.new.self).shown.contents in
    let listed = c.in-Ok-objects.ensures.listed in
    let below = all_below contents c.args.past.0 c.args.first.0 c.saturating_sub-most.result c.in-Ok-objects.objects.items (omega (arith, c.saturating_sub-most.ensures)) listed.objects in
    (Ok c.below.result.items, record { looked = listed.looked; objects = c.below.ensures ∙ below }, ap (λ l. outcome.Objects l) c.new.ensures)

pub returns-in-Err : goal.returns-in-Err
returns-in-Err g c = (Err c.in-Err.error, c.in-Err.ensures.refused, refl)
