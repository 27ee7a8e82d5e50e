-- What callers take from the steps of a question: its numbers, and that it changes nothing.
use Rattle.std.proofs.Common.{◌≡◌, ℕ, Bool, List, ap}
use Rattle.std.specs.Prelude.{Ok, Err}
use Rattle.base.specs.declared.names.Receipt.{Receipt}
use Rattle.base.specs.declared.status.Status.{Status}
use Rattle.base.specs.declared.step.Step.TheVariants as step
use Rattle.base.specs.declared.step.Reply.TheVariants as reply
use Rattle.base.specs.steps.Tables.{GoesOn}
use Rattle.base.specs.steps.Seen.{IsStatusBetween}
use Rattle.base.specs.steps.Shown.{available, dirty_total, free_count}
use Rattle.base.specs.steps.Steps.{State}
use Rattle.pool_threads.proofs.AloneSteps.{Does}

pub status_numbers : (status : Status) (before after : State) → IsStatusBetween status before after
    → (s : State) × GoesOn before s × GoesOn s after × (status.synced.0 ≡ s.shown.line.synced) × (status.open_group.0 ≡ s.shown.line.open_group)
    × (status.dirty ≡ dirty_total s.shown) × (status.free ≡ free_count s.shown) × (status.available ≡ available s.shown)
status_numbers status before after x = (
  x.state,
  x.no_earlier,
  x.no_later,
  ap (λ (t : Status). t.synced.0) x.told,
  ap (λ (t : Status). t.open_group.0) x.told,
  ap (λ (t : Status). t.dirty) x.told,
  ap (λ (t : Status). t.free) x.told,
  ap (λ (t : Status). t.available) x.told,
)

pub status_stays : (status : Status) (old new : State) → Does step.Status (reply.Status status) old new → new ≡ old
status_stays status old new (Ok r, is, h) = h.1
status_stays status old new (Err e, is, h) = absurd h

pub name_stays : (name : List ℕ) (old new : State) → Does step.Name (reply.Name name) old new → new ≡ old
name_stays name old new (Ok r, is, h) = h.1
name_stays name old new (Err e, is, h) = absurd h

pub durable_stays : (receipt : Receipt) (durable : Bool) (old new : State) → Does (step.Durable receipt) (reply.Durable durable) old new → new ≡ old
durable_stays receipt durable old new (Ok r, is, h) = h.1
durable_stays receipt durable old new (Err e, is, h) = absurd h
