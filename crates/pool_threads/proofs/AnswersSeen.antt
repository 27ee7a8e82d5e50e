-- What the status, the name, the digest and the answer of a durable commit say to a handle, and that three of them are
-- never refused.
use Rattle.std.proofs.Common.{◌≡◌, ℕ, true, List, sym, subst, ◌∙◌}
use Rattle.std.specs.Prelude.{Ok, Err, None}
use Rattle.std.proofs.Math.Logic.{∥∥₁_elim}
use Rattle.base.specs.declared.error.PoolError.{PoolError}
use Rattle.base.specs.declared.names.Receipt.{Receipt}
use Rattle.base.specs.declared.status.Status.{Status}
use Rattle.base.specs.declared.step.Step.TheVariants as step
use Rattle.base.specs.declared.step.Reply as declared_reply
use Rattle.base.specs.declared.step.Reply.TheVariants as reply
use Rattle.base.specs.steps.Tables.{GoesOn}
use Rattle.base.specs.steps.Refusals as refusal
use Rattle.base.specs.steps.Runs.{Replies, Step}
use Rattle.base.specs.steps.Seen.{IsDigestBetween, IsKnownDurable, IsMadeBetween, IsNameBetween, IsStatusBetween}
use Rattle.base.specs.steps.Steps.{Answers, Never, State}
use Rattle.base.proofs.history.CommitOrder.{ok-none}
use Rattle.base.proofs.steps.SeenGroups.{durable_is_known}
use Rattle.base.proofs.steps.SeenStates.{contents_are_between}
use Rattle.device_model.specs.declared.device.SectorDevice.{Ghosts}
use Rattle.pool_threads.specs.declared.handle.Handle.{Handle}
use Rattle.pool_threads.specs.Answers.{Makes}
use Rattle.pool_threads.proofs.Answered.{made_between}

pub statuses_are_seen : (status : Status) (before after : State) → IsMadeBetween ⊥ step.Status (reply.Status status) before after → IsStatusBetween status before after
statuses_are_seen status before after m = seen m.made
  where
    seen : Step ⊥ m.now step.Status (reply.Status status) m.old m.new → IsStatusBetween status before after
    seen (Ok r, is, h) =
        let same : status ≡ r = let given : reply.Status status ≡ reply.Status r = is in cc in
        record {
          state = m.old;
          no_earlier = m.no_earlier;
          no_later = subst (λ (s : State). GoesOn s after) h.1 m.no_later;
          explained = m.explained;
          told = same ∙ h.0;
        }
    seen (Err e, is, h) = absurd h

pub names_are_seen : (name : List ℕ) (before after : State) → IsMadeBetween ⊥ step.Name (reply.Name name) before after → IsNameBetween name before after
names_are_seen name before after m = seen m.made
  where
    seen : Step ⊥ m.now step.Name (reply.Name name) m.old m.new → IsNameBetween name before after
    seen (Ok r, is, h) =
        let same : name ≡ r = let given : reply.Name name ≡ reply.Name r = is in cc in
        let no_later : GoesOn m.old after = subst (λ (s : State). GoesOn s after) h.1 m.no_later in
        (m.old.shown.contents, contents_are_between before m.old after m.explained m.no_earlier no_later, sym (same ∙ h.0))
    seen (Err e, is, h) = absurd h

pub digests_are_seen : (digest : List ℕ) (before after : State) → IsMadeBetween (Unit {0}) step.Digest (reply.Digest digest) before after → IsDigestBetween digest before after
digests_are_seen digest before after m = seen m.made
  where
    seen : Step (Unit {0}) m.now step.Digest (reply.Digest digest) m.old m.new → IsDigestBetween digest before after
    seen (Ok r, is, h) =
        let done = ok-none (refusal.digest_refusal m.old.shown) r m.old m.new _ _ h in
        let same : digest ≡ r = let given : reply.Digest digest ≡ reply.Digest r = is in cc in
        let no_later : GoesOn m.old after = subst (λ (s : State). GoesOn s after) done.1.1 m.no_later in
        (m.old.shown.contents, contents_are_between before m.old after m.explained m.no_earlier no_later, sym (same ∙ done.1.0 tt))
    seen (Err e, is, h) = absurd (let no_way : reply.Digest digest ≡ reply.Refused e = is in cc)

pub durables_are_seen : (receipt : Receipt) (before after : State) → IsMadeBetween ⊥ (step.Durable receipt) (reply.Durable true) before after → IsKnownDurable receipt.ordinal.0 receipt.group.0 after
durables_are_seen receipt before after m = seen m.made
  where
    seen : Step ⊥ m.now (step.Durable receipt) (reply.Durable true) m.old m.new → IsKnownDurable receipt.ordinal.0 receipt.group.0 after
    seen (Ok r, is, h) =
        let same : true ≡ r = let given : reply.Durable true ≡ reply.Durable r = is in cc in
        durable_is_known receipt.ordinal.0 receipt.group.0 m.old after m.explained (sym (same ∙ h.0)) (subst (λ (s : State). GoesOn s after) h.1 m.no_later)
    seen (Err e, is, h) = absurd h

-- a step without a test, which has no refusal of its own
never : {A : Type 0} (make : A → declared_reply.Reply) (e : PoolError) (old new : State) (does : A → Type 0) → ((a : A) → reply.Refused e ≡ make a → ⊥)
    → Replies make (reply.Refused e) (λ answer. Answers None answer old new does Never) → ⊥
never make e old new does other (Ok a, is, h) = other a is
never make e old new does other (Err f, is, h) = h

module _ {Dev : Type 0} {G : Ghosts Dev} {old new : Handle Dev G} (e : PoolError) where
  pub status_is_told : Makes step.Status (reply.Refused e) old new → ⊥
  status_is_told makes = ∥∥₁_elim (made_between makes) (λ x y. absurd x) (λ m. never _ e m.old m.new _ (λ a is. let no_way : reply.Refused e ≡ reply.Status a = is in cc) m.made)

  pub name_is_told : Makes step.Name (reply.Refused e) old new → ⊥
  name_is_told makes = ∥∥₁_elim (made_between makes) (λ x y. absurd x) (λ m. never _ e m.old m.new _ (λ a is. let no_way : reply.Refused e ≡ reply.Name a = is in cc) m.made)

  pub durable_is_told : {receipt : Receipt} → Makes (step.Durable receipt) (reply.Refused e) old new → ⊥
  durable_is_told makes = ∥∥₁_elim (made_between makes) (λ x y. absurd x) (λ m. never _ e m.old m.new _ (λ a is. let no_way : reply.Refused e ≡ reply.Durable a = is in cc) m.made)
