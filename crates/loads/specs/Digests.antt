-- The digest that a load returns.
use Rattle.std.specs.Prelude.{ℕ, List}
use Rattle.base.specs.declared.step.Step.TheVariants as step
use Rattle.base.specs.declared.step.Reply.TheVariants as reply
use Rattle.device_model.specs.declared.device.SectorDevice.{Ghosts}
use Rattle.pool_threads.specs.declared.handle.Handle.{Handle}
use Rattle.pool_threads.specs.declared.shared.Shared.{Shared}
use Rattle.pool_threads.specs.Answers.{Makes}
use Rattle.pool_threads.specs.Handles.{IsNewHandle}

-- a new handle of this pool made one step, to which the pool replied with this digest
pub record RepliesDigest {Dev : Type 0} {G : Ghosts Dev} (p : Shared Dev G) (digest : List ℕ) : Type 0 where
  pub before : Handle Dev G
  pub after : Handle Dev G
  pub new : IsNewHandle p before
  pub made : Makes step.Digest (reply.Digest digest) before after
