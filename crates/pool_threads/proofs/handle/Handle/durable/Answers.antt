use Rattle.std.proofs.Common.{subst}
use Rattle.std.proofs.Math.Logic.{∥∥₁_map}
use Rattle.base.specs.declared.step.Reply.TheVariants as reply
use Rattle.base.specs.declared.step.Step.TheVariants as step
use Rattle.pool_threads.specs.Answers.{Makes}
use Rattle.pool_threads.proofs.Answered.{made_between}
use Rattle.pool_threads.proofs.AnswersSeen.{durable_is_told, durables_are_seen}
use Rattle.pool_threads.proofs.handle.Handle.durable.Goals as goal

pub unreachable-requires : goal.unreachable-requires
unreachable-requires g c = durable_is_told _ c.in-Err.ensures

pub returns-clause-durable : goal.returns-clause-durable
returns-clause-durable g c = λ yes. ∥∥₁_map (made_between (subst (λ b. Makes (step.Durable c.args.receipt) (reply.Durable b) c.args.self.now c.ask.new.self) yes c.in-Ok.ensures)) (durables_are_seen _ _ _)
