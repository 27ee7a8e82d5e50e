-- What callers take from the turns of a loop.
use Rattle.std.proofs.Common.{◌≡◌, ◌≢◌, subst}
use Rattle.std.specs.Prelude.{IfErr, IfOk, IsTrue, MatchResult, Ok, Err, Option, Result, Some}
use Rattle.base.specs.declared.error.PoolError.{PoolError}
use Rattle.base.specs.declared.error.PoolError.TheVariants as error
use Rattle.base.specs.declared.step.Reply as declared_reply
use Rattle.base.specs.declared.step.Reply.TheVariants as reply
use Rattle.device_model.specs.declared.device.SectorDevice.{Ghosts}
use Rattle.pool_tables.specs.declared.duty.Duty.{Duty}
use Rattle.pool_threads.specs.Answers.{Takes, TakesAtLast}
use Rattle.pool_threads.specs.Loops.{Works, WorksUntil}
use Rattle.pool_threads.specs.Serves.{GoesOnAfter, IsDutyTurn, IsRefusedTurn, IsServedTurn}
use Rattle.pool_threads.specs.Views.{SeenPool}
use Rattle.pool_threads.specs.declared.handle.Handle.{Handle}
use Rattle.pool_threads.proofs.Waited.{ends_as, takes_as}
use Rattle.word_lock.specs.declared.rule.Turn.{Turn}

not_refused : (r : Option declared_reply.Reply) → GoesOnAfter (Some error.NotReady) r → r ≢ Some (reply.Refused error.Write)
not_refused r goes is = let same : Some error.NotReady ≡ Some error.Write = subst (GoesOnAfter (Some error.NotReady)) is goes in absurd (cc)

-- what was due was done in this turn, and no write was refused
abbrev pub IsGoodTurn : Type 0 → Duty → Turn SeenPool → Type 0
IsGoodTurn keeps d t = (r : Option declared_reply.Reply) × (r ≢ Some (reply.Refused error.Write)) × IsServedTurn keeps d r t

good_turn : (keeps : Type 0) (d : Duty) (t : Turn SeenPool) → IsDutyTurn keeps d (Some error.NotReady) t → IsGoodTurn keeps d t
good_turn keeps d t x = (x.0, not_refused x.0 x.1, x.2)

module _ {Dev : Type 0} {G : Ghosts Dev} (d : Duty) (result : Result (Unit {0}) PoolError) (old new : Handle Dev G) where
  abbrev Worked : Result (Unit {0}) PoolError → Type 0
  Worked r = MatchResult r (λ _. Works d old new) (λ e. WorksUntil d e old new)

  pub ended_well : Worked result → IfOk result (λ _. Takes (IsGoodTurn (IsTrue G.keeps_model) d) old new)
  ended_well = by result
    where
      by : (r : Result (Unit {0}) PoolError) → Worked r → IfOk r (λ _. Takes (IsGoodTurn (IsTrue G.keeps_model) d) old new)
      by (Ok x) w = takes_as (good_turn (IsTrue G.keeps_model) d) w
      by (Err e) w = tt

  pub ended_early : Worked result → IfErr result (λ e. TakesAtLast (IsGoodTurn (IsTrue G.keeps_model) d) (IsServedTurn (IsTrue G.keeps_model) d (Some (reply.Refused e))) old new)
  ended_early = by result
    where
      by : (r : Result (Unit {0}) PoolError) → Worked r → IfErr r (λ e. TakesAtLast (IsGoodTurn (IsTrue G.keeps_model) d) (IsServedTurn (IsTrue G.keeps_model) d (Some (reply.Refused e))) old new)
      by (Ok x) w = tt
      by (Err e) w = ends_as {Q = IsRefusedTurn (IsTrue G.keeps_model) d e} (good_turn (IsTrue G.keeps_model) d) (λ t x. x) w
