-- What a loop does in its turns, and how it ends.
use Rattle.std.proofs.Common.{◌≡◌, subst}
use Rattle.std.specs.Prelude.{IsTrue, Option, Some}
use Rattle.base.specs.declared.error.PoolError.{PoolError}
use Rattle.base.specs.declared.error.PoolError.TheVariants.{NotReady}
use Rattle.base.specs.declared.step.Reply as declared_reply
use Rattle.base.specs.declared.step.Reply.TheVariants as reply
use Rattle.device_model.specs.declared.device.SectorDevice.{Ghosts}
use Rattle.pool_tables.specs.declared.duty.Duty.{Duty}
use Rattle.pool_threads.specs.declared.handle.Handle.{Handle}
use Rattle.pool_threads.specs.Answers.{Sees}
use Rattle.pool_threads.specs.Loops.{Works, WorksUntil}
use Rattle.pool_threads.specs.Serves.{GoesOnAfter, IsRefusedDuty, MakesDue}
use Rattle.pool_threads.specs.Views.{grows_onward}
use Rattle.pool_threads.proofs.Served.{refused_due}
use Rattle.pool_threads.proofs.Tried.{at_last, no_turns, one_more_turn}
use Rattle.pool_threads.proofs.Waited.{Served, refused_as, served_as, served_grows}
use Rattle.word_lock.specs.Seats.{seen}

module _ {Dev : Type 0} {G : Ghosts Dev} (d : Duty) where
  pub no_works : (h : Handle Dev G) → Works d h h
  no_works h = no_turns _ h

  pub works_on : (r : Option declared_reply.Reply) {old now next : Handle Dev G} → GoesOnAfter (Some NotReady) r → Works d old now → Served d r now next → Works d old next
  works_on r passed w m = one_more_turn _ w (served_as (λ t made. (r, passed, made)) m) (served_grows d r m)

  module _ (e : PoolError) (r : Option declared_reply.Reply) {old now new : Handle Dev G} (is : r ≡ Some (reply.Refused e)) (w : Works d old now) (m : Served d r now new) where
    pub works_until : WorksUntil d e old new
    works_until = at_last _ w (refused_as d r e is m)

    pub sees_ending : Sees (IsRefusedDuty d e) old new
    sees_ending = refused_due (IsTrue G.keeps_model) d e (seen old.seat) m.made.took (seen new.seat) (grows_onward _ _ _ _ w.made.onward m.made.onward) (subst (λ (x : Option declared_reply.Reply). MakesDue (IsTrue G.keeps_model) d x m.made.took (seen new.seat)) is m.made.made)
