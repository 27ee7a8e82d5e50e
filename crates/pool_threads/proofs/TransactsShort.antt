-- A transaction that finds no space at last: a sync would end no charge and give no log block back, or its owner has one
-- open.
use Rattle.std.proofs.Common.{◌≡◌, ◌∷◌, [], ◌||◌, ◌&&◌, Bool, true, false, List, inl, inr, ap, refl, sym, ◌∙◌}
use Rattle.std.specs.Prelude.{ℕ, ◌==◌, ◌⊎◌, IfErr, IsTrue, Result, Ok, Err, not}
use Rattle.std.proofs.lemmas.Bool.{and_parts, eqb-true}
use Rattle.base.specs.declared.error.PoolError.{PoolError}
use Rattle.base.specs.declared.error.PoolError.TheVariants as error
use Rattle.base.specs.declared.names.Owner.{Owner}
use Rattle.base.specs.declared.names.Receipt.{Receipt}
use Rattle.base.specs.declared.operation.Op.{Op}
use Rattle.base.specs.declared.operation.Shape.{Shape}
use Rattle.base.specs.declared.range.ObjectRange.{ObjectRange}
use Rattle.base.specs.steps.Shown.{Shown, dirty_total}
use Rattle.pool_tables.specs.Duties.{keeps_whole_log}
use Rattle.device_model.specs.declared.device.SectorDevice.{Ghosts}
use Rattle.pool_threads.specs.declared.handle.Handle.{Handle}
use Rattle.pool_threads.specs.Answers.{state_seen}
use Rattle.pool_threads.specs.Handles.{moment_of}
use Rattle.pool_threads.specs.Transacts.{IsForGood, IsLastTurn, IsRetried, TransactsAtLast, is_in_vain}
use Rattle.pool_threads.proofs.Throttled.{either}
use Rattle.pool_threads.proofs.WaitsSeen.{syncs_without_space}
use Rattle.transactions.specs.Open.{has_one_open}
use Rattle.word_lock.specs.Seats.{seen}
use Rattle.word_lock.specs.Turns.{turn}

retried_short : (ranges : List ObjectRange) (e : PoolError) → e ≡ error.NoSpace → IsRetried ranges e
retried_short [] e is = inr is
retried_short (r ∷ rs) e is = inr (inr is)

-- why no room is to be had then
abbrev pub HasNoRoom : Owner → Shown → Type 0
HasNoRoom owner s = ((dirty_total s ≡ 0) × (keeps_whole_log s ≡ false)) ⊎ (has_one_open owner.0 s.transactions ≡ true)

no_room_by : (dirty : ℕ) (keeps one : Bool) → ((dirty == 0) && not keeps) || one ≡ true → ((dirty ≡ 0) × (keeps ≡ false)) ⊎ (one ≡ true)
no_room_by dirty keeps one is = by (either ((dirty == 0) && not keeps) one is)
  where
    none_kept : (b : Bool) → not b ≡ true → b ≡ false
    none_kept false is = refl
    none_kept true is = absurd cc

    by : ((dirty == 0) && not keeps ≡ true) ⊎ (one ≡ true) → ((dirty ≡ 0) × (keeps ≡ false)) ⊎ (one ≡ true)
    by (inl none) = let both = and_parts (dirty == 0) (not keeps) none in inl (eqb-true dirty 0 both.0, none_kept keeps both.1)
    by (inr some) = inr some

no_room : (owner : Owner) (ranges : List ObjectRange) (plan : List Shape) (e : PoolError) (s : Shown) → e ≡ error.NoSpace → IsForGood owner ranges plan e s → HasNoRoom owner s
no_room owner ranges plan e s is good =
    no_room_by (dirty_total s) (keeps_whole_log s) (has_one_open owner.0 s.transactions) (ap (λ (f : PoolError). is_in_vain owner ranges plan f s) (sym is) ∙ good (retried_short ranges e is))

module _ {Dev : Type 0} {G : Ghosts Dev} (owner : Owner) (ranges : List ObjectRange) (plan : List Shape) (ops : List Op) where
  pub short_at_last : (result : Result Receipt PoolError) (old new : Handle Dev G) → TransactsAtLast owner ranges plan ops result old new → IfErr result (λ e. e ≡ error.NoSpace → HasNoRoom owner (state_seen new).shown)
  short_at_last (Ok r) old new u = tt
  short_at_last (Err e) old new u = λ is. by is u.made.made
    where
      by : e ≡ error.NoSpace → IsLastTurn (IsTrue G.keeps_model) (moment_of old) owner ranges plan ops (Err e) (turn u.made.took (seen new.seat)) → HasNoRoom owner (state_seen new).shown
      by is (inl (m, good)) = no_room owner ranges plan e (state_seen new).shown is good
      by is (inr (group, opened, does)) = absurd (syncs_without_space (IsTrue G.keeps_model) u.made.took (seen new.seat) group (moment_of old) e does is)
