-- The steps of one transaction in one turn, one after another.
use Rattle.std.proofs.Common.{◌≡◌, ℕ, zero, suc, ◌+◌, ◌<◌, ◌≤◌, ◌++◌, ◌∷◌, [], List, drop, get_or, inr, length, take, refl, sym, ap, subst, ◌∙◌, arith}
use Rattle.std.proofs.Math.Seq.{take-suc}
use Rattle.std.proofs.lemmas.List.{take_all}
use Rattle.std.specs.Prelude.{IsErrAnd, Result, Ok, Err, is_err, true}
use Rattle.std.proofs.lemmas.Bool.{false≢true}
use Rattle.base.specs.declared.error.PoolError.{PoolError}
use Rattle.base.specs.declared.names.LockId.{LockId}
use Rattle.base.specs.declared.names.Owner.{Owner}
use Rattle.base.specs.declared.names.Receipt.{Receipt}
use Rattle.base.specs.declared.names.TxId.{TxId}
use Rattle.base.specs.declared.operation.Op.{Op}
use Rattle.base.specs.declared.operation.Shape.{Shape}
use Rattle.base.specs.declared.range.ObjectRange.{ObjectRange}
use Rattle.base.specs.declared.step.Step.TheVariants as step
use Rattle.base.specs.declared.step.Reply.TheVariants as reply
use Rattle.base.specs.steps.Runs.{reply_of}
use Rattle.pool_threads.specs.Transacts.{Ends, Locks, LocksAll, LocksAndBegins, LocksAndEnds, MakesTransaction, Unlocks, lock_step}
use Rattle.pool_threads.specs.Views.{IsPoolStep, SeenPool}

-- a list around one of its places
at_place : {A : Type 0} (xs : List A) (i : ℕ) (d : A) → i < length xs → xs ≡ take i xs ++ get_or xs i d ∷ drop (suc i) xs
at_place [] i d below = absurd (omega (arith, below))
at_place (x ∷ xs) zero d below = refl
at_place (x ∷ xs) (suc i) d below = ap (λ l. x ∷ l) (at_place xs i d (omega (arith, below)))

-- the first so many and one more
one_longer : {A : Type 0} (xs : List A) (i : ℕ) (d : A) → i < length xs → take (i + 1) xs ≡ take i xs ++ get_or xs i d ∷ []
one_longer xs i d below = let next : i + 1 ≡ suc i = omega arith in ap (λ n. take n xs) next ∙ take-suc xs i d below

module _ (keeps : Type 0) (owner : Owner) where
  -- one lock more
  locks_push : (rs : List ObjectRange) (ids : List LockId) (r : ObjectRange) (id : LockId) (u v w : SeenPool) → Locks keeps owner rs ids u v → IsPoolStep keeps (lock_step owner r) (reply.Locked id) v w
      → Locks keeps owner (rs ++ r ∷ []) (ids ++ id ∷ []) u w
  locks_push [] [] r id u v w same one = (w, subst (λ (x : SeenPool). IsPoolStep keeps (lock_step owner r) (reply.Locked id) x w) same one, refl)
  locks_push (x ∷ xs) (y ∷ ys) r id u v w (next, first, rest) one = (next, first, locks_push xs ys r id next v w rest one)
  locks_push [] (y ∷ ys) r id u v w h one = absurd h
  locks_push (x ∷ xs) [] r id u v w h one = absurd h

  -- the locks of the first so many ranges, and of one more
  pub one_more_lock : (ranges : List ObjectRange) (i : ℕ) (d : ObjectRange) (ids after : List LockId) (id : LockId) (u v w : SeenPool) → i < length ranges → Locks keeps owner (take i ranges) ids u v
      → IsPoolStep keeps (lock_step owner (get_or ranges i d)) (reply.Locked id) v w → after ≡ ids ++ id ∷ [] → Locks keeps owner (take (i + 1) ranges) after u w
  one_more_lock ranges i d ids after id u v w below so_far one is =
      subst (λ (xs : List LockId). Locks keeps owner (take (i + 1) ranges) xs u w) (sym is)
      (subst (λ (rs : List ObjectRange). Locks keeps owner rs (ids ++ id ∷ []) u w) (sym (one_longer ranges i d below)) (locks_push (take i ranges) ids (get_or ranges i d) id u v w so_far one))

  pub all_locked : (ranges : List ObjectRange) (i : ℕ) (ids : List LockId) (u w : SeenPool) → length ranges ≤ i → Locks keeps owner (take i ranges) ids u w → Locks keeps owner ranges ids u w
  all_locked ranges i ids u w past so_far = subst (λ (rs : List ObjectRange). Locks keeps owner rs ids u w) (take_all i ranges past) so_far

  -- the locks of the first so many, and the refusal of the next
  pub stops_at_lock : (ranges : List ObjectRange) (i : ℕ) (d : ObjectRange) (ids : List LockId) (e : PoolError) (result : Result (Unit {0}) PoolError) (u v w : SeenPool) → i < length ranges
      → Locks keeps owner (take i ranges) ids u v → IsPoolStep keeps (lock_step owner (get_or ranges i d)) (reply.Refused e) v w → IsErrAnd result (λ f. f ≡ e) → LocksAll keeps owner ranges ids result u w
  stops_at_lock ranges i d ids e (Ok done) u v w below so_far one is = absurd is
  stops_at_lock ranges i d ids e (Err f) u v w below so_far one is = record {
    locked = take i ranges;
    range = get_or ranges i d;
    rest = drop (suc i) ranges;
    ranges_are = at_place ranges i d below;
    middle = v;
    locks = so_far;
    refused = subst (λ (x : PoolError). IsPoolStep keeps (lock_step owner (get_or ranges i d)) (reply.Refused x) v w) (sym is) one;
  }

  -- one unlock more
  unlocks_push : (ids : List LockId) (id : LockId) (answer : Result (Unit {0}) PoolError) (u v w : SeenPool) → Unlocks keeps owner ids u v → IsPoolStep keeps (step.Unlock owner id) (reply_of (λ _. reply.Done) answer) v w
      → Unlocks keeps owner (ids ++ id ∷ []) u w
  unlocks_push [] id answer u v w same one = (w, answer, subst (λ (x : SeenPool). IsPoolStep keeps (step.Unlock owner id) (reply_of (λ _. reply.Done) answer) x w) same one, refl)
  unlocks_push (x ∷ xs) id answer u v w (next, got, first, rest) one = (next, got, first, unlocks_push xs id answer next v w rest one)

  pub one_more_unlock : (ids : List LockId) (i : ℕ) (d : LockId) (answer : Result (Unit {0}) PoolError) (u v w : SeenPool) → i < length ids → Unlocks keeps owner (take i ids) u v
      → IsPoolStep keeps (step.Unlock owner (get_or ids i d)) (reply_of (λ _. reply.Done) answer) v w → Unlocks keeps owner (take (i + 1) ids) u w
  one_more_unlock ids i d answer u v w below so_far one =
      subst (λ (xs : List LockId). Unlocks keeps owner xs u w) (sym (one_longer ids i d below)) (unlocks_push (take i ids) (get_or ids i d) answer u v w so_far one)

  pub all_unlocked : (ids : List LockId) (i : ℕ) (u w : SeenPool) → length ids ≤ i → Unlocks keeps owner (take i ids) u w → Unlocks keeps owner ids u w
  all_unlocked ids i u w past so_far = subst (λ (xs : List LockId). Unlocks keeps owner xs u w) (take_all i ids past) so_far

  module _ (ranges : List ObjectRange) (plan : List Shape) (ids : List LockId) (u v w : SeenPool) where
    -- a begin that was refused
    pub begin_was_refused : (e : PoolError) (result : Result TxId PoolError) → Locks keeps owner ranges ids u v → IsPoolStep keeps (step.Begin owner plan) (reply.Refused e) v w → IsErrAnd result (λ f. f ≡ e)
        → LocksAndBegins keeps owner ranges plan ids result u w
    begin_was_refused e (Ok tx) locks one is = absurd is
    begin_was_refused e (Err f) locks one is = inr (v, locks, subst (λ (x : PoolError). IsPoolStep keeps (step.Begin owner plan) (reply.Refused x) v w) (sym is) one)

  module _ (ranges : List ObjectRange) (plan : List Shape) (ops : List Op) (ids : List LockId) (u v w : SeenPool) where
    -- what was done under all locks
    pub ends_under : (tx : TxId) (result : Result Receipt PoolError) → LocksAndBegins keeps owner ranges plan ids (Ok tx) u v → Ends keeps tx ops result v w → LocksAndEnds keeps owner ranges plan ops ids result u w
    ends_under tx (Ok receipt) begins ends = record { tx = tx; begun = v; begins = begins; ends = ends }
    ends_under tx (Err e) begins ends = inr (record { tx = tx; begun = v; begins = begins; ends = ends })

    pub transacted : (result : Result Receipt PoolError) → LocksAndEnds keeps owner ranges plan ops ids result u v → Unlocks keeps owner ids v w → MakesTransaction keeps owner ranges plan ops result u w
    transacted result ends unlocks = record { ids = ids; ended = v; ends = ends; unlocks = unlocks }

-- a commit that was refused, and the abort after it
pub was_given_up : (keeps : Type 0) (tx : TxId) (ops : List Op) (u v w : SeenPool) (result : Result Receipt PoolError) (answer : Result (Unit {0}) PoolError) → true ≡ is_err result
    → IsPoolStep keeps (step.Commit tx ops) (reply_of (λ r. reply.Committed r) result) u v → IsPoolStep keeps (step.Abort tx) (reply_of (λ _. reply.Done) answer) v w → Ends keeps tx ops result u w
was_given_up keeps tx ops u v w (Ok receipt) answer refused made aborted = absurd (false≢true (sym refused))
was_given_up keeps tx ops u v w (Err e) answer refused made aborted = (v, made, (answer, aborted))
