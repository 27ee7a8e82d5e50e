-- What callers take from waits that are not in vain: which locks and transactions of their owner there are then.
use Rattle.std.proofs.Common.{◌≡◌, ◌≢◌, ◌∷◌, [], ◌&&◌, ◌||◌, Bool, true, false, not, ℕ, List, inl, inr, length, ap, refl, sym, ◌++◌, ◌∙◌}
use Rattle.std.specs.Prelude.{◌==◌, ◌⊎◌, All, Err, IfErr, IfOk, IsTrue, None, Ok, Option, Result, Some, is_none, slice_get}
use Rattle.std.specs.List.{list_any}
use Rattle.std.proofs.lemmas.Bool.{and_parts, eq-eqb, eqb-true, false≢true, or_parts, false_from_ne_true}
use Rattle.std.proofs.lemmas.List.{nil_from_length}
use Rattle.std.proofs.lemmas.List.Elements.{All-cons, All-nil, All-weaker}
use Rattle.base.specs.declared.error.PoolError.{PoolError}
use Rattle.base.specs.declared.error.PoolError.TheVariants as error
use Rattle.base.specs.declared.names.ObjectId.{ObjectId}
use Rattle.base.specs.declared.names.Owner.{Owner}
use Rattle.base.specs.declared.names.Receipt.{Receipt}
use Rattle.base.specs.declared.operation.Op.{Op}
use Rattle.base.specs.declared.operation.Shape.{Shape}
use Rattle.base.specs.declared.range.Mode.{Mode}
use Rattle.base.specs.declared.range.Mode.TheVariants.{Reader, Writer}
use Rattle.base.specs.declared.range.ObjectRange.{ObjectRange}
use Rattle.base.specs.declared.range.Range.{Range}
use Rattle.base.specs.history.Plans.{NumberRange, number_range, overlaps}
use Rattle.base.specs.steps.Groups.{Admission}
use Rattle.base.specs.steps.Locks.{Grant, is_reader}
use Rattle.base.specs.steps.Logs.{Begun, KeptBlock}
use Rattle.base.specs.steps.Refusals.{object_range}
use Rattle.base.specs.steps.Shown.{Shown, dirty_total}
use Rattle.base.proofs.common.KeptLists.{any_found, none_any}
use Rattle.device_model.specs.declared.device.SectorDevice.{Ghosts}
use Rattle.pool_tables.specs.BeginTests.{is_above_limit}
use Rattle.pool_tables.specs.Duties.{keeps_whole_log}
use Rattle.pool_threads.specs.declared.handle.Handle.{Handle}
use Rattle.pool_threads.specs.Answers.{WaitsWhileNot}
use Rattle.pool_threads.specs.Fetches.{Fetches, IsFetchTurn}
use Rattle.pool_threads.specs.Handles.{moment_of, turns_of, view_seen}
use Rattle.pool_threads.specs.Transacts.{IsEarlierTurn, IsPayingTurn, IsRetried, TransactsOrLacks, is_in_vain, plan_of_ops}
use Rattle.pool_threads.specs.Vain.{IsInOwnWay, IsThrottledInVain}
use Rattle.pool_threads.specs.Views.{SeenPool, viewed_state}
use Rattle.range_locks.specs.Locks.{blocks_own, is_blocked_by_own}
use Rattle.transactions.specs.LockRanges.{lock_ranges}
use Rattle.transactions.specs.Open.{has_one_open}
use Rattle.word_lock.specs.declared.rule.Turn.{Turn}
use Rattle.word_lock.specs.Turns.{turn}

-- no writer shares a range
no_share : (over reader : Bool) → over && not (reader && false) ≡ false → over ≡ false
no_share true true free = absurd (false≢true (sym free))
no_share true false free = absurd (false≢true (sym free))
no_share false reader free = refl

-- and no reader keeps one from a reader
writer_of : (mode : Mode) → not (is_reader mode && true) ≡ true → mode ≡ Writer
writer_of Reader is = absurd (false≢true is)
writer_of Writer is = refl

-- which is a reader's, if it keeps none away
reader_of : (mode : Mode) → not (is_reader mode && true) ≡ false → mode ≡ Reader
reader_of Reader free = refl
reader_of Writer free = absurd (false≢true (sym free))

later_false : (own blocks : Bool) → own ≡ true → own && blocks ≡ false → blocks ≡ false
later_false true blocks is free = free
later_false false blocks is free = absurd (false≢true is)

module _ (owner : ℕ) (r : NumberRange) (locks : List Grant) where
  -- no lock of the owner overlaps the range
  pub none_of_own : is_blocked_by_own owner r Writer locks ≡ false → (i : ℕ) (g : Grant) → slice_get locks i ≡ Some g → g.owner ≡ owner → overlaps g.range r ≡ false
  none_of_own free i g at own =
      no_share (overlaps g.range r) (is_reader g.mode)
      (later_false (g.owner == owner) (overlaps g.range r && not (is_reader g.mode && false)) (eq-eqb g.owner owner own) (none_any (blocks_own owner r Writer) locks i g free at))

  -- none that is a writer's does
  pub none_of_own_writer : is_blocked_by_own owner r Reader locks ≡ false → (i : ℕ) (g : Grant) → slice_get locks i ≡ Some g → g.owner ≡ owner → overlaps g.range r ≡ true → g.mode ≡ Reader
  none_of_own_writer free i g at own over =
      reader_of g.mode
      (later_false (overlaps g.range r) (not (is_reader g.mode && true)) over
      (later_false (g.owner == owner) (overlaps g.range r && not (is_reader g.mode && true)) (eq-eqb g.owner owner own) (none_any (blocks_own owner r Reader) locks i g free at)))

  -- or one does, which is a writer's if it keeps a reader away
  pub one_of_own : (mode : Mode) → is_blocked_by_own owner r mode locks ≡ true
      → (i : ℕ) × (g : Grant) × (slice_get locks i ≡ Some g) × (g.owner ≡ owner) × (overlaps g.range r ≡ true) × (mode ≡ Reader → g.mode ≡ Writer)
  one_of_own mode is =
      let found = any_found (blocks_own owner r mode) locks is in
      let g : Grant = found.1 in
      let parts = and_parts (g.owner == owner) (overlaps g.range r && not (is_reader g.mode && is_reader mode)) found.3 in
      let blocks = and_parts (overlaps g.range r) (not (is_reader g.mode && is_reader mode)) parts.1 in
      (found.0, g, found.2, eqb-true g.owner owner parts.0, blocks.0, λ reads. writer_of g.mode (ap (λ (m : Mode). not (is_reader g.mode && is_reader m)) (sym reads) ∙ blocks.1))

module _ (owner : ℕ) (open_ones : List Admission) where
  pub none_open : has_one_open owner open_ones ≡ false → (i : ℕ) (a : Admission) → slice_get open_ones i ≡ Some a → a.owner ≢ owner
  none_open free i a at own = false≢true (sym (none_any (λ (b : Admission). b.owner == owner) open_ones i a free at) ∙ eq-eqb a.owner owner own)

  pub one_open : has_one_open owner open_ones ≡ true → (i : ℕ) × (a : Admission) × (slice_get open_ones i ≡ Some a) × (a.owner ≡ owner)
  one_open is =
      let found = any_found (λ (b : Admission). b.owner == owner) open_ones is in
      (found.0, found.1, found.2, eqb-true found.1.owner owner found.3)

-- so it is of each turn of a wait
module _ {Dev : Type 0} {G : Ghosts Dev} (owner : Owner) (old new : Handle Dev G) where
  abbrev pub LeavesNoOwnLock : NumberRange → Turn SeenPool → Type 0
  LeavesNoOwnLock r t = (i : ℕ) (g : Grant) → slice_get (viewed_state t.left).shown.locks i ≡ Some g → g.owner ≡ owner.0 → overlaps g.range r ≡ false

  abbrev pub LeavesNoneOpen : Turn SeenPool → Type 0
  LeavesNoneOpen t = (i : ℕ) (a : Admission) → slice_get (viewed_state t.left).shown.transactions i ≡ Some a → a.owner ≢ owner.0

  abbrev pub Waits : (Turn SeenPool → Type 0) → Type 0
  Waits P = (had : List (Turn SeenPool)) × (last : Turn SeenPool) × (turns_of new ≡ (turns_of old ++ had) ++ last ∷ []) × All P had

  pub lock_waits : (r : NumberRange) → WaitsWhileNot (IsInOwnWay owner r Writer) old new → Waits (LeavesNoOwnLock r)
  lock_waits r w = (
    w.had,
    w.last,
    w.turns,
    All-weaker (λ (t : Turn SeenPool). IsInOwnWay owner r Writer (viewed_state t.left).shown → ⊥) (LeavesNoOwnLock r)
        (λ t never. none_of_own owner.0 r (viewed_state t.left).shown.locks (false_from_ne_true (is_blocked_by_own owner.0 r Writer (viewed_state t.left).shown.locks) never)) w.had w.each,
  )

  -- a fetch waits so for its lock
  module _ (n : ObjectId) (range : Range) where
    abbrev pub LeavesNoOwnWriter : Turn SeenPool → Type 0
    LeavesNoOwnWriter t = (i : ℕ) (g : Grant) → slice_get (viewed_state t.left).shown.locks i ≡ Some g → g.owner ≡ owner.0 → overlaps g.range (object_range n.0 range.low range.high) ≡ true → g.mode ≡ Reader

    no_own_writer : (t : Turn SeenPool) → IsFetchTurn (IsTrue G.keeps_model) owner n range None t → LeavesNoOwnWriter t
    no_own_writer t (refused, free) =
        let r : NumberRange = object_range n.0 range.low range.high in
        none_of_own_writer owner.0 r (viewed_state t.left).shown.locks (false_from_ne_true (is_blocked_by_own owner.0 r Reader (viewed_state t.left).shown.locks) free)

    pub fetch_waits : (result : Result (List ℕ) PoolError) → Fetches owner n range result old new → Waits LeavesNoOwnWriter
    fetch_waits result u = (
      u.made.had,
      turn u.made.took (view_seen new),
      u.made.turn,
      All-weaker (IsFetchTurn (IsTrue G.keeps_model) owner n range None) LeavesNoOwnWriter no_own_writer u.made.had u.made.each,
    )

  without_room : (plan : List Shape) (s : Shown) → (IsThrottledInVain owner plan s → ⊥) → has_one_open owner.0 s.transactions ≡ false
  without_room plan s never = (or_parts (is_above_limit plan s) (has_one_open owner.0 s.transactions) (false_from_ne_true (is_above_limit plan s || has_one_open owner.0 s.transactions) never)).1

  pub begin_waits : (plan : List Shape) → WaitsWhileNot (IsThrottledInVain owner plan) old new → Waits LeavesNoneOpen
  begin_waits plan w = (
    w.had,
    w.last,
    w.turns,
    All-weaker (λ (t : Turn SeenPool). IsThrottledInVain owner plan (viewed_state t.left).shown → ⊥) LeavesNoneOpen
        (λ t never. none_open owner.0 (viewed_state t.left).shown.transactions (without_room plan (viewed_state t.left).shown never)) w.had w.each,
  )

  -- a turn of a transaction that is made again
  module _ (ops : List Op) where
    abbrev pub EndsNoOwnWait : Turn SeenPool → Type 0
    EndsNoOwnWait t = IsPayingTurn (IsTrue G.keeps_model) (moment_of old) t
        ⊎ (((i : ℕ) (g : Grant) → slice_get (viewed_state t.left).shown.locks i ≡ Some g → g.owner ≡ owner.0 → All (λ (r : ObjectRange). overlaps g.range (number_range r) ≡ false) (lock_ranges (plan_of_ops ops))) ⊎ LeavesNoneOpen t)

    none_in_way : (s : Shown) (ranges : List ObjectRange) → list_any (λ (r : ObjectRange). is_blocked_by_own owner.0 (number_range r) Writer s.locks) ranges ≡ false
        → (i : ℕ) (g : Grant) → slice_get s.locks i ≡ Some g → g.owner ≡ owner.0 → All (λ (r : ObjectRange). overlaps g.range (number_range r) ≡ false) ranges
    none_in_way s [] free i g at own = All-nil (λ (r : ObjectRange). overlaps g.range (number_range r) ≡ false)
    none_in_way s (r ∷ rs) free i g at own =
        let both = or_parts (is_blocked_by_own owner.0 (number_range r) Writer s.locks) (list_any (λ (x : ObjectRange). is_blocked_by_own owner.0 (number_range x) Writer s.locks) rs) free in
        All-cons (λ (x : ObjectRange). overlaps g.range (number_range x) ≡ false) r rs (none_of_own owner.0 (number_range r) s.locks both.0 i g at own) (none_in_way s rs both.1 i g at own)

    retried_ways : (ranges : List ObjectRange) (e : PoolError) → IsRetried ranges e → (e ≡ error.Busy) ⊎ ((e ≡ error.Throttled) ⊎ (e ≡ error.NoSpace))
    retried_ways [] e want = inr want
    retried_ways (r ∷ rs) e want = want

    earlier_turn : (t : Turn SeenPool) → IsEarlierTurn (IsTrue G.keeps_model) (moment_of old) owner (lock_ranges (plan_of_ops ops)) (plan_of_ops ops) ops t → EndsNoOwnWait t
    earlier_turn t (inr paid) = inl paid
    earlier_turn t (inl (e, (retried, may), made)) = inr (by (retried_ways (lock_ranges (plan_of_ops ops)) e retried))
      where
        is_so : (f : PoolError) → e ≡ f → is_in_vain owner (lock_ranges (plan_of_ops ops)) (plan_of_ops ops) f (viewed_state t.left).shown ≡ false
        is_so f is = ap (λ (x : PoolError). is_in_vain owner (lock_ranges (plan_of_ops ops)) (plan_of_ops ops) x (viewed_state t.left).shown) (sym is) ∙ may

        by : (e ≡ error.Busy) ⊎ ((e ≡ error.Throttled) ⊎ (e ≡ error.NoSpace))
            → ((i : ℕ) (g : Grant) → slice_get (viewed_state t.left).shown.locks i ≡ Some g → g.owner ≡ owner.0 → All (λ (r : ObjectRange). overlaps g.range (number_range r) ≡ false) (lock_ranges (plan_of_ops ops))) ⊎ LeavesNoneOpen t
        by (inl busy) = inl (none_in_way (viewed_state t.left).shown (lock_ranges (plan_of_ops ops)) (is_so error.Busy busy))
        by (inr (inl throttled)) = inr (none_open owner.0 (viewed_state t.left).shown.transactions (or_parts (is_above_limit (plan_of_ops ops) (viewed_state t.left).shown) (has_one_open owner.0 (viewed_state t.left).shown.transactions) (is_so error.Throttled throttled)).1)
        by (inr (inr short)) = inr (none_open owner.0 (viewed_state t.left).shown.transactions (or_parts ((dirty_total (viewed_state t.left).shown == 0) && not (keeps_whole_log (viewed_state t.left).shown)) (has_one_open owner.0 (viewed_state t.left).shown.transactions) (is_so error.NoSpace short)).1)

    pub transact_waits : (result : Result Receipt PoolError) → TransactsOrLacks owner ops result old new
        → IfOk result (λ r. (tries : List (Turn SeenPool)) × (took : SeenPool) × (turns_of new ≡ (turns_of old ++ tries) ++ turn took (view_seen new) ∷ []) × All EndsNoOwnWait tries)
    transact_waits (Ok r) (inl u) = (u.made.had, u.made.took, u.made.turn, All-weaker (IsEarlierTurn (IsTrue G.keeps_model) (moment_of old) owner (lock_ranges (plan_of_ops ops)) (plan_of_ops ops) ops) EndsNoOwnWait earlier_turn u.made.had u.made.each)
    transact_waits (Ok r) (inr (lacks, same)) = absurd (let no_way : Ok r ≡ Err error.NoMemory = lacks in cc)
    transact_waits (Err e) t = tt

-- a refusal by the owner's own lock, and one by its own transaction
pub busy_by_own : {A : Type 0} (owner : Owner) (r : NumberRange) (mode : Mode) (s : Shown) (result : Result A PoolError) → IfErr result (λ e. e ≡ error.Busy → IsInOwnWay owner r mode s)
    → IfErr result (λ e. e ≡ error.Busy → (i : ℕ) × (g : Grant) × (slice_get s.locks i ≡ Some g) × (g.owner ≡ owner.0) × (overlaps g.range r ≡ true) × (mode ≡ Reader → g.mode ≡ Writer))
busy_by_own owner r mode s (Ok a) by = tt
busy_by_own owner r mode s (Err e) by = λ busy. one_of_own owner.0 r s.locks mode (by busy)

pub open_or : (owner : Owner) (s : Shown) (Other : Type 0) → Other ⊎ (has_one_open owner.0 s.transactions ≡ true) → Other ⊎ ((i : ℕ) × (a : Admission) × (slice_get s.transactions i ≡ Some a) × (a.owner ≡ owner.0))
open_or owner s Other (inl other) = inl other
open_or owner s Other (inr one) = inr (one_open owner.0 s.transactions one)

pub refused_or_open : {A : Type 0} (owner : Owner) (s : Shown) (f : PoolError) (Other : Type 0) (result : Result A PoolError) → IfErr result (λ e. e ≡ f → Other ⊎ (has_one_open owner.0 s.transactions ≡ true))
    → IfErr result (λ e. e ≡ f → Other ⊎ ((i : ℕ) × (a : Admission) × (slice_get s.transactions i ≡ Some a) × (a.owner ≡ owner.0)))
refused_or_open owner s f Other (Ok a) by = tt
refused_or_open owner s f Other (Err e) by = λ is. open_or owner s Other (by is)

-- if no block is kept beside whole records, none is kept while no record is begun
no_block : (begun : Option Begun) (kept : List KeptBlock) → is_none begun && not (length kept == 0) ≡ false → begun ≡ None → kept ≡ []
no_block None kept none is = nil_from_length kept (eqb-true (length kept) 0 (unless (length kept == 0) none))
  where
    unless : (b : Bool) → not b ≡ false → b ≡ true
    unless true is = refl
    unless false is = absurd (false≢true (sym is))
no_block (Some g) kept none is = absurd cc

-- a refusal without space: a sync would make no room, or the owner has a transaction open
pub short_or_open : {A : Type 0} (owner : Owner) (s : Shown) (f : PoolError) (result : Result A PoolError)
    → IfErr result (λ e. e ≡ f → ((dirty_total s ≡ 0) × (keeps_whole_log s ≡ false)) ⊎ (has_one_open owner.0 s.transactions ≡ true))
    → IfErr result (λ e. e ≡ f → ((dirty_total s ≡ 0) × (s.log.begun ≡ None → s.log.kept ≡ [])) ⊎ ((i : ℕ) × (a : Admission) × (slice_get s.transactions i ≡ Some a) × (a.owner ≡ owner.0)))
short_or_open owner s f (Ok a) by = tt
short_or_open owner s f (Err e) by = λ is. as_blocks (open_or owner s ((dirty_total s ≡ 0) × (keeps_whole_log s ≡ false)) (by is))
  where
    as_blocks : ((dirty_total s ≡ 0) × (keeps_whole_log s ≡ false)) ⊎ ((i : ℕ) × (a : Admission) × (slice_get s.transactions i ≡ Some a) × (a.owner ≡ owner.0))
        → ((dirty_total s ≡ 0) × (s.log.begun ≡ None → s.log.kept ≡ [])) ⊎ ((i : ℕ) × (a : Admission) × (slice_get s.transactions i ≡ Some a) × (a.owner ≡ owner.0))
    as_blocks (inl (clean, none)) = inl (clean, no_block s.log.begun s.log.kept none)
    as_blocks (inr one) = inr one
