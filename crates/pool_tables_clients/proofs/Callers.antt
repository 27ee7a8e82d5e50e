-- What a caller reads off an answer: it is what the step says, or all stands.
use Rattle.std.proofs.Common.{◌≡◌, ◌∙◌, ◌⊎◌, inl, inr, ℕ, Bool, true, false, ◌&&◌, List, [], ◌∷◌, ◌++◌, ◌+◌, ◌<◌, ◌≤◌, length, slice_get, nat_le, refl, ap, sym, subst, arith}
use Rattle.std.proofs.lemmas.Bool.{or_right}
use Rattle.std.specs.Prelude.{Option, Some, None, Result, Ok, Err, IfOk, IfSome, OnOk, find, is_some, option_map, ◌==◌}
use Rattle.std.proofs.lemmas.List.{length-append}
use Rattle.std.proofs.lemmas.List.Sums.{sum_by-cons}
use Rattle.std.specs.List.{list_any}
use Rattle.std.specs.FinMap as finite
use Rattle.base.specs.declared.error.PoolError.{PoolError}
use Rattle.base.specs.declared.error.PoolError.TheVariants as error
use Rattle.base.specs.declared.names.Group.{Group}
use Rattle.base.specs.declared.names.LockId.{LockId}
use Rattle.base.specs.declared.names.ObjectId.{ObjectId}
use Rattle.base.specs.declared.names.Owner.{Owner}
use Rattle.base.specs.declared.range.Mode.TheVariants.{Writer}
use Rattle.base.specs.declared.range.Range.{Range}
use Rattle.base.specs.disk.Calls.{Flushes}
use Rattle.base.specs.disk.Disk.{Disk, Write, bytes_of, certain_with, written}
use Rattle.base.specs.formats.Digest.{digest_of}
use Rattle.base.specs.formats.Fields.{number_at}
use Rattle.base.specs.history.Contents.{length_of}
use Rattle.base.specs.history.Past.{Past}
use Rattle.base.specs.history.Plans.{NumberRange}
use Rattle.base.specs.steps.Tables.{AreTablesExplained}
use Rattle.base.specs.steps.Groups.{Admission}
use Rattle.base.specs.formats.Limits.{log_block_room}
use Rattle.base.specs.formats.Records.{Record, size_of}
use Rattle.base.specs.steps.Logs.{Begun, Committed, IsTaken, KeptBlock, Log, Taken, has_record, log_after_write, total_size}
use Rattle.base.specs.steps.Refusals.{abort_refusal, append_range, append_refusal, digest_refusal, length_refusal, log_flush_refusal, log_write_refusal, object_range, quiesced_group, read_refusal, start_refusal, transaction_of}
use Rattle.base.specs.steps.Shown.{Shown, SyncPlan, is_durable}
use Rattle.base.specs.steps.Steps as steps
use Rattle.base.specs.steps.Steps.{Answers, IsPlanned, IsReplayUpTo, State, TakesForEach, TakesForLog, WantsMemory, WantsMemoryOrRead, bytes_in, next_grant, state_after_abort, state_after_grant, state_after_log_flush, state_after_log_write, state_after_start, suspended_state, transactions_without}
use Rattle.base.specs.kept.Stored.{IsHeld}
use Rattle.base.proofs.common.KeptLists.{Some-injective, any_map}
use Rattle.base.proofs.history.CommitOrder.{ok-none}
use Rattle.pool_tables.specs.HeldReads.{DigestHeld, ReadsHeld}
use Rattle.pool_tables.specs.LogBlocks.{WritesLogBlock}
use Rattle.pool_tables.specs.Meets.{Meets}
use Rattle.pool_tables.specs.StepAnswers.{StartsSync, appended_numbers}
use Rattle.pool_tables.specs.Tables.{result_map}
use Rattle.pool_tables.specs.Told.{ShownPool, held_with, state_with}
use Rattle.pool_tables.proofs.Callers.{refused_by}
use Rattle.pool_tables.proofs.OfNoDevice.{some_past}

-- Refused by its tests, a call whose answer is told by numbers answers so, too.
pub refused_as : {A B : Type 0} (f : A → B) (r : Option PoolError) (e : PoolError) (answer : Result A PoolError) (s new : Shown) (past later : Past) (does : B → Type 0) (own : PoolError → Type 0)
    → r ≡ Some e → Answers r (result_map f answer) (record { shown = s; past = past }) (record { shown = new; past = later }) does own → (answer ≡ Err e) × (new ≡ s)
refused_as f r e (Ok a) s new past later does own is h = absurd (let no_way : Ok (f a) ≡ Err e = (refused_by r e (Ok (f a)) s new past later does own is h).0 in cc)
refused_as f r e (Err x) s new past later does own is h =
    let both = subst (λ (q : Option PoolError). Answers q (Err x) (record { shown = s; past = past }) (record { shown = new; past = later }) does own) is h in
    (let same : x ≡ e = let told : Err x ≡ Err e = both.0 in cc in ap (λ (y : PoolError). Err y) same, ap (λ (x : State). x.shown) both.1)

-- A call that no test refuses, and that takes no memory, is not refused.
never_refused : {A : Type 0} (r : Option PoolError) (e : PoolError) (old new : State) (does : A → Type 0) → r ≡ None → Answers r (Err e) old new does steps.Never → ⊥
never_refused r e old new does is h = subst (λ (q : Option PoolError). Answers q (Err e) old new does steps.Never) is h

-- of the transactions without one of a name none has it
none_left : (tx : ℕ) (ts : List Admission) → find (λ (a : Admission). a.tx == tx) (transactions_without tx ts) ≡ None
none_left tx [] = refl
none_left tx (a ∷ ts) = go (a.tx == tx) refl (none_left tx ts)
  where
    go : (b : Bool) → (a.tx == tx) ≡ b → find (λ (x : Admission). x.tx == tx) (transactions_without tx ts) ≡ None
        → find (λ (x : Admission). x.tx == tx) (transactions_without tx (a ∷ ts)) ≡ None
    go true is rest = rw is rest
    go false is rest = rw is (rw is rest)

-- What a caller knows of a step from the shown pool before it to the one after it, whatever the past.
module _ (s new : Shown) where
  abbrev before : State
  before = record { shown = s; past = some_past s }

  abbrev after : Past → State
  after later = record { shown = new; past = later }

  -- an append begins at the end of its object
  pub append_low : (owner n low : ℕ) (answer : Result (LockId × Range) PoolError) → length_of s.contents n ≡ Some low
      → Meets (steps.LockAppend owner n) (result_map appended_numbers answer) s new → IfOk answer (λ granted. granted.1.low ≡ low)
  append_low owner n low (Ok (id, range)) at meets =
      let later : Past = (meets (some_past s)).0 in
      let done = ok-none (append_refusal owner n s) (id.0, range.low, range.high) before (after later)
      (λ a. (a ≡ (s.next_lock, (append_range n s).low, (append_range n s).high)) × (after later ≡ state_after_grant (next_grant owner (append_range n s) Writer s) before))
      (WantsMemory before (after later)) (meets (some_past s)).1 in
      let begins : (append_range n s).low ≡ low = rw at refl in
      ap (λ (a : ℕ × ℕ × ℕ). a.1) done.1.0 ∙ begins
  append_low owner n low (Err e) at meets = tt

  abbrev Ends : ℕ → Past → Type 0
  Ends tx later = (a : Admission) × (transaction_of tx s ≡ Some a) × (after later ≡ state_after_abort tx a before)

  ended : (tx : ℕ) (later : Past) (answer : Result (Unit {0}) PoolError) → abort_refusal tx s ≡ None → Answers (abort_refusal tx s) answer before (after later) (λ u. Ends tx later) steps.Never → Ends tx later
  ended tx later (Ok u) passes h = (ok-none (abort_refusal tx s) u before (after later) (λ u. Ends tx later) steps.Never h).1
  ended tx later (Err e) passes h = absurd (never_refused (abort_refusal tx s) e before (after later) (λ u. Ends tx later) passes h)

  -- A transaction that is given up, or was not open, is not open then, and the pool runs on.
  pub given_up : (tx : ℕ) (answer : Result (Unit {0}) PoolError) → s.suspended ≡ false → Meets (steps.Abort tx) answer s new → (new.suspended ≡ false) × (transaction_of tx new ≡ None)
  given_up tx answer running meets = go (meets (some_past s)).0 (meets (some_past s)).1 (transaction_of tx s) refl
    where
      go : (later : Past) → Answers (abort_refusal tx s) answer before (after later) (λ u. Ends tx later) steps.Never → (o : Option Admission) → transaction_of tx s ≡ o
          → (new.suspended ≡ false) × (transaction_of tx new ≡ None)
      go later h None is =
          let stands = (refused_by (abort_refusal tx s) error.NoSuchTransaction answer s new (some_past s) later (λ u. Ends tx later) steps.Never (rw (running, is) refl) h).1 in
          (ap (λ (x : Shown). x.suspended) stands ∙ running, ap (λ (x : Shown). transaction_of tx x) stands ∙ is)
      go later h (Some a) is =
          let end = ended tx later answer (rw (running, is) refl) h in (
            ap (λ (x : State). x.shown.suspended) end.2 ∙ running,
            ap (λ (x : State). find (λ (a : Admission). a.tx == tx) x.shown.transactions) end.2 ∙ none_left tx s.transactions,
          )

  -- A sync that starts writes what its group left.
  pub started_contents : (moment : ℕ) (answer : Result Group PoolError) → StartsSync moment answer s new
      → IfOk answer (λ group. (past : Past) → AreTablesExplained s past → (plan : SyncPlan) × (new.sync ≡ Some plan) × IsReplayUpTo group.0 past plan.contents)
  started_contents moment (Ok group) starts = λ past explained.
      let old : State = record { shown = s; past = past } in
      let later : State = after (starts past explained).0 in
      let done = ok-none (start_refusal s) group.0 old later
      (λ g. (plan : SyncPlan) × (quiesced_group s.line ≡ Some g) × IsPlanned old moment g plan × (⊥ → TakesForEach [] old g plan) × (later ≡ state_after_start g plan old))
      (WantsMemoryOrRead ⊥ old later) (starts past explained).1 in
      (done.1.0, ap (λ (x : State). x.shown.sync) done.1.4, done.1.2.contents)
  started_contents moment (Err e) starts = tt

  -- What a write of the log makes: nothing, or a block more.
  abbrev Puts : Past → Result ℕ PoolError → Type 0
  Puts later answer = (t : Taken) × (address : ℕ) × TakesForLog before t address × (new.log ≡ log_after_write t address s.log) × (new.line ≡ s.line) × IfOk answer (λ count. count ≡ length t.ends)

  put_or_not : (r : Option PoolError) (later : Past) (answer : Result ℕ PoolError)
      → Answers r answer before (after later) (λ count. (t : Taken) × (address : ℕ) × TakesForLog before t address × (count ≡ length t.ends) × (after later ≡ state_after_log_write t address before))
      (λ e. WantsMemory before (after later) e ⊎ ((e ≡ error.Write) × ((t : Taken) × (address : ℕ) × TakesForLog before t address × (after later ≡ suspended_state (state_after_log_write t address before)))))
      → ((e : PoolError) × (answer ≡ Err e) × (new ≡ s)) ⊎ Puts later answer
  put_or_not (Some e) later answer h = inl (e, h.0, ap (λ (x : State). x.shown) h.1)
  put_or_not None later (Ok count) (t, address, takes, is, same) = inr (t, address, takes, ap (λ (x : State). x.shown.log) same, ap (λ (x : State). x.shown.line) same, is)
  put_or_not None later (Err e) (inl (memory, same)) = inl (e, refl, ap (λ (x : State). x.shown) same)
  put_or_not None later (Err e) (inr (write, (t, address, takes, same))) = inr (t, address, takes, ap (λ (x : State). x.shown.log) same, ap (λ (x : State). x.shown.line) same, tt)

  -- of a log write that is answered it holds what it holds of each way to take something
  put_by : (Told : ℕ → Log → Type 0) (count : ℕ) → ((t : Taken) (address : ℕ) → IsTaken s.log.begun s.log.pending t → count ≡ length t.ends → Told count (log_after_write t address s.log)) → Meets steps.LogWrite (Ok count) s new → Told count new.log
  put_by Told count each meets = elim (put_or_not (log_write_refusal s) (meets (some_past s)).0 (Ok count) (meets (some_past s)).1) as (λ _. Told count new.log) [
    | inl (e, is, same) ↦ absurd (let no_way : Ok count ≡ Err e = is in cc)
    | inr (t, address, takes, log, line, is) ↦ subst (Told count) (sym log) (each t address takes.packed is)
  ]

  -- of one pending record that a block can hold it writes one, and leaves none
  pub written_one : (answer : Result ℕ PoolError) → s.log.begun ≡ None → length s.log.pending ≡ 1 → IfSome (slice_get s.log.pending 0) (λ r. size_of r ≤ 4008) → Meets steps.LogWrite answer s new
      → IfOk answer (λ count. count ≡ 1) × OnOk answer (new.log.pending ≡ [])
  written_one (Err e) none one short meets = (tt, tt)
  written_one (Ok count) none one short meets = put_by (λ n log. (n ≡ 1) × (log.pending ≡ [])) count
      (λ t address taken is. by t is (subst (λ (o : Option Begun). IsTaken o s.log.pending t) none taken)) meets
    where
      none_of : (rs : List Record) → length rs ≡ 0 → rs ≡ []
      none_of [] none = refl
      none_of (r ∷ rs) none = absurd (omega (arith, none))

      by : (t : Taken) → count ≡ length t.ends → IsTaken None s.log.pending t → (count ≡ 1) × (t.pending ≡ [])
      by t is (inl (packed, ends, used, begun)) =
          let all = ap (λ (rs : List Record). length rs) packed.front ∙ length-append t.begins t.pending in
          let some = packed.some in
          let same = ap (λ (rs : List Record). length rs) ends in
          (omega (arith, one, all, some, is, same), none_of t.pending (omega (arith, one, all, some)))
      by t is (inr (r, front, begins, long, ends, used, begun)) =
          let small : size_of r ≤ 4008 = subst (λ (rs : List Record). IfSome (slice_get rs 0) (λ x. size_of x ≤ 4008)) front short in
          absurd (omega (arith, small, long))

  -- of one that a block can't hold it writes the first part
  pub begun_one : (answer : Result ℕ PoolError) (r : Record) → s.log.begun ≡ None → s.log.pending ≡ r ∷ [] → 4008 < size_of r → Meets steps.LogWrite answer s new
      → IfOk answer (λ count. count ≡ 0) × OnOk answer ((new.log.pending ≡ []) × (new.log.begun ≡ Some (record { logged = r; written = 4008 })))
  begun_one (Err e) r none one long meets = (tt, tt)
  begun_one (Ok count) r none one long meets = put_by (λ n log. (n ≡ 0) × ((log.pending ≡ []) × (log.begun ≡ Some (record { logged = r; written = 4008 })))) count
      (λ t address taken is. by t is (subst (λ (rs : List Record). IsTaken None rs t) one (subst (λ (o : Option Begun). IsTaken o s.log.pending t) none taken))) meets
    where
      by : (t : Taken) → count ≡ length t.ends → IsTaken None (r ∷ []) t → (count ≡ 0) × ((t.pending ≡ []) × (t.begun ≡ Some (record { logged = r; written = 4008 })))
      by t is (inl (packed, ends, used, begun)) = absurd (too_much t.begins packed.front packed.some packed.fits)
        where
          too_much : (taken : List Record) → r ∷ [] ≡ taken ++ t.pending → 0 < length taken → total_size taken ≤ log_block_room → ⊥
          too_much [] front some fits = omega (arith, some)
          too_much (x ∷ xs) front some fits =
              let same : r ≡ x = cc in
              let large = ap size_of same in
              omega (arith, long, large, fits, sum_by-cons size_of x xs)
      by t is (inr (x, front, begins, large, ends, used, begun)) =
          let same : r ≡ x = cc in
          let rest : [] ≡ t.pending = cc in
          (is ∙ ap (λ (rs : List Record). length rs) ends, (sym rest, begun ∙ ap (λ (y : Record). Some (record { logged = y; written = 4008 })) (sym same)))

  -- of one that is begun it writes the next part, and nothing else, and so the record is whole if no more is left of it
  pub ended_one : (answer : Result ℕ PoolError) (g : Begun) → s.log.begun ≡ Some g → Meets steps.LogWrite answer s new
      → (size_of g.logged ≤ g.written + 4008 → IfOk answer (λ count. count ≡ 1) × OnOk answer (new.log.begun ≡ None))
      × (g.written + 4008 < size_of g.logged → IfOk answer (λ count. count ≡ 0) × OnOk answer (new.log.begun ≡ Some (record g { written = g.written + 4008 })))
      × OnOk answer (new.log.pending ≡ s.log.pending)
  ended_one (Err e) g some meets = (λ last. (tt, tt), λ more. (tt, tt), tt)
  ended_one (Ok count) g some meets = put_by (λ n log. (size_of g.logged ≤ g.written + 4008 → (n ≡ 1) × (log.begun ≡ None)) × (g.written + 4008 < size_of g.logged → (n ≡ 0) × (log.begun ≡ Some (record g { written = g.written + 4008 }))) × (log.pending ≡ s.log.pending))
      count (λ t address taken is. by t is (subst (λ (o : Option Begun). IsTaken o s.log.pending t) some taken)) meets
    where
      by : (t : Taken) → count ≡ length t.ends → IsTaken (Some g) s.log.pending t
          → (size_of g.logged ≤ g.written + 4008 → (count ≡ 1) × (t.begun ≡ None)) × (g.written + 4008 < size_of g.logged → (count ≡ 0) × (t.begun ≡ Some (record g { written = g.written + 4008 }))) × (t.pending ≡ s.log.pending)
      by t is (begins, pending, used, inl (last, ends, begun)) = (λ h. (is ∙ ap (λ (rs : List Record). length rs) ends, begun), λ more. absurd (omega (arith, last, more)), pending)
      by t is (begins, pending, used, inr (more, ends, begun)) = (λ last. absurd (omega (arith, last, more)), λ h. (is ∙ ap (λ (rs : List Record). length rs) ends, begun), pending)

  -- a device that refuses it suspends the pool
  pub write_suspends : (answer : Result ℕ PoolError) → log_write_refusal s ≡ None → Meets steps.LogWrite answer s new → answer ≡ Err error.Write → new.suspended ≡ true
  write_suspends (Ok count) none meets is = absurd (let no_way : Ok count ≡ Err error.Write = is in cc)
  write_suspends (Err e) none meets is =
      elim (rw none at (meets (some_past s)).1) as (λ _. new.suspended ≡ true) [
        | inl (memory, same) ↦ absurd (let no_way : Err e ≡ Err error.Write = is in cc)
        | inr (write, (t, address, takes, same)) ↦ ap (λ (x : State). x.shown.suspended) same
      ]

  -- and none of what it writes is durable before a flush
  pub written_not_durable : (answer : Result ℕ PoolError) (ordinal group : ℕ) → s.log.kept ≡ [] → nat_le group s.line.synced ≡ false → Meets steps.LogWrite answer s new → is_durable new ordinal group ≡ false
  written_not_durable answer ordinal group none above meets = elim (put_or_not (log_write_refusal s) (meets (some_past s)).0 answer (meets (some_past s)).1) as (λ _. is_durable new ordinal group ≡ false) [
    | inl (e, is, same) ↦ rw (same, none, above) refl
    | inr (t, address, takes, log, line, is) ↦ rw (log, line, none, above) refl
  ]

  -- A flush of the log that is answered makes each kept block certain.
  pub flushed_durable : (ordinal group : ℕ) (kept : List KeptBlock) → s.log.kept ≡ kept → list_any (λ (b : KeptBlock). has_record b (record { ordinal = ordinal; group = group })) kept ≡ true
      → Meets steps.LogFlush (Ok tt) s new → is_durable new ordinal group ≡ true
  flushed_durable ordinal group kept is has meets =
      let later : State = after (meets (some_past s)).0 in
      let done = ok-none (log_flush_refusal s) tt before later (λ _. later ≡ state_after_log_flush before) (λ e. (e ≡ error.Flush) × (later ≡ suspended_state before)) (meets (some_past s)).1 in
      let c : Committed = record { ordinal = ordinal; group = group } in
      ap (λ (x : State). is_durable x.shown ordinal group) done.1
      ∙ or_right (nat_le group s.line.synced) _ (any_map (λ (b : KeptBlock). b.flushed && has_record b c) (λ (b : KeptBlock). record b { flushed = true }) s.log.kept ∙ ap (list_any (λ (b : KeptBlock). has_record b c)) is ∙ has)

-- And of a step that leaves what is shown.
module _ (s : Shown) where
  abbrev TellsLength : ℕ → Past → ℕ → Type 0
  TellsLength n later length = (length_of s.contents n ≡ Some length) × (after s s later ≡ before s s)

  length_by : (n length : ℕ) (later : Past) (answer : Result ℕ PoolError) → length_refusal n s ≡ None → length_of s.contents n ≡ Some length
      → Answers (length_refusal n s) answer (before s s) (after s s later) (TellsLength n later) steps.Never → answer ≡ Ok length
  length_by n length later (Ok k) passes at h =
      let done = ok-none (length_refusal n s) k (before s s) (after s s later) (TellsLength n later) steps.Never h in
      let same : k ≡ length = Some-injective (sym done.1.0 ∙ at) in
      ap (λ (x : ℕ). Ok x) same
  length_by n length later (Err e) passes at h = absurd (never_refused (length_refusal n s) e (before s s) (after s s later) (TellsLength n later) passes h)

  -- the length that is told
  pub told_length : (n length : ℕ) (answer : Result ℕ PoolError) → length_refusal n s ≡ None → length_of s.contents n ≡ Some length → Meets (steps.Length n) answer s s → answer ≡ Ok length
  told_length n length answer passes at meets = length_by n length (meets (some_past s)).0 answer passes at (meets (some_past s)).1

-- A read of a suspended pool is refused.
pub refused_read : (s : Shown) (owner : ℕ) (range : NumberRange) (answer : Result (List ℕ) PoolError) → s.suspended ≡ true → Meets (steps.Read ⊥ owner range) answer s s → answer ≡ Err error.Suspended
refused_read s owner range answer h meets =
    let past : Past = some_past s in
    let later : Past = (meets past).0 in
    let x : State = record { shown = s; past = past } in
    let y : State = record { shown = s; past = later } in
    (refused_by (read_refusal owner range s) error.Suspended answer s s past later
    (λ bytes. (⊥ → IfSome (finite.get s.contents.objects range.number) (λ all. bytes ≡ bytes_in range all)) × (y ≡ x)) (WantsMemoryOrRead ⊥ x y) (rw h refl) (meets past).1).0

-- What is read of a pool over a device that holds it.
module _ (t : ShownPool) (past : Past) (held : IsHeld (held_with t past)) where
  -- the bytes of a range
  pub read_bytes : (owner : Owner) (object : ObjectId) (range : Range) (all : List ℕ) (answer : Result (List ℕ) PoolError) → finite.get t.shown.contents.objects object.0 ≡ Some all
      → ReadsHeld owner object range answer t → IfOk answer (λ bytes. bytes ≡ bytes_in (object_range object.0 range.low range.high) all)
  read_bytes owner object range all (Ok bytes) at reads =
      let s : State = state_with t past in
      let wanted : NumberRange = object_range object.0 range.low range.high in
      let done = ok-none (read_refusal owner.0 wanted t.shown) bytes s s
      (λ given. (Unit {0} → IfSome (finite.get t.shown.contents.objects object.0) (λ found. given ≡ bytes_in wanted found)) × (s ≡ s))
      (WantsMemoryOrRead (Unit {0}) s s) (reads past held) in
      subst (λ (o : Option (List ℕ)). IfSome o (λ found. bytes ≡ bytes_in wanted found)) at (done.1.0 tt)
  read_bytes owner object range all (Err e) at reads = tt

  -- and the digest
  pub told_digest : (answer : Result (List ℕ) PoolError) → DigestHeld answer t → IfOk answer (λ digest. digest ≡ digest_of t.shown.contents)
  told_digest (Ok d) tells =
      let s : State = state_with t past in
      let done = ok-none (digest_refusal t.shown) d s s (λ digest. (Unit {0} → digest ≡ digest_of t.shown.contents) × (s ≡ s)) (WantsMemoryOrRead (Unit {0}) s s) (tells past held) in
      done.1.0 tt
  told_digest (Err e) tells = tt

-- a log write that is answered made one write, of a log block
pub one_write : (answer : Result ℕ PoolError) (s new : Shown) (disk later : Disk) → WritesLogBlock answer s new disk later
    → IfOk answer (λ _. (content : List ℕ) × (number_at content 0 ≡ 6) × (later ≡ written s.log.next.address content true disk))
one_write (Ok count) s new disk later puts = (puts.block.content, puts.packed.sealed.kind_is, puts.writes)
one_write (Err e) s new disk later puts = tt

-- a flush that is answered leaves nothing unflushed
pub all_flushed : (answer : Result (Unit {0}) PoolError) (disk later : Disk) → Flushes disk answer later → OnOk answer (later.now.unflushed ≡ [])
all_flushed (Err e) disk later flushed = tt
all_flushed (Ok x) disk later flushed = ap (λ (d : Disk). d.now.unflushed) flushed ∙ go disk.now.unflushed refl
  where
    go : (ws : List Write) → disk.now.unflushed ≡ ws → (certain_with (bytes_of disk.now) disk ws).now.unflushed ≡ []
    go [] none = none
    go (w ∷ ws) some = refl

-- what is mapped to nothing is nothing
pub none_mapped : {A B : Type 0} (f : A → B) (o : Option A) → option_map f o ≡ None → is_some o ≡ false
none_mapped f None is = refl
none_mapped f (Some a) is = absurd (let no_way : Some (f a) ≡ None = is in cc)
