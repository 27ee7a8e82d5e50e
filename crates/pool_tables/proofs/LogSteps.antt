-- A write and a flush of the log, step by step.
use Rattle.std.proofs.Common.{◌≡◌, ◌∙◌, inl, inr, ℕ, ◌+◌, ◌<◌, ◌==◌, ◌&&◌, ◌||◌, Bool, true, false, List, [], ◌∷◌, ◌++◌, map, length, nat_le, nat_lt, refl, ap, sym, subst, arith}
use Rattle.std.specs.Prelude.{Some, None, Result, Ok, Err, is_none, not}
use Rattle.std.proofs.Math.Bool.{or-false, or-true}
use Rattle.std.proofs.lemmas.Bool.{or_parts, ltb-false}
use Rattle.std.proofs.lemmas.Bool.Decides.{nat_tests}
use Rattle.std.proofs.lemmas.List.{map-append}
use Rattle.std.proofs.lemmas.List.Elements.{All-push}
use Rattle.std.proofs.lemmas.Simd.{map-map}
use Rattle.base.specs.declared.error.PoolError.{PoolError}
use Rattle.base.specs.declared.error.PoolError.TheVariants as error
use Rattle.base.specs.kept.LogSteps.{IsPackedBlock}
use Rattle.base.specs.kept.Views.{Logged}
use Rattle.base.specs.disk.Calls.{IsOnDevice, Writes}
use Rattle.base.specs.disk.Disk.{Disk}
use Rattle.base.specs.formats.Geometry.{AreBlocksOf, IsBlockAddress, block_address, block_count, block_size, is_block_of}
use Rattle.base.specs.formats.Limits.{kept_back, last_number}
use Rattle.base.specs.history.Past.{Past}
use Rattle.base.specs.steps.Exact.{log_addresses}
use Rattle.base.specs.steps.Logs.{IsTaken, KeptBlock, Log, Taken, awaits_flush, block_taken, log_after_flush, log_after_write}
use Rattle.base.specs.steps.Refusals.{log_flush_refusal, log_write_refusal, log_write_tests}
use Rattle.base.specs.steps.Shown.{Shown, available}
use Rattle.base.specs.steps.Steps.{LogFlush, LogWrite, State, TakesForLog, lowest_free, ordinals_awaiting}
use Rattle.base.proofs.common.KeptLists.{All-at, at_last}
use Rattle.base.proofs.formats.BlockTests.{block_of}
use Rattle.intent_log.specs.Fillings.{IsNextBlock, taken_of}
use Rattle.intent_log.specs.Kept.{log_shown}
use Rattle.intent_log.specs.Packing.{logged}
use Rattle.intent_log.specs.declared.filling.NextLogBlock.{NextLogBlock}
use Rattle.space.specs.FreeSets.{IsLowestFree}
use Rattle.pool_tables.specs.declared.pool.PoolTables.{PoolTables}
use Rattle.pool_tables.specs.LogBlocks.{PutsLogBlock, next_place, shown_after_block}
use Rattle.pool_tables.specs.Meets.{Meets}
use Rattle.pool_tables.specs.Shows.{pool_shown}
use Rattle.pool_tables.proofs.BeginTests.{all_pass}

-- a log write has passed its tests
pub record MayWrite (s : Shown) : Type 0 where
  pub some : ((length s.log.pending == 0) && is_none s.log.begun) ≡ false
  pub blocks : kept_back < available s
  pub number : s.log.next.number < last_number

not_up_to : (n m : ℕ) → nat_le n m ≡ false → m < n
not_up_to n m h = grind (arith, nat_tests)

module _ (s : Shown) where
  pub may_write : log_write_refusal s ≡ None → MayWrite s
  may_write none =
      let passed = (all_pass (log_write_tests s) none).1 in
      let room = or_parts (nat_lt (available s) (kept_back + 1)) (nat_le last_number s.log.next.number) passed.1.0 in
      record {
        some = passed.0;
        blocks = let low = ltb-false (available s) (kept_back + 1) room.0 in omega (arith, low);
        number = not_up_to last_number s.log.next.number room.1;
      }

  pub write_refused : (e : PoolError) → log_write_refusal s ≡ Some e → Meets LogWrite (Err e) s s
  write_refused e is = λ past. (past, rw is (refl, refl))

  pub write_wants : (n : Shown) → log_write_refusal s ≡ None → n ≡ s → Meets LogWrite (Err error.NoMemory) s n
  write_wants n none same = λ past. (past, rw none (inl (refl, ap (λ (x : Shown). let state : State = record { shown = x; past = past } in state) same)))

  module _ (none : log_write_refusal s ≡ None) (t : Taken) (address : ℕ) (taken : IsTaken s.log.begun s.log.pending t) (next : lowest_free 1 s ≡ address ∷ []) (n : Shown) where
    takes : (past : Past) → TakesForLog (record { shown = s; past = past }) t address
    takes past = record { packed = taken; next = next }

    pub write_done : (count : ℕ) → count ≡ length t.ends → n ≡ shown_after_block t address s → Meets LogWrite (Ok count) s n
    write_done count is same = λ past.
        let after : State = record { shown = n; past = past } in
        (past, rw none (t, address, takes past, is, λ k. record after { shown = same k }))

    pub write_failed : n ≡ record (shown_after_block t address s) { suspended = true } → Meets LogWrite (Err error.Write) s n
    write_failed same = λ past.
        let after : State = record { shown = n; past = past } in
        (past, rw none (inr (refl, (t, address, takes past, λ k. record after { shown = same k }))))

  pub flush_suspended : s.suspended ≡ true → Meets LogFlush (Err error.Suspended) s s
  flush_suspended h = λ past. (past, rw h (refl, refl))

  pub flush_not_ready : s.suspended ≡ false → awaits_flush s.log ≡ false → Meets LogFlush (Err error.NotReady) s s
  flush_not_ready h none = λ past. (past, let e : log_flush_refusal s ≡ Some error.NotReady = rw (h, none) refl in rw e (refl, refl))

  pub may_flush : s.suspended ≡ false → awaits_flush s.log ≡ true → log_flush_refusal s ≡ None
  may_flush h some = rw (h, some) refl

  pub flush_done : (n : Shown) → log_flush_refusal s ≡ None → n ≡ record s { log = log_after_flush s.log } → Meets LogFlush (Ok tt) s n
  flush_done n none same = λ past.
      let later : Past = record past { acknowledged = past.acknowledged ++ ordinals_awaiting s.log } in
      (later, rw none (ap (λ (x : Shown). let state : State = record { shown = x; past = later } in state) same))

  pub flush_failed : (n : Shown) → log_flush_refusal s ≡ None → n ≡ record s { suspended = true } → Meets LogFlush (Err error.Flush) s n
  flush_failed n none same = λ past. (past, rw none (refl, ap (λ (x : Shown). let state : State = record { shown = x; past = past } in state) same))

-- the next log block lies in the area of its pool
pub next_in_area : (pool : PoolTables) → IsBlockAddress (block_count pool.geometry) pool.log.next.address
next_in_area pool = block_of (block_count pool.geometry) pool.log.next.address
    (All-at (λ (a : ℕ). is_block_of (block_count pool.geometry) a ≡ true) (log_addresses (log_shown pool.log)) (length (map (λ (k : KeptBlock). k.address) pool.log.kept)) pool.log.next.address
    pool.log_placed (at_last (map (λ (k : KeptBlock). k.address) pool.log.kept) pool.log.next.address))

-- Where the log's blocks lie, after a write and after a flush.
pub placed_logged : (blocks address : ℕ) (t : Taken) (log : Log) → is_block_of blocks address ≡ true → AreBlocksOf blocks (log_addresses log) → AreBlocksOf blocks (log_addresses (log_after_write t address log))
placed_logged blocks address t log is placed =
    subst (AreBlocksOf blocks) (sym (ap (λ (l : List ℕ). l ++ address ∷ []) (map-append (λ (b : KeptBlock). b.address) log.kept (block_taken log.next t ∷ []))))
    (All-push (λ (a : ℕ). is_block_of blocks a ≡ true) (log_addresses log) address placed is)

pub placed_flushed : (blocks : ℕ) (log : Log) → AreBlocksOf blocks (log_addresses log) → AreBlocksOf blocks (log_addresses (log_after_flush log))
placed_flushed blocks log placed = subst (AreBlocksOf blocks) (sym (ap (λ (l : List ℕ). l ++ log.next.address ∷ []) (map-map (λ (b : KeptBlock). b.address) (λ (b : KeptBlock). record b { flushed = true }) log.kept))) placed

-- The block that a pool packs is a log block in its area, at the log's next address.
module _ (pool : PoolTables) (next : ℕ) (low : IsLowestFree pool.free next) (b : NextLogBlock) (packs : IsNextBlock (next_place (block_address next) pool) pool.log b) where
  abbrev s : Shown
  s = pool_shown pool

  abbrev t : Taken
  t = taken_of pool.log b.filling

  abbrev block : Logged
  block = record { block = logged (next_place (block_address next) pool) t.used; number = pool.log.next.number; content = b.block; ends = t.ends }

  packed_block : IsPackedBlock s t (block_address next) block
  packed_block = record {
    address_is = refl;
    next_is = refl;
    used_is = refl;
    ends_are = refl;
    allowed = packs.allowed;
    number_is = refl;
    payload = packs.holds.payload;
    sealed = packs.holds.sealed;
    fields = packs.holds.fields;
    in_area = next_in_area pool;
  }

  -- A log write hands it to the device.
  module _ (old : Shown) (same : s ≡ old) (n : Shown) where
    abbrev then : Shown → Shown
    then x = shown_after_block t (block_address next) x

    module _ (none : log_write_refusal old ≡ None) where
      abbrev lowest : lowest_free 1 old ≡ block_address next ∷ []
      lowest = subst (λ (x : Shown). lowest_free 1 x ≡ block_address next ∷ []) same low.first

      abbrev taken : IsTaken old.log.begun old.log.pending t
      taken = subst (λ (x : Shown). IsTaken x.log.begun x.log.pending t) same packs.takes.taken

      pub block_written : (ended : ℕ) → ended ≡ length t.ends → n ≡ then s → Meets LogWrite (Ok ended) old n
      block_written ended count is = write_done old none t (block_address next) taken lowest n ended count (is ∙ (λ k. then (same k)))

      pub block_refused : n ≡ record (then s) { suspended = true } → Meets LogWrite (Err error.Write) old n
      block_refused is = write_failed old none t (block_address next) taken lowest n (is ∙ (λ k. record (then (same k)) { suspended = true }))

    -- what it puts on the disk
    puts_block : (answer : Result (Unit {0}) PoolError) (done : Bool) (before after : Disk) → Writes before pool.log.next.address b.block answer after
        → n ≡ record (then s) { suspended = pool.suspended || not done } → PutsLogBlock answer done s n before after
    puts_block answer done before after writes is = record {
      taken = t;
      fits = packs.takes.taken;
      address = block_address next;
      next = low.first;
      block = block;
      packed = packed_block;
      writes = writes;
      shown = is;
    }

    pub puts_written : (before after : Disk) → Writes before pool.log.next.address b.block (Ok tt) after → n ≡ then s → PutsLogBlock (Ok tt) true old n before after
    puts_written before after writes is =
        subst (λ (x : Shown). PutsLogBlock (Ok tt) true x n before after) same
        (puts_block (Ok tt) true before after writes (is ∙ (λ k. record (then s) { suspended = sym (or-false pool.suspended) k })))

    pub puts_refused : (before after : Disk) (e : PoolError) → Writes before pool.log.next.address b.block (Err e) after → n ≡ record (then s) { suspended = true }
        → PutsLogBlock (Err e) false old n before after
    puts_refused before after e writes is =
        subst (λ (x : Shown). PutsLogBlock (Err e) false x n before after) same
        (puts_block (Err e) false before after writes (is ∙ (λ k. record (then s) { suspended = sym (or-true pool.suspended) k })))

-- a block lies on its device
pub on_device : (size address : ℕ) → IsBlockAddress (block_count size) address → IsOnDevice size address block_size
on_device size address (k, low, at) = record { aligned = omega (arith, at); whole = refl; within = omega (arith, low, at) }
