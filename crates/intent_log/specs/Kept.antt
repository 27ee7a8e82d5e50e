-- The log of a run, as contracts see it.
use Rattle.std.specs.Prelude.{ℕ, ◌≡◌, ◌≤◌, ◌<◌, ◌+◌, ◌-◌, ◌^◌, ◌++◌, ◌∷◌, [], All, Bool, true, false, List, length, map, take, drop, slice_get, Option, Some, None, option_map, vec_capacity, vec_len, nat_lt, ◌||◌}
use Rattle.std.specs.List.Sorted.{IsNonDecreasingBy}
use Rattle.std.specs.List.{list_any}
use Rattle.std.specs.VecDeque.{deque_len, deque_capacity}
use Rattle.base.specs.declared.names.Receipt.{Receipt}
use Rattle.base.specs.formats.Chain.{Header}
use Rattle.base.specs.formats.Records.{IsAllowed, Record}
use Rattle.base.specs.steps.Logs.{Begun, KeptBlock, Log}
use Rattle.intent_log.specs.Receipts.{begins_of, committed, ends_of, is_same_receipt}
use Rattle.records.specs.Records.{record_fields}
use Rattle.records.specs.declared.record.Record as code_record
use Rattle.intent_log.specs.declared.begun.BegunRecord.{BegunRecord}
use Rattle.intent_log.specs.declared.kept_block.LogHeader.{LogHeader}
use Rattle.intent_log.specs.declared.kept_block.KeptBlock as code
use Rattle.intent_log.specs.declared.log.Log.TheInside.{Inside}

-- the records of unsynced groups in commit order, those of which no part is written, the record that is begun and not
-- yet whole, the kept blocks in order, where the next block goes, and for how many more records and blocks there is
-- room
pub record RunLog : Type 0 where
  pub records : List code_record.Record
  pub pending : List Record
  pub begun : Option Begun
  pub kept : List KeptBlock
  pub next : Header
  pub record_room : ℕ
  pub block_room : ℕ

-- the same as a pool's log
abbrev pub log_shown : RunLog → Log
log_shown l = record { unsynced = map record_fields l.records; begun = l.begun; pending = l.pending; kept = l.kept; next = l.next }

-- there is room for a record more, and for a block more
abbrev pub HasRecordRoom : RunLog → Type 0
HasRecordRoom l = 0 < l.record_room

abbrev pub HasBlockRoom : RunLog → Type 0
HasBlockRoom l = 0 < l.block_room

-- the kept blocks have the numbers up to the next one, one after another
abbrev pub AreNumberedTo : RunLog → Type 0
AreNumberedTo l = (i : ℕ) (b : KeptBlock) → slice_get l.kept i ≡ Some b → b.number + (length l.kept - i) ≡ l.next.number

abbrev pub header_fields : LogHeader → Header
header_fields h = record { address = h.address; number = h.number }

-- the block at this header in which records with these receipts begin and end, flushed or not
abbrev pub block_with : Header → List Receipt → List Receipt → Bool → KeptBlock
block_with h begins ends flushed = record { address = h.address; number = h.number; begins = map committed begins; ends = map committed ends; flushed = flushed }

-- the begun record as a pool's log has it
abbrev pub begun_shown : BegunRecord → Begun
begun_shown b = record { logged = record_fields b.logged.value; written = b.written }

-- the first kept block was given back, and its number is below the header's
pub record IsFrontGiven (header : Header) (old new : List KeptBlock) (address : ℕ) : Type 0 where
  pub block : KeptBlock
  pub front : old ≡ block ∷ new
  pub address_is : address ≡ block.address
  pub below : block.number < header.number

-- a kept block, flushed or not
abbrev pub shown_block : Bool → code.KeptBlock → KeptBlock
shown_block flushed b = block_with (header_fields b.header) (begins_of b.holds) (ends_of b.holds) flushed

-- kept blocks, of which so many from the front are flushed
abbrev pub shown_blocks : ℕ → List code.KeptBlock → List KeptBlock
shown_blocks flushed blocks = map (shown_block true) (take flushed blocks) ++ map (shown_block false) (drop flushed blocks)

abbrev pub run_log : Inside → RunLog
run_log a = record {
  records = a.unsynced.items;
  pending = map record_fields (drop a.written a.unsynced.items);
  begun = option_map begun_shown a.begun;
  kept = shown_blocks a.flushed a.blocks.items;
  next = header_fields a.next;
  record_room = vec_capacity a.unsynced - vec_len a.unsynced;
  block_room = deque_capacity a.blocks - deque_len a.blocks;
}

-- blocks whose numbers lead up to this one, one after another
abbrev pub LeadUpTo : ℕ → List code.KeptBlock → Type 0
LeadUpTo number [] = Unit {0}
LeadUpTo number (b ∷ bs) = (b.header.number + (length bs + 1) ≡ number) × LeadUpTo number bs

-- how high the ordinals go in each block and in those before it
abbrev pub AreRising : List code.KeptBlock → Type 0
AreRising blocks = IsNonDecreasingBy (λ (b : code.KeptBlock). b.last.0) blocks

-- no ordinal of these blocks is above this one
abbrev pub ReachUpTo : ℕ → List code.KeptBlock → Type 0
ReachUpTo top blocks = All (λ (b : code.KeptBlock). b.last.0 ≤ top) blocks

-- each ordinal of these blocks is below this one
abbrev pub ReachBelow : ℕ → List code.KeptBlock → Type 0
ReachBelow ordinal blocks = All (λ (b : code.KeptBlock). b.last.0 < ordinal) blocks

-- No more records are written than there are, and each is within its limits. No more blocks are flushed than there are,
-- and their numbers lead up to the next one.
pub record IsLogSound (a : Inside) : Type 0 where
  pub front : a.written ≤ length a.unsynced.items
  pub allowed : All IsAllowed (map record_fields a.unsynced.items)
  pub within : a.flushed ≤ deque_len a.blocks
  pub fits : a.next.number ≤ 2 ^ 60
  pub numbered : LeadUpTo a.next.number a.blocks.items
  pub rising : AreRising a.blocks.items

-- whether the record that is begun begins in a block, and whether a sync of this group has to keep it
abbrev pub begins_begun : Option Receipt → code.KeptBlock → Bool
begins_begun None b = false
begins_begun (Some r) b = list_any (is_same_receipt r) (begins_of b.holds)

abbrev pub is_block_needed : ℕ → Option Receipt → code.KeptBlock → Bool
is_block_needed group begun b = nat_lt group b.highest.0 || begins_begun begun b

-- the receipt of the record that is begun
abbrev pub receipt_begun : Option BegunRecord → Option Receipt
receipt_begun begun = option_map (λ (b : BegunRecord). b.receipt) begun
