-- What the next block of a log takes of its records.
use Rattle.std.specs.Prelude.{ℕ, ◌≡◌, ◌≤◌, ◌+◌, Bool, false, List, [], ◌∷◌, All, cond, drop, length, map, nat_le, take, Option, Some, None, IsSome}
use Rattle.std.specs.Option.{option_map_or}
use Rattle.base.specs.declared.names.Receipt.{Receipt}
use Rattle.base.specs.formats.Chain.{Header}
use Rattle.base.specs.formats.Limits.{log_block_room}
use Rattle.base.specs.formats.Records.{IsAllowed, Record, bytes_of_records, size_of}
use Rattle.base.specs.steps.Logs.{Begun, IsTaken, KeptBlock, Taken, committed_of, next_part}
use Rattle.records.specs.declared.record.Record as code
use Rattle.intent_log.specs.Kept.{RunLog, begun_shown}
use Rattle.intent_log.specs.Packing.{HoldsUsed}
use Rattle.intent_log.specs.Receipts.{committed}
use Rattle.intent_log.specs.declared.filling.Filling.{Filling}
use Rattle.intent_log.specs.declared.filling.Filling.TheVariants.{Whole, First, Part}
use Rattle.intent_log.specs.declared.filling.NextLogBlock.{NextLogBlock}
use Rattle.intent_log.specs.declared.packing.NewBlock.{NewBlock}

-- the receipt of a record
abbrev pub receipt_of : code.Record → Receipt
receipt_of r = record { ordinal = r.ordinal; group = r.group }

-- the receipts of the records that begin in a block that has this
abbrev pub begins_noted : Filling → List Receipt
begins_noted (Whole receipts) = receipts.items
begins_noted (First begun) = begun.receipt ∷ []
begins_noted Part = []

-- whether the next part of a begun record is its last one, and what ends in it and is begun then
abbrev pub is_last_part : Begun → Bool
is_last_part g = nat_le (size_of g.logged) (g.written + log_block_room)

abbrev pub ended_by_part : Begun → List Record
ended_by_part g = cond (is_last_part g) (g.logged ∷ []) []

abbrev pub begun_after_part : Begun → Option Begun
begun_after_part g = cond (is_last_part g) None (Some (record g { written = g.written + log_block_room }))

-- the block that is kept with it
abbrev pub part_noted : Header → Begun → KeptBlock
part_noted h g = record { address = h.address; number = h.number; begins = []; ends = map committed_of (ended_by_part g); flushed = false }

-- the bytes of a block that has this, the records that end in it, and what is begun then
abbrev pub used_by : RunLog → Filling → List ℕ
used_by l (Whole receipts) = bytes_of_records (take (length receipts.items) l.pending)
used_by l (First first) = take log_block_room first.bytes.items
used_by l Part = option_map_or next_part l.begun []

abbrev pub ended_by : RunLog → Filling → List Record
ended_by l (Whole receipts) = take (length receipts.items) l.pending
ended_by l (First first) = []
ended_by l Part = option_map_or ended_by_part l.begun []

abbrev pub begun_then : Option Begun → Filling → Option Begun
begun_then begun (Whole receipts) = begun
begun_then begun (First first) = Some (begun_shown first)
begun_then None Part = None
begun_then (Some g) Part = begun_after_part g

-- so what is taken for it
abbrev pub taken_of : RunLog → Filling → Taken
taken_of l f = record {
  used = used_by l f;
  begins = take (length (begins_noted f)) l.pending;
  ends = ended_by l f;
  begun = begun_then l.begun f;
  pending = drop (length (begins_noted f)) l.pending;
}

-- a later part is that of a record that is begun
abbrev pub IsPartOf : Option Begun → Filling → Type 0
IsPartOf begun (Whole receipts) = Unit {0}
IsPartOf begun (First first) = Unit {0}
IsPartOf begun Part = IsSome begun

-- This is what the next block takes of what is begun and pending, and its receipts are those of these records.
pub record TakesNext (l : RunLog) (f : Filling) : Type 0 where
  pub taken : IsTaken l.begun l.pending (taken_of l f)
  pub within : length (begins_noted f) ≤ length l.pending
  pub named : map committed (begins_noted f) ≡ map committed_of (taken_of l f).begins
  pub part : IsPartOf l.begun f

-- the block for this place holds it, and each record that begins in it is within its limits
pub record IsNextBlock (place : NewBlock) (l : RunLog) (b : NextLogBlock) : Type 0 where
  pub takes : TakesNext l b.filling
  pub holds : HoldsUsed place b.block (taken_of l b.filling).used
  pub allowed : All IsAllowed (taken_of l b.filling).begins
