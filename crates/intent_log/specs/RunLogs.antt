-- What is true of the log of a run, and stays so from call to call.
use Rattle.std.specs.Prelude.{ℕ, ◌≡◌, ◌<◌, ◌++◌, false, All, Bool, List, None, filter, map, nat_le, nat_lt}
use Rattle.std.specs.List.{list_any}
use Rattle.base.specs.kept.LogSteps.{IsHeaderIn}
use Rattle.base.specs.formats.Chain.{Header}
use Rattle.base.specs.formats.Records.{Record}
use Rattle.base.specs.steps.Logs.{AreBalanced, Committed, KeptBlock, Log, begun_committed, committed_above, committed_in, committed_of, is_same, reaches_above}
use Rattle.records.specs.declared.record.Record as code

-- A log while this group is synced. Its records are of later groups. In commit order they are those that begin in the
-- kept blocks, and then the pending ones. In the kept blocks as much begins as ends, up to the record that is begun.
pub record IsLogOf (synced : ℕ) (log : Log) : Type 0 where
  pub above : All (λ (r : Record). synced < r.group) log.unsynced
  pub in_order : map committed_of log.unsynced ≡ committed_above synced (committed_in log) ++ map committed_of log.pending
  pub balanced : ∥ AreBalanced None log.kept (begun_committed log.begun) ∥₁

-- The log header of a sync of this group is the next one, or that of a kept block. In no kept block before it a record
-- of a later group begins. From it on as much begins as ends, up to the record that is begun.
pub record KeepsHeader (group : ℕ) (header : Header) (log : Log) : Type 0 where
  pub in_log : ∥ IsHeaderIn header log ∥₁
  pub none_before : All (λ (b : KeptBlock). nat_le header.number b.number ≡ false → reaches_above group b ≡ false) log.kept
  pub balanced : ∥ AreBalanced None (filter (λ (b : KeptBlock). nat_le header.number b.number) log.kept) (begun_committed log.begun) ∥₁

-- the header of a sync that runs is one of the new log, too
abbrev pub KeepsHeaders : Log → Log → Type 0
KeepsHeaders old new = (group : ℕ) (header : Header) → KeepsHeader group header old → KeepsHeader group header new

-- whether the record of a committed transaction is unsynced
abbrev pub is_unsynced_in : Log → Committed → Bool
is_unsynced_in log c = list_any (λ r. is_same c (committed_of r)) log.unsynced

-- the records of groups after this one
abbrev pub records_after : ℕ → List code.Record → List code.Record
records_after group records = filter (λ (r : code.Record). nat_lt group r.group.0) records

abbrev pub pending_after : ℕ → List Record → List Record
pending_after group pending = filter (λ (r : Record). nat_lt group r.group) pending
