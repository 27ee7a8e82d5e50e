-- Which unsynced records are left once a group is synced, and which of them are pending.
use Rattle.std.proofs.Common.{◌≡◌, ◌≤◌, ℕ, List, ◌++◌, map, filter, length, take, drop, ap, sym, subst, ◌∙◌, arith}
use Rattle.std.specs.Prelude.{All, nat_le, nat_lt}
use Rattle.std.proofs.Math.Seq.{drop-append_seam}
use Rattle.std.proofs.lemmas.List.{length-append, take-append-drop}
use Rattle.std.proofs.lemmas.List.Elements.{All-filter, filter-append}
use Rattle.base.specs.formats.Records.{IsAllowed, Record}
use Rattle.records.specs.declared.record.Record as code
use Rattle.records.specs.Records.{record_fields}
use Rattle.base.specs.formats.Chain.{Header}
use Rattle.base.specs.steps.Logs.{KeptBlock, log_after_sync}
use Rattle.intent_log.specs.Kept.{RunLog, log_shown}
use Rattle.intent_log.specs.RunLogs.{pending_after, records_after}
use Rattle.intent_log.proofs.Mapped.{filter-map}

-- of those of later groups, those from a front are a front
module _ (group written : ℕ) (records : List code.Record) where
  split : records_after group records ≡ records_after group (take written records) ++ records_after group (drop written records)
  split = ap (records_after group) (sym (take-append-drop written records)) ∙ filter-append (λ (r : code.Record). nat_lt group r.group.0) (take written records) (drop written records)

  pub front_within : length (records_after group (take written records)) ≤ length (records_after group records)
  front_within =
      let whole = ap (λ (l : List code.Record). length l) split ∙ length-append (records_after group (take written records)) (records_after group (drop written records)) in
      omega (arith, whole)

  -- and the others were pending
  pub pending-after : map record_fields (drop (length (records_after group (take written records))) (records_after group records)) ≡ pending_after group (map record_fields (drop written records))
  pending-after =
      ap (map record_fields) (ap (drop (length (records_after group (take written records)))) split ∙ drop-append_seam (records_after group (take written records)) (records_after group (drop written records)))
      ∙ sym (filter-map (λ (r : Record). nat_lt group r.group) record_fields (drop written records))

pub allowed-after : (group : ℕ) (records : List code.Record) → All IsAllowed (map record_fields records) → All IsAllowed (map record_fields (records_after group records))
allowed-after group records all =
    subst (λ (rs : List Record). All IsAllowed rs) (filter-map (λ (r : Record). nat_lt group r.group) record_fields records)
    (All-filter (λ (r : Record). nat_lt group r.group) IsAllowed (map record_fields records) all)

-- so with the blocks from its header on the log is the one after its sync
pub synced_shown : (group : ℕ) (header : Header) (old mid new : RunLog) → mid ≡ record old { records = records_after group old.records; pending = pending_after group old.pending; record_room = mid.record_room }
    → log_shown new ≡ record (log_shown mid) { kept = filter (λ (b : KeptBlock). nat_le header.number b.number) mid.kept } → log_shown new ≡ log_after_sync group header (log_shown old)
synced_shown group header old mid new dropped given =
    given ∙ (λ k. record (log_shown (dropped k)) { kept = filter (λ (b : KeptBlock). nat_le header.number b.number) (dropped k).kept })
    ∙ (λ k. record (log_after_sync group header (log_shown old)) { unsynced = sym (filter-map (λ (r : Record). nat_lt group r.group) record_fields old.records) k })
