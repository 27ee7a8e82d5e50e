use Rattle.std.proofs.Common.{◌≡◌, ◌∙◌, ℕ, drop, length, map, subst, take, rules}
use Rattle.std.specs.Prelude.{vec_capacity, vec_len, ◌-◌}
use Rattle.std.proofs.lemmas.Fn.{filter_same}
use Rattle.records.specs.Records.{record_fields}
use Rattle.intent_log.specs.Kept.{RunLog, run_log}
use Rattle.intent_log.specs.RunLogs.{pending_after, records_after}
use Rattle.intent_log.proofs.SyncedRecords.{allowed-after, front_within, pending-after}
use Rattle.intent_log.proofs.log.Log.drop_synced.Goals as goal

pub invariant_of-self : goal.invariant_of-self
invariant_of-self c =
    let old = c.self.invariant in
    let group = c.args.group.0 in
    let left : c.retain.new.self.items ≡ records_after group c.self.inside.unsynced.items = filter_same _ _ _ (λ x b f' k. search rules) _ _ c.retain.ensures.filtered in
    let written : c.count_after-self-inside.result ≡ length (records_after group (take c.self.inside.written c.self.inside.unsynced.items)) = rw c.deref.ensures.value at c.count_after-self-inside.ensures in
    record {
      front = rw (left, written) (front_within group c.self.inside.written c.self.inside.unsynced.items);
      allowed = rw left (allowed-after group c.self.inside.unsynced.items old.allowed);
      within = old.within;
      fits = old.fits;
      numbered = old.numbered;
      rising = old.rising;
    }

pub returns : goal.returns
returns c =
    let group = c.args.group.0 in
    let left : c.retain.new.self.items ≡ records_after group c.self.inside.unsynced.items = filter_same _ _ _ (λ x b f' k. search rules) _ _ c.retain.ensures.filtered in
    let written : c.count_after-self-inside.result ≡ length (records_after group (take c.self.inside.written c.self.inside.unsynced.items)) = rw c.deref.ensures.value at c.count_after-self-inside.ensures in
    let pending = (λ k. map record_fields (drop (written k) (left k))) ∙ pending-after group c.self.inside.written c.self.inside.unsynced.items in
    let room : ℕ = vec_capacity c.retain.new.self - vec_len c.retain.new.self in
    subst (λ (l : RunLog). record (run_log c.self.inside) { records = c.retain.new.self.items; pending = map record_fields (drop c.count_after-self-inside.result c.retain.new.self.items); record_room = room }
    ≡ record l { records = records_after group l.records; pending = pending_after group l.pending; record_room = room }) c.self.view_is
    (λ k. record (run_log c.self.inside) { records = left k; pending = pending k; record_room = room })
