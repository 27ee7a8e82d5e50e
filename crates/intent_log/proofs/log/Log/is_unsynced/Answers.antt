use Rattle.std.proofs.Common.{◌≡◌, ap, rules, subst, sym, tests, ◌∙◌}
use Rattle.std.specs.Prelude.{Bool}
use Rattle.std.specs.List.{list_any}
use mathlib.Core.List.{reverse}
use Rattle.std.proofs.lemmas.Iterator.Adapters.{YieldsList-from_rev_slice}
use Rattle.std.proofs.lemmas.Iterator.Search.{any_from_yields_List}
use Rattle.std.proofs.lemmas.List.Sorted.{IsPermutation-reverse, IsPermutation-sym, list_any-IsPermutation}
use Rattle.std.specs.Slice.Iter.{iter_rest}
use Rattle.base.specs.formats.Records as formats
use Rattle.base.specs.steps.Logs.{committed_of, is_same}
use Rattle.base.proofs.common.KeptLists.{any_map}
use Rattle.records.specs.Records.{record_fields}
use Rattle.records.specs.declared.record.Record.{Record}
use Rattle.intent_log.specs.Kept.{RunLog, log_shown}
use Rattle.intent_log.specs.Receipts.{committed}
use Rattle.intent_log.specs.RunLogs.{is_unsynced_in}
use Rattle.intent_log.proofs.log.Log.is_unsynced.Goals as goal

pub returns : goal.returns
returns c =
    let named = committed c.args.receipt in
    let is_named : Record → Bool = λ r. is_same named (committed_of (record_fields r)) in
    let records = c.self.inside.unsynced.items in
    let any : c.any.result ≡ list_any is_named (reverse records) =
    any_from_yields_List is_named _ _ _ c.any.ensures.ran
    (YieldsList-from_rev_slice records (ap iter_rest c.rev.ensures.source ∙ c.iter.ensures.rest ∙ c.deref.ensures.value)) (λ x b q k. search (rules, tests)) in
    subst (λ (l : RunLog). c.any.result ≡ is_unsynced_in (log_shown l) named) c.self.view_is
    (any ∙ list_any-IsPermutation is_named (reverse records) records (IsPermutation-sym _ _ (IsPermutation-reverse records))
    ∙ sym (any_map (λ (r : formats.Record). is_same named (committed_of r)) record_fields records))
