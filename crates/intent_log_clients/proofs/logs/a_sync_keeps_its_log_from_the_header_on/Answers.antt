use Rattle.std.proofs.Common.{ap, map, sym, ◌∙◌}
use Rattle.base.specs.formats.Records.{Record}
use Rattle.base.specs.steps.Logs.{Log}
use Rattle.records.specs.Records.{record_fields}
use Rattle.std.specs.Prelude.{nat_lt}
use Rattle.intent_log.specs.Kept.{RunLog, header_fields, log_shown}
use Rattle.intent_log.specs.RunLogs.{pending_after, records_after}
use Rattle.intent_log.proofs.Callers.{blocks_from, given_is_before, none_is_before}
use Rattle.intent_log.proofs.Mapped.{filter-map}
use Rattle.intent_log_clients.proofs.logs.a_sync_keeps_its_log_from_the_header_on.Goals as goal

pub loop-header-init : goal.loop-header-init
loop-header-init c =
    let kept = ap (λ (l : RunLog). l.kept) c.drop_synced.ensures in
    record {
      same = ap (blocks_from (header_fields c.args.header)) kept;
      others = ap log_shown c.drop_synced.ensures ∙ (λ k. record (log_shown c.args.log.now) { unsynced = map record_fields (records_after c.args.group.0 c.args.log.now.records); pending = pending_after c.args.group.0 c.args.log.now.pending; kept = sym kept k });
    }

pub loop-header-smaller : goal.loop-header-smaller
loop-header-smaller c =
    (given_is_before (header_fields c.args.header) c.loop-header.log.kept c.give_back.new.self.kept c.give_back.result c.give_back.ensures.given
    (sym c.is_some.ensures ∙ c.loop-header-test.true)).1

pub loop-header-preserved : goal.loop-header-preserved
loop-header-preserved c =
    let before =
    given_is_before (header_fields c.args.header) c.loop-header.log.kept c.give_back.new.self.kept c.give_back.result c.give_back.ensures.given
    (sym c.is_some.ensures ∙ c.loop-header-test.true) in
    record {
      same = sym before.0 ∙ c.loop-header.invariant.same;
      others = ap log_shown c.give_back.ensures.others ∙ ap (λ (l : Log). record l { kept = c.give_back.new.self.kept }) c.loop-header.invariant.others;
    }

pub returns : goal.returns
returns c =
    let header = header_fields c.args.header in
    let left =
    none_is_before header c.loop-header.log c.give_back.new.self c.give_back.result c.give_back.ensures.none c.give_back.ensures.unchanged
    (sym c.is_some.ensures ∙ c.loop-header-test.false) in
    let kept = left ∙ c.loop-header.invariant.same in
    let old = log_shown c.args.log.now in
    ap log_shown c.give_back.ensures.others ∙ ap (λ (l : Log). record l { kept = c.give_back.new.self.kept }) c.loop-header.invariant.others
    ∙ (λ k. record old { unsynced = sym (filter-map (λ (r : Record). nat_lt c.args.group.0 r.group) record_fields c.args.log.now.records) k; pending = pending_after c.args.group.0 old.pending; kept = kept k })
