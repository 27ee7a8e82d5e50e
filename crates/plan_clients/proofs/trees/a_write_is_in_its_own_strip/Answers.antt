use Rattle.std.proofs.Common.{◌∙◌, ap}
use Rattle.std.specs.Prelude.{if◌then◌else◌}
use Rattle.base.specs.declared.record_state.RecordState.TheVariants.{Dirty}
use Rattle.base.specs.tree.Syncs.{is_record_touched}
use Rattle.plan_clients.proofs.Promises.{first_untouched, second_written}
use Rattle.plan_clients.proofs.trees.a_write_is_in_its_own_strip.Goals as goal

pub returns-clause-first : goal.returns-clause-first
returns-clause-first c = c.touches_strip.ensures ∙ first_untouched c.write.new.self
    (λ r low. c.in_ok-write.ensures.records r low ∙ ap (λ state. if is_record_touched r 338688 1 then Dirty else state) (c.none-changes.ensures.records r))

pub returns-clause-own : goal.returns-clause-own
returns-clause-own c = c.writes_strip.ensures ∙ second_written c.write.new.self
    (λ r low. c.in_ok-write.ensures.records r low ∙ ap (λ state. if is_record_touched r 338688 1 then Dirty else state) (c.none-changes.ensures.records r))
