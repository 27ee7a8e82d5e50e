use Rattle.std.proofs.Common.{◌-◌, vec_len, Option, ◌∙◌, ap, arith}
use Rattle.std.specs.Prelude.{slice_get, is_some}
use Rattle.base.specs.disk.SyncOrder.{calls_in_order}
use Rattle.sync.specs.declared.run.LabelStages.{LabelStages}
use Rattle.sync.specs.Calls.{first_labels, last_labels}
use Rattle.base.proofs.disk.SyncOrder.{block_stands, others_stand}
use Rattle.sync.proofs.run.SyncRun.call.Goals as goal

pub returns-then-self-blocks-clause-next : goal.returns-then-self-blocks-clause-next
returns-then-self-blocks-clause-next c =
    let run = c.args.self.now in
    block_stands (vec_len run.blocks) (is_some run.stages) (first_labels run.stages) (last_labels run.stages) run.done (omega (arith, c.if-self-blocks.true, c.len-blocks.ensures))

pub returns-in-Some-clause-next : goal.returns-in-Some-clause-next
returns-in-Some-clause-next c =
    let run = c.args.self.now in
    others_stand (vec_len run.blocks) (is_some run.stages) (first_labels run.stages) (last_labels run.stages) run.done _ (omega (arith, c.if-self-blocks.false, c.len-blocks.ensures))
    ∙ ap (λ (s : Option LabelStages). slice_get (calls_in_order 0 (is_some s) (first_labels s) (last_labels s)) (run.done - c.len-blocks.result)) c.in-Some.is ∙ c.staged_call.ensures

pub returns-in-None-clause-next : goal.returns-in-None-clause-next
returns-in-None-clause-next c =
    let run = c.args.self.now in
    others_stand (vec_len run.blocks) (is_some run.stages) (first_labels run.stages) (last_labels run.stages) run.done _ (omega (arith, c.if-self-blocks.false, c.len-blocks.ensures))
    ∙ ap (λ (s : Option LabelStages). slice_get (calls_in_order 0 (is_some s) (first_labels s) (last_labels s)) (run.done - c.len-blocks.result)) c.in-None.is ∙ c.plain_call.ensures
