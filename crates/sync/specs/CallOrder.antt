-- The device calls of a sync, in order.
use Rattle.std.specs.Prelude.{true, false, List, []}
use Rattle.base.specs.disk.SyncOrder.{DeviceCall, calls_in_order}
use Rattle.base.specs.disk.SyncOrder.DeviceCall.{Block, Config, Uberblock, Flush}
use Rattle.labels.specs.declared.stage.Stage.{Stage}
use Rattle.labels.specs.declared.stage.Stage.TheVariants.{Even, Odd}
use Rattle.labels.specs.Stages.{labels_of}
use Rattle.sync.specs.declared.call.Call.{Call}
use Rattle.sync.specs.declared.call.Call.TheVariants as said

-- a call as the definitions have it
abbrev pub call_said : Call → DeviceCall
call_said (said.Block k) = Block k
call_said (said.Config label) = Config label
call_said (said.Uberblock label) = Uberblock label
call_said said.Flush = Flush

-- the other stage
abbrev pub stage_after : Stage → Stage
stage_after Even = Odd
stage_after Odd = Even

-- the calls after the blocks, without label stages
abbrev pub calls_behind_blocks : List DeviceCall
calls_behind_blocks = calls_in_order 0 false [] []

-- the calls after the blocks, with label stages
abbrev pub calls_behind_staged_blocks : Stage → List DeviceCall
calls_behind_staged_blocks first = calls_in_order 0 true (labels_of first) (labels_of (stage_after first))
