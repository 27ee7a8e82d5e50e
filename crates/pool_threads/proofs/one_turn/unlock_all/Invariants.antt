use Rattle.std.proofs.Common.{take}
use Rattle.std.specs.Prelude.{IsTrue}
use Rattle.pool_threads.specs.Transacts.{Unlocks}
use Rattle.pool_threads.specs.Views.{Explains}
use Rattle.pool_threads.proofs.one_turn.unlock_all.Given as goal

-- the locks so far are unlocked
abbrev pub invariant-loop-id : goal.invariant-loop-id
invariant-loop-id g l = Explains l.held.value.value l.held.view.value × Unlocks (IsTrue g.D.SectorDevice.keeps_model) l.fn.owner (take l.id-index l.locks) l.fn.held.view.value l.held.view.value
