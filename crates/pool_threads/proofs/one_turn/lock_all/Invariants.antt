use Rattle.std.proofs.Common.{◌≡◌, ◌≤◌, length, take, vec_capacity, vec_len}
use Rattle.std.specs.Prelude.{IsTrue}
use Rattle.pool_threads.specs.Transacts.{Locks}
use Rattle.pool_threads.specs.Views.{Explains}
use Rattle.pool_threads.proofs.one_turn.lock_all.Given as goal

-- the locks of the ranges so far, with room for one of each range that is left
abbrev pub invariant-loop-range : goal.invariant-loop-range
invariant-loop-range g l =
    Explains l.held.value.value l.held.view.value × Locks (IsTrue g.D.SectorDevice.keeps_model) l.fn.owner (take l.range-index l.ranges) l.locks.items l.fn.held.view.value l.held.view.value × (vec_len l.locks ≤ l.range-index)
    × (length l.ranges ≤ vec_capacity l.locks) × (vec_capacity l.locks ≡ vec_capacity l.fn.locks)
