use Rattle.std.proofs.Common.{ℕ, ◌≡◌, ◌<◌, ◌≤◌, ◌/◌}
use Rattle.extents.specs.Objects.{HasRoomAt, KeepsRoom, written_in}
use Rattle.extents.proofs.object.ObjectPatch.reserve_write.Given as goal

-- the records so far have room
abbrev pub invariant-loop-index : goal.invariant-loop-index
invariant-loop-index l = record {
  room : (k : ℕ) → l.fn.offset / 4032 ≤ k → k < l.index → HasRoomAt l.self k;
  stays : KeepsRoom l.fn.self l.self;
  basis : l.self.basis ≡ l.fn.self.basis;
  written : (i : ℕ) → written_in l.self i ≡ written_in l.fn.self i;
}
