use Rattle.std.proofs.Common.{ℕ, ◌≡◌, length}
use Rattle.extents.specs.Objects.{HasRoomFrom, KeepsRoom, written_in, written_before_record}
use Rattle.extents.proofs.object.ObjectPatch.write_records.Given as goal

-- the write has come to the records so far
abbrev pub invariant-loop-index : goal.invariant-loop-index
invariant-loop-index l = record {
  room : HasRoomFrom l.self l.offset (length l.content);
  stays : KeepsRoom l.fn.self l.self;
  basis : l.self.basis ≡ l.fn.self.basis;
  written : (i : ℕ) → written_in l.self i ≡ written_before_record l.index l.offset l.content (written_in l.fn.self) i;
}
