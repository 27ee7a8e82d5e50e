use Rattle.std.proofs.Common.{ℕ, ◌≡◌, take}
use Rattle.extents.specs.Objects.{KeepsRoom, left_in_records, numbers_of, written_in}
use Rattle.extents.proofs.object.ObjectPatch.forget_from.Given as goal

-- the records so far are done
abbrev pub invariant-loop-place : goal.invariant-loop-place
invariant-loop-place l = record {
  numbers : numbers_of l.self ≡ numbers_of l.fn.self;
  stays : KeepsRoom l.fn.self l.self;
  basis : l.self.basis ≡ l.fn.self.basis;
  written : (i : ℕ) → written_in l.self i ≡ left_in_records (take l.place (numbers_of l.fn.self)) l.offset (written_in l.fn.self) i;
}
