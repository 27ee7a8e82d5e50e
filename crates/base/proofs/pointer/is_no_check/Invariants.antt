use Rattle.std.proofs.Common.{◌≡◌, ℕ, ◌*◌, ◌<◌}
use Rattle.base.specs.formats.Fields.{number_at}
use Rattle.base.proofs.pointer.is_no_check.Given as goal

abbrev pub invariant-loop-word : goal.invariant-loop-word
invariant-loop-word l = (k : ℕ) → k < l.word → number_at l.check (8 * k) ≡ 0
