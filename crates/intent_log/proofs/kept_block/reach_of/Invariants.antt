use Rattle.std.proofs.Common.{◌≡◌, ◌≤◌, ℕ, take}
use Rattle.std.specs.Prelude.{All, nat_lt}
use Rattle.std.specs.List.{list_any}
use Rattle.intent_log.specs.Receipts.{LiesWithin, is_in_later_group}
use Rattle.intent_log.proofs.kept_block.reach_of.Given as goal

-- so far of the receipts that were looked at
abbrev pub invariant-loop-receipt : goal.invariant-loop-receipt
invariant-loop-receipt l = record {
  highest : (group : ℕ) → list_any (is_in_later_group group) (take l.receipt-index l.receipts) ≡ nat_lt group l.highest;
  between : All (LiesWithin l.first l.last) (take l.receipt-index l.receipts);
  rises : l.initial.last ≤ l.last;
}
