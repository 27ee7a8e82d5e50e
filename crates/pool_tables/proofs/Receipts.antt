-- A receipt of no synced group is of a committed transaction exactly if it is of an unsynced one.
use Rattle.std.proofs.Common.{◌≡◌, ◌==◌, ◌&&◌, ℕ, Bool, true, false, ◌||◌, refl, ap, sym, ◌∙◌, arith}
use Rattle.std.specs.Prelude.{Ok, Err, nat_lt, nat_le}
use Rattle.base.specs.declared.error.PoolError.TheVariants as error
use Rattle.base.specs.declared.names.Receipt.{Receipt}
use Rattle.base.specs.formats.Records.{Record}
use Rattle.base.specs.steps.Logs.{is_begun_in}
use Rattle.std.specs.List.{list_any}
use Rattle.base.specs.steps.Refusals.{is_receipt}
use Rattle.base.specs.steps.Shown.{Shown, is_durable}
use Rattle.intent_log.specs.Receipts.{committed}
use Rattle.intent_log.specs.RunLogs.{IsLogOf, is_unsynced_in}
use Rattle.intent_log.proofs.RunLogs.{unsynced_named}
use Rattle.pool_tables.specs.Receipts.{ChecksReceipt}

-- what a receipt that isn't durable is refused
module _ (receipt : Receipt) (s : Shown) (unsynced : Bool) (loose : is_durable s receipt.ordinal.0 receipt.group.0 ≡ false) where
  abbrev ordinal : ℕ
  ordinal = receipt.ordinal.0

  abbrev group : ℕ
  group = receipt.group.0

  pub suspended_receipt : s.suspended ≡ true → ChecksReceipt receipt (Err error.Suspended) s
  suspended_receipt is = (loose, rw is refl)

  module _ (runs : s.suspended ≡ false) (is : is_receipt ordinal group s ≡ unsynced) where
    pub unknown_receipt : unsynced ≡ false → ChecksReceipt receipt (Err error.BadRange) s
    unknown_receipt none = (loose, rw (runs, is, none) refl)

    pub known_receipt : unsynced ≡ true → ChecksReceipt receipt (Ok false) s
    known_receipt known = (sym loose, λ _. rw (runs, is, known) refl)

-- so it is one exactly if it is unsynced
pub is_receipt-unsynced : (receipt : Receipt) (s : Shown) → is_durable s receipt.ordinal.0 receipt.group.0 ≡ false → IsLogOf s.line.synced s.log
    → is_receipt receipt.ordinal.0 receipt.group.0 s ≡ is_unsynced_in s.log (committed receipt)
is_receipt-unsynced receipt s loose logged = ap (λ b. b || (list_any (λ (r : Record). (r.ordinal == receipt.ordinal.0) && (r.group == receipt.group.0)) s.log.pending || is_begun_in s.log (committed receipt))) loose ∙ unsynced_named s.line.synced (committed receipt) s.log above logged
  where
    above_if : (m n : ℕ) (b : Bool) → (nat_le n m || b) ≡ false → nat_lt m n ≡ true
    above_if m n b is = search arith

    above : nat_lt s.line.synced receipt.group.0 ≡ true
    above = above_if s.line.synced receipt.group.0 _ loose
