-- Receipts, as the kept blocks of a log note them.
use Rattle.std.specs.Prelude.{ℕ, ◌≤◌, ◌==◌, ◌&&◌, Bool, List, [], ◌∷◌, nat_lt}
use Rattle.base.specs.declared.names.Receipt.{Receipt}
use Rattle.base.specs.steps.Logs.{Committed}
use Rattle.intent_log.specs.declared.kept_block.Holds.{Holds}
use Rattle.intent_log.specs.declared.kept_block.Holds.TheVariants.{Whole, First, Part, Last}

-- the transaction that a receipt names
abbrev pub committed : Receipt → Committed
committed r = record { ordinal = r.ordinal.0; group = r.group.0 }

-- whether a receipt is of a group above this one
abbrev pub is_in_later_group : ℕ → Receipt → Bool
is_in_later_group group r = nat_lt group r.group.0

-- whether two receipts name the same transaction
abbrev pub is_same_receipt : Receipt → Receipt → Bool
is_same_receipt a b = (a.ordinal.0 == b.ordinal.0) && (a.group.0 == b.group.0)

-- the ordinal of a receipt is one from the first of these to the last
abbrev pub LiesWithin : ℕ → ℕ → Receipt → Type 0
LiesWithin first last r = (first ≤ r.ordinal.0) × (r.ordinal.0 ≤ last)

-- the receipts of the records that begin in a block that has these, and of those that end in it
abbrev pub begins_of : Holds → List Receipt
begins_of (Whole receipts) = receipts.items
begins_of (First receipt) = receipt ∷ []
begins_of Part = []
begins_of (Last receipt) = []

abbrev pub ends_of : Holds → List Receipt
ends_of (Whole receipts) = receipts.items
ends_of (First receipt) = []
ends_of Part = []
ends_of (Last receipt) = receipt ∷ []
