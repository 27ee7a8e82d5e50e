-- Whether the transaction of a receipt is durable, as a wait for it asks.
use Rattle.std.specs.Prelude.{◌≡◌, Bool, false, None, Ok, Err, Result, Some}
use Rattle.base.specs.declared.error.PoolError.{PoolError}
use Rattle.base.specs.declared.names.Receipt.{Receipt}
use Rattle.base.specs.steps.Refusals.{fsync_refusal}
use Rattle.base.specs.steps.Shown.{Shown, is_durable}

-- The transaction is durable or not. If it isn't, the first test of a wait for it that applies refuses.
abbrev pub ChecksReceipt : Receipt → Result Bool PoolError → Shown → Type 0
ChecksReceipt receipt (Ok durable) s = (durable ≡ is_durable s receipt.ordinal.0 receipt.group.0) × (durable ≡ false → fsync_refusal receipt.ordinal.0 receipt.group.0 s ≡ None)
ChecksReceipt receipt (Err e) s = (is_durable s receipt.ordinal.0 receipt.group.0 ≡ false) × (fsync_refusal receipt.ordinal.0 receipt.group.0 s ≡ Some e)
