-- When the sync of a group may start.
use Rattle.std.specs.Prelude.{ℕ, ◌≡◌, ◌||◌, true, false, Result, Ok, Err, Some, is_some, is_none}
use Rattle.base.specs.declared.error.PoolError.{PoolError}
use Rattle.base.specs.declared.error.PoolError.TheVariants.{NotReady}
use Rattle.base.specs.declared.names.Group.{Group}
use Rattle.base.specs.steps.Groups.{Line}
use Rattle.base.specs.steps.Refusals.{quiesced_group}

-- a sync of this group may start: it is quiesced, and none is syncing
abbrev pub MayStart : ℕ → Line → Type 0
MayStart group l = (quiesced_group l ≡ Some group) × (is_some l.syncing ≡ false)

abbrev pub MayNotStart : Line → Type 0
MayNotStart l = (is_none (quiesced_group l) || is_some l.syncing) ≡ true

-- the group whose sync may start, or that none may
abbrev pub ChecksStart : Result Group PoolError → Line → Type 0
ChecksStart (Ok group) l = MayStart group.0 l
ChecksStart (Err e) l = (e ≡ NotReady) × MayNotStart l
