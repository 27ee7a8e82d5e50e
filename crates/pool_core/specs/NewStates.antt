-- The past of a pool that an import gave.
use Rattle.std.specs.Prelude.{ℕ}
use Rattle.base.specs.steps.Tables.{AreTablesExplained}
use Rattle.base.specs.steps.Shown.{Shown}
use Rattle.base.specs.history.Past.{Past, new_past}
use Rattle.base.specs.kept.Stored.{IsHeld}
use Rattle.pool_tables.specs.Told.{ShownPool, held_with}

-- the past in which nothing has happened yet, of a pool that was created at this moment
abbrev pub first_past : Shown → ℕ → Past
first_past shown created = new_past shown.contents created shown.dirty_max

-- it explains what is shown, whenever the pool was created
abbrev pub IsExplainedAtFirst : Shown → Type 0
IsExplainedAtFirst shown = (created : ℕ) → AreTablesExplained shown (first_past shown created)

-- and with it the device holds what it should
abbrev pub IsHeldAtFirst : ShownPool → Type 0
IsHeldAtFirst told = (created : ℕ) → IsHeld (held_with told (first_past told.shown created))
