-- The ranges that a read may name.
use Rattle.std.specs.Prelude.{ℕ, ◌&&◌, Bool, nat_lt}
use Rattle.base.specs.declared.range.Range.{Range}
use Rattle.base.specs.formats.Limits.{object_count}
use Rattle.base.specs.steps.Locks.{is_range_allowed}

-- a range of an object within the limits, with a byte at least
abbrev pub is_readable : ℕ → Range → Bool
is_readable number range = nat_lt number object_count && is_range_allowed range.low range.high
