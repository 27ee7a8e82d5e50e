-- The slots by which times are counted, in microseconds.
use Rattle.std.specs.Prelude.{ℕ, ◌+◌, ◌-◌, ◌*◌, ◌/◌, ◌^◌, ◌≤◌, ◌<◌}

-- how often the least time of a slot was doubled
abbrev pub doublings_of : ℕ → ℕ
doublings_of slot = slot / 16 - 1

-- the shortest time of a slot, and the first one above it: the slots below 32 have one time each, and from there on 16
-- slots have the times up to each doubling
abbrev pub least_of : ℕ → ℕ
least_of slot = (slot - 16 * doublings_of slot) * 2 ^ doublings_of slot

abbrev pub end_of : ℕ → ℕ
end_of slot = (slot - 16 * doublings_of slot + 1) * 2 ^ doublings_of slot

-- a slot has this time
abbrev pub IsInSlot : ℕ → ℕ → Type 0
IsInSlot time slot = (least_of slot ≤ time) × (time < end_of slot)

-- the second time is above the first by at most a sixteenth of it
abbrev pub IsNear : ℕ → ℕ → Type 0
IsNear least time = 16 * (time - least) ≤ least
