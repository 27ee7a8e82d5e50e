-- Whether an object is there after operations, by those that create and remove it.
use Rattle.std.specs.Prelude.{◌≡◌, ◌<◌, ◌==◌, ◌||◌, ◌&&◌, not, ℕ, Bool, true, false, List, fold, get_or}
use Rattle.base.specs.declared.operation.Op.{Op}
use Rattle.base.specs.declared.operation.Op.TheVariants.{Create, Remove, Write, SetLength, SetName}
use Rattle.base.specs.formats.Limits.{object_count}
use Rattle.contents.specs.declared.judging.Presence.{Presence}
use Rattle.contents.specs.declared.judging.Presence.TheVariants as noted

-- whether the object of this number is there after an operation that takes place, from whether it was there before
abbrev pub is_present_after : ℕ → Op → Bool → Bool
is_present_after n (Create m) present = (n == m.0) || present
is_present_after n (Remove m) present = not (n == m.0) && present
is_present_after n (Write m offset bytes) present = present
is_present_after n (SetLength m size) present = present
is_present_after n (SetName bytes) present = present

-- and after operations in order: the last that creates or removes it decides
abbrev pub is_present_after_all : ℕ → List Op → Bool → Bool
is_present_after_all n ops present = fold (λ before op. is_present_after n op before) present ops

-- whether an object is there, from what was noted of it and whether it was there before
abbrev pub is_there_noted : Presence → Bool → Bool
is_there_noted noted.AsBefore present = present
is_there_noted noted.Created present = true
is_there_noted noted.Removed present = false

-- this is what operations make of the object of this number
abbrev pub IsMade : List Op → ℕ → Presence → Type 0
IsMade ops n made = (present : Bool) → is_there_noted made present ≡ is_present_after_all n ops present

-- this is what operations make of the object of another, which may be none
abbrev pub IsMadeFor : List Op → Op → Presence → Type 0
IsMadeFor ops (Create id) made = IsMade ops id.0 made
IsMadeFor ops (Remove id) made = IsMade ops id.0 made
IsMadeFor ops (Write id offset bytes) made = IsMade ops id.0 made
IsMadeFor ops (SetLength id size) made = IsMade ops id.0 made
IsMadeFor ops (SetName bytes) made = Unit

-- of each number it is noted what these operations make of its object
abbrev pub AreNoted : List Op → List Presence → Type 0
AreNoted ops all = (n : ℕ) → n < object_count → IsMade ops n (get_or all n noted.AsBefore)
