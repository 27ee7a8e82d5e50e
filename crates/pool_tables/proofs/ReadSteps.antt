-- When a read is refused by no test, and why it is by one.
use Rattle.std.proofs.Common.{ℕ, ◌≡◌, ◌<◌, ◌≤◌, ◌∙◌, Bool, true, false, ◌&&◌, ◌||◌, ◌⊎◌, inl, inr, List, not, nat_le, nat_lt, ap, refl, sym}
use Rattle.std.proofs.lemmas.Bool.{cases_lt, le-leb, le-ltb, lt-leb, lt-ltb}
use Rattle.std.specs.Prelude.{Option, Some, None, is_some, length, option_map}
use Rattle.std.specs.FinMap as finite
use Rattle.base.specs.declared.range.Range.{Range}
use Rattle.base.specs.formats.Limits.{object_count}
use Rattle.base.specs.steps.Locks.{is_range_allowed, is_covered}
use Rattle.base.specs.history.Plans.{NumberRange}
use Rattle.base.specs.steps.Refusals.{object_range, read_refusal}
use Rattle.base.specs.steps.Shown.{Shown}
use Rattle.base.proofs.common.Choices.{some_there}
use Rattle.mounted.specs.Ranges.{is_readable}

abbrev pub is_unreadable : NumberRange → Bool
is_unreadable t = nat_le object_count t.number || not (is_range_allowed t.low t.high)

-- it is the test of a range that may be read, turned about
pub is_readable-not : (number : ℕ) (range : Range) → is_readable number range ≡ not (is_unreadable (object_range number range.low range.high))
is_readable-not number range = go (cases_lt number object_count) (is_range_allowed range.low range.high)
  where
    go : (number < object_count) ⊎ (object_count ≤ number) → (allowed : Bool) → (nat_lt number object_count && allowed) ≡ not (nat_le object_count number || not allowed)
    go (inl below) true = rw (lt-ltb number object_count below, lt-leb object_count number below) refl
    go (inl below) false = rw (lt-ltb number object_count below, lt-leb object_count number below) refl
    go (inr above) allowed = rw (le-ltb number object_count above, le-leb object_count number above) refl

-- the object of the number, where there is one
abbrev object_at : NumberRange → Shown → Option (List ℕ)
object_at t s = finite.get s.contents.objects t.number

-- whether an object is there is told by its length
pub has_length : (o : Option (List ℕ)) (size told : Option ℕ) → size ≡ option_map length o → size ≡ told → is_some o ≡ is_some told
has_length None size told is at = ap is_some (sym is ∙ at)
has_length (Some bytes) size told is at = ap is_some (sym is ∙ at)

pub read_passes : (owner : ℕ) (t : NumberRange) (s : Shown) → s.suspended ≡ false → is_unreadable t ≡ false → is_covered owner t s.locks ≡ true → is_some (object_at t s) ≡ true
    → read_refusal owner t s ≡ None
read_passes owner t s h bad covered there = rw (h, bad, covered, (some_there (object_at t s) there).1) refl
