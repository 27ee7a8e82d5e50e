-- What a held reader lock promises.
use Rattle.std.specs.Prelude.{ℕ, ◌≡◌, ◌-◌, ◌==◌, List, [], slice_get, Some, unwrap_or, if◌then◌else◌}
use Rattle.std.specs.FinMap as finite
use Rattle.base.specs.declared.range.Mode.TheVariants.{Reader}
use Rattle.base.specs.formats.Limits.{name_number}
use Rattle.base.specs.history.Contents.{Contents, resize}
use Rattle.base.specs.history.Plans.{NumberRange}
use Rattle.base.specs.declared.step.Step as declared_step
use Rattle.base.specs.declared.step.Reply as declared_reply
use Rattle.base.specs.steps.Tables.{AreTablesExplained}
use Rattle.base.specs.steps.Locks.{Grant}
use Rattle.base.specs.steps.Runs.{Step}
use Rattle.base.specs.steps.Steps.{State, bytes_in}

-- the bytes that a lock's number stands for: an object's, none where it is absent, or the name's
abbrev pub bytes_of_number : ℕ → Contents → List ℕ
bytes_of_number n c = if n == name_number then c.name else unwrap_or (finite.get c.objects n) []

-- the bytes of a range, filled with zeros to its width
abbrev pub bytes_under : NumberRange → Contents → List ℕ
bytes_under range c = resize (range.high - range.low) (bytes_in range (bytes_of_number range.number c))

-- the bytes under each held reader lock stay
abbrev pub KeepsReaders : State → State → Type 0
KeepsReaders old new = (i : ℕ) (g : Grant) → slice_get old.shown.locks i ≡ Some g → g.mode ≡ Reader
    → bytes_under g.range new.shown.contents ≡ bytes_under g.range old.shown.contents

-- and each step of a pool that a past explains keeps them, over whichever device
abbrev pub ReadersAreKept : Type 0
ReadersAreKept = (now : List ℕ) (step : declared_step.Step) (reply : declared_reply.Reply) (old new : State) → Step ⊥ now step reply old new
    → AreTablesExplained old.shown old.past → KeepsReaders old new
