-- Rounds of a pool with crashes between them, and what the import after the last one finds.
use Rattle.std.specs.Prelude.{ℕ, ◌≡◌, ◌⊎◌, ◌++◌, List, [], ◌∷◌, Option, None, Some, Result, Ok, Err, MatchResult}
use Rattle.std.specs.Global.{Vec}
use Rattle.base.specs.kept.Imports.{is_dirty_max_allowed}
use Rattle.base.specs.declared.error.PoolError.{PoolError}
use Rattle.base.specs.declared.error.PoolError.TheVariants.{NoMemory}
use Rattle.base.specs.declared.refused.RefusedCalls.{RefusedCalls}
use Rattle.base.specs.declared.step.Step as declared_step
use Rattle.base.specs.declared.step.Reply as declared_reply
use Rattle.base.specs.kept.LeftDisks.{GoesOnFrom, IsLeft}
use Rattle.base.specs.disk.Calls.{with_refusal}
use Rattle.base.specs.disk.Crashes.{crash_image}
use Rattle.base.specs.disk.Disk.{Disk, bytes_of, certain, moments}
use Rattle.base.specs.disk.Fairness.{IsFairOn}
use Rattle.base.specs.history.Contents.{Contents}
use Rattle.base.specs.history.Past.{Past, new_past}
use Rattle.base.specs.steps.Explains.{IsLeftBy}
use Rattle.base.specs.steps.Runs.{Run}
use Rattle.device_model.specs.declared.fault.Fault.{Fault}
use Rattle.device_model.specs.MemState.{MemState}
use Rattle.device_model.specs.Plans.{with_plan}
use Rattle.import_replay.specs.CreateRefusals.{CanCreate, IsCreateRefusal}
use Rattle.import_replay.specs.Creations.{IsNewPool}
use Rattle.import_replay.specs.ImportRefusals.{IsImportRefusal, IsOfSoundPool, IsReason}
use Rattle.pool_core.specs.Calls.{counted_in_turn}
use Rattle.pool_core.specs.KeptSafe.{IsKeptSafe, IsSafeStep, OnDisk}
use Rattle.round_trip.specs.declared.crashes.End.{End}
use Rattle.round_trip.specs.declared.crashes.End.TheVariants.{Crash, GivenUp}
use Rattle.round_trip.specs.declared.crashes.Round.{Round}
use Rattle.round_trip.specs.Rounds.{AreNew, IsJustMounted, IsOpened}

-- what the steps of a round replied, or why none was made
abbrev pub Answer : Type 0
Answer = Result (Vec declared_reply.Reply) PoolError

-- the refused calls of a device after the import and the steps of a round: one more for each that the answer tells
abbrev pub counted_in : Answer → RefusedCalls → RefusedCalls
counted_in (Ok replies) calls = counted_in_turn replies.items calls
counted_in (Err e) calls = with_refusal e calls

-- the device with the fault that a round plans, where it plans one
abbrev pub with_fault : Option (Fault × ℕ) → MemState → MemState
with_fault None device = device
with_fault (Some (fault, n)) device = with_plan fault n device

-- Steps with these replies, of a pool that was imported from a disk at a moment, with contents that the earlier run
-- left: the replay of a cut of its entries with every acknowledged one. They begin on the disk that the import left,
-- with no step made and a past in which nothing happened, and lead to the later one. Each is a step of the definitions,
-- at each of whose moments the disk was safe; and they end on this disk.
pub record AreStepsFrom (dirty_max moment : ℕ) (ss : List declared_step.Step) (rs : List declared_reply.Reply) (earlier later : Past) (disk ended : Disk) : Type 0 where
  pub base : Contents
  pub left : IsLeftBy earlier base
  pub start : OnDisk
  pub began_on : GoesOnFrom disk start.disk
  pub kept : IsKeptSafe start
  pub opened : IsOpened (bytes_of disk.now) start.held.now moment
  pub at_first : IsJustMounted start.held.state.shown
  pub begins : start.held.state.past ≡ new_past base earlier.created dirty_max
  pub shows : start.held.state.shown.contents ≡ base
  pub end : OnDisk
  pub made : Run IsSafeStep ss rs start end
  pub past_is : end.held.state.past ≡ later
  pub disk_is : end.disk ≡ ended

-- an import of the disk may be refused so: for what its bytes say, and not as one of a pool that isn't sound
abbrev pub IsRefusedOn : Disk → PoolError → Type 0
IsRefusedOn disk e = IsReason (bytes_of disk.now) e × IsOfSoundPool e

-- The import and the steps of a round: the steps replied, or none was made for a refusal of the import or of want of
-- memory, and then what the earlier run left is left still.
pub record IsRoundOver (dirty_max moment : ℕ) (ss : List declared_step.Step) (answer : Answer) (earlier later : Past) (disk ended : Disk) : Type 0 where
  pub goes_on : GoesOnFrom disk ended
  pub steps : MatchResult answer (λ replies. AreStepsFrom dirty_max moment ss replies.items earlier later disk ended) (λ e. (later ≡ earlier) × IsRefusedOn disk e)

-- so a round is over, and a run with the past that is left then left the disk that it ended on
abbrev pub IsOverFor : (dirty_max moment : ℕ) → List declared_step.Step → Answer → Past → Disk → Disk → Type 0
IsOverFor dirty_max moment ss answer past disk ended = ∥ ((later : Past) × IsRoundOver dirty_max moment ss answer past later disk ended × IsLeft later ended) ∥₁

-- what the end of a round makes of the disk
abbrev pub IsEndOf : End → Disk → Disk → Type 0
IsEndOf (Crash pieces) ended next = next ≡ certain (crash_image pieces.items ended.now) ended
IsEndOf GivenUp ended next = next ≡ ended

-- No place that a crash left passes its check by chance: that is what is asked of a crash.
abbrev pub IsFairEnd : End → (created : ℕ) → Disk → Type 0
IsFairEnd (Crash pieces) created ended = IsFairOn ended created (crash_image pieces.items ended.now)
IsFairEnd GivenUp created ended = Unit {0}

-- A round, from what an earlier run left on a disk: its import and its steps, its end with the next disk, and, where
-- that was fair, what holds of the past that is left then.
pub record GoesAsRound (round : Round) (answer : Answer) (past : Past) (disk next : Disk) (Then : Past → Type 0) : Type 0 where
  pub later : Past
  pub ended : Disk
  pub over : IsRoundOver round.dirty_max round.moment round.steps.items answer past later disk ended
  pub end : IsEndOf round.end ended next
  pub goes_on : IsFairEnd round.end past.created ended → Then later

-- so a round goes, and a run with the past that is left then left the next disk
abbrev pub IsRound : Round → Answer → Past → Disk → Disk → Type 0
IsRound round answer past disk next = ∥ GoesAsRound round answer past disk next (λ later. IsLeft later next) ∥₁

-- what the import after rounds came to: the contents that it shows, with the disk that it left, or its refusal
abbrev pub Outcome : Type 0
Outcome = Result (Contents × Disk) PoolError

-- The import of the disk that a run with this past left came to this: it shows the replay of a cut of the run's entries
-- with every acknowledged one, and left the last disk four groups later, or it is refused.
abbrev pub IsOutcome : Outcome → Past → Disk → Type 0
IsOutcome (Ok (found, last)) past disk = IsLeftBy past found × GoesOnFrom disk last × ((moment : ℕ) × IsOpened (bytes_of disk.now) (bytes_of last.now) moment)
IsOutcome (Err e) past disk = IsRefusedOn disk e

-- Rounds with these answers, from what an earlier run left on a disk: where each crash was fair, the import after them
-- came to this, from what the last run left, over contents that the run before it left, and so on to the first.
abbrev pub ComesTo : Outcome → List Round → List Answer → Past → Disk → Type 0
ComesTo outcome [] [] past disk = ∥ IsOutcome outcome past disk ∥₁
ComesTo outcome (round ∷ rounds) (answer ∷ answers) past disk =
    ∥ ((next : Disk) × GoesAsRound round answer past disk next (λ later. ComesTo outcome rounds answers later next)) ∥₁
ComesTo outcome [] (answer ∷ answers) past disk = ⊥
ComesTo outcome (round ∷ rounds) [] past disk = ⊥

-- so it is of each past of an earlier run that left the disk
abbrev pub ComesToFrom : Outcome → List Round → List Answer → Disk → Type 0
ComesToFrom outcome rounds answers disk = (past : Past) → IsLeft past disk → ComesTo outcome rounds answers past disk

-- and after the create of a pool of this name and guid at this moment, which began on this disk: nothing happened
-- before, and the pool had no object
pub record ComesToOfNew (outcome : Outcome) (name : List ℕ) (guid moment : ℕ) (rounds : List Round) (answers : List Answer) (start : Disk) : Type 0 where
  pub new : Contents
  pub is_new : AreNew name new
  pub made : Disk
  pub goes_on : GoesOnFrom start made
  pub written : IsNewPool (bytes_of made.now) name guid moment
  pub comes : ComesTo outcome rounds answers (new_past new (moments start) 0) made

-- so the import after the rounds finds the contents that they left
abbrev pub FindsCutsFrom : List Round → List Answer → Disk → Contents → Disk → Type 0
FindsCutsFrom rounds answers disk found last = ComesToFrom (Ok (found, last)) rounds answers disk

abbrev pub FindsCutsOfNew : (name : List ℕ) (guid moment : ℕ) → List Round → List Answer → Disk → Contents → Disk → Type 0
FindsCutsOfNew name guid moment rounds answers start found last = ComesToOfNew (Ok (found, last)) name guid moment rounds answers start

-- or it is refused, after rounds that had some answers, unless there was no memory for these
abbrev pub IsRefusedFrom : List Round → Disk → PoolError → Type 0
IsRefusedFrom rounds disk e = (e ≡ NoMemory) ⊎ ((answers : List Answer) × ComesToFrom (Err e) rounds answers disk)

-- so also after a create that was not refused
abbrev pub IsRefusedOfNew : (name : List ℕ) (guid moment : ℕ) → List Round → Disk → PoolError → Type 0
IsRefusedOfNew name guid moment rounds start e = (e ≡ NoMemory) ⊎ ((answers : List Answer) × ComesToOfNew (Err e) name guid moment rounds answers start)

-- a refusal of rounds with this limit at their end: no memory for the answers, or that of an import
abbrev pub IsRoundsRefusal : ℕ → PoolError → Type 0
IsRoundsRefusal dirty_max e = (e ≡ NoMemory) ⊎ ((size : ℕ) × IsImportRefusal size (is_dirty_max_allowed dirty_max) e)

-- after a create on a device of so many bytes, or that of the create
abbrev pub IsRoundsOfNewRefusal : ℕ → List ℕ → ℕ → PoolError → Type 0
IsRoundsOfNewRefusal size name dirty_max e = IsCreateRefusal size name e ⊎ (CanCreate size name × IsRoundsRefusal dirty_max e)

-- rounds that are left go on from the answers so far
abbrev pub GoesOnAs : List Round → List Round → List Answer → Disk → Disk → Type 0
GoesOnAs all left answers first now = (rest : List Answer) (outcome : Outcome) → ComesToFrom outcome left rest now → ComesToFrom outcome all (answers ++ rest) first
