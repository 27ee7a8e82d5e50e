-- What holds of the counts of holds, beside the transactions that are open.
use Rattle.std.specs.Prelude.{ℕ, ◌≡◌, ◌<◌, ◌==◌, ◌++◌, false, not, List, [], ◌∷◌, length, slice_get, Some}
use Rattle.std.specs.Option.{option_map_or}
use Rattle.base.specs.history.History.{Entry}
use Rattle.base.specs.steps.Groups.{AreNamedApart, Line, Admission, AreMembers, open_transactions, hold_count}
use Rattle.base.specs.steps.Refusals.{quiescing_group, quiesced_group}
use Rattle.base.specs.steps.Steps.{transactions_without}
use Rattle.groups.specs.CountedLines.{CountedLine, IsCounted, holds_of, hold_total, counted_behind, after_hold, after_release, after_close, after_quiesce, after_start, after_sync, is_close_refused, is_quiesce_refused}

-- each group has as many holds as it has open transactions
abbrev pub AreHoldsExact : List Admission → CountedLine → Type 0
AreHoldsExact transactions l = (group : ℕ) → holds_of l group ≡ hold_count group transactions

-- so it is of the open transactions of a pool
abbrev pub OpenOnesAreNamedApart : Type 0
OpenOnesAreNamedApart = (l : Line) (admissions : List Admission) (entries : List Entry) (aborted : List ℕ) → AreMembers l admissions entries aborted
    → AreNamedApart (open_transactions admissions entries aborted)

-- the counts stay exact where a transaction begins in the open group
abbrev pub BeginsAreHeld : Type 0
BeginsAreHeld = (transactions : List Admission) (l : CountedLine) (a : Admission) → AreHoldsExact transactions l → a.group ≡ l.line.open_group
    → AreHoldsExact (transactions ++ a ∷ []) (after_hold l)

-- a transaction that ends has a hold, and without both the counts stay exact
pub record IsReleased (transactions : List Admission) (l : CountedLine) (a : Admission) : Type 0 where
  pub hold : 0 < holds_of l a.group
  pub exact : AreHoldsExact (transactions_without a.tx transactions) (after_release a.group l)

abbrev pub EndsAreReleased : Type 0
EndsAreReleased = (transactions : List Admission) (l : CountedLine) (i : ℕ) (a : Admission) → AreHoldsExact transactions l → AreNamedApart transactions
    → slice_get transactions i ≡ Some a → IsReleased transactions l a

-- the counts stay exact where the line moves on
pub record StayExact (transactions : List Admission) (l : CountedLine) : Type 0 where
  pub close : is_close_refused l.line ≡ false → AreHoldsExact transactions (after_close l)
  pub quiesce : (group : ℕ) → quiescing_group l.line ≡ Some group → AreHoldsExact transactions (after_quiesce group l)
  pub start : (group : ℕ) → quiesced_group l.line ≡ Some group → AreHoldsExact transactions (after_start group l)
  pub sync : (group : ℕ) → AreHoldsExact transactions (after_sync group l)

abbrev pub MovesKeepHolds : Type 0
MovesKeepHolds = (transactions : List Admission) (l : CountedLine) → IsCounted l → AreHoldsExact transactions l → StayExact transactions l

-- after a synced group no transaction is open
abbrev pub NewLinesHaveNoHold : Type 0
NewLinesHaveNoHold = (group : ℕ) → AreHoldsExact [] (counted_behind group)

-- exact counts tell how many transactions are open, and whether the quiescing group has one
pub record CountTransactions (transactions : List Admission) (l : CountedLine) : Type 0 where
  pub total : hold_total l ≡ length transactions
  pub refused : is_quiesce_refused l ≡ not (option_map_or (λ group. hold_count group transactions == 0) (quiescing_group l.line) false)

abbrev pub HoldsCountTransactions : Type 0
HoldsCountTransactions = (transactions : List Admission) (l : CountedLine) → IsCounted l → AreHoldsExact transactions l → CountTransactions transactions l
