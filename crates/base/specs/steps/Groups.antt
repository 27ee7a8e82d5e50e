-- The line of transaction groups, and which transactions each has.
use Rattle.std.specs.Prelude.{ℕ, ◌≡◌, ◌≢◌, ◌+◌, ◌==◌, ◌<◌, ◌≤◌, ◌&&◌, ◌⊎◌, Bool, true, false, not, List, map, filter, AllPairs, length, slice_get, Option, Some, None, IfSome, IsSomeAnd, unwrap_or}
use Rattle.std.specs.List.{list_any}
use Rattle.base.specs.declared.operation.Shape.{Shape}
use Rattle.base.specs.formats.Limits.{first_group, last_number, max_log_record}
use Rattle.base.specs.history.Plans.{shape_of, plan_ranges, is_plan_allowed, log_record_size}
use Rattle.base.specs.history.History.{Entry, Admitted}
use Rattle.base.specs.steps.Locks.{is_in}

-- the group between the open one and the syncing one: it quiesces, or is quiesced and waits
pub record Middle : Type 0 where
  pub group : ℕ
  pub quiesced : Bool

pub record Line : Type 0 where
  pub synced : ℕ
  pub syncing : Option ℕ
  pub middle : Option Middle
  pub open_group : ℕ

-- the last group before the middle, and before the open group
abbrev pub before_middle : Line → ℕ
before_middle l = unwrap_or l.syncing l.synced

abbrev pub before_open : Option Middle → Line → ℕ
before_open None l = before_middle l
before_open (Some m) l = m.group

-- the unsynced groups are numbered without a gap from the synced one on, the open one last
pub record IsLine (l : Line) : Type 0 where
  pub first : first_group ≤ l.synced
  pub syncing : IfSome l.syncing (λ g. g ≡ l.synced + 1)
  pub middle : IfSome l.middle (λ m. m.group ≡ before_middle l + 1)
  pub open_group : l.open_group ≡ before_open l.middle l + 1
  pub last : l.open_group ≤ last_number

-- a transaction that was admitted
pub record Admission : Type 0 where
  pub tx : ℕ
  pub group : ℕ
  pub owner : ℕ
  pub plan : List Shape

-- no two transactions have one name
abbrev pub AreNamedApart : List Admission → Type 0
AreNamedApart transactions = AllPairs (λ (a b : Admission). a.tx ≢ b.tx) transactions

-- its group, and the ranges that its plan says
abbrev pub admitted_of : Admission → Admitted
admitted_of a = record { group = a.group; touches = plan_ranges a.plan }

-- whether a transaction of this name was committed
abbrev pub is_committed : ℕ → List Entry → Bool
is_committed tx entries = list_any (λ (e : Entry). tx == e.tx) entries

-- the admissions that are neither committed nor aborted
abbrev pub open_transactions : List Admission → List Entry → List ℕ → List Admission
open_transactions admissions entries aborted = filter (λ (a : Admission). not (is_committed a.tx entries) && not (is_in a.tx aborted)) admissions

-- how many open transactions a group has
abbrev pub hold_count : ℕ → List Admission → ℕ
hold_count group open_ones = length (filter (λ (a : Admission). a.group == group) open_ones)

-- the groups that may have open transactions: the open one and a quiescing middle
abbrev pub MayHold : Line → ℕ → Type 0
MayHold l g = (g ≡ l.open_group) ⊎ IsSomeAnd l.middle (λ m. (g ≡ m.group) × (m.quiesced ≡ false))

-- every admitted transaction is in one group, and is open, committed in that group, or aborted
pub record AreMembers (l : Line) (admissions : List Admission) (entries : List Entry) (aborted : List ℕ) : Type 0 where
  -- the admissions are numbered from 0 on in their order, so no name is used twice
  pub numbered : (i : ℕ) (a : Admission) → slice_get admissions i ≡ Some a → a.tx ≡ i
  pub known : (i : ℕ) (a : Admission) → slice_get admissions i ≡ Some a → a.group ≤ l.open_group
  pub allowed : (i : ℕ) (a : Admission) → slice_get admissions i ≡ Some a → (is_plan_allowed a.plan ≡ true) × (log_record_size a.plan ≤ max_log_record)
  -- an entry is an admission's, in its group and with the operations that its plan has the shapes of
  pub committed : (i : ℕ) (e : Entry) → slice_get entries i ≡ Some e
      → (a : Admission) × (slice_get admissions e.tx ≡ Some a) × (a.group ≡ e.group) × (map shape_of e.ops ≡ a.plan)
  pub once : (i j : ℕ) (e f : Entry) → i < j → slice_get entries i ≡ Some e → slice_get entries j ≡ Some f → e.tx ≡ f.tx → ⊥
  pub never_committed : (i t : ℕ) → slice_get aborted i ≡ Some t → (t < length admissions) × (is_committed t entries ≡ false)
  pub holding : (i : ℕ) (a : Admission) → slice_get (open_transactions admissions entries aborted) i ≡ Some a → MayHold l a.group
