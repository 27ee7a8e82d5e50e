-- The history of a run: transactions in the order in which they were committed.
use Rattle.std.specs.Prelude.{ℕ, zero, suc, ◌≡◌, ◌<◌, ◌≤◌, ◌⊎◌, ◌==◌, Bool, true, false, List, [], ◌∷◌, ◌++◌, length, get_or, map, filter, All, AllPairs, nat_lt, nat_le, Result, Ok}
use Rattle.base.specs.declared.error.PoolError.{PoolError}
use Rattle.base.specs.declared.operation.Op.{Op}
use Rattle.base.specs.history.Sequences.{in_turn}
use Rattle.base.specs.history.Contents.{Contents, apply}
use Rattle.base.specs.history.Plans.{NumberRange, IsRange, ranges, clash}

-- a committed transaction: its group, its name and its operations
pub record Entry : Type 0 where
  pub group : ℕ
  pub tx : ℕ
  pub ops : List Op

-- the contents after operations in order, or why the first one that can't take place can't
abbrev pub apply_all : List Op → Contents → Result Contents PoolError
apply_all ops c = in_turn apply ops c

-- the contents after a transaction
abbrev pub run : Entry → Contents → Result Contents PoolError
run e c = apply_all e.ops c

-- the contents after transactions in order
abbrev pub replay : List Entry → Contents → Result Contents PoolError
replay entries c = in_turn run entries c

-- a transaction whose operations each touch such a range
abbrev pub IsWithin : Entry → Type 0
IsWithin e = All IsRange (ranges e.ops)

-- whether two transactions conflict
abbrev pub conflicts : Entry → Entry → Bool
conflicts e f = clash (ranges e.ops) (ranges f.ops)

-- of two entries that conflict, the earlier has no higher group
abbrev pub IsInGroupOrder : List Entry → Type 0
IsInGroupOrder entries = AllPairs (λ e f. conflicts e f ≡ true → e.group ≤ f.group) entries

-- transactions of a run, in order, that lead from the one contents to the other
pub record IsHistory (entries : List Entry) (base now : Contents) : Type 0 where
  pub within : All IsWithin entries
  pub order : IsInGroupOrder entries
  pub replays : replay entries base ≡ Ok now

-- a transaction of this group that touches these ranges can be the next
abbrev pub MayFollow : List Entry → ℕ → List NumberRange → Type 0
MayFollow entries group touches = All (λ (e : Entry). clash (ranges e.ops) touches ≡ true → e.group ≤ group) entries

-- the elements whose place is marked
abbrev pub kept : {X : Type 0} → List Bool → List X → List X
kept [] xs = []
kept (mark ∷ marks) [] = []
kept (true ∷ marks) (x ∷ xs) = x ∷ kept marks xs
kept (false ∷ marks) (x ∷ xs) = kept marks xs

-- with an entry, each earlier one that conflicts with it is marked
pub record IsCut (marks : List Bool) (entries : List Entry) : Type 0 where
  pub each : length marks ≡ length entries
  pub closed : (i j : ℕ) (d : Entry) → i < j → j < length entries → conflicts (get_or entries i d) (get_or entries j d) ≡ true
      → get_or marks j false ≡ true → get_or marks i false ≡ true

-- groups rise with the ordinals: no entry is of a lower group than one before it
abbrev pub AreRising : List Entry → Type 0
AreRising entries = AllPairs (λ (e f : Entry). e.group ≤ f.group) entries

-- of what is marked, nothing unmarked is before it
abbrev pub IsFrontMarked : List Bool → Type 0
IsFrontMarked marks = (i j : ℕ) → i < j → get_or marks j false ≡ true → get_or marks i false ≡ true

-- the entries of groups up to this one, of higher ones, and of this one
abbrev pub entries_up_to : ℕ → List Entry → List Entry
entries_up_to group entries = filter (λ (e : Entry). nat_le e.group group) entries

abbrev pub entries_above : ℕ → List Entry → List Entry
entries_above group entries = filter (λ (e : Entry). nat_lt group e.group) entries

abbrev pub entries_in : ℕ → List Entry → List Entry
entries_in group entries = filter (λ (e : Entry). e.group == group) entries

-- the entries of so many groups from this one on, group by group
abbrev pub group_by_group : ℕ → ℕ → List Entry → List Entry
group_by_group group zero entries = []
group_by_group group (suc count) entries = entries_in group entries ++ group_by_group (suc group) count entries

-- the marks of the entries that a crash leaves where the tree has a group and the log has the first so many entries
abbrev pub left_marks : ℕ → ℕ → List Entry → List Bool
left_marks synced zero entries = map (λ (e : Entry). nat_le e.group synced) entries
left_marks synced (suc logged) [] = []
left_marks synced (suc logged) (e ∷ entries) = true ∷ left_marks synced logged entries

-- every entry that was acknowledged is marked
abbrev pub HasAcknowledged : List Bool → List ℕ → Type 0
HasAcknowledged marks acknowledged = All (λ k. get_or marks k false ≡ true) acknowledged

-- the entry at this place is of a group of the tree or in the log
pub record IsDurable (entries : List Entry) (synced logged k : ℕ) : Type 0 where
  pub committed : k < length entries
  pub stored : (k < logged) ⊎ ((d : Entry) → (get_or entries k d).group ≤ synced)

-- an open transaction: its group, and the ranges that its plan says
pub record Admitted : Type 0 where
  pub group : ℕ
  pub touches : List NumberRange

-- open transactions of groups up to the one that fills, apart from one another, each of which can be the next
pub record AreAdmitted (entries : List Entry) (filling : ℕ) (admitted : List Admitted) : Type 0 where
  pub committed : All (λ (e : Entry). e.group ≤ filling) entries
  pub below : All (λ (a : Admitted). a.group ≤ filling) admitted
  pub may_follow : All (λ (a : Admitted). MayFollow entries a.group a.touches) admitted
  pub apart : AllPairs (λ (a b : Admitted). clash a.touches b.touches ≡ false) admitted
