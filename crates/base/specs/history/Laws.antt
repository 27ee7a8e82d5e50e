-- What holds of every history.
use Rattle.std.specs.Prelude.{ℕ, ◌≡◌, ◌≤◌, ◌<◌, ◌+◌, ◌↔◌, ◌⊎◌, length, get_or, Bool, true, false, not, Any, fold, flat_map, List, [], ◌∷◌, ◌++◌, take, map, All, nat_le, Ok}
use Rattle.std.specs.FinMap as map
use Rattle.base.specs.declared.operation.Op.{Op}
use Rattle.base.specs.history.Sequences.{Commute}
use Rattle.base.specs.history.Contents.{Contents, apply, object_after}
use Rattle.base.specs.history.Plans.{NumberRange, IsRange, ranges, plan_ranges, shape_of, clash, HaveCommon, touched, overlaps}
use Rattle.base.specs.history.History.{Entry, MayFollow, Admitted, AreAdmitted, HasAcknowledged, IsDurable, IsWithin, IsHistory, conflicts, run, replay, kept, IsCut, IsInGroupOrder, entries_up_to, entries_above, entries_in, group_by_group, left_marks, AreRising, IsFrontMarked}

-- ranges overlap exactly if they have a byte in common
abbrev pub OverlapsAreCommon : Type 0
OverlapsAreCommon = (a b : NumberRange) → IsRange a → IsRange b → (overlaps a b ≡ true) ↔ HaveCommon a b

-- and lists of ranges clash exactly if a range of the one overlaps one of the other
abbrev pub ClashesAreOverlaps : Type 0
ClashesAreOverlaps = (xs ys : List NumberRange) → (clash xs ys ≡ true) ↔ Any (λ x. Any (λ y. overlaps x y ≡ true) ys) xs

-- in whichever order
abbrev pub ClashesTurn : Type 0
ClashesTurn = (xs ys : List NumberRange) → clash xs ys ≡ clash ys xs

-- what a transaction touches is what its plan says
abbrev pub PlansTouch : Type 0
PlansTouch = (ops : List Op) → ranges ops ≡ plan_ranges (map shape_of ops)

-- operations commute where they touch no byte in common
abbrev pub OpsCommute : Type 0
OpsCommute = (a b : Op) → IsRange (touched a) → IsRange (touched b) → overlaps (touched a) (touched b) ≡ false → Commute (apply a) (apply b)

-- transactions commute where they don't conflict
abbrev pub EntriesCommute : Type 0
EntriesCommute = (e f : Entry) → IsWithin e → IsWithin f → conflicts e f ≡ false → Commute (run e) (run f)

-- where a history replays, the entries of a cut do, and the others after them come to the same contents
abbrev pub CutsReplay : Type 0
CutsReplay = (marks : List Bool) (entries : List Entry) (base now : Contents) → All IsWithin entries → IsCut marks entries → replay entries base ≡ Ok now
    → (cut : Contents) × (replay (kept marks entries) base ≡ Ok cut) × (replay (kept (map not marks) entries) cut ≡ Ok now)

-- and a cut is itself a history
abbrev pub CutsAreHistories : Type 0
CutsAreHistories = (marks : List Bool) (entries : List Entry) (base now : Contents) → IsHistory entries base now → IsCut marks entries
    → (cut : Contents) × IsHistory (kept marks entries) base cut

-- the entries of groups up to any one are a cut
abbrev pub GroupsAreCuts : Type 0
GroupsAreCuts = (entries : List Entry) (group : ℕ) → IsInGroupOrder entries
    → IsCut (map (λ (e : Entry). nat_le e.group group) entries) entries × (kept (map (λ (e : Entry). nat_le e.group group) entries) entries ≡ entries_up_to group entries)

-- each tree is made from one of an earlier group by the changes of the groups between, in turn
abbrev pub GroupsReplay : Type 0
GroupsReplay = (entries : List Entry) (synced count : ℕ) (base now : Contents) → IsHistory entries base now
    → (tree later : Contents) × (replay (entries_up_to synced entries) base ≡ Ok tree) × (replay (entries_up_to (synced + count) entries) base ≡ Ok later)
    × (replay (group_by_group (synced + 1) count entries) tree ≡ Ok later)

-- the tree of the next group is made from the tree by the changes of that group
abbrev pub TreesFollow : Type 0
TreesFollow = (entries : List Entry) (synced : ℕ) (base now tree : Contents) → IsHistory entries base now → replay (entries_up_to synced entries) base ≡ Ok tree
    → (next : Contents) × (replay (entries_in (synced + 1) entries) tree ≡ Ok next) × (replay (entries_up_to (synced + 1) entries) base ≡ Ok next)

-- the changes of all unsynced groups in turn, made to the synced tree, give the contents
abbrev pub GroupsGiveContents : Type 0
GroupsGiveContents = (entries : List Entry) (synced count : ℕ) (base now : Contents) → IsHistory entries base now → All (λ (e : Entry). e.group ≤ synced + count) entries
    → (tree : Contents) × (replay (entries_up_to synced entries) base ≡ Ok tree) × (replay (group_by_group (synced + 1) count entries) tree ≡ Ok now)

-- a tree and the log's records of higher groups give the replay of a cut, that of the tree's entries and the logged
-- ones
abbrev pub LogsReplay : Type 0
LogsReplay = (entries : List Entry) (synced logged : ℕ) (base now : Contents) → IsHistory entries base now
    → IsCut (left_marks synced logged entries) entries
    × ((tree left : Contents) × (replay (entries_up_to synced entries) base ≡ Ok tree) × (replay (entries_above synced (take logged entries)) tree ≡ Ok left)
    × (replay (kept (left_marks synced logged entries) entries) base ≡ Ok left))

-- the marks that a crash leaves are those of the tree's groups and of the log
abbrev pub LeftMarks : Type 0
LeftMarks = (entries : List Entry) (synced logged k : ℕ) (d : Entry) → k < length entries
    → (get_or (left_marks synced logged entries) k false ≡ true) ↔ ((k < logged) ⊎ ((get_or entries k d).group ≤ synced))

-- so where all that was acknowledged is durable, the tree and the log's records replay a cut with all of it; where
-- groups rise, a front
abbrev pub CrashesLeaveCuts : Type 0
CrashesLeaveCuts = (entries : List Entry) (acknowledged : List ℕ) (synced logged : ℕ) (base now : Contents) → IsHistory entries base now
    → All (IsDurable entries synced logged) acknowledged
    → (marks : List Bool) × (tree left : Contents) × IsCut marks entries × HasAcknowledged marks acknowledged × (replay (kept marks entries) base ≡ Ok left)
    × (replay (entries_up_to synced entries) base ≡ Ok tree) × (replay (entries_above synced (take logged entries)) tree ≡ Ok left)
    × (AreRising entries → IsFrontMarked marks)

-- what is durable stays so while the history, the tree and the log grow
abbrev pub DurableStays : Type 0
DurableStays = (entries more : List Entry) (synced logged later longer k : ℕ) → IsDurable entries synced logged k → synced ≤ later → logged ≤ longer → IsDurable (entries ++ more) later longer k

-- only the operations count, and not the groups and the names
abbrev pub OpsCount : Type 0
OpsCount = (xs ys : List Entry) (base : Contents) → map (λ (e : Entry). e.ops) xs ≡ map (λ (e : Entry). e.ops) ys → replay xs base ≡ replay ys base

-- a history grows by a transaction that can be the next and that takes place
abbrev pub HistoriesGrow : Type 0
HistoriesGrow = (entries : List Entry) (next : Entry) (base now later : Contents) → IsHistory entries base now → IsWithin next → MayFollow entries next.group (ranges next.ops) → run next now ≡ Ok later
    → IsHistory (entries ++ next ∷ []) base later

-- a transaction is admitted to the group that fills where it clashes with no open one
abbrev pub BeginsAdmit : Type 0
BeginsAdmit = (entries : List Entry) (filling : ℕ) (admitted : List Admitted) (touches : List NumberRange) → AreAdmitted entries filling admitted
    → All (λ (a : Admitted). clash a.touches touches ≡ false) admitted → AreAdmitted entries filling (admitted ++ record { group = filling; touches = touches } ∷ [])

-- one that is committed could be the next, and the others still can
abbrev pub CommitsFollow : Type 0
CommitsFollow = (entries : List Entry) (filling : ℕ) (before after : List Admitted) (a : Admitted) (next : Entry) → AreAdmitted entries filling (before ++ a ∷ after)
    → next.group ≡ a.group → ranges next.ops ≡ a.touches → MayFollow entries next.group (ranges next.ops) × AreAdmitted (entries ++ next ∷ []) filling (before ++ after)

-- so they can where it is given up, and where the group is closed
abbrev pub AbortsLeave : Type 0
AbortsLeave = (entries : List Entry) (filling : ℕ) (before after : List Admitted) (a : Admitted) → AreAdmitted entries filling (before ++ a ∷ after) → AreAdmitted entries filling (before ++ after)

abbrev pub ClosesLeave : Type 0
ClosesLeave = (entries : List Entry) (filling : ℕ) (admitted : List Admitted) → AreAdmitted entries filling admitted → AreAdmitted entries (filling + 1) admitted

-- a cut stays one when the history grows, the new transaction not in it
abbrev pub CutsStay : Type 0
CutsStay = (marks : List Bool) (entries : List Entry) (next : Entry) → IsCut marks entries
    → IsCut (marks ++ false ∷ []) (entries ++ next ∷ []) × (kept (marks ++ false ∷ []) (entries ++ next ∷ []) ≡ kept marks entries)

-- an object after a history is what the operations on it make of it, one by one
abbrev pub ObjectsReplay : Type 0
ObjectsReplay = (entries : List Entry) (base now : Contents) (n : ℕ) → replay entries base ≡ Ok now
    → map.get now.objects n ≡ fold (λ o op. object_after n op o) (map.get base.objects n) (flat_map (λ (e : Entry). e.ops) entries)
