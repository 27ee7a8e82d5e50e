-- What holds of the changes of all unsynced groups.
use Rattle.std.specs.Prelude.{ℕ, ◌≡◌, ◌+◌, ◌<◌, ◌≤◌, List, [], ◌∷◌, ◌++◌, All, None, Ok, unwrap_or}
use Rattle.std.specs.Ordering.{nat_cmp}
use Rattle.std.specs.FinMap.{FinMap}
use Rattle.base.specs.history.Contents.{Contents, name_given_by_all}
use Rattle.base.specs.history.History.{Entry, IsHistory, replay, entries_up_to}
use Rattle.base.specs.steps.Steps.{ops_of_group}
use Rattle.extents.specs.Patches.{ArePatchesOf, AreNumbered, Patches, laid_over}
use Rattle.unsynced_extents.specs.declared.unsynced.UnsyncedExtents.{UnsyncedExtents}
use Rattle.unsynced_extents.specs.Unsynced.{AppliesAt, KeepsOtherPlaces, LeavesChanges, MovesUp, changes_at, laid_all, laid_groups, name_at, name_over}

-- each of so many groups from this one on has the changes of its entries
abbrev pub ArePatchesOfGroups : ℕ → ℕ → List Entry → (ℕ → Patches) → Type 0
ArePatchesOfGroups group count entries patches = (g : ℕ) → group ≤ g → g < group + count → ArePatchesOf (ops_of_group g entries) (patches g)

-- the changes of the groups after the synced one, over its objects, are the contents
abbrev pub GroupsAreRead : Type 0
GroupsAreRead = (entries : List Entry) (synced count : ℕ) (base tree now : Contents) (patches : ℕ → Patches) → IsHistory entries base now
    → All (λ (e : Entry). e.group ≤ synced + count) entries → replay (entries_up_to synced entries) base ≡ Ok tree
    → ArePatchesOfGroups (synced + 1) count entries patches → AreNumbered tree.objects → AreNumbered now.objects
    → laid_groups count (synced + 1) patches tree.objects ≡ now.objects

-- the group at each place has the changes of its entries and the name that they give, where the oldest is the one
-- after the synced group
abbrev pub ArePatchesAt : ℕ → List Entry → UnsyncedExtents → Type 0
ArePatchesAt synced entries e = (place : ℕ) → place < 3 → ArePatchesOf (ops_of_group (synced + 1 + place) entries) (changes_at e place)

abbrev pub AreNamesAt : ℕ → List Entry → UnsyncedExtents → Type 0
AreNamesAt synced entries e = (place : ℕ) → place < 3 → name_at e place ≡ name_given_by_all (ops_of_group (synced + 1 + place) entries) None

-- the changes of the three groups after the synced one, over its objects, are the contents
abbrev pub UnsyncedAreRead : Type 0
UnsyncedAreRead = (entries : List Entry) (synced : ℕ) (base tree now : Contents) (e : UnsyncedExtents) → IsHistory entries base now
    → All (λ (e : Entry). e.group ≤ synced + 3) entries → replay (entries_up_to synced entries) base ≡ Ok tree
    → ArePatchesAt synced entries e → AreNumbered tree.objects → AreNumbered now.objects → laid_all e tree.objects ≡ now.objects

-- and the name that the newest of them gives, over the synced one, is the contents'
abbrev pub NamesAreRead : Type 0
NamesAreRead = (entries : List Entry) (synced : ℕ) (base tree now : Contents) (e : UnsyncedExtents) → IsHistory entries base now
    → All (λ (e : Entry). e.group ≤ synced + 3) entries → replay (entries_up_to synced entries) base ≡ Ok tree
    → AreNamesAt synced entries e → name_over e tree.name ≡ now.name

-- once the tree has the changes of the oldest group, the others over it give what all gave
abbrev pub OldestIsLaid : Type 0
OldestIsLaid = (old new : UnsyncedExtents) (below : FinMap nat_cmp (List ℕ)) → MovesUp old new
    → laid_all new (laid_over (changes_at old 0) below) ≡ laid_all old below

-- and so it is with the name
abbrev pub OldestNameIsLaid : Type 0
OldestNameIsLaid = (old new : UnsyncedExtents) (below : List ℕ) → MovesUp old new → name_over new (unwrap_or (name_at old 0) below) ≡ name_over old below

-- so they stay where what each group made stays,
abbrev pub LeftChanges : Type 0
LeftChanges = (synced : ℕ) (entries : List Entry) (old new : UnsyncedExtents) → LeavesChanges old new
    → (ArePatchesAt synced entries old → ArePatchesAt synced entries new) × (AreNamesAt synced entries old → AreNamesAt synced entries new)

-- with an entry more, whose operations are applied at its group's place,
abbrev pub AddedEntry : Type 0
AddedEntry = (synced place : ℕ) (entries : List Entry) (entry : Entry) (old new : UnsyncedExtents) → entry.group ≡ synced + 1 + place
    → AppliesAt place entry.ops old new → KeepsOtherPlaces place old new
    → (ArePatchesAt synced entries old → ArePatchesAt synced (entries ++ entry ∷ []) new) × (AreNamesAt synced entries old → AreNamesAt synced (entries ++ entry ∷ []) new)

-- and once the oldest group is synced, where the group that gets the last place has no entries
abbrev pub MovedGroups : Type 0
MovedGroups = (synced : ℕ) (entries : List Entry) (old new : UnsyncedExtents) → ops_of_group (synced + 4) entries ≡ [] → MovesUp old new
    → (ArePatchesAt synced entries old → ArePatchesAt (synced + 1) entries new) × (AreNamesAt synced entries old → AreNamesAt (synced + 1) entries new)
