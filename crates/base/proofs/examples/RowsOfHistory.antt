-- A transaction that commits late into an older group, and the cuts of that history.
use Rattle.std.proofs.Common.{◌≡◌, ℕ, zero, suc, ◌<◌, Bool, true, false, List, [], ◌∷◌, ◌++◌, replicate, refl, arith, inl, inr}
use Rattle.std.specs.Prelude.{Some, None, Ok, Err, codes, length, get_or}
use Rattle.std.specs.Ordering.{nat_cmp}
use Rattle.std.specs.FinMap as map
use Rattle.std.specs.Cmp.{nat_cmp_total}
use Rattle.base.specs.declared.error.PoolError.TheVariants as PoolError
use Rattle.base.specs.declared.names.ObjectId.{ObjectId}
use Rattle.base.specs.declared.operation.Op.TheVariants as op
use Rattle.base.specs.history.Contents.{Contents, with_object, length_of, bytes_after_write}
use Rattle.base.specs.history.History.{Entry, conflicts, replay, kept, IsCut, entries_up_to}
use Rattle.base.specs.steps.Groups.{IsLine, MayHold}
use Rattle.base.specs.tree.Syncs.{record_state}
use Rattle.base.specs.declared.record_state.RecordState.TheVariants.{Unchanged, Dirty, Hole}
use Rattle.base.specs.steps.Steps.{bytes_in}
use Rattle.base.specs.steps.Refusals.{object_range}

abbrev object : ℕ → ObjectId
object n = record { 0 = n }

-- object 1 is created in group 9; a write of [100, 104) commits in group 10, and then one of [0, 4) in group 9
abbrev the_create : Entry
the_create = record { group = 9; tx = 0; ops = op.Create (object 1) ∷ [] }

abbrev the_late : Entry
the_late = record { group = 10; tx = 2; ops = op.Write (object 1) 100 (codes "wxyz") ∷ [] }

abbrev the_early : Entry
the_early = record { group = 9; tx = 1; ops = op.Write (object 1) 0 (codes "abcd") ∷ [] }

abbrev the_entries : List Entry
the_entries = the_create ∷ the_late ∷ the_early ∷ []

create_conflicts : conflicts the_create the_late ≡ true
create_conflicts = refl

writes_apart : conflicts the_late the_early ≡ false
writes_apart = refl

up_to_9 : entries_up_to 9 the_entries ≡ the_create ∷ the_early ∷ []
up_to_9 = refl

-- the entries up to group 9 are the marked ones, and a cut
abbrev the_marks : List Bool
the_marks = true ∷ false ∷ true ∷ []

marked : kept the_marks the_entries ≡ entries_up_to 9 the_entries
marked = refl

closed : (i j : ℕ) (d : Entry) → i < j → j < length the_entries → conflicts (get_or the_entries i d) (get_or the_entries j d) ≡ true
    → get_or the_marks j false ≡ true → get_or the_marks i false ≡ true
closed zero j d below within conflict marked_j = refl
closed (suc zero) zero d below within conflict marked_j = absurd (omega arith)
closed (suc zero) (suc zero) d below within conflict marked_j = absurd (omega arith)
closed (suc zero) (suc (suc zero)) d below within conflict marked_j = let never : false ≡ true = conflict in cc
closed (suc zero) (suc (suc (suc j))) d below within conflict marked_j = absurd (omega (arith, within))
closed (suc (suc zero)) j d below within conflict marked_j = refl
closed (suc (suc (suc i))) j d below within conflict marked_j = absurd (omega (arith, below, within))

the_cut : IsCut the_marks the_entries
the_cut = record { each = refl; closed = closed }

-- what the cut replays to: object 1 has length 4, and nothing of the late write
abbrev empty_pool : Contents
empty_pool = record { name = codes "tank"; objects = map.empty }

abbrev after_cut : Contents
after_cut = with_object (with_object empty_pool 1 (Some [])) 1 (Some (codes "abcd"))

cut_replays : replay (kept the_marks the_entries) empty_pool ≡ Ok after_cut
cut_replays = simp (map.get-empty {X = List ℕ} nat_cmp, map.get-insert {X = List ℕ} nat_cmp_total) refl

cut_length : length_of after_cut 1 ≡ Some 4
cut_length = simp (map.get-empty {X = List ℕ} nat_cmp, map.get-insert {X = List ℕ} nat_cmp_total) refl

-- with both writes object 1 has 104 bytes
abbrev after_all : Contents
after_all = with_object (with_object (with_object empty_pool 1 (Some [])) 1 (Some (bytes_after_write 100 (codes "wxyz") []))) 1 (Some (bytes_after_write 0 (codes "abcd") (bytes_after_write 100 (codes "wxyz") [])))

all_replay : replay the_entries empty_pool ≡ Ok after_all
all_replay = simp (map.get-empty {X = List ℕ} nat_cmp, map.get-insert {X = List ℕ} nat_cmp_total) refl

read_all : bytes_in (object_range 1 0 110) (bytes_after_write 0 (codes "abcd") (bytes_after_write 100 (codes "wxyz") [])) ≡ codes "abcd" ++ replicate 96 0 ++ codes "wxyz"
read_all = refl

read_past : bytes_in (object_range 1 104 110) (bytes_after_write 0 (codes "abcd") (bytes_after_write 100 (codes "wxyz") [])) ≡ []
read_past = refl

-- a second create of a present object, and a write to an absent one, are refused
second_create : replay (the_create ∷ the_create ∷ []) empty_pool ≡ Err PoolError.Exists
second_create = simp (map.get-empty {X = List ℕ} nat_cmp, map.get-insert {X = List ℕ} nat_cmp_total) refl

absent_write : replay (the_early ∷ []) empty_pool ≡ Err PoolError.NoObject
absent_write = simp (map.get-empty {X = List ℕ} nat_cmp) refl

-- synced 8, nothing syncing, 9 quiescing, 10 open
the_line : IsLine (record { synced = 8; syncing = None; middle = Some (record { group = 9; quiesced = false }); open_group = 10 })
the_line = record { first = omega arith; syncing = tt; middle = refl; open_group = refl; last = omega arith }

-- synced 8, 9 syncing, 10 quiesced, 11 open
the_full_line : IsLine (record { synced = 8; syncing = Some 9; middle = Some (record { group = 10; quiesced = true }); open_group = 11 })
the_full_line = record { first = omega arith; syncing = refl; middle = refl; open_group = refl; last = omega arith }

-- a gap is no line
no_gap : IsLine (record { synced = 8; syncing = None; middle = None; open_group = 10 }) → ⊥
no_gap l = absurd (omega (arith, l.open_group))

-- a cut of an object of 5,000 bytes to 4,500 writes its second record; one to 4,032 makes a hole of it
abbrev pool_of_5000 : Contents
pool_of_5000 = with_object empty_pool 1 (Some (replicate 5000 0))

cut_into : record_state 1 1 (op.SetLength (object 1) 4500 ∷ []) pool_of_5000 Unchanged ≡ Dirty
cut_into = simp (map.get-insert {X = List ℕ} nat_cmp_total) refl

cut_off : record_state 1 1 (op.SetLength (object 1) 4032 ∷ []) pool_of_5000 Unchanged ≡ Hole
cut_off = simp (map.get-insert {X = List ℕ} nat_cmp_total) refl

cut_behind : record_state 1 0 (op.SetLength (object 1) 4032 ∷ []) pool_of_5000 Unchanged ≡ Unchanged
cut_behind = simp (map.get-insert {X = List ℕ} nat_cmp_total) refl

no_cut : record_state 1 1 (op.SetLength (object 1) 5000 ∷ []) pool_of_5000 Unchanged ≡ Unchanged
no_cut = simp (map.get-insert {X = List ℕ} nat_cmp_total) refl

-- where there is no middle, only the open group may have open transactions
no_older_hold : MayHold (record { synced = 8; syncing = None; middle = None; open_group = 9 }) 8 → ⊥
no_older_hold (inl is) = absurd (omega (arith, is))
no_older_hold (inr never) = absurd never

-- a quiesced middle may not have any
no_quiesced_hold : MayHold (record { synced = 8; syncing = None; middle = Some (record { group = 9; quiesced = true }); open_group = 10 }) 9 → ⊥
no_quiesced_hold (inl is) = absurd (omega (arith, is))
no_quiesced_hold (inr h) = absurd (let wrong : true ≡ false = h.1 in cc)
