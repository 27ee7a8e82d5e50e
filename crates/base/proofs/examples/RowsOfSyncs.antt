-- What syncs write, and their steps, counted.
use Rattle.std.proofs.Common.{◌≡◌, ℕ, ◌+◌, ◌&&◌, true, false, [], ◌∷◌, length, List, refl, ap, ◌∙◌}
use Rattle.std.specs.Prelude.{◌==◌, Bool, Ok, Some, slice_get, codes, if◌then◌else◌}
use Rattle.std.specs.List.{list_any}
use Rattle.std.specs.Cmp.{nat_cmp_total}
use Rattle.std.specs.Ordering.{nat_cmp}
use Rattle.std.specs.FinMap as map
use Rattle.base.specs.declared.names.ObjectId.{ObjectId}
use Rattle.base.specs.declared.operation.Op.{Op}
use Rattle.base.specs.declared.operation.Op.TheVariants as op
use Rattle.base.specs.declared.record_state.RecordState.TheVariants.{Unchanged}
use Rattle.base.specs.formats.Limits.{one_level_length}
use Rattle.base.specs.history.Contents.{Contents, with_object}
use Rattle.base.specs.history.History.{apply_all}
use Rattle.base.specs.tree.Places.{Place, number_of_place}
use Rattle.base.specs.tree.Places.Place.{Root, Directory, Top, Indirect, Data}
use Rattle.base.specs.tree.Syncs.{GroupChanges, group_changes, has_strip_after, is_strip_kept, is_long_object, is_strip_changed, pointer_numbers, is_indirect_written, is_top_written, other_step_count, places_of_strip, record_state}
use Rattle.base.proofs.tree.RecordStates.{contents-after_all}
use Rattle.base.specs.disk.SyncOrder.{sync_calls, import_calls}
use Rattle.base.specs.disk.SyncOrder.DeviceCall.{Config, Uberblock, Flush}

abbrev object : ℕ → ObjectId
object n = record { 0 = n }

abbrev empty_pool : Contents
empty_pool = record { name = codes "tank"; objects = map.empty }

-- the sync of a create and a write of one record writes the record and the first indirect block of object 1
abbrev the_ops : List Op
the_ops = op.Create (object 1) ∷ op.Write (object 1) 0 (codes "abcd") ∷ []

abbrev the_group : GroupChanges
the_group = group_changes the_ops empty_pool (λ place. false)

the_record : places_of_strip the_group 1 0 ≡ Data 1 0 ∷ []
the_record = refl

no_later_record : places_of_strip the_group 1 1 ≡ []
no_later_record = refl

abbrev after_them : Contents
after_them = with_object (with_object empty_pool 1 (Some [])) 1 (Some (codes "abcd"))

they_lead : apply_all the_ops empty_pool ≡ Ok after_them
they_lead = simp (map.get-empty {X = List ℕ} nat_cmp, map.get-insert {X = List ℕ} nat_cmp_total) refl

one_level : the_group.is_long 1 ≡ false
unfolding one_level_length
one_level = ap (λ (c : Contents). is_long_object (map.get c.objects 1)) (contents-after_all the_ops empty_pool after_them they_lead) ∙ simp (map.get-insert {X = List ℕ} nat_cmp_total) refl

the_indirect : is_indirect_written the_group 1 0 ≡ true
the_indirect = ap (λ (b : Bool). (if b then is_strip_changed the_group 1 0 else (0 == 0) && the_group.is_changed 1) && has_strip_after the_group 1 0) one_level

no_top : is_top_written the_group 1 ≡ false
no_top = ap (λ (b : Bool). (b && the_group.is_changed 1) && list_any (is_strip_kept the_group 1) pointer_numbers) one_level

-- that of a create alone writes neither
no_record : places_of_strip (group_changes (op.Create (object 1) ∷ []) empty_pool (λ place. false)) 1 0 ≡ []
no_record = refl

no_strip : has_strip_after (group_changes (op.Create (object 1) ∷ []) empty_pool (λ place. false)) 1 0 ≡ false
no_strip = refl

-- An object of 338,688 bytes, which has a block for its last record, is written right behind them. So it has two
-- levels: the record, the second indirect block and the top are written, and the first indirect block isn't.
abbrev has_last_record : Place → Bool
has_last_record Root = true
has_last_record (Directory d) = d == 0
has_last_record (Top n) = false
has_last_record (Indirect m) = m == 1
has_last_record (Data m k) = (m == 1) && (k == 83)

abbrev the_long_group : GroupChanges
the_long_group = record {
  state = λ n r. record_state n r (op.Write (object 1) 338688 (codes "wxyz") ∷ []) empty_pool Unchanged;
  had_block = has_last_record;
  is_changed = λ n. n == 1;
  is_touched = λ n. n == 1;
  is_present = λ n. n == 1;
  is_long = λ n. n == 1;
}

the_85th_record : places_of_strip the_long_group 1 1 ≡ Data 5293 0 ∷ []
the_85th_record = refl

its_number : number_of_place (Data 5293 0) ≡ 444612
its_number = refl

the_second_indirect : is_indirect_written the_long_group 1 1 ≡ true
the_second_indirect = refl

not_the_first : is_indirect_written the_long_group 1 0 ≡ false
not_the_first = refl

the_top : is_top_written the_long_group 1 ≡ true
the_top = refl

-- a create: 2 block writes, and the eighth step is the last flush
create_steps : length (sync_calls 2 (op.Create (object 1) ∷ [])) ≡ 8
create_steps = refl

create_last : slice_get (sync_calls 2 (op.Create (object 1) ∷ [])) 7 ≡ Some Flush
create_last = refl

-- seven steps of it end with the four uberblocks
create_seventh : slice_get (sync_calls 2 (op.Create (object 1) ∷ [])) 6 ≡ Some (Uberblock 3)
create_seventh = refl

-- an empty group: 6 steps
empty_steps : length (sync_calls 0 []) ≡ 6
empty_steps = refl

-- a new name alone: 12 steps; the fourth and the ninth are flushes, and the tenth writes the config of label 1
rename_steps : length (sync_calls 0 (op.SetName (codes "pond") ∷ [])) ≡ 12
rename_steps = refl

rename_fourth : slice_get (sync_calls 0 (op.SetName (codes "pond") ∷ [])) 3 ≡ Some Flush
rename_fourth = refl

rename_ninth : slice_get (sync_calls 0 (op.SetName (codes "pond") ∷ [])) 8 ≡ Some Flush
rename_ninth = refl

rename_tenth : slice_get (sync_calls 0 (op.SetName (codes "pond") ∷ [])) 9 ≡ Some (Config 1)
rename_tenth = refl

-- as many as are counted
counted : length (sync_calls 4 (op.SetName (codes "pond") ∷ [])) ≡ 4 + other_step_count (op.SetName (codes "pond") ∷ [])
counted = refl

-- an import of four blocks, none of the odd labels with the chosen config: they are first, and a flush follows the
-- uberblocks
import_flush : slice_get (import_calls 4 false) 12 ≡ Some Flush
import_flush = refl

import_uberblock : slice_get (import_calls 4 false) 11 ≡ Some (Uberblock 3)
import_uberblock = refl

import_first_label : slice_get (import_calls 4 false) 5 ≡ Some (Config 1)
import_first_label = refl
