-- Worked examples, computed by the definitions.
use Rattle.std.proofs.Common.{◌≡◌, ℕ, ◌+◌, ◌*◌, true, false, List, [], ◌∷◌, replicate, refl, map}
use Rattle.std.specs.Prelude.{nat_lt, codes}
use Rattle.base.specs.declared.names.ObjectId.{ObjectId}
use Rattle.base.specs.declared.operation.Op.TheVariants as op
use Rattle.base.specs.declared.operation.Shape.TheVariants as shape
use Rattle.base.specs.declared.range.Mode.TheVariants.{Reader, Writer}
use Rattle.base.specs.history.Plans.{records_touched, estimate_of, charge_of, log_record_size, is_plan_allowed}
use Rattle.base.specs.formats.Geometry.{is_geometry, block_count, block_address, label_place, slot_place, slot_of}
use Rattle.base.specs.steps.Locks.{Grant, is_blocked}
use Rattle.base.specs.steps.Refusals.{object_range, is_plan_blocked, is_plan_covered}
use Rattle.base.specs.steps.Groups.{Admission}
use Rattle.base.specs.formats.Limits.{one_level_length, log_block_room, max_log_record}
use Rattle.base.specs.formats.Records.{Record, bytes_of_record}
use Rattle.base.specs.steps.Logs.{total_size}
use Rattle.base.specs.steps.Charges.{available_of}

abbrev object : ℕ → ObjectId
object n = record { 0 = n }

-- a write of 4 bytes at 4,030 touches two records and one indirect block: estimate 6, charge 24,576
two_records : records_touched 4030 4 ≡ 2
two_records = refl

estimate_6 : estimate_of (shape.Write (object 1) 4030 4 ∷ []) ≡ 6
unfolding one_level_length
estimate_6 = refl

charge_24576 : charge_of (shape.Write (object 1) 4030 4 ∷ []) ≡ 24576
unfolding one_level_length
charge_24576 = refl

-- a write of 65,497 bytes has a record of 64 KiB, and one byte more is too large
record_65536 : log_record_size (shape.Write (object 1) 0 65497 ∷ []) ≡ max_log_record
record_65536 = refl

too_large : nat_lt max_log_record (log_record_size (shape.Write (object 1) 0 65498 ∷ [])) ≡ true
too_large = refl

-- a write of 3,969 bytes has a record that fills a log block, and one byte more makes it a long one
record_4008 : log_record_size (shape.Write (object 1) 0 3969 ∷ []) ≡ log_block_room
record_4008 = refl

long_record : nat_lt log_block_room (log_record_size (shape.Write (object 1) 0 3970 ∷ [])) ≡ true
long_record = refl

-- a write of one record is charged 20,480: two reach 40,960, and a third, or a create, would pass it
second_write : nat_lt 40960 (20480 + charge_of (shape.Write (object 1) 0 4 ∷ [])) ≡ false
unfolding one_level_length
second_write = refl

third_write : nat_lt 40960 (40960 + charge_of (shape.Write (object 1) 0 4 ∷ [])) ≡ true
unfolding one_level_length
third_write = refl

a_create : nat_lt 40960 (40960 + charge_of (shape.Create (object 1) ∷ [])) ≡ true
a_create = refl

-- a write right behind 338,688 bytes is estimated at 5 blocks, and one over their end at 7: it touches two records
-- and two indirect blocks
behind_one_level : estimate_of (shape.Write (object 1) 338688 4 ∷ []) ≡ 5
unfolding one_level_length
behind_one_level = refl

over_one_level : estimate_of (shape.Write (object 1) 338686 4 ∷ []) ≡ 7
unfolding one_level_length
over_one_level = refl

-- a write up to the greatest length is allowed; one byte further, and one of no bytes, are not
up_to_the_top : is_plan_allowed (shape.Write (object 1) 28449788 4 ∷ []) ≡ true
up_to_the_top = refl

past_the_top : is_plan_allowed (shape.Write (object 1) 28449789 4 ∷ []) ≡ false
past_the_top = refl

of_no_bytes : is_plan_allowed (shape.Write (object 1) 28449788 0 ∷ []) ≡ false
of_no_bytes = refl

no_shape : is_plan_allowed [] ≡ false
no_shape = refl

-- where blocks lie
eight_mebibytes : block_count 8388608 ≡ 896
eight_mebibytes = refl

six_mebibytes : block_count 6291456 ≡ 384
six_mebibytes = refl

last_block : block_address 383 ≡ 5763072
last_block = refl

one_gibibyte : block_count 1073741824 ≡ 260992
one_gibibyte = refl

no_geometry : is_geometry (12287 * 512) ≡ false
no_geometry = refl

smallest_geometry : is_geometry (12288 * 512) ≡ true
smallest_geometry = refl

-- where labels and uberblocks lie
labels : map (label_place 8388608) (0 ∷ 1 ∷ 2 ∷ 3 ∷ []) ≡ 0 ∷ 262144 ∷ 7864320 ∷ 8126464 ∷ []
labels = refl

uberblock_8 : slot_place 8388608 0 (slot_of 8) ≡ 139264
uberblock_8 = refl

slot_80 : slot_of 208 ≡ 80
slot_80 = refl

uberblock_208 : slot_place 8388608 0 (slot_of 208) ≡ 212992
uberblock_208 = refl

-- a writer of [0, 10) blocks a reader of [9, 12), and not one of [10, 12)
abbrev writer : ℕ → ℕ → ℕ → ℕ → Grant
writer owner n low high = record { id = 0; owner = owner; range = object_range n low high; mode = Writer }

a_byte_in_common : is_blocked (object_range 1 9 12) Reader (writer 1 1 0 10 ∷ []) ≡ true
a_byte_in_common = refl

side_by_side : is_blocked (object_range 1 10 12) Reader (writer 1 1 0 10 ∷ []) ≡ false
side_by_side = refl

after_an_append : is_blocked (object_range 1 200 201) Writer (writer 1 1 104 28449792 ∷ []) ≡ true
after_an_append = refl

-- an open write of [0, 4) blocks its owner's write of [2, 6), which its lock of [0, 100) covers
abbrev open_write : Admission
open_write = record { tx = 0; group = 9; owner = 1; plan = shape.Write (object 1) 0 4 ∷ [] }

covered_write : is_plan_covered 1 (shape.Write (object 1) 2 4 ∷ []) (writer 1 1 0 100 ∷ []) ≡ true
covered_write = refl

blocked_write : is_plan_blocked (shape.Write (object 1) 2 4 ∷ []) (open_write ∷ []) ≡ true
blocked_write = refl

another_owner : is_plan_covered 2 (shape.Write (object 1) 2 4 ∷ []) (writer 1 1 0 100 ∷ []) ≡ false
another_owner = refl

-- records as they are spelled
create_record : bytes_of_record (record { group = 9; ordinal = 0; ops = op.Create (object 1) ∷ [] })
    ≡ 0x1b ∷ 0 ∷ 0 ∷ 0 ∷ 9 ∷ 0 ∷ 0 ∷ 0 ∷ 0 ∷ 0 ∷ 0 ∷ 0 ∷ 0 ∷ 0 ∷ 0 ∷ 0 ∷ 0 ∷ 0 ∷ 0 ∷ 0 ∷ 1 ∷ 0 ∷ 1 ∷ 1 ∷ 0 ∷ 0 ∷ 0 ∷ []
create_record = refl

write_record : bytes_of_record (record { group = 10; ordinal = 1; ops = op.Write (object 1) 100 (codes "wxyz") ∷ [] })
    ≡ 0x2b ∷ 0 ∷ 0 ∷ 0 ∷ 0x0a ∷ 0 ∷ 0 ∷ 0 ∷ 0 ∷ 0 ∷ 0 ∷ 0 ∷ 1 ∷ 0 ∷ 0 ∷ 0 ∷ 0 ∷ 0 ∷ 0 ∷ 0 ∷ 1 ∷ 0
    ∷ 3 ∷ 1 ∷ 0 ∷ 0 ∷ 0 ∷ 0x64 ∷ 0 ∷ 0 ∷ 0 ∷ 0 ∷ 0 ∷ 0 ∷ 0 ∷ 4 ∷ 0 ∷ 0 ∷ 0 ∷ 0x77 ∷ 0x78 ∷ 0x79 ∷ 0x7a ∷ []
write_record = refl

-- the two records have 70 bytes, and 148 creates fill a log block
abbrev creates : ℕ → List Record
creates n = replicate n (record { group = 9; ordinal = 0; ops = op.Create (object 1) ∷ [] })

used_70 : total_size (record { group = 9; ordinal = 0; ops = op.Create (object 1) ∷ [] }
    ∷ record { group = 10; ordinal = 1; ops = op.Write (object 1) 100 (codes "wxyz") ∷ [] } ∷ []) ≡ 70
used_70 = refl

fits_148 : total_size (creates 148) ≡ 3996
fits_148 = refl

not_149 : nat_lt log_block_room (total_size (creates 149)) ≡ true
not_149 = refl

-- 797 creates and removes
plan_797 : log_record_size (replicate 797 (shape.Create (object 1))) ≡ 4007
plan_797 = refl

estimate_1594 : charge_of (replicate 797 (shape.Create (object 1))) ≡ 6529024
estimate_1594 = refl

-- free 893, of 12 reserved blocks 2 taken
available_883 : available_of 893 12 2 ≡ 883
available_883 = refl
