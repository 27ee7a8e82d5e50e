-- The places of a tree, their order in its walk, and the pointers that stand there. The records of an object lie in
-- strips of 84, each below an indirect block. In an object of two levels a top names these blocks.
use Rattle.std.specs.Prelude.{length, slice_get, Some, ℕ, ◌≡◌, ◌≢◌, ◌<◌, ◌+◌, ◌*◌, ◌/◌, ◌%◌, ◌==◌, Bool, not, List, if◌then◌else◌}
use Rattle.base.specs.declared.pointer.Pointer.{Pointer}
use Rattle.base.specs.formats.Limits.{object_count, indirect_count, record_size, pointer_count, entry_count, strip_stride, object_stride, directory_stride}
use Rattle.base.specs.formats.Fields.{pointer_in, entry_in, entry_present, entry_pointer, no_pointer}
use Rattle.base.specs.formats.Blocks.{payload_at}

-- a place of a tree
pub data Place : Type 0 where
  Root : Place
  Directory : ℕ → Place
  Top : ℕ → Place
  Indirect : ℕ → Place
  Data : ℕ → ℕ → Place

abbrev pub IsPlace : Place → Type 0
IsPlace Root = Unit {0}
IsPlace (Directory d) = d < pointer_count
IsPlace (Top n) = n < object_count
IsPlace (Indirect m) = m < indirect_count
IsPlace (Data m k) = (m < indirect_count) × (k < pointer_count)

-- the number of strip j of object n, which its indirect block has
abbrev pub strip_number : ℕ → ℕ → ℕ
strip_number n j = n + object_count * j

-- the object of a strip, and which of its strips it is
abbrev pub object_of_indirect : ℕ → ℕ
object_of_indirect m = m % object_count

abbrev pub strip_of : ℕ → ℕ
strip_of m = m / object_count

-- the number in its object of the k-th record of its strip j, and of the k-th record of strip m
abbrev pub record_of_strip : ℕ → ℕ → ℕ
record_of_strip j k = pointer_count * j + k

abbrev pub record_number : ℕ → ℕ → ℕ
record_number m k = record_of_strip (strip_of m) k

-- where the k-th record of strip m begins in its object, and where its strip j does
abbrev pub record_start : ℕ → ℕ → ℕ
record_start m k = record_size * record_number m k

abbrev pub strip_start : ℕ → ℕ
strip_start j = record_size * (pointer_count * j)

-- the kind and the number of the block at a place
abbrev pub kind_of : Place → ℕ
kind_of Root = 2
kind_of (Directory d) = 3
kind_of (Top n) = 7
kind_of (Indirect m) = 4
kind_of (Data m k) = 5

abbrev pub number_of_place : Place → ℕ
number_of_place Root = 0
number_of_place (Directory d) = d
number_of_place (Top n) = n
number_of_place (Indirect m) = m
number_of_place (Data m k) = pointer_count * m + k

-- the index of a place in the walk: each directory before its objects, the top of an object before its strips, each
-- indirect block before its records
abbrev pub walk_index_of_object : ℕ → ℕ
walk_index_of_object n = 2 + directory_stride * (n / entry_count) + object_stride * (n % entry_count)

abbrev pub walk_index_of_indirect : ℕ → ℕ
walk_index_of_indirect m = walk_index_of_object (object_of_indirect m) + 1 + strip_stride * strip_of m

abbrev pub walk_index_of : Place → ℕ
walk_index_of Root = 0
walk_index_of (Directory d) = 1 + directory_stride * d
walk_index_of (Top n) = walk_index_of_object n
walk_index_of (Indirect m) = walk_index_of_indirect m
walk_index_of (Data m k) = walk_index_of_indirect m + 1 + k

-- what a pointer's block gives, where there is one: a pointer, or a number
abbrev pub pointer_below : List ℕ → Pointer → (List ℕ → Pointer) → Pointer
pointer_below image above f = if above.address == 0 then no_pointer else f (payload_at image above.address)

abbrev pub number_below : List ℕ → Pointer → (List ℕ → ℕ) → ℕ
number_below image above f = if above.address == 0 then 0 else f (payload_at image above.address)

abbrev pub directory_pointer : List ℕ → Pointer → ℕ → Pointer
directory_pointer image root d = pointer_below image root (λ payload. pointer_in payload d)

-- how many levels the entry of object n gives it, and the pointer of that entry
abbrev pub levels_in : List ℕ → Pointer → ℕ → ℕ
levels_in image root n = number_below image (directory_pointer image root (n / entry_count)) (λ payload. entry_present (entry_in payload (n % entry_count)))

abbrev pub below_pointer : List ℕ → Pointer → ℕ → Pointer
below_pointer image root n = pointer_below image (directory_pointer image root (n / entry_count)) (λ payload. entry_pointer (entry_in payload (n % entry_count)))

-- the entry of an object of two levels names its top, and that of any other its first indirect block
abbrev pub top_pointer : List ℕ → Pointer → ℕ → Pointer
top_pointer image root n = if levels_in image root n == 2 then below_pointer image root n else no_pointer

abbrev pub indirect_pointer : List ℕ → Pointer → ℕ → Pointer
indirect_pointer image root m =
    if levels_in image root (object_of_indirect m) == 2 then pointer_below image (top_pointer image root (object_of_indirect m)) (λ payload. pointer_in payload (strip_of m))
    else if strip_of m == 0 then below_pointer image root (object_of_indirect m)
    else no_pointer

abbrev pub data_pointer : List ℕ → Pointer → ℕ → ℕ → Pointer
data_pointer image root m k = pointer_below image (indirect_pointer image root m) (λ payload. pointer_in payload k)

-- the pointer at a place of the tree under a root pointer
abbrev pub pointer_of : List ℕ → Pointer → Place → Pointer
pointer_of image root Root = root
pointer_of image root (Directory d) = directory_pointer image root d
pointer_of image root (Top n) = top_pointer image root n
pointer_of image root (Indirect m) = indirect_pointer image root m
pointer_of image root (Data m k) = data_pointer image root m k

-- whether the tree has a block at a place
abbrev pub has_block : List ℕ → Pointer → Place → Bool
has_block image root place = not ((pointer_of image root place).address == 0)

-- the tree has a block at this address
pub record IsInTree (image : List ℕ) (root : Pointer) (address : ℕ) : Type 0 where
  pub place : Place
  pub in_range : IsPlace place
  pub named : (pointer_of image root place).address ≡ address
  pub there : address ≢ 0

-- in the tree under a root pointer these places have blocks at these addresses, one for one
pub record HaveAddresses (image : List ℕ) (root : Pointer) (places : List Place) (addresses : List ℕ) : Type 0 where
  pub as_many : length places ≡ length addresses
  pub each : (i : ℕ) (place : Place) (address : ℕ) → slice_get places i ≡ Some place → slice_get addresses i ≡ Some address
      → (pointer_of image root place).address ≡ address
