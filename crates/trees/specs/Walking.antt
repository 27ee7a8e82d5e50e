-- The soundness of parts of a tree, by the order of its walk.
use Rattle.std.specs.Prelude.{ℕ, ◌≡◌, ◌≢◌, ◌≤◌, ◌<◌, ◌+◌, ◌*◌, List}
use Rattle.base.specs.declared.error.PoolError.{PoolError}
use Rattle.base.specs.declared.error.PoolError.TheVariants.{Damaged}
use Rattle.base.specs.declared.pointer.Pointer.{Pointer}
use Rattle.base.specs.formats.Fields.{no_pointer, pointer_in}
use Rattle.base.specs.formats.Blocks.{Frame}
use Rattle.base.specs.tree.Places.{Place, IsPlace, kind_of, walk_index_of, pointer_of, below_pointer, levels_in, object_of_indirect, strip_number}
use Rattle.base.specs.tree.Places.Place.{Directory, Indirect, Data}
use Rattle.base.specs.formats.Limits.{pointer_count, directory_stride}
use Rattle.base.specs.tree.Tree.{OpensAt}
use Rattle.tree_blocks.specs.Pointers.{pointer_of_list}
use Rattle.tree_blocks.specs.declared.forms.Entry.{Entry}
use Rattle.base.specs.tree.Damages.{IsSoundAt, length_in}

-- the places of the walk from one index up to another are sound
pub record AreSound (image : List ℕ) (frame : Frame) (root : Pointer) (start end : ℕ) : Type 0 where
  pub each : (other : Place) → IsPlace other → start ≤ walk_index_of other → walk_index_of other < end → IsSoundAt image frame root other

-- the first damage of the walk from an index on
pub record IsDamageFrom (image : List ℕ) (frame : Frame) (root : Pointer) (start kind address : ℕ) : Type 0 where
  pub place : Place
  pub in_range : IsPlace place
  pub kind_is : kind_of place ≡ kind
  pub address_is : (pointer_of image root place).address ≡ address
  pub damaged : IsSoundAt image frame root place → ⊥
  pub reached : start ≤ walk_index_of place
  pub before : AreSound image frame root start (walk_index_of place)

-- a Damaged tells the first damage of the walk from an index on
abbrev pub TellsDamage : List ℕ → Frame → Pointer → ℕ → PoolError → Type 0
TellsDamage image frame root start e = (kind address : ℕ) → e ≡ Damaged kind address → IsDamageFrom image frame root start kind address

-- where the walk comes to directory d, and to its objects
abbrev pub directory_index : ℕ → ℕ
directory_index d = 1 + directory_stride * d

abbrev pub objects_index : ℕ → ℕ
objects_index d = 2 + directory_stride * d

-- this pointer is to the k-th record of strip m in the image's tree, and its object has this length
pub record IsDataOf (image : List ℕ) (root : Pointer) (m k : ℕ) (pointer : Pointer) (size : ℕ) : Type 0 where
  pub at : pointer_of image root (Data m k) ≡ pointer
  pub there : pointer ≢ no_pointer
  pub size_is : length_in image root (object_of_indirect m) ≡ size

-- this payload has the pointers to the records of strip m in the image's tree, and its object has this length
pub record AreDataOf (image : List ℕ) (root : Pointer) (m : ℕ) (payload : List ℕ) (size : ℕ) : Type 0 where
  pub at : (k : ℕ) → k < pointer_count → pointer_of image root (Data m k) ≡ pointer_in payload k
  pub size_is : length_in image root (object_of_indirect m) ≡ size

-- this pointer is to the indirect block of strip m, and its object has this length
pub record IsIndirectOf (image : List ℕ) (root : Pointer) (m : ℕ) (indirect : Pointer) (size : ℕ) : Type 0 where
  pub at : pointer_of image root (Indirect m) ≡ indirect
  pub size_is : length_in image root (object_of_indirect m) ≡ size

-- this payload has the pointers to the strips of object n, which has two levels and this length
pub record AreStripsOf (image : List ℕ) (root : Pointer) (n : ℕ) (payload : List ℕ) (size : ℕ) : Type 0 where
  pub at : (j : ℕ) → j < pointer_count → pointer_of image root (Indirect (strip_number n j)) ≡ pointer_in payload j
  pub size_is : length_in image root n ≡ size

-- this pointer is to the top of object n, which has two levels and this length
pub record IsTopOf (image : List ℕ) (root : Pointer) (n : ℕ) (top : Pointer) (size : ℕ) : Type 0 where
  pub levels : levels_in image root n ≡ 2
  pub at : below_pointer image root n ≡ top
  pub size_is : length_in image root n ≡ size

-- the directory's entry of object n has these levels, this pointer and this length
pub record IsObjectAt (image : List ℕ) (root : Pointer) (n : ℕ) (entry : Entry) : Type 0 where
  pub levels : levels_in image root n ≡ entry.present
  pub at : below_pointer image root n ≡ entry.pointer
  pub size_is : length_in image root n ≡ entry.length

-- this is the payload of directory d
pub record IsPayloadOf (image : List ℕ) (frame : Frame) (root : Pointer) (d : ℕ) (payload : List ℕ) : Type 0 where
  pub pointer : Pointer
  pub at : pointer_of image root (Directory d) ≡ pointer
  pub opens : OpensAt image frame (Directory d) pointer payload

-- these pointers are to the directories
pub record AreDirectoriesOf (image : List ℕ) (root : Pointer) (directories : List Pointer) : Type 0 where
  pub at : (d : ℕ) → d < pointer_count → pointer_of image root (Directory d) ≡ pointer_of_list directories d
