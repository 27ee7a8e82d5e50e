-- Views: what an image of a pool may mount, told by the bytes of its checked places, and how firmly it lies on a disk.
-- Here and in the other words of the crash rule a device has `size` bytes, the pool's create began at the moment `t`,
-- and writes count that were handed since.
use Rattle.std.specs.Prelude.{ℕ, ◌≡◌, ◌≢◌, ◌≤◌, ◌<◌, ◌+◌, ◌-◌, ◌⊎◌, ⊤, List, [], ◌∷◌, ◌++◌, replicate, length, map, take, slice_get, Some}
use Rattle.std.specs.List.{flat_map}
use Rattle.base.specs.declared.pointer.Pointer.{Pointer}
use Rattle.base.specs.history.Contents.{Contents}
use Rattle.base.specs.formats.Fields.{part, no_pointer}
use Rattle.base.specs.formats.Geometry.{IsGeometry, IsBlockAddress, block_size, block_count, block_address, config_place, slot_place, slot_of}
use Rattle.base.specs.formats.Blocks.{Frame, IsBlock, sealed_block}
use Rattle.base.specs.formats.Uberblocks.{Uberblock, IsUberblock}
use Rattle.base.specs.formats.Labels.{IsConfigPayload, config_bytes}
use Rattle.base.specs.tree.Places.{Place, IsPlace}
use Rattle.base.specs.tree.Places.Place.{Root}
use Rattle.base.specs.kept.PlacedTrees.{HoldsTree}
use Rattle.base.specs.formats.Records.{Record}
use Rattle.base.specs.formats.Chain.{Header, LogBlock, LogPiece, IsLogPayload, IsLine, next_block, AreCut, ends_of}
use Rattle.base.specs.tree.Mount.{IsFound, header_of, frame_of}
use Rattle.base.specs.disk.Disk.{Write, Moment, IsTouched, HandedSince, bytes_of, handed}

-- these bytes are a config of a device of so many bytes
pub record IsConfigContent (content : List ℕ) (size guid group : ℕ) (name : List ℕ) : Type 0 where
  pub payload : List ℕ
  pub block : IsBlock content 1 guid group 0 payload
  pub fields : IsConfigPayload payload size name

-- a config as it is written, for a device of so many bytes
abbrev pub config_content : ℕ → ℕ → ℕ → List ℕ → List ℕ
config_content size guid group name = sealed_block 1 guid group 0 (config_bytes size name ++ replicate (4032 - length (config_bytes size name)) 0)

-- these bytes are a log block of this chain and number
pub record IsLogContent (content : List ℕ) (guid chain number : ℕ) (block : LogBlock) : Type 0 where
  pub group : ℕ
  pub payload : List ℕ
  pub sealed : IsBlock content 6 guid group number payload
  pub fields : IsLogPayload payload chain block

-- a log block with its number, its bytes, and the records that end in it
pub record Logged : Type 0 where
  pub block : LogBlock
  pub number : ℕ
  pub content : List ℕ
  pub ends : List Record

-- the log blocks of these, and the records that end in them, in order
abbrev pub blocks_of : List Logged → List LogBlock
blocks_of ls = map (λ (l : Logged). l.block) ls

abbrev pub ended_in : List Logged → List Record
ended_in ls = flat_map (λ (l : Logged). l.ends) ls

-- They are cut into pieces by the rules of a version, whose records end where they are said to.
pub record HasCut (version : ℕ) (ls : List Logged) : Type 0 where
  pub chain : List LogPiece
  pub cut : AreCut version (blocks_of ls) chain
  pub ends : (n : ℕ) → ended_in (take n ls) ≡ flat_map (λ (rs : List Record). rs) (take n (ends_of chain))

-- What an image may mount: an uberblock with the bytes of its slot, the chosen config with its bytes, the tree with its
-- pointers, the log blocks from the header on, and where the next one goes.
pub record View : Type 0 where
  pub u : Uberblock
  pub slot : List ℕ
  pub config_group : ℕ
  pub name : List ℕ
  pub config : List ℕ
  pub pointers : Place → Pointer
  pub synced : Contents
  pub logged : List Logged

-- these log blocks follow one another from a header on
abbrev pub AreLinked : ℕ → ℕ → ℕ → Header → List Logged → Type 0
AreLinked guid blocks chain header [] = ⊤
AreLinked guid blocks chain header (l ∷ ls) =
    ((l.block.address ≡ header.address) × (l.number ≡ header.number) × IsBlockAddress blocks header.address × IsLogContent l.content guid chain header.number l.block)
    × AreLinked guid blocks chain (next_block header l.block) ls

-- where the log goes on after these blocks
abbrev pub header_behind : Header → List Logged → Header
header_behind header [] = header
header_behind header (l ∷ ls) = header_behind (next_block header l.block) ls

abbrev pub view_frame : ℕ → View → Frame
view_frame size v = record { version = v.u.version; guid = v.u.guid; blocks = block_count size; group = v.u.group }

-- what a view says of itself, on a device of so many bytes
pub record IsView (size : ℕ) (v : View) : Type 0 where
  pub geometry : IsGeometry size
  pub uberblock : IsUberblock v.slot v.u
  pub config : IsConfigContent v.config size v.u.guid v.config_group v.name
  pub not_above : v.config_group ≤ v.u.group
  pub name : v.synced.name ≡ v.name
  pub root : v.pointers Root ≡ v.u.root
  pub linked : AreLinked v.u.guid (block_count size) v.u.import_number (header_of v.u) v.logged
  pub cut : HasCut v.u.version v.logged

-- no write that is not yet flushed touches so many bytes at a place
abbrev pub IsSettled : Moment → ℕ → ℕ → Type 0
IsSettled m place n = (i : ℕ) → place ≤ i → i < place + n → IsTouched m.unflushed i → ⊥

-- these bytes stand at a place in every image that a crash now may leave
pub record IsFixed (m : Moment) (place : ℕ) (content : List ℕ) : Type 0 where
  pub settled : IsSettled m place (length content)
  pub stands : part (bytes_of m) place (length content) ≡ content

-- a label's uberblock of the view is fixed
pub record HasFixedSlot (size : ℕ) (m : Moment) (v : View) : Type 0 where
  pub label : ℕ
  pub in_range : label < 4
  pub fixed : IsFixed m (slot_place size label (slot_of v.u.group)) v.slot

-- a label's config of the view is fixed
pub record HasFixedConfig (size : ℕ) (m : Moment) (v : View) : Type 0 where
  pub label : ℕ
  pub in_range : label < 4
  pub fixed : IsFixed m (config_place size label) v.config

-- the tree of the view is held, by blocks that are settled
pub record HasFixedTree (size : ℕ) (m : Moment) (v : View) : Type 0 where
  pub holds : HoldsTree (bytes_of m) (view_frame size v) v.pointers v.synced.objects
  pub settled : (place : Place) → IsPlace place → v.pointers place ≢ no_pointer → IsSettled m (v.pointers place).address block_size

-- the first so many log blocks of the view are fixed
abbrev pub HasFixedLog : ℕ → Moment → View → Type 0
HasFixedLog flushed m v = (flushed ≤ length v.logged) × ((i : ℕ) (l : Logged) → i < flushed → slice_get v.logged i ≡ Some l → IsFixed m l.block.address l.content)

-- config, tree and flushed log of a view are fixed; its uberblock need not be
pub record IsFirm (size flushed : ℕ) (m : Moment) (v : View) : Type 0 where
  pub size_is : length (bytes_of m) ≡ size
  pub config : HasFixedConfig size m v
  pub tree : HasFixedTree size m v
  pub log : HasFixedLog flushed m v

-- of the writes that count, each config of the pool that is not above the view's group is the view's or of a lower
-- group
abbrev pub AreConfigsKnown : ℕ → ℕ → List Write → View → Type 0
AreConfigsKnown size t ws v = (label group : ℕ) (name content : List ℕ) → label < 4 → HandedSince t ws (config_place size label) content
    → IsConfigContent content size v.u.guid group name → group ≤ v.u.group → (group < v.config_group) ⊎ (content ≡ v.config)

-- of the writes that count, each config of the pool is of no group above this one, or is one of these of its group
abbrev pub AreConfigsUpTo : ℕ → ℕ → List Write → ℕ → ℕ → (ℕ → List ℕ → Type 0) → Type 0
AreConfigsUpTo size t ws guid top IsOther = (label group : ℕ) (name content : List ℕ) → label < 4 → HandedSince t ws (config_place size label) content
    → IsConfigContent content size guid group name → (group ≤ top) ⊎ IsOther group content

-- Of the writes that count, each log block of the pool is of an older chain, or before the header, or one of the
-- view's, or after the number that comes next: only the block of that number could make the chain longer.
abbrev pub AreLogBlocksKnown : ℕ → ℕ → List Write → View → Type 0
AreLogBlocksKnown size t ws v = (k chain number : ℕ) (content : List ℕ) (block : LogBlock) → k < block_count size → HandedSince t ws (block_address k) content
    → IsLogContent content v.u.guid chain number block
    → (chain < v.u.import_number) ⊎ ((chain ≡ v.u.import_number) × ((number < v.u.log_number) ⊎ ((v.u.log_number + length v.logged < number)
    ⊎ ((i : ℕ) × (l : Logged) × (slice_get v.logged i ≡ Some l) × (l.number ≡ number) × (l.block.address ≡ block_address k) × (l.content ≡ content)))))

-- of the writes that count, each uberblock is of a lower group, or has the bytes of one of these views
abbrev pub AreSlotsKnown : ℕ → ℕ → List Write → ℕ → (List ℕ → Type 0) → Type 0
AreSlotsKnown size t ws group IsTop = (label : ℕ) (content : List ℕ) (x : Uberblock) → label < 4 → HandedSince t ws (slot_place size label (slot_of x.group)) content
    → IsUberblock content x → (x.group < group) ⊎ IsTop content

-- a view on a disk: it is one, lies firmly, and what counts could pass for no other config or log block
pub record IsLaid (size t flushed : ℕ) (m : Moment) (v : View) : Type 0 where
  pub view : IsView size v
  pub firm : IsFirm size flushed m v
  pub configs : AreConfigsKnown size t (handed m) v
  pub logs : AreLogBlocksKnown size t (handed m) v

-- what an image has of a view: it is found, with the pieces of a front of its log blocks that has the flushed ones
pub record IsFoundAs (image : List ℕ) (flushed : ℕ) (v : View) : Type 0 where
  pub count : ℕ
  pub least : flushed ≤ count
  pub most : count ≤ length v.logged
  pub line : IsLine image (frame_of image v.u) v.u.import_number (header_of v.u) (blocks_of (take count v.logged))
  pub cut : HasCut v.u.version (take count v.logged)
  pub found : IsFound image v.u v.synced cut.chain
