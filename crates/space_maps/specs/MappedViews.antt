-- Views of pools with a map: what an image of one may mount, told by the bytes of its checked places, and how firmly it
-- lies on a disk.
use Rattle.std.specs.Prelude.{ℕ, ◌≡◌, ◌≢◌, ◌≤◌, List, length, slice_get, Some}
use Rattle.base.specs.formats.Blocks.{Frame}
use Rattle.base.specs.formats.Fields.{no_pointer}
use Rattle.base.specs.formats.Geometry.{block_size}
use Rattle.base.specs.disk.Disk.{Moment, bytes_of}
use Rattle.base.specs.tree.Places.{Place, IsPlace}
use Rattle.base.specs.tree.Places.Place.{Root}
use Rattle.base.specs.tree.Mount.{header_of}
use Rattle.base.specs.kept.PlacedTrees.{HoldsTree}
use Rattle.base.specs.kept.PlannedTrees.{NewBlock}
use Rattle.base.specs.kept.Views.{View, IsConfigContent, AreLinked, HasCut, HasFixedConfig, HasFixedLog, IsFixed, IsSettled}
use Rattle.mapped_labels.specs.declared.map_entry.MapEntry.{MapEntry}
use Rattle.mapped_labels.specs.Shapes.{IsMappedGeometry, area_blocks}
use Rattle.mapped_labels.specs.MappedUberblocks.{IsMappedUberblock}
use Rattle.space_maps.specs.ToldMaps.{IsTreeMap}

-- what a plain pool's view has, what the uberblock says of the map's highest node, and the blocks of the map
pub record MappedView : Type 0 where
  pub view : View
  pub entry : MapEntry
  pub map : List NewBlock

abbrev pub mapped_frame : ℕ → MappedView → Frame
mapped_frame size v = record { version = v.view.u.version; guid = v.view.u.guid; blocks = area_blocks size; group = v.view.u.group }

-- what such a view says of itself, on a device of so many bytes
pub record IsMappedView (size : ℕ) (v : MappedView) : Type 0 where
  pub geometry : IsMappedGeometry size
  pub uberblock : IsMappedUberblock v.view.slot (record { state = v.view.u; map = v.entry })
  pub config : IsConfigContent v.view.config size v.view.u.guid v.view.config_group v.view.name
  pub not_above : v.view.config_group ≤ v.view.u.group
  pub name : v.view.synced.name ≡ v.view.name
  pub root : v.view.pointers Root ≡ v.view.u.root
  pub map : IsTreeMap (mapped_frame size v) size v.entry v.map v.view.pointers
  pub linked : AreLinked v.view.u.guid (area_blocks size) v.view.u.import_number (header_of v.view.u) v.view.logged
  pub cut : HasCut v.view.u.version v.view.logged

-- the tree of the view is held, by blocks that are settled
pub record HasFixedMappedTree (size : ℕ) (m : Moment) (v : MappedView) : Type 0 where
  pub holds : HoldsTree (bytes_of m) (mapped_frame size v) v.view.pointers v.view.synced.objects
  pub settled : (place : Place) → IsPlace place → v.view.pointers place ≢ no_pointer → IsSettled m (v.view.pointers place).address block_size

-- these blocks are fixed
abbrev pub AreFixed : Moment → List NewBlock → Type 0
AreFixed m blocks = (i : ℕ) (b : NewBlock) → slice_get blocks i ≡ Some b → IsFixed m b.address b.content

-- config, tree, map and flushed log of a view are fixed; its uberblock need not be
pub record IsMappedFirm (size flushed : ℕ) (m : Moment) (v : MappedView) : Type 0 where
  pub size_is : length (bytes_of m) ≡ size
  pub config : HasFixedConfig size m v.view
  pub tree : HasFixedMappedTree size m v
  pub map : AreFixed m v.map
  pub log : HasFixedLog flushed m v.view
