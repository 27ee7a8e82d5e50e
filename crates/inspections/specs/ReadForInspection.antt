-- What an inspection reads of an image: what an import reads, or the damages of the tree.
use Rattle.std.specs.Prelude.{ℕ, Bool, IsTrue, List}
use Rattle.base.specs.formats.Chain.{LogPiece}
use Rattle.base.specs.formats.Geometry.{block_count}
use Rattle.trees.specs.FreeBlocks.{AreUnnamed}
use Rattle.trees.specs.declared.objects.Loaded.{Loaded}
use Rattle.uberblocks.specs.Slots.{fields_of}
use Rattle.import_replay.specs.ReadPools.{IsLoadedFor, IsReadPool}
use Rattle.import_replay.specs.declared.finding.Found.{Found}
use Rattle.inspections.specs.PoolDamages.{HasDamages}
use Rattle.inspections.specs.declared.damages.ExaminedPool.{ExaminedPool}
use Rattle.inspections.specs.declared.damages.ExaminedPool.TheVariants.{Damaged, Whole}

-- what was loaded of a pool that was found, with its chain, is as `read_pool` gives it
pub record IsReadFor (keeps : Bool) (image : List ℕ) (size : ℕ) (found : Found) (l : Loaded) (chain : List LogPiece) : Type 0 where
  pub loaded : IsLoadedFor (fields_of found.uberblock) (block_count size) l.tree chain
  pub free : AreUnnamed (block_count size) l.tree l.free
  pub pool : IsTrue keeps → IsReadPool image size (fields_of found.uberblock) found.name l.tree chain

-- what was examined: the same, or the damages of the tree
abbrev pub IsExaminedFor : Bool → List ℕ → ℕ → ExaminedPool → Type 0
IsExaminedFor keeps image size (Whole found l chain) = IsReadFor keeps image size found l chain.items
IsExaminedFor keeps image size (Damaged list) = IsTrue keeps → HasDamages image list.items
