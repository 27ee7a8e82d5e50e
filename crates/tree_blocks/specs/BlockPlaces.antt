-- The place of the tree that a place in code stands for.
use Rattle.base.specs.tree.Places.{Place}
use Rattle.base.specs.tree.Places.Place.{Root as AtRoot, Directory as AtDirectory, Top as AtTop, Indirect as AtIndirect, Data as AtData}
use Rattle.tree_blocks.specs.declared.place.BlockPlace.{BlockPlace}
use Rattle.tree_blocks.specs.declared.place.BlockPlace.TheVariants.{Root, Directory, Top, Indirect, Data}

-- the place of a block
abbrev pub place_of : BlockPlace → Place
place_of Root = AtRoot
place_of (Directory d) = AtDirectory d
place_of (Top id) = AtTop id.0
place_of (Indirect m) = AtIndirect m
place_of (Data m k) = AtData m k
