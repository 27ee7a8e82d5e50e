-- What the synced tree of a pool stands for: its name and its objects, and what a list of operations makes of them.
use Rattle.std.specs.Prelude.{◌≡◌, List, Result, Ok, Err}
use Rattle.base.specs.declared.error.PoolError.{PoolError}
use Rattle.base.specs.declared.operation.Op.{Op}
use Rattle.base.specs.history.Contents.{Contents}
use Rattle.base.specs.history.History.{apply_all}
use Rattle.contents.specs.declared.synced_tree.SyncedTree.{SyncedTree}
use Rattle.tree_blocks.specs.TreeObjects.{objects_of}

-- the name and the objects of a synced tree
abbrev pub contents_of : SyncedTree → Contents
contents_of t = record { name = t.name; objects = objects_of t.tree }

-- the operations can take place in order
abbrev pub Apply : List Op → Contents → Type 0
Apply ops c = (after : Contents) × (apply_all ops c ≡ Ok after)

-- an answer on operations: they can take place in order, or this is why the first that can't, can't
abbrev pub Judges : List Op → Contents → Result Unit PoolError → Type 0
Judges ops c (Ok done) = Apply ops c
Judges ops c (Err e) = apply_all ops c ≡ Err e
