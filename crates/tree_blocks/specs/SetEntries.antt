-- Objects whose entries are set one after another.
use Rattle.std.specs.Prelude.{List, [], ◌∷◌}
use Rattle.std.proofs.Math.ListN.{set}
use Rattle.base.specs.declared.names.ObjectId.{ObjectId}
use Rattle.tree_blocks.specs.declared.tree.ObjectEntry.{ObjectEntry}

-- the entries of all objects after these are set, the first of them first
abbrev pub set_entries : List (ObjectId × ObjectEntry) → List ObjectEntry → List ObjectEntry
set_entries [] entries = entries
set_entries (e ∷ es) entries = set_entries es (set entries e.0.0 e.1)
