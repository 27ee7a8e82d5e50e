-- Objects of which none is there.
use Rattle.std.specs.Prelude.{◌≡◌, [], None}
use Rattle.base.specs.formats.Fields.{no_pointer}
use Rattle.tree_blocks.specs.declared.tree.ObjectEntry.{ObjectEntry}

-- the entry of an object that is not there
abbrev pub IsEmptyEntry : ObjectEntry → Type 0
IsEmptyEntry e = (e.pointer ≡ no_pointer) × (e.strips.value ≡ []) × (e.length ≡ None)
