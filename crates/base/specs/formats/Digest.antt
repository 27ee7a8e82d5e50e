-- The digest of a pool's contents.
use Rattle.std.specs.Prelude.{ℕ, List, ◌++◌, length}
use Rattle.std.specs.List.{flat_map}
use Rattle.std.specs.Int.{to_le_bytes, w32, w64}
use Rattle.std.specs.FinMap as finite
use Rattle.sha2.specs.Sha256.{sha256}
use Rattle.base.specs.history.Contents.{Contents}

-- an object's number, its length and its bytes
abbrev pub object_text : ℕ × List ℕ → List ℕ
object_text object = to_le_bytes w32 object.0 ++ to_le_bytes w64 (length object.1) ++ object.1

-- the name with its length, the number of objects, and the objects by rising number
abbrev pub contents_text : Contents → List ℕ
contents_text c = to_le_bytes w32 (length c.name) ++ c.name ++ to_le_bytes w32 (finite.len c.objects) ++ flat_map object_text (finite.entries c.objects)

abbrev pub digest_of : Contents → List ℕ
digest_of c = sha256 (contents_text c)
