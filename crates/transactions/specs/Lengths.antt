-- What a caller tells of the lengths of objects.
use Rattle.std.specs.Prelude.{ℕ, ◌≡◌, Option}
use Rattle.base.specs.declared.names.ObjectId.{ObjectId}
use Rattle.base.specs.history.Contents.{Contents, length_of}

-- each answer is the length that an object of these contents has, and none for one that is absent
abbrev pub TellsLengths : (ObjectId → Option ℕ → Type 0) → Contents → Type 0
TellsLengths answers c = (n : ObjectId) (told : Option ℕ) → answers n told → told ≡ length_of c n.0
