-- What holds of records and their bytes.
use Rattle.std.specs.Prelude.{ℕ, ◌≡◌, ◌++◌, List}
use Rattle.base.specs.formats.Records.{Record, IsAllowed, IsDecoded, bytes_of_record}

-- the bytes of a record are that record, whatever stands after them
abbrev pub RecordsReadBack : Type 0
RecordsReadBack = (r : Record) (rest : List ℕ) → IsAllowed r → IsDecoded (bytes_of_record r ++ rest) r rest

-- the front of bytes is one record at most
abbrev pub RecordsAgree : Type 0
RecordsAgree = (bytes : List ℕ) (r s : Record) (rest more : List ℕ) → IsDecoded bytes r rest → IsDecoded bytes s more → (r ≡ s) × (rest ≡ more)
