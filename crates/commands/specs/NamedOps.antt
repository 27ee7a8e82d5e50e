-- Which operations make an object with its name, and which remove both.
use Rattle.std.specs.Prelude.{ℕ, ◌+◌, ◌*◌, ◌++◌, Bool, true, false, List, [], ◌∷◌, Option, drop, length, take}
use Rattle.base.specs.declared.names.ObjectId.{ObjectId}
use Rattle.base.specs.declared.operation.Op.{Op}
use Rattle.base.specs.declared.operation.Op.TheVariants.{Create, Remove, Write}
use Rattle.commands.specs.Puts.{first_byte, rest_transactions, write_ops}
use Rattle.object_names.specs.Slots.{header_bytes, slot_bytes, slot_size}
use Rattle.pool_threads.specs.LongWrites.{piece_size}

-- the object that has the table of names
abbrev pub table_object : ObjectId
table_object = record { 0 = 0 }

-- it is made, unless it is there
abbrev pub create_ops : Bool → List Op
create_ops true = []
create_ops false = Create table_object ∷ []

-- it gets the header, unless it has bytes
abbrev pub header_ops : List ℕ → List Op
header_ops [] = Write table_object 0 header_bytes ∷ []
header_ops (byte ∷ bytes) = []

abbrev pub table_ops : Bool → List ℕ → List Op
table_ops has_table table = create_ops has_table ++ header_ops table

-- a name, or no bytes for none, is written into the slot of an object
abbrev pub slot_op : ObjectId → List ℕ → Op
slot_op n name = Write table_object (slot_size * n.0) (slot_bytes name)

-- The transaction that makes an object with its name, and with this piece of its bytes. There may be no object 0 before.
abbrev pub naming_ops : Bool → List ℕ → ObjectId → List ℕ → ℕ → List ℕ → List Op
naming_ops has_table table n name at piece = table_ops has_table table ++ (slot_op n name ∷ Create n ∷ write_ops n at piece)

-- that transaction, and those that write the rest of the bytes
abbrev pub naming_transactions : Bool → List ℕ → ObjectId → List ℕ → Option ℕ → List ℕ → List (List Op)
naming_transactions has_table table n name offset bytes =
    naming_ops has_table table n name (first_byte offset) (take piece_size bytes) ∷ rest_transactions n (first_byte offset + length (take piece_size bytes)) (drop piece_size bytes)

-- the transaction that removes an object, if it is there, and its name
abbrev pub removal_ops : Bool → ObjectId → List Op
removal_ops true n = Remove n ∷ slot_op n [] ∷ []
removal_ops false n = slot_op n [] ∷ []
