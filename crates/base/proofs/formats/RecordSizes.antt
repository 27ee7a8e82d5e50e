-- A record has as many bytes as its plan's shapes say.
use Rattle.std.proofs.Common.{◌≡◌, List, [], ◌∷◌, length, length-append, map, refl, arith}
use Rattle.std.specs.Prelude.{sum_by}
use Rattle.std.specs.List.{flat_map}
use Rattle.std.proofs.lemmas.List.Sums.{sum_by-cons}
use Rattle.base.specs.declared.operation.Op.{Op}
use Rattle.base.specs.declared.operation.Op.TheVariants.{Create, Remove, Write, SetLength, SetName}
use Rattle.base.specs.history.Plans.{shape_of, size_of_shape}
use Rattle.base.specs.formats.Records.{Record, op_bytes, bytes_of_record, size_of}

pub length-op_bytes : (op : Op) → length (op_bytes op) ≡ size_of_shape (shape_of op)
length-op_bytes (Create n) = refl
length-op_bytes (Remove n) = refl
length-op_bytes (Write n offset bytes) = grind (arith, length-append)
length-op_bytes (SetLength n new) = refl
length-op_bytes (SetName bytes) = grind (arith, length-append)

pub length-ops_bytes : (ops : List Op) → length (flat_map op_bytes ops) ≡ sum_by size_of_shape (map shape_of ops)
length-ops_bytes [] = refl
length-ops_bytes (op ∷ ops) = omega (arith, length-append (op_bytes op) (flat_map op_bytes ops), length-op_bytes op, length-ops_bytes ops, sum_by-cons size_of_shape (shape_of op) (map shape_of ops))

pub length-bytes_of_record : (r : Record) → length (bytes_of_record r) ≡ size_of r
length-bytes_of_record r = omega (arith, length-ops_bytes r.ops)
