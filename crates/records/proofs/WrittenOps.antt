-- Operations that are written one after the other have room, each after those before it.
use Rattle.std.proofs.Common.{◌≡◌, ℕ, ◌+◌, ◌<◌, ◌≤◌, List, ◌++◌, length, length-append, get_or, map, take, sym, ap, ◌∙◌, append_assoc, arith}
use Rattle.std.specs.Prelude.{sum_by}
use Rattle.std.specs.List.{flat_map}
use Rattle.std.specs.Global.{Vec}
use Rattle.std.proofs.lemmas.List.Folds.{length-flat_map-take}
use Rattle.base.specs.declared.operation.Op.{Op}
use Rattle.base.specs.formats.Limits.{max_log_record}
use Rattle.base.specs.formats.Records.{op_bytes}
use Rattle.base.specs.history.Plans.{shape_of, size_of_shape}
use Rattle.base.proofs.formats.RecordSizes.{length-op_bytes, length-ops_bytes}
use Rattle.records.specs.Writing.{AppendsBytes, HasRoomFor}

-- an operation, with those before it, has no more bytes than all
op_fits : (ops : List Op) (i : ℕ) (op : Op) → i < length ops → op ≡ get_or ops i op
    → length (flat_map op_bytes (take i ops)) + size_of_shape (shape_of op) ≤ sum_by size_of_shape (map shape_of ops)
op_fits ops i op below is =
    let all = length-flat_map-take op_bytes ops i op below in
    let this : length (op_bytes (get_or ops i op)) ≡ size_of_shape (shape_of op) = ap (λ (o : Op). length (op_bytes o)) (sym is) ∙ length-op_bytes op in
    omega (arith, all, this, length-ops_bytes ops)

module _ (ops : List Op) (i : ℕ) (op : Op) (below : i < length ops) (is : op ≡ get_or ops i op) where
  pub op_small : sum_by size_of_shape (map shape_of ops) ≤ max_log_record → size_of_shape (shape_of op) ≤ max_log_record
  op_small small = omega (arith, op_fits ops i op below is)

  pub op_has_room : (first out : Vec ℕ) → HasRoomFor first (sum_by size_of_shape (map shape_of ops)) → AppendsBytes first out (flat_map op_bytes (take i ops)) → HasRoomFor out (size_of_shape (shape_of op))
  op_has_room first out room so_far =
      let long = so_far.len in
      let kept = so_far.room in
      omega (arith, op_fits ops i op below is)

-- two parts, one after the other
pub Appends-then : (a b c : Vec ℕ) (x y : List ℕ) → AppendsBytes a b x → AppendsBytes b c y → AppendsBytes a c (x ++ y)
Appends-then a b c x y p q =
    let room_p = p.room in
    let room_q = q.room in
    let len_p = p.len in
    let len_q = q.len in
    record {
      items = q.items ∙ ap (λ (l : List ℕ). l ++ y) p.items ∙ append_assoc a.items x y;
      len = omega (arith, length-append x y);
      room = omega arith;
    }

-- the parts of a record, one after the other
pub five : (a b c d e f : Vec ℕ) (size group ordinal count ops : List ℕ) → AppendsBytes a b size → AppendsBytes b c group → AppendsBytes c d ordinal → AppendsBytes d e count → AppendsBytes e f ops
    → AppendsBytes a f (size ++ group ++ ordinal ++ count ++ ops)
five a b c d e f size group ordinal count ops p q r s t =
    Appends-then a e f (size ++ group ++ ordinal ++ count) ops (Appends-then a d e (size ++ group ++ ordinal) count (Appends-then a c d (size ++ group) ordinal (Appends-then a b c size group p q) r) s) t
