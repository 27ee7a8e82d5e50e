-- The operations on one object among the log's records, and what they make of it.
use Rattle.std.specs.Prelude.{ℕ, ◌≡◌, ◌++◌, ◌⊎◌, ◌==◌, Bool, true, false, not, is_some, fold, List, [], ◌∷◌, length, map, MatchResult, Option, option_map, Result, if◌then◌else◌}
use Rattle.std.specs.List.{flat_map}
use Rattle.base.specs.declared.error.PoolError.{PoolError}
use Rattle.base.specs.declared.error.PoolError.TheVariants.{Damaged, NoMemory}
use Rattle.base.specs.declared.operation.Op.{Op}
use Rattle.base.specs.declared.operation.Op.TheVariants.{Create, Remove, Write, SetLength, SetName}
use Rattle.base.specs.history.Contents.{object_after}
use Rattle.base.specs.tree.Mount.{Placed}
use Rattle.extents.specs.declared.extents.Extents.{Extents}
use Rattle.extents.specs.Patches.{ArePatchesOf}
use Rattle.extents.specs.Tables.{patches_of}

-- whether an operation is on object n
abbrev pub is_on : ℕ → Op → Bool
is_on n (Create m) = n == m.0
is_on n (Remove m) = n == m.0
is_on n (Write m offset bytes) = n == m.0
is_on n (SetLength m size) = n == m.0
is_on n (SetName bytes) = false

-- whether an operation can take place, if this is its object
abbrev pub can_take_place : Op → Option (List ℕ) → Bool
can_take_place (Create m) object = not (is_some object)
can_take_place (Remove m) object = is_some object
can_take_place (Write m offset bytes) object = is_some object
can_take_place (SetLength m size) object = is_some object
can_take_place (SetName bytes) object = true

-- an operation, with the address of the first block of its record's piece
pub record PlacedOp : Type 0 where
  pub address : ℕ
  pub op : Op

-- those on object n: an operation, or none; those of a record; and those of records, in order
abbrev pub own_op : ℕ → ℕ → Op → List PlacedOp
own_op n address op = if is_on n op then record { address = address; op = op } ∷ [] else []

abbrev pub own_ops : ℕ → ℕ → List Op → List PlacedOp
own_ops n address ops = flat_map (own_op n address) ops

abbrev pub own_of_records : ℕ → List Placed → List PlacedOp
own_of_records n records = flat_map (λ (p : Placed). own_ops n p.address p.logged.ops) records

abbrev pub ops_of : List PlacedOp → List Op
ops_of placed = map (λ (p : PlacedOp). p.op) placed

-- an object after operations
abbrev pub object_after_all : ℕ → List Op → Option (List ℕ) → Option (List ℕ)
object_after_all n ops object = fold (λ o op. object_after n op o) object ops

-- operations on object n can take place in order
abbrev pub TakePlace : ℕ → List Op → Option (List ℕ) → Type 0
TakePlace n [] object = Unit {0}
TakePlace n (op ∷ ops) object = (can_take_place op object ≡ true) × TakePlace n ops (object_after n op object)

-- what holds of each object of this length, whatever its bytes are
abbrev pub ForLength : Option ℕ → (Option (List ℕ) → Type 0) → Type 0
ForLength size P = (object : Option (List ℕ)) → option_map length object ≡ size → P object

-- these are the changes of operations on object n, which can take place where the object below has this length
pub record AreOwnChanges (n : ℕ) (size : Option ℕ) (ops : List Op) (e : Extents) : Type 0 where
  pub patches : ArePatchesOf ops (patches_of e)
  pub place : ForLength size (TakePlace n ops)

-- One of these operations on object n can't take place after the earlier ones and those before it: the first such one.
-- Its record's piece begins at this address.
pub record IsOwnRefused (n : ℕ) (size : Option ℕ) (earlier : List Op) (placed : List PlacedOp) (address : ℕ) : Type 0 where
  pub before : List PlacedOp
  pub refused : PlacedOp
  pub after : List PlacedOp
  pub split : placed ≡ before ++ refused ∷ after
  pub reached : ForLength size (TakePlace n (earlier ++ ops_of before))
  pub refuses : ForLength size (λ object. can_take_place refused.op (object_after_all n (earlier ++ ops_of before) object) ≡ false)
  pub address_is : refused.address ≡ address

-- there is no memory, or one of these operations can't take place
abbrev pub IsOwnRefusal : ℕ → Option ℕ → List Op → List PlacedOp → PoolError → Type 0
IsOwnRefusal n size earlier placed e = (e ≡ NoMemory) ⊎ ((address : ℕ) × (e ≡ Damaged 6 address) × IsOwnRefused n size earlier placed address)

-- changes of earlier operations become those of these operations, too, or a refusal says why not
abbrev pub AddsOwn : ℕ → Option ℕ → List PlacedOp → Extents → Result (Unit {0}) PoolError → Extents → Type 0
AddsOwn n size placed old result new = (earlier : List Op) → AreOwnChanges n size earlier old
    → MatchResult result (λ _. AreOwnChanges n size (earlier ++ ops_of placed) new) (λ e. IsOwnRefusal n size earlier placed e)
