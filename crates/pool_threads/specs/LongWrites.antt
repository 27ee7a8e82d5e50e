-- What a handle commits of a long write: one piece after another, each in a transaction of its own.
use Rattle.std.specs.Prelude.{ℕ, zero, suc, ◌≡◌, ◌+◌, ◌*◌, ◌/◌, ◌++◌, List, [], ◌∷◌, Ok, Err, Result, drop, length, max, take}
use Rattle.base.specs.declared.error.PoolError.{PoolError}
use Rattle.base.specs.declared.names.ObjectId.{ObjectId}
use Rattle.base.specs.declared.names.Owner.{Owner}
use Rattle.base.specs.declared.names.Receipt.{Receipt}
use Rattle.base.specs.declared.operation.Op.{Op}
use Rattle.base.specs.declared.operation.Op.TheVariants.{Write}
use Rattle.device_model.specs.declared.device.SectorDevice.{Ghosts}
use Rattle.pool_threads.specs.declared.handle.Handle.{Handle}
use Rattle.pool_threads.specs.Transacts.{TransactsOrLacks}

-- the bytes of a piece: those of 16 records
abbrev pub piece_size : ℕ
piece_size = 64512

-- how many pieces these bytes have: one at least
abbrev pub piece_count : List ℕ → ℕ
piece_count bytes = max 1 ((length bytes + 64511) / 64512)

-- the transactions that write so many pieces of these bytes, one after another from this place on
abbrev pub writes_from : ObjectId → ℕ → List ℕ → ℕ → List (List Op)
writes_from n at bytes zero = []
writes_from n at bytes (suc count) =
    (Write n at (take piece_size bytes) ∷ []) ∷ writes_from n (at + length (take piece_size bytes)) (drop piece_size bytes) count

-- the transactions that write all of them
abbrev pub writes_of : ObjectId → ℕ → List ℕ → List (List Op)
writes_of n offset bytes = writes_from n offset bytes (piece_count bytes)

module _ {Dev : Type 0} {G : Ghosts Dev} where
  -- The handle made these transactions in order, up to the first that was refused. The others were committed, with
  -- these receipts. It did no more.
  abbrev pub TransactsInOrder : Owner → List (List Op) → List Receipt → Result (Unit {0}) PoolError → Handle Dev G → Handle Dev G → Type 0
  TransactsInOrder owner [] receipts result old new = (receipts ≡ []) × (result ≡ Ok tt) × (new ≡ old)
  TransactsInOrder owner (ops ∷ rest) [] result old new = (e : PoolError) × (result ≡ Err e) × TransactsOrLacks owner ops (Err e) old new
  TransactsInOrder owner (ops ∷ rest) (r ∷ rs) result old new = (next : Handle Dev G) × TransactsOrLacks owner ops (Ok r) old next × TransactsInOrder owner rest rs result next new

  -- So it wrote these bytes to an object from this offset on. All pieces were committed, the last one with this
  -- receipt. Or a piece was refused, and so many bytes were committed before it.
  abbrev pub WritesInPieces : Owner → ObjectId → ℕ → List ℕ → Result Receipt (PoolError × ℕ) → Handle Dev G → Handle Dev G → Type 0
  WritesInPieces owner n offset bytes (Ok last) old new =
      (earlier : List Receipt) × TransactsInOrder owner (writes_of n offset bytes) (earlier ++ last ∷ []) (Ok tt) old new
  WritesInPieces owner n offset bytes (Err (e, committed)) old new =
      (receipts : List Receipt) × (committed ≡ piece_size * length receipts) × TransactsInOrder owner (writes_of n offset bytes) receipts (Err e) old new
