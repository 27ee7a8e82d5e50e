-- How far a replay has come in the records of a chain.
use Rattle.std.specs.Prelude.{ℕ, ◌≡◌, ◌++◌, List, [], ◌∷◌, All, filter, map, nat_lt}
use Rattle.base.specs.tree.Mount.{Placed, records_above}
use Rattle.base.specs.formats.Chain.{LogPiece}
use Rattle.base.specs.formats.Records.{IsAllowed}
use Rattle.base.specs.history.Contents.{Contents}
use Rattle.records.specs.declared.record.Record.{Record}
use Rattle.records.specs.Records.{record_fields}
use Rattle.log_replay.specs.declared.replaying.Replayed.{Replayed}
use Rattle.log_replay.specs.Replays.{IsChainAllowed, IsReplayOf}

-- this rest of the records is left: those before it were applied
pub record HasReplayedTo (group : ℕ) (synced : Contents) (records rest : List Placed) (r : Replayed) : Type 0 where
  pub done : List Placed
  pub split : records ≡ done ++ rest
  pub replayed : IsReplayOf group synced done r

-- records of the piece at this address
abbrev pub placed_at : ℕ → Record → Placed
placed_at address r = record { address = address; logged = record_fields r }

-- those of groups above this one, in order
abbrev pub above_at : ℕ → ℕ → List Record → List Placed
above_at group address records = filter (λ (p : Placed). nat_lt group p.logged.group) (map (placed_at address) records)

-- a replay that began before a piece has come to these of its records
pub record IsAtRecords (group : ℕ) (synced : Contents) (piece : LogPiece) (left : List Record) (old now : Replayed) : Type 0 where
  pub allowed : All (λ (r : Record). IsAllowed (record_fields r)) left
  pub walked : (records rest : List Placed) → HasReplayedTo group synced records (records_above group (piece ∷ []) ++ rest) old
      → HasReplayedTo group synced records (above_at group piece.address left ++ rest) now

-- and to these pieces of a chain
pub record IsAtPieces (group : ℕ) (synced : Contents) (chain left : List LogPiece) (now : Replayed) : Type 0 where
  pub allowed : IsChainAllowed left
  pub walked : HasReplayedTo group synced (records_above group chain) (records_above group left) now
