-- What holds of each replay of a chain.
use Rattle.std.specs.Prelude.{ℕ, ◌≡◌, List, Ok}
use Rattle.base.specs.tree.Mount.{Placed, apply_records, records_above}
use Rattle.base.specs.formats.Chain.{LogPiece}
use Rattle.base.specs.history.Contents.{Contents}
use Rattle.base.specs.steps.Exact.{IsBounded}
use Rattle.log_replay.specs.Replays.{IsChainAllowed, IsRecordRefused}

-- records can't be refused and all take place, and only one piece is that of the first that is refused
abbrev pub RefusalsAgree : Type 0
RefusalsAgree = (records : List Placed) (synced : Contents) (address : ℕ) → IsRecordRefused records synced address
    → ((after : Contents) → apply_records records synced ≡ Ok after → ⊥) × ((other : ℕ) → IsRecordRefused records synced other → other ≡ address)

-- records within the limits keep contents within the limits of a pool
abbrev pub ReplaysStayBounded : Type 0
ReplaysStayBounded = (group : ℕ) (chain : List LogPiece) (synced after : Contents) → IsChainAllowed chain → IsBounded synced
    → apply_records (records_above group chain) synced ≡ Ok after → IsBounded after
