-- What an import does with the records of a chain: it applies those of groups above the active one, in order, or
-- reports the piece of the first one that can't take place.
use Rattle.std.specs.Prelude.{ℕ, ◌≡◌, ◌+◌, ◌++◌, ◌⊎◌, List, ◌∷◌, All, map, Ok, Err}
use Rattle.std.specs.List.{flat_map}
use Rattle.base.specs.declared.error.PoolError.{PoolError}
use Rattle.base.specs.declared.error.PoolError.TheVariants.{Damaged, NoMemory}
use Rattle.base.specs.declared.operation.Op.{Op}
use Rattle.base.specs.tree.Mount.{Placed, apply_records, records_above}
use Rattle.base.specs.formats.Chain.{LogPiece}
use Rattle.base.specs.formats.Records as formats
use Rattle.base.specs.formats.Records.{IsAllowed}
use Rattle.base.specs.history.Contents.{Contents}
use Rattle.base.specs.history.History.{apply_all}
use Rattle.contents.specs.Ops.{AreOpsAllowed}
use Rattle.extents.specs.Patches.{ArePatchesOf}
use Rattle.extents.specs.Synced.{patched_contents}
use Rattle.extents.specs.Tables.{name_of, patches_of}
use Rattle.records.specs.declared.record.Record.{Record}
use Rattle.records.specs.Records.{record_fields}
use Rattle.log_replay.specs.declared.replaying.Replayed.{Replayed}

-- each record of a piece, and of each piece of a chain, is within the limits
abbrev pub IsPieceAllowed : LogPiece → Type 0
IsPieceAllowed piece = All IsAllowed piece.records

abbrev pub IsChainAllowed : List LogPiece → Type 0
IsChainAllowed chain = All IsPieceAllowed chain

-- a record as one of this group
abbrev pub record_in : ℕ → Placed → formats.Record
record_in group p = record { group = group; ordinal = p.logged.ordinal; ops = p.logged.ops }

-- all operations of some records, in order
abbrev pub ops_of_records : List Record → List Op
ops_of_records records = flat_map (λ (r : Record). r.ops) records

-- These records of groups above the active one were applied to the contents that its tree holds: what they change of
-- its objects and its name, and the records as those of one group, four after the active one.
pub record IsReplayOf (group : ℕ) (synced : Contents) (records : List Placed) (r : Replayed) : Type 0 where
  pub applied : apply_records records synced ≡ Ok (patched_contents (patches_of r.extents) (name_of r.extents) synced)
  pub patches : ArePatchesOf (ops_of_records r.records.items) (patches_of r.extents)
  pub records_are : map record_fields r.records.items ≡ map (record_in (group + 4)) records
  pub allowed : All (λ (x : Record). AreOpsAllowed x.ops) r.records.items

-- so the records of a chain were
abbrev pub IsReplay : ℕ → Contents → List LogPiece → Replayed → Type 0
IsReplay group synced chain r = IsReplayOf group synced (records_above group chain) r

-- One of these records can't take place after those before it: the first such one, in the piece at this address.
pub record IsRecordRefused (records : List Placed) (synced : Contents) (address : ℕ) : Type 0 where
  pub before : List Placed
  pub refused : Placed
  pub after : List Placed
  pub split : records ≡ before ++ refused ∷ after
  pub reached : Contents
  pub reaches : apply_records before synced ≡ Ok reached
  pub error : PoolError
  pub refuses : apply_all refused.logged.ops reached ≡ Err error
  pub address_is : refused.address ≡ address

-- whatever the records are, there is no memory, or a piece of the log is damaged
abbrev pub IsReplayCause : PoolError → Type 0
IsReplayCause e = (e ≡ NoMemory) ⊎ ((address : ℕ) × (e ≡ Damaged 6 address))

-- there is no memory, or a record can't take place and this is its piece
abbrev pub IsReplayRefusal : List Placed → Contents → PoolError → Type 0
IsReplayRefusal records synced e =
    (e ≡ NoMemory) ⊎ ((address : ℕ) × (e ≡ Damaged 6 address) × IsRecordRefused records synced address)
