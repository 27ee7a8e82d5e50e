-- A replay that comes to the next record of a piece, or to the next piece of a chain, goes on from there.
use Rattle.std.proofs.Common.{◌≡◌, ℕ, ◌+◌, inl, inr, true, false, not, List, [], ◌∷◌, ◌++◌, map, refl, ap}
use Rattle.std.specs.Prelude.{All, nat_lt, unwrap_or}
use Rattle.std.specs.List.{list_all}
use Rattle.std.proofs.lemmas.Bool.{and_parts}
use Rattle.std.proofs.lemmas.List.Elements.{All-cons, All-head, All-nil, All-tail}
use Rattle.base.specs.declared.error.PoolError.{PoolError}
use Rattle.base.specs.declared.operation.Op.{Op}
use Rattle.base.specs.declared.operation.Op.TheVariants.{Create, Remove, Write, SetLength, SetName}
use Rattle.base.specs.tree.Mount.{Placed, records_above}
use Rattle.base.specs.formats.Chain.{LogPiece}
use Rattle.base.specs.formats.Records as formats
use Rattle.base.specs.formats.Records.{IsAllowed, is_content_allowed}
use Rattle.base.specs.history.Contents.{Contents}
use Rattle.base.specs.history.Plans.{is_shape_allowed, shape_of}
use Rattle.contents.specs.Judging.{ApplyTo}
use Rattle.contents.specs.Ops.{AreOpsAllowed, IsOpAllowed}
use Rattle.extents.specs.Patches.{laid_over}
use Rattle.extents.specs.Tables.{AppliesOps, name_of, patches_of}
use Rattle.records.specs.declared.record.Record.{Record}
use Rattle.records.specs.Records.{record_fields}
use Rattle.log_replay.specs.declared.replaying.Replayed.{Replayed}
use Rattle.log_replay.specs.Judged.{IsRecordRefusal}
use Rattle.log_replay.specs.Replays.{IsPieceAllowed, IsChainAllowed, IsReplayOf, IsReplayRefusal, record_in}
use Rattle.log_replay.specs.Walked.{HasReplayedTo, IsAtPieces, IsAtRecords, above_at, placed_at}
use Rattle.log_replay.proofs.WalkedRecords.{above-piece, above-cons, above-next, above-passed, begun, came_on, came_to_refused, ended}

-- an operation within the limits, with its bytes
op_allowed : (op : Op) → is_shape_allowed (shape_of op) ≡ true → is_content_allowed op ≡ true → IsOpAllowed op
op_allowed (Create n) shape content = (refl, shape)
op_allowed (Remove n) shape content = (refl, shape)
op_allowed (Write n offset bytes) shape content = (refl, shape)
op_allowed (SetLength n new) shape content = (refl, shape)
op_allowed (SetName bytes) shape content = (ap not content, shape)

ops_allowed : (ops : List Op) → list_all is_shape_allowed (map shape_of ops) ≡ true → list_all is_content_allowed ops ≡ true → AreOpsAllowed ops
ops_allowed [] shapes contents = All-nil IsOpAllowed
ops_allowed (op ∷ ops) shapes contents =
    let both = and_parts (is_shape_allowed (shape_of op)) (list_all is_shape_allowed (map shape_of ops)) shapes in
    let bytes = and_parts (is_content_allowed op) (list_all is_content_allowed ops) contents in
    All-cons IsOpAllowed op ops (op_allowed op both.0 bytes.0) (ops_allowed ops both.1 bytes.1)

-- the operations of a record within the limits
pub record_ops : (r : formats.Record) → IsAllowed r → AreOpsAllowed r.ops
record_ops r allowed = ops_allowed r.ops (and_parts (nat_lt 0 _) (list_all is_shape_allowed (map shape_of r.ops)) allowed.shapes).1 allowed.contents

fields_allowed : (xs : List Record) → All IsAllowed (map record_fields xs) → All (λ (r : Record). IsAllowed (record_fields r)) xs
fields_allowed [] all = All-nil (λ (r : Record). IsAllowed (record_fields r))
fields_allowed (x ∷ xs) all =
    All-cons (λ (r : Record). IsAllowed (record_fields r)) x xs (All-head IsAllowed (record_fields x) (map record_fields xs) all)
    (fields_allowed xs (All-tail IsAllowed (record_fields x) (map record_fields xs) all))

module _ (group : ℕ) (synced : Contents) where
  module _ (piece : LogPiece) (old : Replayed) where
    -- no record of the piece was looked at
    pub at_first : (records : List Record) → map record_fields records ≡ piece.records → IsPieceAllowed piece → IsAtRecords group synced piece records old old
    at_first records fields allowed =
        let above : records_above group (piece ∷ []) ≡ above_at group piece.address records = above-piece group piece records fields in
        record {
          allowed = fields_allowed records (rw fields allowed);
          walked = λ whole rest is. rw above at is;
        }

    module _ (r : Record) (left : List Record) (now : Replayed) (is : IsAtRecords group synced piece (r ∷ left) old now) where
      pub next_ops : AreOpsAllowed r.ops
      next_ops = record_ops (record_fields r) (All-head (λ (x : Record). IsAllowed (record_fields x)) r left is.allowed)

      rest_allowed : All (λ (x : Record). IsAllowed (record_fields x)) left
      rest_allowed = All-tail (λ (x : Record). IsAllowed (record_fields x)) r left is.allowed

      -- the next record is of a group that the tree has
      pub passed : nat_lt group r.group.0 ≡ false → IsAtRecords group synced piece left old now
      passed up_to = record {
        allowed = rest_allowed;
        walked = rw (above-passed group piece.address r left up_to) at is.walked;
      }

      module _ (above : nat_lt group r.group.0 ≡ true) where
        abbrev p : Placed
        p = placed_at piece.address r

        walked_next : (records rest : List Placed) → HasReplayedTo group synced records (records_above group (piece ∷ []) ++ rest) old
            → HasReplayedTo group synced records (p ∷ (above_at group piece.address left ++ rest)) now
        walked_next = rw (above-next group piece.address r left above) at is.walked

        -- it takes place
        pub applied : (new : Replayed) (x : Record) → record_fields x ≡ record_in (group + 4) p → AreOpsAllowed x.ops
            → ApplyTo x.ops (laid_over (patches_of now.extents) synced.objects) → AppliesOps x.ops now.extents new.extents
            → new.records.items ≡ now.records.items ++ x ∷ [] → IsAtRecords group synced piece left old new
        applied new x fields allowed applies added pushed = record {
          allowed = rest_allowed;
          walked = λ records rest from. came_on group synced records p (above_at group piece.address left ++ rest) now (walked_next records rest from) new x fields allowed applies added pushed;
        }

        -- it is refused
        pub refused : (e : PoolError) → IsRecordRefusal r.ops piece.address (laid_over (patches_of now.extents) synced.objects) e
            → (records rest : List Placed) → HasReplayedTo group synced records (records_above group (piece ∷ []) ++ rest) old → IsReplayRefusal records synced e
        refused e (inl none) records rest from = inl none
        refused e (inr (damaged, over)) records rest from =
            inr (piece.address, damaged, came_to_refused group synced records p (above_at group piece.address left ++ rest) now (walked_next records rest from) over.0 (over.1 (unwrap_or (name_of now.extents) synced.name)))

    -- no record of the piece is left
    pub piece_walked : (now : Replayed) → IsAtRecords group synced piece [] old now → (records rest : List Placed)
        → HasReplayedTo group synced records (records_above group (piece ∷ []) ++ rest) old → HasReplayedTo group synced records rest now
    piece_walked now is records rest from = is.walked records rest from

  module _ (chain : List LogPiece) where
    -- no piece of the chain was looked at
    pub at_first_piece : (r : Replayed) → IsReplayOf group synced [] r → IsChainAllowed chain → IsAtPieces group synced chain chain r
    at_first_piece r is allowed = record { allowed = allowed; walked = begun group synced (records_above group chain) r is }

    module _ (piece : LogPiece) (left : List LogPiece) (now : Replayed) (is : IsAtPieces group synced chain (piece ∷ left) now) where
      pub next_allowed : IsPieceAllowed piece
      next_allowed = All-head IsPieceAllowed piece left is.allowed

      from_here : HasReplayedTo group synced (records_above group chain) (records_above group (piece ∷ []) ++ records_above group left) now
      from_here = rw (above-cons group piece left) at is.walked

      -- the records of the next piece take place
      pub piece_applied : (new : Replayed)
          → ((records rest : List Placed) → HasReplayedTo group synced records (records_above group (piece ∷ []) ++ rest) now → HasReplayedTo group synced records rest new)
          → IsAtPieces group synced chain left new
      piece_applied new on = record {
        allowed = All-tail IsPieceAllowed piece left is.allowed;
        walked = on (records_above group chain) (records_above group left) from_here;
      }

      -- or one of them is refused
      pub piece_refused : (e : PoolError)
          → ((records rest : List Placed) → HasReplayedTo group synced records (records_above group (piece ∷ []) ++ rest) now → IsReplayRefusal records synced e)
          → IsReplayRefusal (records_above group chain) synced e
      piece_refused e why = why (records_above group chain) (records_above group left) from_here

    -- no piece is left
    pub chain_walked : (now : Replayed) → IsAtPieces group synced chain [] now → IsReplayOf group synced (records_above group chain) now
    chain_walked now is = ended group synced (records_above group chain) now is.walked
