use Rattle.std.specs.Vec.Iter.{into_iter_items}
use Rattle.contents.specs.ContentsShown.{contents_of}
use Rattle.log_replay.specs.Walked.{IsAtPieces}
use Rattle.log_replay.proofs.replaying.replay.Given as goal

-- the replay has come to the pieces that are left
abbrev pub invariant-loop-piece : goal.invariant-loop-piece
invariant-loop-piece l =
    (goal.iterator-loop-piece).can_next l.piece-iterator ×
    (goal.iterator-loop-piece).is_finite l.piece-iterator ×
    IsAtPieces l.fn.group.0 (contents_of l.fn.synced) l.fn.pieces.items (into_iter_items l.piece-iterator) l.replayed
