use Rattle.std.specs.Vec.Iter.{into_iter_items}
use Rattle.contents.specs.ContentsShown.{contents_of}
use Rattle.log_replay.specs.Walked.{IsAtRecords}
use Rattle.log_replay.proofs.replaying.Replayed.apply_piece.Given as goal

-- the replay has come to the records that are left
abbrev pub invariant-loop-record : goal.invariant-loop-record
invariant-loop-record l =
    (goal.iterator-loop-record).can_next l.record-iterator ×
    (goal.iterator-loop-record).is_finite l.record-iterator ×
    IsAtRecords l.fn.group.0 (contents_of l.fn.synced) l.fn.piece (into_iter_items l.record-iterator) l.fn.self l.self
