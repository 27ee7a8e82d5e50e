use Rattle.std.proofs.Common.{ℕ, List, [], ◌∷◌, take}
use Rattle.std.specs.List.{flat_map}
use Rattle.base.specs.tree.Mount.{records_above}
use Rattle.base.specs.formats.Chain.{LogPiece}
use Rattle.contents.specs.Judging.{with_name}
use Rattle.log_replay.specs.AddedRecords.{AreChangesOf}
use Rattle.log_replay.proofs.changes.changes_of.Given as goal

-- the records of the pieces so far take place, as many as are counted, and this is what they change
abbrev pub invariant-loop-piece : goal.invariant-loop-piece
invariant-loop-piece g l = (name : List ℕ) → AreChangesOf (flat_map (λ (b : LogPiece). records_above l.group.0 (b ∷ [])) (take l.piece-index l.pieces)) (with_name (g.O.ObjectSource.objects l.objects) name) (l.changes, l.count)
