use Rattle.std.proofs.Common.{ℕ, List, [], ◌∷◌, take, Ok}
use Rattle.std.specs.List.{flat_map}
use Rattle.contents.specs.Judging.{with_name}
use Rattle.records.specs.declared.record.Record.{Record}
use Rattle.log_replay.specs.AddedRecords.{AddsRecords}
use Rattle.log_replay.specs.Walked.{above_at}
use Rattle.log_replay.proofs.changes.add_piece.Given as goal

-- the records so far take place, as many as are counted, and this is what they change
abbrev pub invariant-loop-logged : goal.invariant-loop-logged
invariant-loop-logged g l =
    (name : List ℕ) → AddsRecords (with_name (g.O.ObjectSource.objects l.objects) name) (flat_map (λ (r : Record). above_at l.group.0 l.address (r ∷ [])) (take l.logged-index l.records)) l.fn.changes (Ok l.count) l.changes
