use Rattle.std.proofs.Common.{[], ◌∷◌, take, Ok}
use Rattle.std.specs.List.{flat_map}
use Rattle.records.specs.declared.record.Record.{Record}
use Rattle.log_replay.specs.Walked.{above_at}
use Rattle.object_views.specs.OwnRecords.{AddsOwn, own_of_records}
use Rattle.object_views.proofs.own_records.OwnObject.add_piece.Given as goal

-- the operations of the records so far are added
abbrev pub invariant-loop-logged : goal.invariant-loop-logged
invariant-loop-logged l =
    AddsOwn l.self.id.0 l.self.size (flat_map (λ (r : Record). own_of_records l.self.id.0 (above_at l.group.0 l.address (r ∷ []))) (take l.logged-index l.records)) l.fn.changes (Ok tt) l.changes
