use Rattle.std.proofs.Common.{ℕ, ◌≢◌, ◌∙◌, ap}
use Rattle.extents.specs.Patches.{basis_after_cut}
use Rattle.object_maps_clients.proofs.changes.groups.operations_go_to_their_group.Goals as goal

pub returns-clause-here : goal.returns-clause-here
returns-clause-here c = (c.apply.ensures.applied.patches 7).basis ∙ ap (basis_after_cut 100) ((c.reserve.ensures.same.patches 1 7).basis ∙ c.requires)

pub returns-clause-others : goal.returns-clause-others
returns-clause-others c =
    let apart : ◌≢◌ {A = ℕ} 2 1 = λ e. cc in
    c.apply.ensures.others 2 apart ∙ c.reserve.ensures.others 2 apart
