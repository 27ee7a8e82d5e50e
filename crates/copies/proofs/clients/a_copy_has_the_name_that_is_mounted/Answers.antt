use Rattle.std.proofs.Common.{List, ℕ, subst, ◌∙◌}
use Rattle.std.specs.List.{flat_map}
use Rattle.std.proofs.lemmas.Result.{IfOk-weaker}
use Rattle.copies.specs.Copies.{object_writes}
use Rattle.copies.specs.NewPools.{HoldsTransactions}
use Rattle.copies.proofs.clients.a_copy_has_the_name_that_is_mounted.Goals as goal

pub returns : goal.returns
returns g c = λ keeps kept contents mounts tank.
    let N = g.N.SectorDevice in
    let on = c.copy_on in
    IfOk-weaker on.result.0 _ _
    (λ whole copy. let all = flat_map object_writes copy.all.steps in (all, subst (λ (name : List ℕ). HoldsTransactions name all (N.disk on.result.1)) (on.ensures.named keeps contents mounts ∙ tank) (copy.holds kept)))
    on.ensures.copied
