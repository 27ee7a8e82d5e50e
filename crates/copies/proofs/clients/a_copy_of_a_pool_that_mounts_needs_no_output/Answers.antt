use Rattle.std.proofs.lemmas.Result.{IfErr-weaker}
use Rattle.copies.proofs.Ends.{not_unwritten}
use Rattle.copies.proofs.clients.a_copy_of_a_pool_that_mounts_needs_no_output.Goals as goal

pub returns : goal.returns
returns g c = λ keeps contents mounts.
    let D = g.D.SectorDevice in
    IfErr-weaker c.copy_on.result.0 _ _ (λ why failed. not_unwritten D.keeps_model (D.disk c.args.old.now) _ keeps contents mounts why failed) c.copy_on.ensures.failed
