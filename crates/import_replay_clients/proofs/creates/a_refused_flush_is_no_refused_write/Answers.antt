use Rattle.std.proofs.Common.{◌∙◌, ap}
use Rattle.base.specs.declared.error.PoolError.{PoolError}
use Rattle.base.specs.declared.error.PoolError.TheVariants.{Flush, Write}
use Rattle.base.specs.disk.Calls.{with_refusal}
use Rattle.import_replay_clients.proofs.Promises.{err_of}
use Rattle.import_replay_clients.proofs.creates.a_refused_flush_is_no_refused_write.Goals as goal

pub returns-clause-flush : goal.returns-clause-flush
returns-clause-flush g c = err_of c.create.result _ _ _ (λ e told is.
    told ∙ ap (λ (x : PoolError). with_refusal x (g.D.SectorDevice.refused c.args.device)) is ∙ ap (with_refusal Flush) c.requires) c.create.ensures.count

pub returns-clause-write : goal.returns-clause-write
returns-clause-write g c = err_of c.create.result _ _ _ (λ e told is.
    told ∙ ap (λ (x : PoolError). with_refusal x (g.D.SectorDevice.refused c.args.device)) is ∙ ap (with_refusal Write) c.requires) c.create.ensures.count
