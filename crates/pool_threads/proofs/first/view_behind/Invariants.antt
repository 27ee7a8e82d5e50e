use Rattle.pool_threads.specs.Views.{view_behind_disk}
use Rattle.pool_threads.proofs.first.view_behind.Given as goal

abbrev pub ghost-of : goal.ghost-of
ghost-of g a = view_behind_disk a.x.now.1.now (g.D.SectorDevice.disk a.x.now.0.now.value)
