use Rattle.std.proofs.Common.{◌∙◌, ap, sym, subst}
use Rattle.base.specs.disk.Disk.{disk_size}
use Rattle.pool_threads.specs.Handles.{StartsBehind}
use Rattle.pool_threads.proofs.Firsts.{ready_behind}
use Rattle.pool_threads.proofs.first.state_behind.Goals as goal

pub returns : goal.returns
returns g c =
    let disk = g.D.SectorDevice.disk in
    let old = disk c.args.before.now.value in
    let m = c.args.imported.mounted in
    let given = c.new.ensures in
    ready_behind old m c.new.result (λ keeps. subst (λ d. StartsBehind old m (disk d)) (sym given.device) (c.requires keeps)) given.shown c.args.imported.cache.cap given.cache c.args.imported.device given.device
    (λ keeps. ap (λ d. disk_size (disk d)) given.device ∙ g.met.D.SectorDevice.sized keeps c.args.imported.device ∙ c.args.imported.sized) given.safe given.explained given.held
