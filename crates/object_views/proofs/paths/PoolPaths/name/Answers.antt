use Rattle.std.proofs.Common.{◌≡◌, rules, ◌∙◌}
use Rattle.object_views.specs.PoolNames.{name_of}
use Rattle.object_views.proofs.PoolNames.{name_mounted}
use Rattle.object_views.proofs.paths.PoolPaths.name.Goals as goal

pub returns-clause-mounted : goal.returns-clause-mounted
returns-clause-mounted c = λ allowed image paths contents mounts.
    let is : c.rename_by_chain.new.name ≡ name_of c.args.self.now = search rules in is ∙ name_mounted c.args.self.now allowed image paths contents mounts
