use Rattle.std.proofs.Common.{ℕ, List, subst}
use Rattle.commands.specs.NewPools.{CreatesOn}
use Rattle.commands.proofs.pool_files.NewPool.make.Goals as goal

pub returns-in-Ok-clause-made : goal.returns-in-Ok-clause-made
returns-in-Ok-clause-made g c =
    let pool = c.args.self.now in
    subst (λ (name : List ℕ). CreatesOn g.D.SectorDevice name pool.guid pool.moment c.args.device c.in-Ok.device) c.as_slice.ensures.bytes
    (record { can = c.in-Ok.ensures.made; created = c.in-Ok.ensures.created; own = c.in-Ok.ensures.own; left = c.in-Ok.ensures.left })
