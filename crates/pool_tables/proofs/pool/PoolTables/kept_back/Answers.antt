use Rattle.std.proofs.Common.{◌∙◌, refl, rules, sym}
use Rattle.pool_tables.specs.Shows.{pool_shown}
use Rattle.pool_tables.proofs.pool.PoolTables.kept_back.Goals as goal

pub returns-then-is_shrinking : goal.returns-then-is_shrinking
returns-then-is_shrinking c =
    let shrinks = sym (c.is_shrinking.ensures (pool_shown c.args.self.now).contents (λ n told h. search rules)) ∙ c.if-is_shrinking.true in
    rw shrinks refl

pub returns-else-is_shrinking : goal.returns-else-is_shrinking
returns-else-is_shrinking c =
    let stays = sym (c.is_shrinking.ensures (pool_shown c.args.self.now).contents (λ n told h. search rules)) ∙ c.if-is_shrinking.false in
    rw stays refl
