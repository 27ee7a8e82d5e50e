-- A refused step leaves what is told of a pool, whatever word stands for its reply.
use Rattle.std.proofs.Common.{◌≡◌, ℕ, List, refl, sym, subst}
use Rattle.base.specs.declared.error.PoolError.{PoolError}
use Rattle.base.specs.declared.step.Reply as declared_reply
use Rattle.base.specs.declared.step.Reply.TheVariants as reply
use Rattle.pool_tables.specs.declared.pool.PoolTables.{PoolTables}
use Rattle.pool_tables.specs.Told.{Leads, ShownPool, pool_told}

-- with another word for its reply
pub leads_as : (r given : declared_reply.Reply) (old new : ShownPool) → r ≡ given → Leads r old new → Leads given old new
leads_as r given old new is leads = subst (λ (q : declared_reply.Reply). Leads q old new) is leads

-- a refused step of a pool that stands
pub still_pool : (given : declared_reply.Reply) (e : PoolError) (now : List ℕ) (pool : PoolTables) → given ≡ reply.Refused e → Leads given (pool_told pool now) (pool_told pool now)
still_pool given e now pool is =
    subst (λ (r : declared_reply.Reply). Leads r (pool_told pool now) (pool_told pool now)) (sym is) (λ past later. (refl, refl, refl))
