use Rattle.std.proofs.Common.{◌∙◌, ap, sym, take, length, arith}
use Rattle.space.proofs.FreeLists.{free_from-0, length-rising}
use Rattle.pool_tables.specs.Shows.{pool_shown}
use Rattle.pool_tables.proofs.Charges.{available_told}
use Rattle.pool_tables.proofs.LogSteps.{may_write}
use Rattle.pool_tables.proofs.pool.PoolTables.lowest_free.Goals as goal

pub unreachable-requires : goal.unreachable-requires
unreachable-requires c =
    let pool = c.args.self.now in
    let some = (may_write (pool_shown pool) c.requires).blocks in
    let none = sym (length-rising pool.free.free) ∙ ap length (sym (free_from-0 pool.free.free) ∙ c.in_default.ensures.none) in
    let told = available_told pool in
    absurd (omega (arith, some, none, told))

pub returns : goal.returns
returns c = record {
  within = c.in-Some.ensures.within;
  free = c.in-Some.ensures.free;
  below = c.in-Some.ensures.skipped;
  first = ap (take 1) (sym (free_from-0 c.args.self.now.free.free) ∙ c.in-Some.ensures.lowest);
}
