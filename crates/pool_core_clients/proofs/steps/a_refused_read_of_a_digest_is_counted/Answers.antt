use Rattle.std.proofs.Common.{◌≡◌, ◌∙◌, ap, List, ℕ}
use Rattle.std.specs.Prelude.{Result, Ok, Err, IfErr}
use Rattle.base.specs.declared.error.PoolError.{PoolError}
use Rattle.base.specs.declared.error.PoolError.TheVariants as error
use Rattle.base.specs.declared.refused.RefusedCalls.{RefusedCalls}
use Rattle.base.specs.disk.Calls.{counted, with_refusal}
use Rattle.pool_tables.specs.Shows.{pool_shown}
use Rattle.pool_tables.specs.declared.pool.PoolTables.{PoolTables}
use Rattle.pool_core_clients.proofs.steps.a_refused_read_of_a_digest_is_counted.Goals as goal

abbrev none : RefusedCalls
none = record { reads = 0; writes = 0; flushes = 0 }

abbrev one : RefusedCalls
one = record { reads = 1; writes = 0; flushes = 0 }

counts_one : (answer : Result (List ℕ) PoolError) (old new : RefusedCalls) → old ≡ none → new ≡ counted answer old → IfErr answer (λ e. e ≡ error.Read → new ≡ one)
counts_one (Ok d) old new none_yet count = tt
counts_one (Err e) old new none_yet count = λ is. count ∙ ap (λ (x : PoolError). with_refusal x old) is ∙ ap (λ (r : RefusedCalls). with_refusal error.Read r) none_yet

pub returns-clause-counted : goal.returns-clause-counted
returns-clause-counted g c = counts_one c.digest.result _ _ c.requires.none c.digest.ensures.reads.count

pub returns-clause-running : goal.returns-clause-running
returns-clause-running g c = ap (λ (p : PoolTables). (pool_shown p).suspended) c.digest.ensures.tables ∙ c.requires.running
