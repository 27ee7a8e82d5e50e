-- The tests of a commit, as the pool makes them and as they are defined.
use Rattle.std.proofs.Common.{◌≡◌, ◌∙◌, ◌↔◌, ◌≤◌, ℕ, Bool, true, false, List, map, ap, sym, subst}
use Rattle.std.specs.Prelude.{IsTrue, Result, Some}
use Rattle.std.specs.List.{list_any}
use Rattle.std.specs.FinMap.{FinMap}
use Rattle.std.specs.Ordering.{nat_cmp}
use Rattle.base.specs.declared.error.PoolError.{PoolError}
use Rattle.base.specs.declared.operation.Op.{Op}
use Rattle.base.specs.declared.operation.Shape.{Shape}
use Rattle.base.specs.formats.Limits.{max_log_record}
use Rattle.base.specs.history.Plans.{is_plan_allowed, log_record_size, shape_of}
use Rattle.base.specs.steps.Groups.{Admission}
use Rattle.base.specs.steps.Refusals.{gives_bad_name, is_same_plan, transaction_of}
use Rattle.unsynced_extents.specs.Unsynced.{name_over}
use Rattle.contents.specs.ContentsShown.{Judges}
use Rattle.contents.specs.Judging.{JudgesOver}
use Rattle.contents.specs.Ops.{AreOpsAllowed}
use Rattle.pool_tables.specs.declared.pool.PoolTables.{PoolTables}
use Rattle.pool_tables.specs.Entries.{FitsRecord}
use Rattle.pool_tables.specs.Shows.{pool_objects, pool_shown}
use Rattle.pool_tables.proofs.CommitSteps.{IsInPlan}
use Rattle.pool_tables.proofs.Opens.{found_allowed, found_small}
use Rattle.pool_tables.proofs.SamePlans.{allowed_ops}

-- operations that were tested against the plan of an open transaction
module _ (tx : ℕ) (ops : List Op) (pool : PoolTables) (a : Admission) (found : transaction_of tx (pool_shown pool) ≡ Some a) {test : Bool} (passed : test ≡ true) (plan : List Shape) (plan_is : plan ≡ a.plan)
    (tested : IsTrue test ↔ (map shape_of ops ≡ plan)) where
  -- where they have its shapes, and each name is one, they are allowed
  pub ops_allowed : list_any gives_bad_name ops ≡ false → AreOpsAllowed ops
  ops_allowed named = allowed_ops ops a.plan (tested.0 passed ∙ plan_is) named (found_allowed tx pool.transactions.transactions a found pool.accounted.plans_allowed)

  -- their record fits the log
  pub ops_fit : FitsRecord ops
  ops_fit =
      let same : map shape_of ops ≡ a.plan = tested.0 passed ∙ plan_is in
      record {
        shapes = subst (λ (p : List Shape). is_plan_allowed p ≡ true) (sym same) (found_allowed tx pool.transactions.transactions a found pool.accounted.plans_allowed);
        size = subst (λ (p : List Shape). log_record_size p ≤ max_log_record) (sym same) (found_small tx pool.transactions.transactions a found pool.accounted.plans_small);
      }

  -- and they pass the tests up to that of the contents
  pub same_shapes : test ≡ is_same_plan (map shape_of ops) plan → is_same_plan (map shape_of ops) a.plan ≡ true
  same_shapes told = sym (told ∙ ap (is_same_plan (map shape_of ops)) plan_is) ∙ passed

  pub in_plan : pool.suspended ≡ false → test ≡ is_same_plan (map shape_of ops) plan → list_any gives_bad_name ops ≡ false → IsInPlan tx ops a (pool_shown pool)
  in_plan running told named = record {
    running = running;
    found = found;
    same = same_shapes told;
    named = named;
  }

-- what is judged over the objects that a pool shows is judged on its contents
pub judged : (ops : List Op) (pool : PoolTables) (answer : Result (Unit {0}) PoolError) {objects : FinMap nat_cmp (List ℕ)} → objects ≡ pool_objects pool → JudgesOver ops objects answer → Judges ops (pool_shown pool).contents answer
judged ops pool answer are told = subst (λ (o : FinMap nat_cmp (List ℕ)). JudgesOver ops o answer) are told (name_over pool.changes pool.synced.name)
