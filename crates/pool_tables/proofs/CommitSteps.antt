-- A commit, step by step.
use Rattle.std.proofs.Common.{ℕ, ◌≡◌, true, false, List, map, nat_lt, refl}
use Rattle.std.specs.Prelude.{Some, None, Ok, Err}
use Rattle.std.specs.List.{list_any}
use Rattle.base.specs.declared.error.PoolError.{PoolError}
use Rattle.base.specs.declared.error.PoolError.TheVariants as error
use Rattle.base.specs.declared.operation.Op.{Op}
use Rattle.base.specs.history.Contents.{Contents}
use Rattle.base.specs.steps.Groups.{Admission}
use Rattle.base.specs.history.History.{apply_all}
use Rattle.base.specs.formats.Limits.{last_number}
use Rattle.base.specs.history.Plans.{shape_of}
use Rattle.base.specs.steps.Refusals.{transaction_of, commit_refusal, is_same_plan, gives_bad_name}
use Rattle.base.specs.steps.Shown.{Shown}
use Rattle.base.specs.steps.Steps.{Commit}
use Rattle.pool_tables.specs.Meets.{MeetsExplained, MayCommit}

pub commit_none : (tx : ℕ) (ops : List Op) (s : Shown) → s.suspended ≡ false → transaction_of tx s ≡ None → commit_refusal tx ops s ≡ Some error.NoSuchTransaction
commit_none tx ops s h none = rw (h, none) refl

pub commit_out : (tx : ℕ) (ops : List Op) (a : Admission) (s : Shown) → s.suspended ≡ false → transaction_of tx s ≡ Some a
    → is_same_plan (map shape_of ops) a.plan ≡ false → commit_refusal tx ops s ≡ Some error.OutOfPlan
commit_out tx ops a s h some out = rw (h, some, out) refl

-- a name that is none
pub commit_misnamed : (tx : ℕ) (ops : List Op) (a : Admission) (s : Shown) → s.suspended ≡ false → transaction_of tx s ≡ Some a
    → is_same_plan (map shape_of ops) a.plan ≡ true → list_any gives_bad_name ops ≡ true → commit_refusal tx ops s ≡ Some error.BadRange
commit_misnamed tx ops a s h some same bad = rw (h, some, same, bad) refl

-- a transaction is open, its operations have its plan's shapes, and each name that they give is one
pub record IsInPlan (tx : ℕ) (ops : List Op) (a : Admission) (s : Shown) : Type 0 where
  pub running : s.suspended ≡ false
  pub found : transaction_of tx s ≡ Some a
  pub same : is_same_plan (map shape_of ops) a.plan ≡ true
  pub named : list_any gives_bad_name ops ≡ false

pub commit_fails : (tx : ℕ) (ops : List Op) (a : Admission) (e : PoolError) (s : Shown) → IsInPlan tx ops a s → apply_all ops s.contents ≡ Err e → commit_refusal tx ops s ≡ Some e
commit_fails tx ops a e s m fails = rw (m.running, m.found, m.same, m.named, fails) refl

pub commit_many : (tx : ℕ) (ops : List Op) (a : Admission) (after : Contents) (s : Shown) → IsInPlan tx ops a s → apply_all ops s.contents ≡ Ok after
    → nat_lt last_number s.next_ordinal ≡ true → commit_refusal tx ops s ≡ Some error.TooMany
commit_many tx ops a after s m ok many = rw (m.running, m.found, m.same, m.named, ok, many) refl

pub commit_passes : (tx : ℕ) (ops : List Op) (a : Admission) (after : Contents) (s : Shown) → IsInPlan tx ops a s → apply_all ops s.contents ≡ Ok after
    → nat_lt last_number s.next_ordinal ≡ false → MayCommit tx ops a.group s
commit_passes tx ops a after s m ok few = record {
  passes = rw (m.running, m.found, m.same, m.named, ok, few) refl;
  admission = a;
  found = m.found;
  group_is = refl;
  after = after;
  applied = ok;
}

pub commit_refused : (tx : ℕ) (ops : List Op) (e : PoolError) (s : Shown) → commit_refusal tx ops s ≡ Some e → MeetsExplained (Commit tx ops) (Err e) s s
commit_refused tx ops e s refused = λ past explained. (past, rw refused (refl, refl))

pub commit_wants : (tx : ℕ) (ops : List Op) (s : Shown) → commit_refusal tx ops s ≡ None → MeetsExplained (Commit tx ops) (Err error.NoMemory) s s
commit_wants tx ops s none = λ past explained. (past, rw none (refl, refl))
