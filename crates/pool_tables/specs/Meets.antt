-- A step of a pool, in a run with any past.
use Rattle.std.specs.Prelude.{ℕ, ◌≡◌, Bool, true, false, List, [], ◌∷◌, Option, Result, Ok, Err, Some, None, is_none, nat_le}
use Rattle.base.specs.declared.error.PoolError.{PoolError}
use Rattle.base.specs.declared.error.PoolError.TheVariants as error
use Rattle.base.specs.declared.names.Group.{Group}
use Rattle.base.specs.declared.names.Owner.{Owner}
use Rattle.base.specs.declared.names.TxId.{TxId}
use Rattle.base.specs.declared.operation.Op.{Op}
use Rattle.base.specs.declared.operation.Shape.{Shape}
use Rattle.base.specs.formats.Limits.{object_count}
use Rattle.base.specs.history.Contents.{Contents, length_of}
use Rattle.base.specs.steps.Tables.{AreTablesExplained}
use Rattle.base.specs.steps.Groups.{Admission}
use Rattle.base.specs.history.History.{apply_all}
use Rattle.base.specs.history.Past.{Past}
use Rattle.base.specs.steps.Refusals.{Test, begin_tests, commit_refusal, first_refusal, refused_if, transaction_of}
use Rattle.base.specs.steps.Shown.{Shown}
use Rattle.base.specs.steps.Steps.{State}

-- whatever the past of a run, the step leads with this answer from what was shown before to what is shown after, and to
-- a later past
abbrev pub Meets : {A : Type 0} → (Result A PoolError → State → State → Type 0) → Result A PoolError → Shown → Shown → Type 0
Meets Step answer old new = (past : Past) → (later : Past) × Step answer (record { shown = old; past = past }) (record { shown = new; past = later })

-- and so it does for each past that explains what was shown
abbrev pub MeetsExplained : {A : Type 0} → (Result A PoolError → State → State → Type 0) → Result A PoolError → Shown → Shown → Type 0
MeetsExplained Step answer old new = (past : Past) → AreTablesExplained old past → (later : Past) × Step answer (record { shown = old; past = past }) (record { shown = new; past = later })

-- a transaction may commit: no test of its commit applies, it is open in this group, and its operations take place
pub record MayCommit (tx : ℕ) (ops : List Op) (group : ℕ) (s : Shown) : Type 0 where
  pub passes : commit_refusal tx ops s ≡ None
  pub admission : Admission
  pub found : transaction_of tx s ≡ Some admission
  pub group_is : admission.group ≡ group
  pub after : Contents
  pub applied : apply_all ops s.contents ≡ Ok after

-- refused with this reason exactly if its test applies
abbrev pub RefusesIf : {A : Type 0} → Bool → PoolError → Result A PoolError → Type 0
RefusesIf test reason (Ok a) = test ≡ false
RefusesIf test reason (Err e) = (e ≡ reason) × (test ≡ true)

-- why an object's length is not told, except for a suspended pool
abbrev pub object_refusal : ℕ → Shown → Option PoolError
object_refusal n s = first_refusal (refused_if (nat_le object_count n) error.BadRange ∷ refused_if (is_none (length_of s.contents n)) error.NoObject ∷ [])

-- the length of an object, or the first refusal that applies
abbrev pub FindsLength : ℕ → Result ℕ PoolError → Shown → Type 0
FindsLength n (Ok length) s = (nat_le object_count n ≡ false) × (length_of s.contents n ≡ Some length)
FindsLength n (Err e) s = object_refusal n s ≡ Some e

-- none of these tests applies, or it is refused by the first that does
abbrev pub Passes : {A : Type 0} → List Test → Result A PoolError → Type 0
Passes tests (Ok a) = first_refusal tests ≡ None
Passes tests (Err e) = first_refusal tests ≡ Some e

-- the tests of a begin and of a commit: passed, or the first refusal that applies
abbrev pub ChecksBegin : {A : Type 0} → Owner → List Shape → Result A PoolError → Shown → Type 0
ChecksBegin owner plan answer s = Passes (begin_tests owner.0 plan s) answer

abbrev pub ChecksCommit : TxId → List Op → Result Group PoolError → Shown → Type 0
ChecksCommit tx ops (Ok group) s = MayCommit tx.0 ops group.0 s
ChecksCommit tx ops (Err e) s = commit_refusal tx.0 ops s ≡ Some e
