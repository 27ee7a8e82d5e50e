-- What each step of a pool answers, from what was shown before it to what is shown after it.
use Rattle.std.specs.Prelude.{ℕ, List, [], Result}
use Rattle.base.specs.declared.error.PoolError.{PoolError}
use Rattle.base.specs.declared.names.Group.{Group}
use Rattle.base.specs.declared.names.LockId.{LockId}
use Rattle.base.specs.declared.names.ObjectId.{ObjectId}
use Rattle.base.specs.declared.names.Owner.{Owner}
use Rattle.base.specs.declared.names.Receipt.{Receipt}
use Rattle.base.specs.declared.names.TxId.{TxId}
use Rattle.base.specs.declared.operation.Op.{Op}
use Rattle.base.specs.declared.operation.Shape.{Shape}
use Rattle.base.specs.declared.range.Mode.{Mode}
use Rattle.base.specs.declared.range.Range.{Range}
use Rattle.base.specs.steps.Refusals.{object_range}
use Rattle.base.specs.steps.Shown.{Shown}
use Rattle.base.specs.steps.Steps as steps
use Rattle.pool_tables.specs.declared.pool.Progress.{Progress}
use Rattle.pool_tables.specs.Meets.{Meets, MeetsExplained}
use Rattle.pool_tables.specs.Progresses.{plain_progress}
use Rattle.pool_tables.specs.Tables.{result_map}

-- the names and the numbers in an answer, as the definitions speak of them
abbrev pub lock_number : LockId → ℕ
lock_number id = id.0

abbrev pub group_number : Group → ℕ
group_number group = group.0

abbrev pub appended_numbers : LockId × Range → ℕ × ℕ × ℕ
appended_numbers (id, range) = (id.0, range.low, range.high)

abbrev pub admitted_numbers : TxId × Group → ℕ × ℕ
admitted_numbers (tx, group) = (tx.0, group.0)

abbrev pub receipt_numbers : Receipt → ℕ × ℕ
receipt_numbers receipt = (receipt.ordinal.0, receipt.group.0)

abbrev pub Locks : Owner → ObjectId → Range → Mode → Result LockId PoolError → Shown → Shown → Type 0
Locks owner object range mode answer = Meets (steps.Lock owner.0 (object_range object.0 range.low range.high) mode) (result_map lock_number answer)

abbrev pub LocksAppend : Owner → ObjectId → Result (LockId × Range) PoolError → Shown → Shown → Type 0
LocksAppend owner object answer = Meets (steps.LockAppend owner.0 object.0) (result_map appended_numbers answer)

abbrev pub Unlocks : Owner → LockId → Result (Unit {0}) PoolError → Shown → Shown → Type 0
Unlocks owner id answer = Meets (steps.Unlock owner.0 id.0) answer

abbrev pub Begins : Owner → List Shape → Result (TxId × Group) PoolError → Shown → Shown → Type 0
Begins owner plan answer = Meets (steps.Begin owner.0 plan) (result_map admitted_numbers answer)

-- for each past that explains what was shown: in whatever order groups commit, their history tells the contents
abbrev pub Commits : TxId → List Op → Result Receipt PoolError → Shown → Shown → Type 0
Commits tx ops answer = MeetsExplained (steps.Commit tx.0 ops) (result_map receipt_numbers answer)

abbrev pub Aborts : TxId → Result (Unit {0}) PoolError → Shown → Shown → Type 0
Aborts tx answer = Meets (steps.Abort tx.0) answer

abbrev pub Reads : Owner → ObjectId → Range → Result (List ℕ) PoolError → Shown → Type 0
Reads owner object range answer shown = Meets (steps.Read ⊥ owner.0 (object_range object.0 range.low range.high)) answer shown shown

abbrev pub TellsLength : ObjectId → Result ℕ PoolError → Shown → Type 0
TellsLength object answer shown = Meets (steps.Length object.0) answer shown shown

abbrev pub TellsDigest : Result (List ℕ) PoolError → Shown → Type 0
TellsDigest answer shown = Meets (steps.Digest ⊥) answer shown shown

abbrev pub ClosesGroup : Result Group PoolError → Shown → Shown → Type 0
ClosesGroup answer = Meets steps.CloseGroup (result_map group_number answer)

abbrev pub MarksQuiesced : Result Group PoolError → Shown → Shown → Type 0
MarksQuiesced answer = Meets steps.MarkQuiesced (result_map group_number answer)

-- for each past that explains what was shown; over which bytes, says SyncStarts
abbrev pub StartsSync : ℕ → Result Group PoolError → Shown → Shown → Type 0
StartsSync moment answer = MeetsExplained (steps.StartSync ⊥ [] moment) (result_map group_number answer)

abbrev pub StepsSync : Result Progress PoolError → Shown → Shown → Type 0
StepsSync answer = Meets steps.SyncStep (result_map plain_progress answer)

abbrev pub WritesLog : Result ℕ PoolError → Shown → Shown → Type 0
WritesLog answer = Meets steps.LogWrite answer

abbrev pub FlushesLog : Result (Unit {0}) PoolError → Shown → Shown → Type 0
FlushesLog answer = Meets steps.LogFlush answer
