use Rattle.std.proofs.Common.{rules}
use Rattle.base.specs.declared.step.Reply.TheVariants as reply
use Rattle.pool_core.proofs.MadeSteps.{mapped}
use Rattle.pool_core.proofs.runs.StepPoolCall.make.Goals as goal

pub returns-in-Lock : goal.returns-in-Lock
returns-in-Lock g c = rw c.in-Lock.is (mapped _ c.make.result c.map.result c.map.ensures.cases c.make.ensures)

pub returns-in-LockAppend : goal.returns-in-LockAppend
returns-in-LockAppend g c = rw c.in-LockAppend.is (mapped (λ a. reply.Appended a.0 a.1) c.make-in-LockAppend.result c.map-in-LockAppend.result (search rules) c.make-in-LockAppend.ensures)

pub returns-in-Unlock : goal.returns-in-Unlock
returns-in-Unlock g c = rw c.in-Unlock.is (mapped (λ _. reply.Done) c.make-in-Unlock.result c.map-in-Unlock.result (search rules) c.make-in-Unlock.ensures)

pub returns-in-Begin : goal.returns-in-Begin
returns-in-Begin g c = rw c.in-Begin.is (mapped (λ a. reply.Began a.0 a.1) c.make-in-Begin.result c.map-in-Begin.result (search rules) c.make-in-Begin.ensures)

pub returns-in-Commit : goal.returns-in-Commit
returns-in-Commit g c = rw c.in-Commit.is (mapped _ c.make-in-Commit.result c.map-in-Commit.result c.map-in-Commit.ensures.cases c.make-in-Commit.ensures)

pub returns-in-Abort : goal.returns-in-Abort
returns-in-Abort g c = rw c.in-Abort.is (mapped (λ _. reply.Done) c.make-in-Abort.result c.map-in-Abort.result (search rules) c.make-in-Abort.ensures)

pub returns-in-Read : goal.returns-in-Read
returns-in-Read g c = rw c.in-Read.is (mapped _ c.make-in-Read.result c.map-in-Read.result c.map-in-Read.ensures.cases c.make-in-Read.ensures)

pub returns-in-Length : goal.returns-in-Length
returns-in-Length g c = rw c.in-Length.is (mapped _ c.make-in-Length.result c.map-in-Length.result c.map-in-Length.ensures.cases c.make-in-Length.ensures)

pub returns-in-Digest : goal.returns-in-Digest
returns-in-Digest g c = rw c.in-Digest.is (mapped _ c.make-in-Digest.result c.map-in-Digest.result c.map-in-Digest.ensures.cases c.make-in-Digest.ensures)

pub returns-in-Name : goal.returns-in-Name
returns-in-Name g c = rw c.in-Name.is (mapped _ c.make-in-Name.result c.map-in-Name.result c.map-in-Name.ensures.cases c.make-in-Name.ensures)

pub returns-in-Status : goal.returns-in-Status
returns-in-Status g c = rw c.in-Status.is (mapped _ c.make-in-Status.result c.map-in-Status.result c.map-in-Status.ensures.cases c.make-in-Status.ensures)

pub returns-in-CloseGroup : goal.returns-in-CloseGroup
returns-in-CloseGroup g c = rw c.in-CloseGroup.is (mapped _ c.make-in-CloseGroup.result c.map-in-CloseGroup.result c.map-in-CloseGroup.ensures.cases c.make-in-CloseGroup.ensures)

pub returns-in-MarkQuiesced : goal.returns-in-MarkQuiesced
returns-in-MarkQuiesced g c = rw c.in-MarkQuiesced.is (mapped _ c.make-in-MarkQuiesced.result c.map-in-MarkQuiesced.result c.map-in-MarkQuiesced.ensures.cases c.make-in-MarkQuiesced.ensures)

pub returns-in-StartSync : goal.returns-in-StartSync
returns-in-StartSync g c = rw c.in-StartSync.is (mapped _ c.make-in-StartSync.result c.map-in-StartSync.result c.map-in-StartSync.ensures.cases c.make-in-StartSync.ensures)

pub returns-in-SyncStep : goal.returns-in-SyncStep
returns-in-SyncStep g c = rw c.in-SyncStep.is (mapped _ c.make-in-SyncStep.result c.map-in-SyncStep.result c.map-in-SyncStep.ensures.cases c.make-in-SyncStep.ensures)

pub returns-in-LogWrite : goal.returns-in-LogWrite
returns-in-LogWrite g c = rw c.in-LogWrite.is (mapped _ c.make-in-LogWrite.result c.map-in-LogWrite.result c.map-in-LogWrite.ensures.cases c.make-in-LogWrite.ensures)

pub returns-in-LogFlush : goal.returns-in-LogFlush
returns-in-LogFlush g c = rw c.in-LogFlush.is (mapped (λ _. reply.Flushed) c.make-in-LogFlush.result c.map-in-LogFlush.result (search rules) c.make-in-LogFlush.ensures)

pub returns-in-Durable : goal.returns-in-Durable
returns-in-Durable g c = rw c.in-Durable.is (mapped _ c.make-in-Durable.result c.map-in-Durable.result c.map-in-Durable.ensures.cases c.make-in-Durable.ensures)
