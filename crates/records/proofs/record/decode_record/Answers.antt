use Rattle.std.proofs.Common.{arith}
use Rattle.records.specs.Records.{record_fields}
use Rattle.records.proofs.RecordsRead.{none_is, only_is, record_takes}
use Rattle.records.proofs.record.decode_record.Goals as goal

pub returns-in-Ok-clause-found : goal.returns-in-Ok-clause-found
returns-in-Ok-clause-found c = record_takes c.args.bytes.now (record_fields c.in-Ok.committed, c.in-Ok.rest.now) (λ i. omega (arith, c.type_inv.bytes i)) c.in-Ok.ensures

pub returns-in-Ok-clause-again : goal.returns-in-Ok-clause-again
returns-in-Ok-clause-again c = only_is c.args.bytes.now (record_fields c.in-Ok.committed, c.in-Ok.rest.now) c.in-Ok.ensures

pub returns-in-Err-NoRecord-clause-none : goal.returns-in-Err-NoRecord-clause-none
returns-in-Err-NoRecord-clause-none c = none_is c.args.bytes.now (rw c.in-Err-NoRecord.field-0-is at c.in-Err-NoRecord.ensures)

pub returns-in-Err-NoRecord-clause-again : goal.returns-in-Err-NoRecord-clause-again
returns-in-Err-NoRecord-clause-again c = none_is c.args.bytes.now (rw c.in-Err-NoRecord.field-0-is at c.in-Err-NoRecord.ensures)
