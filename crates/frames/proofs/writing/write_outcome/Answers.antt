use Rattle.std.proofs.Common.{[], ◌∷◌}
use Rattle.frames.specs.Answers.{bytes_of_receipt, bytes_of_refusal, bytes_of_status}
use Rattle.records.proofs.WrittenOps.{Appends-then}
use Rattle.frames.proofs.writing.write_outcome.Goals as goal

pub returns-in-Transacted : goal.returns-in-Transacted
returns-in-Transacted c = rw c.in-Transacted.is (Appends-then c.args.out.now c.write_bytes-in-Transacted.new.out c.write_receipt.new.out (1 ∷ []) (bytes_of_receipt c.in-Transacted.receipt) c.write_bytes-in-Transacted.ensures c.write_receipt.ensures)

pub returns-in-MadeDurable : goal.returns-in-MadeDurable
returns-in-MadeDurable c = rw c.in-MadeDurable.is (Appends-then c.args.out.now c.write_bytes-in-MadeDurable.new.out c.write_receipt-in-MadeDurable.new.out (2 ∷ []) (bytes_of_receipt c.in-MadeDurable.receipt) c.write_bytes-in-MadeDurable.ensures c.write_receipt-in-MadeDurable.ensures)

pub returns-in-NotDurable : goal.returns-in-NotDurable
returns-in-NotDurable c =
    rw c.in-NotDurable.is (Appends-then c.args.out.now c.write_receipt-in-NotDurable.new.out c.write_refusal-in-NotDurable.new.out (11 ∷ bytes_of_receipt c.in-NotDurable.receipt) (bytes_of_refusal c.in-NotDurable.error)
    (Appends-then c.args.out.now c.write_bytes-in-NotDurable.new.out c.write_receipt-in-NotDurable.new.out (11 ∷ []) (bytes_of_receipt c.in-NotDurable.receipt) c.write_bytes-in-NotDurable.ensures c.write_receipt-in-NotDurable.ensures) c.write_refusal-in-NotDurable.ensures)

pub returns-in-Status : goal.returns-in-Status
returns-in-Status c = rw c.in-Status.is (Appends-then c.args.out.now c.write_bytes-in-Status.new.out c.write_status.new.out (6 ∷ []) (bytes_of_status c.in-Status.status) c.write_bytes-in-Status.ensures c.write_status.ensures)
