use Rattle.std.proofs.Common.{subst}
use Rattle.std.specs.Prelude.{IsTrue}
use Rattle.pool_core.specs.States.{shown}
use Rattle.pool_tables.specs.declared.duty.Duty.TheVariants as duty
use Rattle.pool_tables.specs.Receipts.{ChecksReceipt}
use Rattle.pool_threads.proofs.Looked.{found_by}
use Rattle.pool_threads.proofs.OneTurn.{done_by}
use Rattle.pool_threads.proofs.Served.{grows_from}
use Rattle.pool_threads.specs.Waits.{IsLogTurn}
use Rattle.word_lock.specs.Turns.{turn}
use Rattle.pool_threads.proofs.turn.log_turn.Goals as goal

pub put_back-requires-clause-grows : goal.put_back-requires-clause-grows
put_back-requires-clause-grows g c = grows_from _ duty.CommitLog _ _ _ _ c.requires.view c.serve_noted-reply.ensures.made

pub returns-clause-done : goal.returns-clause-done
returns-clause-done g c =
    let made = c.serve_noted-reply in
    let checked = subst (λ p. ChecksReceipt c.args.receipt c.check_receipt-found.result (shown p)) c.deref.ensures c.check_receipt-found.ensures in
    let finds = found_by c.args.receipt c.check_receipt-found.result made.new.held.value.value (turn c.args.guard.held.view.value made.new.held.view.value) made.ensures.explains checked in
    done_by (λ v w. IsLogTurn (IsTrue g.D.SectorDevice.keeps_model) c.args.receipt made.result c.check_receipt-found.result (turn v w)) _ _ _ _ c.requires.view (made.ensures.made, finds) c.put_back.ensures.freed.1 c.put_back.ensures.turn
