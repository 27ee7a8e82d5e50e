use Rattle.std.proofs.Common.{ap, refl, sym, subst, ◌∙◌}
use Rattle.pool_core.specs.States.{shown}
use Rattle.pool_tables.specs.Receipts.{ChecksReceipt}
use Rattle.pool_threads.proofs.Looked.{found_by, looked_by, looked_one}
use Rattle.pool_threads.specs.Views.{Explains, GrowsTo, grows_same}
use Rattle.pool_threads.specs.Waits.{IsLookTurn}
use Rattle.word_lock.specs.Seats.{lock_table, seen, turns}
use Rattle.word_lock.specs.Turns.{turn}
use Rattle.std.proofs.Common.{◌++◌, ◌∷◌, []}
use Rattle.pool_threads.proofs.handle.Handle.check_receipt.Goals as goal

pub release-requires : goal.release-requires
release-requires g c =
    let a = c.acquire-guard in
    record {
      own = a.ensures.same.0 ∙ c.args.self.now.own ∙ ap (λ l. lock_table l.now) (sym a.ensures.lock);
      held = a.ensures.held.0;
      grows = subst (GrowsTo _ (seen a.result.seat.now)) (sym a.ensures.view) (grows_same _ (seen a.result.seat.now));
      explains = subst (Explains a.result.held.value.value) (sym a.ensures.view) a.ensures.held.3;
    }

pub returns : goal.returns
returns g c =
    let a = c.acquire-guard in
    let r = c.release.ensures in
    let looked = looked_by _ _ _ _ (r.same.0 ∙ a.ensures.same.0, refl) a.ensures.held.1 a.ensures.held.2 a.ensures.held.5 (r.seen ∙ a.ensures.view) (r.turn.0 ∙ ap (λ w. turns a.result.seat.now ++ turn (seen a.result.seat.now) w ∷ []) (sym r.seen)) (r.turn.1.0 ∙ a.ensures.held.4.0, r.turn.1.1 ∙ a.ensures.held.4.1) in
    let checked = subst (λ p. ChecksReceipt c.args.receipt c.check_receipt-checked.result (shown p)) c.deref.ensures c.check_receipt-checked.ensures in
    let left = seen a.result.seat.now in
    looked_one looked (subst (λ v. IsLookTurn c.args.receipt c.check_receipt-checked.result (turn v v)) (sym (r.seen ∙ a.ensures.view)) (refl, found_by c.args.receipt c.check_receipt-checked.result a.result.held.value.value (turn left left) a.ensures.held.3 checked))
