use Rattle.std.proofs.Common.{◌∙◌, inr, ℕ, true, List, length, ap, sym}
use Rattle.std.proofs.lemmas.Result.{err_from_is_err_and}
use Rattle.base.specs.formats.Chain.{Header}
use Rattle.base.specs.steps.Refusals.{log_write_refusal}
use Rattle.base.specs.steps.Shown.{Shown}
use Rattle.pool_tables.specs.Shows.{pool_shown}
use Rattle.pool_tables.proofs.LogSteps.{block_refused, block_written, may_write, next_in_area, on_device, puts_refused, puts_written, write_refused, write_wants}
use Rattle.pool_tables.proofs.pool.PoolTables.log_write.Goals as goal

pub returns-in_err-check_log_write-clause-step : goal.returns-in_err-check_log_write-clause-step
returns-in_err-check_log_write-clause-step g c =
    let p = err_from_is_err_and c.from_residual.result c.from_residual.ensures.1 in
    rw (p.1, p.2) (write_refused (pool_shown c.args.self.now) c.in_err-check_log_write.field-0.0 c.in_err-check_log_write.ensures)

pub returns-in_err-reserve_log-clause-step : goal.returns-in_err-reserve_log-clause-step
returns-in_err-reserve_log-clause-step g c =
    let p = err_from_is_err_and c.from_residual-in_err-reserve_log.result c.from_residual-in_err-reserve_log.ensures.1 in
    let told = c.in_err-reserve_log.ensures in
    rw (p.1, p.2, told.refused) (write_wants (pool_shown c.args.self.now) (pool_shown c.reserve_log.new.self) c.in_ok-check_log_write.ensures told.unchanged)

pub lowest_free-next-requires : goal.lowest_free-next-requires
lowest_free-next-requires g c = ap (λ (s : Shown). log_write_refusal s) c.in_ok-reserve_log.ensures.unchanged ∙ c.in_ok-check_log_write.ensures

pub pack_next-requires-clause-passes : goal.pack_next-requires-clause-passes
pack_next-requires-clause-passes g c = ap (λ (s : Shown). log_write_refusal s) c.in_ok-reserve_log.ensures.unchanged ∙ c.in_ok-check_log_write.ensures

pub returns-in_err-block-clause-step : goal.returns-in_err-block-clause-step
returns-in_err-block-clause-step g c =
    let p = err_from_is_err_and c.from_residual-in_err-block.result c.from_residual-in_err-block.ensures.1 in
    rw (p.1, p.2, c.in_err-block.ensures.refused) (write_wants (pool_shown c.args.self.now) (pool_shown c.reserve_log.new.self) c.in_ok-check_log_write.ensures c.in_ok-reserve_log.ensures.unchanged)

pub note_written-ends-requires-clause-number : goal.note_written-ends-requires-clause-number
note_written-ends-requires-clause-number g c =
    (may_write (pool_shown c.reserve_log.new.self) (ap (λ (s : Shown). log_write_refusal s) c.in_ok-reserve_log.ensures.unchanged ∙ c.in_ok-check_log_write.ensures)).number

pub write-requires : goal.write-requires
write-requires g c =
    let pool = c.reserve_log.new.self in
    let size = c.requires ∙ sym c.in_ok-reserve_log.ensures.tree.geometry in
    let at = ap (λ (h : Header). h.address) c.next-address.ensures.header in
    let long = ap (λ (bytes : List ℕ). length bytes) c.as_bytes.ensures.bytes ∙ c.as_bytes.ensures.length in
    rw (size, at, long) (on_device pool.geometry pool.log.next.address (next_in_area pool))

pub returns-in-Ok-clause-step : goal.returns-in-Ok-clause-step
returns-in-Ok-clause-step g c = rw c.keep_ahead.ensures.unchanged
    (block_written c.reserve_log.new.self c.lowest_free-next.result c.lowest_free-next.ensures c.in_ok-block.field-0 c.in_ok-block.ensures.packs (pool_shown c.args.self.now) c.in_ok-reserve_log.ensures.unchanged
    (pool_shown c.note_written-ends.new.self) c.in_ok-check_log_write.ensures c.note_written-ends.result c.note_written-ends.ensures.ends c.note_written-ends.ensures.shown)

pub returns-in-Ok-clause-wrote : goal.returns-in-Ok-clause-wrote
returns-in-Ok-clause-wrote g c = λ keeps.
    let at = ap (λ (h : Header). h.address) c.next-address.ensures.header in
    rw c.keep_ahead.ensures.unchanged (puts_written c.reserve_log.new.self c.lowest_free-next.result c.lowest_free-next.ensures c.in_ok-block.field-0 c.in_ok-block.ensures.packs (pool_shown c.args.self.now) c.in_ok-reserve_log.ensures.unchanged
    (pool_shown c.note_written-ends.new.self) (g.D.SectorDevice.disk c.args.device.now) (g.D.SectorDevice.disk c.write.new.self)
    (rw (at, c.as_bytes.ensures.bytes) at (c.in-Ok.ensures.disk keeps)) c.note_written-ends.ensures.shown)

pub returns-in-Err-clause-step : goal.returns-in-Err-clause-step
returns-in-Err-clause-step g c =
    rw c.in-Err.ensures.refusal (block_refused c.reserve_log.new.self c.lowest_free-next.result c.lowest_free-next.ensures c.in_ok-block.field-0 c.in_ok-block.ensures.packs (pool_shown c.args.self.now) c.in_ok-reserve_log.ensures.unchanged
    (record (pool_shown c.note_written-ends.new.self) { suspended = true }) c.in_ok-check_log_write.ensures (λ k. record (c.note_written-ends.ensures.shown k) { suspended = true }))

pub returns-in-Err-clause-wrote : goal.returns-in-Err-clause-wrote
returns-in-Err-clause-wrote g c = λ keeps.
    let at = ap (λ (h : Header). h.address) c.next-address.ensures.header in
    inr (puts_refused c.reserve_log.new.self c.lowest_free-next.result c.lowest_free-next.ensures c.in_ok-block.field-0 c.in_ok-block.ensures.packs (pool_shown c.args.self.now) c.in_ok-reserve_log.ensures.unchanged
    (record (pool_shown c.note_written-ends.new.self) { suspended = true }) (g.D.SectorDevice.disk c.args.device.now) (g.D.SectorDevice.disk c.write.new.self) c.in-Err.error
    (rw (at, c.as_bytes.ensures.bytes) at (c.in-Err.ensures.disk keeps)) (λ k. record (c.note_written-ends.ensures.shown k) { suspended = true }))
