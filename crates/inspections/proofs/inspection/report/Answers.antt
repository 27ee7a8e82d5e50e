use Rattle.std.proofs.Common.{◌≡◌}
use Rattle.base.specs.declared.error.PoolError.TheVariants.{Damaged, NoMemory}
use Rattle.uberblocks.specs.Slots.{fields_of}
use Rattle.import_replay.proofs.Reasons.{passed_on}
use Rattle.inspections.proofs.Inspections.{inspected, is_chain_damaged, is_told_bounded}
use Rattle.inspections.proofs.inspection.report.Goals as goal

pub returns-clause-mounted : goal.returns-clause-mounted
returns-clause-mounted c = λ image read.
    let found = c.args.found.now in
    let l = c.args.loaded in
    inspected c.args.geometry (fields_of found.uberblock) found.name l.tree c.args.logged.items c.in_ok-pool.pool found.named c.requires.loaded c.in_ok-pool.ensures.replayed
    c.in_ok-objects.objects.items (rw c.new.ensures at c.in_ok-objects.ensures) c.tell.result c.tell.ensures image read

pub returns-clause-bounded : goal.returns-clause-bounded
returns-clause-bounded c =
    let found = c.args.found.now in
    let l = c.args.loaded in
    is_told_bounded c.args.geometry (fields_of found.uberblock) found.name l.tree c.args.logged.items c.in_ok-pool.pool found.named c.requires.loaded c.in_ok-pool.ensures.replayed
    c.in_ok-objects.objects.items (rw c.new.ensures at c.in_ok-objects.ensures) c.tell.result c.tell.ensures

pub returns-in_err-pool-clause-damaged : goal.returns-in_err-pool-clause-damaged
returns-in_err-pool-clause-damaged c = λ image read.
    let found = c.args.found.now in
    let l = c.args.loaded in
    let x = c.in_err-pool.field-0.0 in
    passed_on c.from_residual.result x _ c.from_residual.ensures.1
    (is_chain_damaged image c.args.geometry (fields_of found.uberblock) found.name l.tree c.args.logged.items read x c.in_err-pool.ensures.cause c.in_err-pool.ensures.refused)

pub returns-in_err-objects-clause-damaged : goal.returns-in_err-objects-clause-damaged
returns-in_err-objects-clause-damaged c = λ image read.
    passed_on c.from_residual-in_err-objects.result NoMemory _ c.from_residual-in_err-objects.ensures.1 (λ address (is : NoMemory ≡ Damaged 6 address). cc)
