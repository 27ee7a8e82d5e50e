use Rattle.std.proofs.Common.{sym, subst}
use Rattle.std.proofs.lemmas.Result.{err_from_is_err_and}
use Rattle.tree_blocks.specs.ListedObjects.{AreWithin}
use Rattle.pool_tables.specs.Shows.{pool_shown, synced_of}
use Rattle.pool_tables.proofs.HeldReads.{digest_refused, digest_told, held_stands, no_memory, objects_are, suspended_first, tree_fits}
use Rattle.pool_tables.proofs.UnsyncedChanges.{laid_stay_within}
use Rattle.pool_tables.proofs.pool.PoolTables.digest.Goals as goal

pub returns-in_err-check_running-clause-step : goal.returns-in_err-check_running-clause-step
returns-in_err-check_running-clause-step g c =
    let p = err_from_is_err_and c.from_residual.result c.from_residual.ensures.1 in
    let told = c.in_err-check_running.ensures in
    rw (p.1, p.2, told.0) (λ past. (past, digest_refused ⊥ (pool_shown c.args.self.now) past told.1))

pub returns-in_err-check_running-clause-held : goal.returns-in_err-check_running-clause-held
returns-in_err-check_running-clause-held g c =
    let p = err_from_is_err_and c.from_residual.result c.from_residual.ensures.1 in
    let told = c.in_err-check_running.ensures in
    rw (p.1, p.2, told.0) (λ keeps past h. digest_refused (Unit {0}) (pool_shown c.args.self.now) past told.1)

pub digest-requires-clause-fits : goal.digest-requires-clause-fits
digest-requires-clause-fits g c =
    let p = c.args.self.now in
    let made = c.shown_tree.ensures in
    tree_fits p c.shown_tree.result made.frame made.tree made.changes p.sized _ c.requires.sized

pub digest-requires-clause-within : goal.digest-requires-clause-within
digest-requires-clause-within g c =
    let pool = c.args.self.now in
    let made = c.shown_tree.ensures in
    let same = objects_are pool c.shown_tree.result made.frame made.tree made.changes in
    subst AreWithin (sym same) (laid_stay_within pool.changes (synced_of pool).objects pool.unsynced_kept.within)

pub returns-clause-step : goal.returns-clause-step
returns-clause-step g c = λ past. (past, digest_told ⊥ (pool_shown c.args.self.now) past c.in_ok-check_running.ensures c.digest.result (λ never. absurd never) c.digest.ensures.refused (λ never. absurd never))

pub returns-clause-held : goal.returns-clause-held
returns-clause-held g c = λ keeps past h.
    let pool = c.args.self.now in
    let made = c.shown_tree.ensures in
    let same = objects_are pool c.shown_tree.result made.frame made.tree made.changes in
    let stands = held_stands pool c.shown_tree.result made.frame made.tree made.changes g.B.SectorDevice c.args.reader.now keeps past h in
    digest_told (Unit {0}) (pool_shown pool) past c.in_ok-check_running.ensures c.digest.result (λ _. rw (same, c.shown_name.ensures) at (c.digest.ensures.exact stands)) c.digest.ensures.refused
    (λ _. c.digest.ensures.sound stands)

pub returns-in_err-check_running-clause-no_memory : goal.returns-in_err-check_running-clause-no_memory
returns-in_err-check_running-clause-no_memory g c =
    let p = err_from_is_err_and c.from_residual.result c.from_residual.ensures.1 in
    let told = c.in_err-check_running.ensures in
    rw (p.1, p.2, told.0) suspended_first

pub returns-clause-no_memory : goal.returns-clause-no_memory
returns-clause-no_memory g c = no_memory c.digest.result c.digest.ensures.refused
