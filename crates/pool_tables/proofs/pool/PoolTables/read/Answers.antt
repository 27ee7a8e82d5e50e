use Rattle.std.proofs.Common.{◌∙◌, sym}
use Rattle.std.proofs.lemmas.Result.{err_from_is_err_and}
use Rattle.base.specs.steps.Refusals.{object_range}
use Rattle.pool_tables.specs.Shows.{pool_shown}
use Rattle.pool_tables.proofs.Flags.{from_not_false, from_not_true}
use Rattle.pool_tables.proofs.HeldReads.{held_stands, is_absent, is_bad, is_open, is_suspended, objects_are, read_refused, read_told, tree_fits}
use Rattle.pool_tables.proofs.ReadSteps.{has_length, is_readable-not, read_passes}
use Rattle.pool_tables.proofs.pool.PoolTables.read.Goals as goal

pub returns-in_err-check_running-clause-step : goal.returns-in_err-check_running-clause-step
returns-in_err-check_running-clause-step g c =
    let owner = c.args.owner.0 in
    let t = object_range c.args.object.0 c.args.range.low c.args.range.high in
    let s = pool_shown c.args.self.now in
    let p = err_from_is_err_and c.from_residual.result c.from_residual.ensures.1 in
    let told = c.in_err-check_running.ensures in
    rw (p.1, p.2, told.0) (λ past. (past, read_refused owner t s ⊥ _ past (is_suspended owner t s told.1)))

pub returns-in_err-check_running-clause-held : goal.returns-in_err-check_running-clause-held
returns-in_err-check_running-clause-held g c =
    let owner = c.args.owner.0 in
    let t = object_range c.args.object.0 c.args.range.low c.args.range.high in
    let s = pool_shown c.args.self.now in
    let p = err_from_is_err_and c.from_residual.result c.from_residual.ensures.1 in
    let told = c.in_err-check_running.ensures in
    rw (p.1, p.2, told.0) (λ keeps past h. read_refused owner t s (Unit {0}) _ past (is_suspended owner t s told.1))

pub returns-then-not-is_readable-clause-step : goal.returns-then-not-is_readable-clause-step
returns-then-not-is_readable-clause-step g c =
    let owner = c.args.owner.0 in
    let t = object_range c.args.object.0 c.args.range.low c.args.range.high in
    let s = pool_shown c.args.self.now in
    λ past. (past, read_refused owner t s ⊥ _ past (is_bad owner t s c.in_ok-check_running.ensures (from_not_false _ _ (c.is_readable.ensures.allowed ∙ is_readable-not c.args.object.0 c.args.range) c.if-not-is_readable.true)))

pub returns-then-not-is_readable-clause-held : goal.returns-then-not-is_readable-clause-held
returns-then-not-is_readable-clause-held g c =
    let owner = c.args.owner.0 in
    let t = object_range c.args.object.0 c.args.range.low c.args.range.high in
    let s = pool_shown c.args.self.now in
    λ keeps past h. read_refused owner t s (Unit {0}) _ past (is_bad owner t s c.in_ok-check_running.ensures (from_not_false _ _ (c.is_readable.ensures.allowed ∙ is_readable-not c.args.object.0 c.args.range) c.if-not-is_readable.true))

pub returns-then-not-covers-clause-step : goal.returns-then-not-covers-clause-step
returns-then-not-covers-clause-step g c =
    let owner = c.args.owner.0 in
    let t = object_range c.args.object.0 c.args.range.low c.args.range.high in
    let s = pool_shown c.args.self.now in
    let readable = from_not_true _ _ (c.is_readable.ensures.allowed ∙ is_readable-not c.args.object.0 c.args.range) c.if-not-is_readable.false in
    λ past. (past, read_refused owner t s ⊥ _ past (is_open owner t s c.in_ok-check_running.ensures readable (sym c.covers.ensures ∙ c.if-not-covers.true)))

pub returns-then-not-covers-clause-held : goal.returns-then-not-covers-clause-held
returns-then-not-covers-clause-held g c =
    let owner = c.args.owner.0 in
    let t = object_range c.args.object.0 c.args.range.low c.args.range.high in
    let s = pool_shown c.args.self.now in
    let readable = from_not_true _ _ (c.is_readable.ensures.allowed ∙ is_readable-not c.args.object.0 c.args.range) c.if-not-is_readable.false in
    λ keeps past h. read_refused owner t s (Unit {0}) _ past (is_open owner t s c.in_ok-check_running.ensures readable (sym c.covers.ensures ∙ c.if-not-covers.true))

pub returns-in_default-clause-step : goal.returns-in_default-clause-step
returns-in_default-clause-step g c =
    let owner = c.args.owner.0 in
    let t = object_range c.args.object.0 c.args.range.low c.args.range.high in
    let s = pool_shown c.args.self.now in
    let readable = from_not_true _ _ (c.is_readable.ensures.allowed ∙ is_readable-not c.args.object.0 c.args.range) c.if-not-is_readable.false in
    let covered = sym c.covers.ensures ∙ c.if-not-covers.false in
    λ past. (past, read_refused owner t s ⊥ _ past (is_absent owner t s c.in_ok-check_running.ensures readable covered (has_length _ _ _ c.shown_length.ensures c.in_default.is)))

pub returns-in_default-clause-held : goal.returns-in_default-clause-held
returns-in_default-clause-held g c =
    let owner = c.args.owner.0 in
    let t = object_range c.args.object.0 c.args.range.low c.args.range.high in
    let s = pool_shown c.args.self.now in
    let readable = from_not_true _ _ (c.is_readable.ensures.allowed ∙ is_readable-not c.args.object.0 c.args.range) c.if-not-is_readable.false in
    let covered = sym c.covers.ensures ∙ c.if-not-covers.false in
    λ keeps past h. read_refused owner t s (Unit {0}) _ past (is_absent owner t s c.in_ok-check_running.ensures readable covered (has_length _ _ _ c.shown_length.ensures c.in_default.is))

pub read_range-requires-clause-fits : goal.read_range-requires-clause-fits
read_range-requires-clause-fits g c =
    let p = c.args.self.now in
    let made = c.shown_tree.ensures in
    tree_fits p c.shown_tree.result made.frame made.tree made.changes p.sized _ c.requires.sized

pub read_range-requires-clause-length : goal.read_range-requires-clause-length
read_range-requires-clause-length g c =
    let made = c.shown_tree.ensures in
    let same = objects_are c.args.self.now c.shown_tree.result made.frame made.tree made.changes in
    rw same (sym c.in-Some.is ∙ c.shown_length.ensures)

pub returns-clause-step : goal.returns-clause-step
returns-clause-step g c =
    let owner = c.args.owner.0 in
    let t = object_range c.args.object.0 c.args.range.low c.args.range.high in
    let s = pool_shown c.args.self.now in
    let readable = from_not_true _ _ (c.is_readable.ensures.allowed ∙ is_readable-not c.args.object.0 c.args.range) c.if-not-is_readable.false in
    let covered = sym c.covers.ensures ∙ c.if-not-covers.false in
    let there = has_length _ _ _ c.shown_length.ensures c.in-Some.is in
    let passes = read_passes owner t s c.in_ok-check_running.ensures readable covered there in
    let made = c.shown_tree.ensures in
    let same = objects_are c.args.self.now c.shown_tree.result made.frame made.tree made.changes in
    λ past. (past, read_told ⊥ owner t s past passes there c.read_range.result (λ never. absurd never) c.read_range.ensures.refused (λ never. absurd never))

pub returns-clause-held : goal.returns-clause-held
returns-clause-held g c =
    let owner = c.args.owner.0 in
    let t = object_range c.args.object.0 c.args.range.low c.args.range.high in
    let s = pool_shown c.args.self.now in
    let readable = from_not_true _ _ (c.is_readable.ensures.allowed ∙ is_readable-not c.args.object.0 c.args.range) c.if-not-is_readable.false in
    let covered = sym c.covers.ensures ∙ c.if-not-covers.false in
    let there = has_length _ _ _ c.shown_length.ensures c.in-Some.is in
    let passes = read_passes owner t s c.in_ok-check_running.ensures readable covered there in
    let made = c.shown_tree.ensures in
    let same = objects_are c.args.self.now c.shown_tree.result made.frame made.tree made.changes in
    λ keeps past h.
    let stands = held_stands c.args.self.now c.shown_tree.result made.frame made.tree made.changes g.B.SectorDevice c.args.reader.now keeps past h in
    read_told (Unit {0}) owner t s past passes there c.read_range.result (λ _. rw same at (c.read_range.ensures.exact stands)) c.read_range.ensures.refused
    (λ _. c.read_range.ensures.sound stands)
