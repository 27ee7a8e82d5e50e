use Rattle.std.proofs.Common.{◌∙◌, sym, arith}
use Rattle.std.specs.Prelude.{Err, Ok}
use Rattle.std.proofs.lemmas.Result.{err_from_is_err_and}
use Rattle.transactions.specs.Open.{admission_of}
use Rattle.pool_tables.specs.Shows.{pool_shown}
use Rattle.pool_tables.proofs.Opens.{above_last, up_to_last}
use Rattle.pool_tables.proofs.CommitSteps.{commit_fails, commit_many, commit_misnamed, commit_none, commit_out, commit_passes}
use Rattle.pool_tables.proofs.CommitTests.{in_plan, judged, ops_allowed, ops_fit, same_shapes}
use Rattle.pool_tables.proofs.pool.PoolTables.check_commit.Goals as goal

pub returns-in_default-clause-refusal : goal.returns-in_default-clause-refusal
returns-in_default-clause-refusal c =
    commit_none c.args.tx.0 c.args.ops.now (pool_shown c.args.self.now) c.in_ok-check_running.ensures (sym c.in_default.ensures)

pub returns-then-not-is_in_plan-clause-refusal : goal.returns-then-not-is_in_plan-clause-refusal
returns-then-not-is_in_plan-clause-refusal c =
    let a = admission_of c.in-Some.transaction.now in
    commit_out c.args.tx.0 c.args.ops.now a (pool_shown c.args.self.now) c.in_ok-check_running.ensures (sym c.in-Some.ensures)
    (sym (rw c.as_slice.ensures at c.is_in_plan.ensures.same) ∙ c.if-not-is_in_plan.true)

pub returns-then-give_bad_name-clause-refusal : goal.returns-then-give_bad_name-clause-refusal
returns-then-give_bad_name-clause-refusal c =
    let tx = c.args.tx.0 in
    let ops = c.args.ops.now in
    let a = admission_of c.in-Some.transaction.now in
    let same = same_shapes tx ops c.args.self.now a (sym c.in-Some.ensures) c.if-not-is_in_plan.false _ c.as_slice.ensures c.is_in_plan.ensures.equal c.is_in_plan.ensures.same in
    commit_misnamed tx ops a (pool_shown c.args.self.now) c.in_ok-check_running.ensures (sym c.in-Some.ensures) same (sym c.give_bad_name.ensures ∙ c.if-give_bad_name.true)

pub judge-requires : goal.judge-requires
judge-requires c =
    let a = admission_of c.in-Some.transaction.now in
    ops_allowed c.args.tx.0 c.args.ops.now c.args.self.now a (sym c.in-Some.ensures) c.if-not-is_in_plan.false _ c.as_slice.ensures c.is_in_plan.ensures.equal (sym c.give_bad_name.ensures ∙ c.if-give_bad_name.false)

pub returns-in_err-judge-clause-refusal : goal.returns-in_err-judge-clause-refusal
returns-in_err-judge-clause-refusal c =
    let tx = c.args.tx.0 in
    let ops = c.args.ops.now in
    let pool = c.args.self.now in
    let a = admission_of c.in-Some.transaction.now in
    let may = in_plan tx ops pool a (sym c.in-Some.ensures) c.if-not-is_in_plan.false _ c.as_slice.ensures c.is_in_plan.ensures.equal c.in_ok-check_running.ensures c.is_in_plan.ensures.same (sym c.give_bad_name.ensures ∙ c.if-give_bad_name.false) in
    let p = err_from_is_err_and c.from_residual-in_err-judge.result c.from_residual-in_err-judge.ensures.1 in
    rw (p.1, p.2) (commit_fails tx ops a _ (pool_shown pool) may (judged ops pool (Err c.in_err-judge.field-0.0) c.objects.ensures c.in_err-judge.ensures))

pub returns-then-self-gt-LAST_NUMBER-clause-refusal : goal.returns-then-self-gt-LAST_NUMBER-clause-refusal
returns-then-self-gt-LAST_NUMBER-clause-refusal c =
    let tx = c.args.tx.0 in
    let ops = c.args.ops.now in
    let pool = c.args.self.now in
    let a = admission_of c.in-Some.transaction.now in
    let may = in_plan tx ops pool a (sym c.in-Some.ensures) c.if-not-is_in_plan.false _ c.as_slice.ensures c.is_in_plan.ensures.equal c.in_ok-check_running.ensures c.is_in_plan.ensures.same (sym c.give_bad_name.ensures ∙ c.if-give_bad_name.false) in
    let ok = judged ops pool (Ok c.in_ok-judge.field-0) c.objects.ensures c.in_ok-judge.ensures in
    commit_many tx ops a ok.0 (pool_shown pool) may ok.1 (above_last pool.next_ordinal (omega arith))

pub returns-clause-refusal : goal.returns-clause-refusal
returns-clause-refusal c =
    let tx = c.args.tx.0 in
    let ops = c.args.ops.now in
    let pool = c.args.self.now in
    let a = admission_of c.in-Some.transaction.now in
    let may = in_plan tx ops pool a (sym c.in-Some.ensures) c.if-not-is_in_plan.false _ c.as_slice.ensures c.is_in_plan.ensures.equal c.in_ok-check_running.ensures c.is_in_plan.ensures.same (sym c.give_bad_name.ensures ∙ c.if-give_bad_name.false) in
    let ok = judged ops pool (Ok c.in_ok-judge.field-0) c.objects.ensures c.in_ok-judge.ensures in
    commit_passes tx ops a ok.0 (pool_shown pool) may ok.1 (up_to_last pool.next_ordinal (omega arith))

pub returns-clause-allowed : goal.returns-clause-allowed
returns-clause-allowed c =
    let a = admission_of c.in-Some.transaction.now in
    ops_allowed c.args.tx.0 c.args.ops.now c.args.self.now a (sym c.in-Some.ensures) c.if-not-is_in_plan.false _ c.as_slice.ensures c.is_in_plan.ensures.equal (sym c.give_bad_name.ensures ∙ c.if-give_bad_name.false)

pub returns-clause-fits : goal.returns-clause-fits
returns-clause-fits c =
    let a = admission_of c.in-Some.transaction.now in
    ops_fit c.args.tx.0 c.args.ops.now c.args.self.now a (sym c.in-Some.ensures) c.if-not-is_in_plan.false _ c.as_slice.ensures c.is_in_plan.ensures.equal
