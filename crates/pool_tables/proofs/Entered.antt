-- A commit that takes place: its operations lead to the contents that are shown then, in whatever order groups commit.
use Rattle.std.proofs.Common.{◌≡◌, ℕ, ◌+◌, true, List, [], map, refl, ap, sym, subst, ◌∙◌}
use Rattle.std.specs.Prelude.{Ok}
use Rattle.std.specs.List.{list_all}
use Rattle.base.specs.declared.operation.Op.{Op}
use Rattle.base.specs.declared.step.Step.TheVariants as step
use Rattle.base.specs.formats.Records.{is_content_allowed}
use Rattle.base.specs.history.Past.{Past}
use Rattle.base.specs.steps.Tables.{AreTablesExplained}
use Rattle.base.specs.steps.Runs.{receipt_reply}
use Rattle.base.specs.steps.Logs.{log_after_commit}
use Rattle.base.specs.steps.Shown.{Shown}
use Rattle.base.specs.steps.Steps.{Commit, State, state_after_commit, transactions_without}
use Rattle.base.proofs.steps.KeptTables.{steps_keep_tables}
use Rattle.unsynced_extents.specs.Unsynced.{laid_all, name_over}
use Rattle.pool_tables.specs.declared.pool.PoolTables.{PoolTables}
use Rattle.pool_tables.specs.Entries.{shown_after_entry}
use Rattle.pool_tables.specs.Meets.{MayCommit, MeetsExplained}
use Rattle.pool_tables.specs.Unsynced.{AreChangesOfUnsynced, AreNamesOfUnsynced}
use Rattle.records.specs.Records.{record_fields}
use Rattle.pool_tables.specs.Shows.{pool_objects, pool_shown, shown_contents}
use Rattle.pool_tables.proofs.ReadContents.{named_as_explained, read_as_explained}

-- A commit of operations that no test refuses, as the definitions have it.
module _ (tx : ℕ) (ops : List Op) (group : ℕ) (s : Shown) (may : MayCommit tx ops group s) (bytes : list_all is_content_allowed ops ≡ true) (past : Past) where
  abbrev before : State
  before = record { shown = s; past = past }

  abbrev after : State
  after = state_after_commit tx group ops may.after before

  defined : Commit tx ops (Ok (s.next_ordinal, group)) before after
  defined = rw may.passes (may.admission, may.after, may.found, may.applied, bytes, rw may.group_is refl, rw may.group_is refl)

  -- the history with its entry explains what is shown then
  after_explained : AreTablesExplained s past → AreTablesExplained after.shown after.past
  after_explained explained = steps_keep_tables ⊥ [] (step.Commit (record { 0 = tx }) ops) (receipt_reply (s.next_ordinal, group)) before after (Ok (s.next_ordinal, group), refl, defined) explained

-- So it is a step of the definitions, where the pool shows its changes laid over the synced contents.
pub entered : (tx : ℕ) (ops : List Op) (group : ℕ) (s : Shown) → MayCommit tx ops group s → list_all is_content_allowed ops ≡ true → (pool : PoolTables)
    → pool_shown pool ≡ shown_after_entry tx group ops (shown_contents pool) s → MeetsExplained (Commit tx ops) (Ok (s.next_ordinal, group)) s (pool_shown pool)
entered tx ops group s may bytes pool is past explained =
    let mid : State = after tx ops group s may bytes past in
    let x : AreTablesExplained mid.shown mid.past = after_explained tx ops group s may bytes past explained in
    let log : mid.shown.log.unsynced ≡ map record_fields pool.log.records = sym (ap (λ (u : Shown). u.log.unsynced) is) in
    let synced = ap (λ (u : Shown). u.line.synced) is in
    let changes : AreChangesOfUnsynced mid.shown.line.synced pool.log.records pool.changes = subst (λ (g : ℕ). AreChangesOfUnsynced g pool.log.records pool.changes) synced pool.unsynced_kept.changed in
    let names : AreNamesOfUnsynced mid.shown.line.synced pool.log.records pool.changes = subst (λ (g : ℕ). AreNamesOfUnsynced g pool.log.records pool.changes) synced pool.unsynced_kept.named in
    let objects : pool_objects pool ≡ may.after.objects = ap (λ (u : Shown). laid_all pool.changes u.synced_contents.objects) is
    ∙ read_as_explained mid.shown mid.past x pool.log.records log pool.changes changes in
    let name : name_over pool.changes pool.synced.name ≡ may.after.name = ap (λ (u : Shown). name_over pool.changes u.synced_contents.name) is
    ∙ named_as_explained mid.shown mid.past x pool.log.records log pool.changes changes names in
    let whole : pool_shown pool ≡ mid.shown = is ∙ (λ k. record s {
      transactions = transactions_without tx s.transactions;
      contents = record { name = name k; objects = objects k };
      next_ordinal = s.next_ordinal + 1;
      log = log_after_commit (record { group = group; ordinal = s.next_ordinal; ops = ops }) s.log;
    }) in
    (mid.past, subst (λ (u : Shown). Commit tx ops (Ok (s.next_ordinal, group)) (record { shown = s; past = past }) (record { shown = u; past = mid.past })) (sym whole) (defined tx ops group s may bytes past))
