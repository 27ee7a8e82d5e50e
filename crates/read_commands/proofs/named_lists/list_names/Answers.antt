use Rattle.std.proofs.Common.{ap, inl, inr, ℕ, List, Option, Result, subst, sym, ◌∙◌, refl}
use Rattle.std.specs.Prelude.{IfErr, IfOk, IsTrue}
use Rattle.std.proofs.lemmas.Bool.{false≢true, true≢false}
use Rattle.base.specs.declared.error.PoolError.{PoolError}
use Rattle.base.specs.disk.Disk.{Disk, bytes_of}
use Rattle.object_names.specs.NameTables.{has_object}
use Rattle.read_commands.specs.Scopes.{IsAssured}
use Rattle.read_commands.specs.Undone.{IsGetRefused}
use Rattle.read_commands.proofs.NamedUndone.{refused_before}
use Rattle.read_commands.proofs.ScopedReads.{get_readers, kept, list_readers}
use Rattle.read_commands.specs.NamedTables.{IsTableChecked, IsTableIn, table_range}
use Rattle.read_commands.proofs.named_lists.list_names.Goals as goal

pub returns-then-not-has_first-clause-listed : goal.returns-then-not-has_first-clause-listed
returns-then-not-has_first-clause-listed g c =
    let none = sym c.if-not-has_first.true ∙ c.has_first.ensures ∙ ap (λ objects. has_object objects 0) c.deref.ensures.value in
    record {
      mounted = c.in-Ok.ensures.mounted;
      checked = c.in-Ok.ensures.checked;
      named = λ some. absurd (false≢true (none ∙ some));
      checked_named = λ some. absurd (false≢true (none ∙ some));
      unnamed = λ is. refl;
    }

pub returns-in-Ok-table-clause-listed : goal.returns-in-Ok-table-clause-listed
returns-in-Ok-table-clause-listed g c =
    let D = g.D.SectorDevice in
    let scope = c.args.scope in
    let keep : Type 0 = IsTrue D.keeps_model in
    let table : Option (List ℕ) = c.in-Ok-table.table in
    let look = c.read_table-table in
    let some = sym c.if-not-has_first.false ∙ c.has_first.ensures ∙ ap (λ objects. has_object objects 0) c.deref.ensures.value in
    record {
      mounted = c.in-Ok.ensures.mounted;
      checked = c.in-Ok.ensures.checked;
      named = λ is all.
          let still = c.in-Ok.ensures.reads.disk (kept scope keep (bytes_of (D.disk c.args.device).now) all) in
          subst (λ (d : Disk). IsTableIn (bytes_of d.now) table) still
          (subst (λ (r : Result (Option (List ℕ)) PoolError). IfOk r (IsTableIn (bytes_of (D.disk c.list_objects.new.device).now))) c.in-Ok-table.is
          (look.ensures.table (subst (λ (d : Disk). IsAssured scope keep (bytes_of d.now)) (sym still) all)));
      checked_named = λ is path keeps. subst (λ (d : Disk). IsTableChecked (bytes_of d.now) table) (c.in-Ok.ensures.reads.disk keeps)
          (subst (λ (r : Result (Option (List ℕ)) PoolError). IfOk r (IsTableChecked (bytes_of (D.disk c.list_objects.new.device).now))) c.in-Ok-table.is (look.ensures.checked path keeps));
      unnamed = λ none. absurd (true≢false (some ∙ none));
    }

pub returns-in-Err-clause-refused : goal.returns-in-Err-clause-refused
returns-in-Err-clause-refused g c = list_readers g.D.SectorDevice c.args.scope c.args.device _ c.in-Err.refusal c.in-Err.ensures.refused

pub returns-in-Err-table-clause-refused : goal.returns-in-Err-table-clause-refused
returns-in-Err-table-clause-refused g c =
    let look = c.read_table-table in
    get_readers g.D.SectorDevice c.args.scope 0 table_range c.list_objects.new.device look.result.1 c.in-Err-table.refusal
    (subst (λ (r : Result (Option (List ℕ)) PoolError). IfErr r (IsGetRefused g.D.SectorDevice c.args.scope 0 table_range c.list_objects.new.device look.result.1)) c.in-Err-table.is look.ensures.refused)

pub returns-in-Err-clause-cause : goal.returns-in-Err-clause-cause
returns-in-Err-clause-cause g c = inl c.in-Err.ensures.refused

pub returns-in-Err-table-clause-cause : goal.returns-in-Err-table-clause-cause
returns-in-Err-table-clause-cause g c =
    let D = g.D.SectorDevice in
    let look = c.read_table-table in
    inr (refused_before D c.args.device c.list_objects.new.device c.in-Ok.ensures.reads.disk c.args.scope 0 table_range look.result.1 c.in-Err-table.refusal
    (subst (λ (r : Result (Option (List ℕ)) PoolError). IfErr r (IsGetRefused D c.args.scope 0 table_range c.list_objects.new.device look.result.1)) c.in-Err-table.is look.ensures.refused))
