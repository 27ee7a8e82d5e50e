use Rattle.std.proofs.Common.{ℕ, List, None, Ok, Err, Some, ap, inl, inr, refl, subst, ◌∙◌}
use Rattle.read_commands.specs.NamedObjects.{IsUnknown}
use Rattle.commands.specs.declared.named_steps.NameRefusal.TheVariants.{Engine, Name}
use Rattle.read_commands.specs.declared.name_causes.NameCause.TheVariants.{NoTable, Unknown}
use Rattle.object_names.specs.NameTables.{IsNamed}
use Rattle.pool_threads.specs.Handles.{shared_of}
use Rattle.commands.proofs.TableFound.{removed_by_table}
use Rattle.commands.proofs.named_removals.remove_by_name.Goals as goal

pub returns-in-Ok-None : goal.returns-in-Ok-None
returns-in-Ok-None g c =
    let read = c.fetch_table in
    removed_by_table (shared_of c.args.pool.now) c.args.name.now c.handle-handle.result read.new.handle c.handle-handle.ensures read.result read.ensures
    (Err (Name NoTable)) read.new.handle (Ok None) (c.in-Ok-None.is ∙ ap Ok c.in-Ok-None.field-0-is) (refl, refl)

pub returns-in-Err : goal.returns-in-Err
returns-in-Err g c =
    let read = c.fetch_table in
    removed_by_table (shared_of c.args.pool.now) c.args.name.now c.handle-handle.result read.new.handle c.handle-handle.ensures read.result read.ensures
    (Err (Engine c.in-Err.refusal)) read.new.handle (Err c.in-Err.refusal) c.in-Err.is (refl, refl)

pub returns-in-None : goal.returns-in-None
returns-in-None g c =
    let read = c.fetch_table in
    let unknown = subst (λ (name : List ℕ). IsUnknown c.in-Ok-Some.table name) c.as_bytes.ensures.value c.in-None.ensures.none in
    removed_by_table (shared_of c.args.pool.now) c.args.name.now c.handle-handle.result read.new.handle c.handle-handle.ensures read.result read.ensures
    (Err (Name Unknown)) read.new.handle (Ok (Some c.in-Ok-Some.table)) (c.in-Ok-Some.is ∙ ap Ok c.in-Ok-Some.field-0-is) (inr (unknown, (refl, refl)))

pub returns-in-Ok : goal.returns-in-Ok
returns-in-Ok g c =
    let read = c.fetch_table in
    let named = subst (λ (name : List ℕ). IsNamed c.in-Ok-Some.table c.in-Some.object.0 name) c.as_bytes.ensures.value c.in-Some.ensures.found in
    removed_by_table (shared_of c.args.pool.now) c.args.name.now c.handle-handle.result read.new.handle c.handle-handle.ensures read.result read.ensures
    (Ok c.in-Some.object) c.remove_with_name.new.handle (Ok (Some c.in-Ok-Some.table)) (c.in-Ok-Some.is ∙ ap Ok c.in-Ok-Some.field-0-is) (inl (c.in-Some.object, Ok tt, named, c.in-Ok.ensures, refl))

pub returns : goal.returns
returns g c =
    let read = c.fetch_table in
    let refusal = c.in-Err-remove_with_name.refusal in
    let named = subst (λ (name : List ℕ). IsNamed c.in-Ok-Some.table c.in-Some.object.0 name) c.as_bytes.ensures.value c.in-Some.ensures.found in
    removed_by_table (shared_of c.args.pool.now) c.args.name.now c.handle-handle.result read.new.handle c.handle-handle.ensures read.result read.ensures
    (Err (Engine refusal)) c.remove_with_name.new.handle (Ok (Some c.in-Ok-Some.table)) (c.in-Ok-Some.is ∙ ap Ok c.in-Ok-Some.field-0-is) (inl (c.in-Some.object, Err refusal, named, c.in-Err-remove_with_name.ensures, refl))
