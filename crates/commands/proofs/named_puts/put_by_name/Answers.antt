use Rattle.std.proofs.Common.{ℕ, List, None, Ok, Err, Some, ap, inl, inr, refl, subst, ◌∙◌}
use Rattle.commands.specs.Committed.{nothing_put}
use Rattle.read_commands.specs.NamedObjects.{IsUnknown}
use Rattle.commands.specs.declared.named_steps.NameRefusal.TheVariants.{Engine, Name}
use Rattle.read_commands.specs.declared.name_causes.NameCause.TheVariants.{NoTable}
use Rattle.object_names.specs.NameTables.{IsNamed}
use Rattle.pool_threads.specs.Handles.{shared_of}
use Rattle.commands.proofs.TableFound.{put_by_table}
use Rattle.commands.proofs.named_puts.put_by_name.Goals as goal

pub returns-in-Ok-None : goal.returns-in-Ok-None
returns-in-Ok-None g c =
    let read = c.fetch_table in
    put_by_table (shared_of c.args.pool.now) c.args.given.name.now c.handle-handle.result read.new.handle c.handle-handle.ensures read.result read.ensures c.args.given.offset c.args.given.bytes.now
    nothing_put (Err (Name NoTable)) read.new.handle (Ok None) (c.in-Ok-None.is ∙ ap Ok c.in-Ok-None.field-0-is) (refl, refl, refl)

pub returns-in-Err : goal.returns-in-Err
returns-in-Err g c =
    let read = c.fetch_table in
    put_by_table (shared_of c.args.pool.now) c.args.given.name.now c.handle-handle.result read.new.handle c.handle-handle.ensures read.result read.ensures c.args.given.offset c.args.given.bytes.now
    nothing_put (Err (Engine c.in-Err.refusal)) read.new.handle (Err c.in-Err.refusal) c.in-Err.is (refl, refl, refl)

pub returns-in-Some : goal.returns-in-Some
returns-in-Some g c =
    let read = c.fetch_table in
    let named = subst (λ (name : List ℕ). IsNamed c.in-Ok-Some.table c.in-Some.object.0 name) c.as_bytes.ensures.value c.in-Some.ensures.found in
    put_by_table (shared_of c.args.pool.now) c.args.given.name.now c.handle-handle.result read.new.handle c.handle-handle.ensures read.result read.ensures c.args.given.offset c.args.given.bytes.now
    c.put_known.result.0 c.put_known.result.1 read.new.handle (Ok (Some c.in-Ok-Some.table)) (c.in-Ok-Some.is ∙ ap Ok c.in-Ok-Some.field-0-is) (inl (c.in-Some.object, named, c.put_known.ensures, refl))

pub returns : goal.returns
returns g c =
    let read = c.fetch_table in
    let unknown = subst (λ (name : List ℕ). IsUnknown c.in-Ok-Some.table name) c.as_bytes.ensures.value c.in-None.ensures.none in
    put_by_table (shared_of c.args.pool.now) c.args.given.name.now c.handle-handle.result read.new.handle c.handle-handle.ensures read.result read.ensures c.args.given.offset c.args.given.bytes.now
    c.put_new.result.0 c.put_new.result.1 c.put_new.new.handle (Ok (Some c.in-Ok-Some.table)) (c.in-Ok-Some.is ∙ ap Ok c.in-Ok-Some.field-0-is) (inr (unknown, c.put_new.ensures))
