use Rattle.std.proofs.Common.{◌+◌, ℕ, Err, List, Ok, ap, drop, length, refl, subst, sym, take, ◌∙◌}
use Rattle.base.specs.declared.operation.Op.{Op}
use Rattle.running_pools.specs.Commits.{MakesFirst}
use Rattle.commands.specs.Puts.{rest_transactions}
use Rattle.commands.proofs.Pieces.{first_committed}
use Rattle.commands.specs.NamedOps.{naming_ops, naming_transactions}
use Rattle.commands.proofs.NewPieces.{named_piece}
use Rattle.commands.proofs.TableFound.{transacted}
use Rattle.commands.proofs.new_objects.put_pieces.Goals as goal

pub returns-clause-made : goal.returns-clause-made
returns-clause-made g c =
    let given = c.args.given in
    let new = c.args.new in
    let at = c.first_byte-at.result in
    let bytes = given.bytes.now in
    let first = c.split_at.result.0.now in
    let rest = c.split_at.result.1.now in
    let ops = naming_ops new.has_table c.args.table.now new.object given.name.now at first in
    first_committed (naming_transactions new.has_table c.args.table.now new.object given.name.now given.offset bytes) (rest_transactions new.object (at + length first) rest) ops
    c.write_rest-made.result.0.transactions c.add.new.self.transactions c.in-Ok.field-0 c.write_rest-made.result.1 c.args.handle.now c.commit.new.handle c.write_rest-made.new.handle
    (named_piece new.has_table c.args.table.now new.object given.name.now given.offset at bytes first rest c.first_byte-at.ensures
    (c.split_at.ensures.front ∙ ap (λ (k : ℕ). take k bytes) c.min.ensures) (c.split_at.ensures.back ∙ ap (λ (k : ℕ). drop k bytes) c.min.ensures))
    c.add.ensures.transactions
    (transacted ops c.ops_of-ops.result (Ok c.in-Ok.field-0) c.args.handle.now c.commit.new.handle c.ops_of-ops.ensures c.in-Ok.ensures.committed c.in-Ok.ensures.lacks)
    c.write_rest-made.ensures.made

pub returns-in-Err-clause-made : goal.returns-in-Err-clause-made
returns-in-Err-clause-made g c =
    let given = c.args.given in
    let new = c.args.new in
    let at = c.first_byte-at.result in
    let bytes = given.bytes.now in
    let first = c.split_at.result.0.now in
    let rest = c.split_at.result.1.now in
    let ops = naming_ops new.has_table c.args.table.now new.object given.name.now at first in
    subst (λ (all : List (List Op)). MakesFirst all 0 (Err c.in-Err.refusal) c.args.handle.now c.commit.new.handle)
    (sym (named_piece new.has_table c.args.table.now new.object given.name.now given.offset at bytes first rest c.first_byte-at.ensures
    (c.split_at.ensures.front ∙ ap (λ (k : ℕ). take k bytes) c.min.ensures) (c.split_at.ensures.back ∙ ap (λ (k : ℕ). drop k bytes) c.min.ensures)))
    (c.in-Err.refusal, refl, transacted ops c.ops_of-ops.result (Err c.in-Err.refusal) c.args.handle.now c.commit.new.handle c.ops_of-ops.ensures c.in-Err.ensures.committed c.in-Err.ensures.lacks)
