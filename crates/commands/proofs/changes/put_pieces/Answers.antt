use Rattle.std.proofs.Common.{◌+◌, ap, drop, length, refl, subst, sym, take, ◌∙◌, ℕ, Err, List}
use Rattle.base.specs.declared.operation.Op.{Op}
use Rattle.running_pools.specs.Commits.{MakesFirst}
use Rattle.commands.specs.Puts.{piece_ops, put_transactions, rest_transactions}
use Rattle.commands.proofs.Pieces.{first_committed, first_piece}
use Rattle.commands.proofs.changes.put_pieces.Goals as goal

pub returns-clause-made : goal.returns-clause-made
returns-clause-made g c =
    let n = c.args.target.object in
    let at = c.first_byte-at.result in
    let bytes = c.args.bytes.now in
    let first = c.split_at.result.0.now in
    let rest = c.split_at.result.1.now in
    first_committed (put_transactions c.args.start n c.args.target.offset bytes) (rest_transactions n (at + length first) rest) (piece_ops c.args.start n at first) c.write_rest-made.result.0.transactions c.add.new.self.transactions c.in-Ok.field-0 c.write_rest-made.result.1 c.args.handle.now c.commit.new.handle c.write_rest-made.new.handle
    (first_piece c.args.start n c.args.target.offset at bytes first rest (c.keeps_all.ensures.changes c.if-keeps_all.false) c.first_byte-at.ensures
    (c.split_at.ensures.front ∙ ap (λ (k : ℕ). take k bytes) c.min.ensures) (c.split_at.ensures.back ∙ ap (λ (k : ℕ). drop k bytes) c.min.ensures))
    c.add.ensures.transactions c.in-Ok.ensures c.write_rest-made.ensures.made

pub returns-in-Err-clause-made : goal.returns-in-Err-clause-made
returns-in-Err-clause-made g c =
    let n = c.args.target.object in
    let at = c.first_byte-at.result in
    let bytes = c.args.bytes.now in
    let first = c.split_at.result.0.now in
    let rest = c.split_at.result.1.now in
    subst (λ (all : List (List Op)). MakesFirst all 0 (Err c.in-Err.refusal) c.args.handle.now c.commit.new.handle)
    (sym (first_piece c.args.start n c.args.target.offset at bytes first rest (c.keeps_all.ensures.changes c.if-keeps_all.false) c.first_byte-at.ensures
    (c.split_at.ensures.front ∙ ap (λ (k : ℕ). take k bytes) c.min.ensures) (c.split_at.ensures.back ∙ ap (λ (k : ℕ). drop k bytes) c.min.ensures)))
    (c.in-Err.refusal, refl, c.in-Err.ensures)
