use Rattle.std.proofs.Common.{List, ap, subst, ◌∙◌, ℕ}
use Rattle.base.specs.declared.operation.Op.{Op}
use Rattle.pool_threads.specs.Transacts.{TransactsOrLacks}
use Rattle.pool_threads.proofs.LongWrites.{piece_ops}
use Rattle.pool_threads.proofs.handle.Handle.write_piece.Goals as goal

pub returns-clause-made : goal.returns-clause-made
returns-clause-made g c = subst (λ (ops : List Op). TransactsOrLacks c.args.owner ops c.transact.result c.args.self.now c.transact.new.self)
    (c.new-ops.ensures ∙ c.in_ok-vec.ensures.items ∙ ap (λ (piece : List ℕ). piece_ops c.args.object c.args.at piece) c.in_ok-bytes.ensures) c.transact.ensures.made
