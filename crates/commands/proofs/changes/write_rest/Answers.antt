use Rattle.std.proofs.Common.{rules, ◌<◌, ◌*◌, Err, Ok, ap, length, min, subst, sym, ◌∙◌, ℕ}
use Rattle.running_pools.specs.Commits.{MakesFirst}
use Rattle.commands.specs.Puts.{rest_transactions}
use Rattle.commands.proofs.Pieces.{few_enough, some_bytes, wrote_all, wrote_some}
use Rattle.commands.proofs.changes.write_rest.Goals as goal

pub returns-in-Ok-clause-made : goal.returns-in-Ok-clause-made
returns-in-Ok-clause-made g c =
    let some : 0 < length c.args.bytes.now = some_bytes (length c.args.bytes.now) (search rules) in
    subst (λ (k : ℕ). MakesFirst (rest_transactions c.args.object c.args.at c.args.bytes.now) k (Ok tt) c.args.handle.now c.write_long.new.self) (sym c.in_pieces.ensures.transactions)
    (wrote_all c.args.object c.args.at c.args.bytes.now c.args.handle.now c.write_long.new.self some c.in-Ok.field-0 (c.in-Ok.ensures.made c.requires))

pub returns-in-Err-clause-made : goal.returns-in-Err-clause-made
returns-in-Err-clause-made g c =
    let some : 0 < length c.args.bytes.now = some_bytes (length c.args.bytes.now) (search rules) in
    subst (λ (k : ℕ). MakesFirst (rest_transactions c.args.object c.args.at c.args.bytes.now) k (Err c.in-Err.refusal) c.args.handle.now c.write_long.new.self) (sym c.in_pieces-in-Err.ensures.transactions)
    (wrote_some c.args.object c.args.at c.args.bytes.now c.args.handle.now c.write_long.new.self some c.in-Err.refusal c.in-Err.committed (c.in-Err.ensures.made c.requires)).0

pub returns-in-Err-clause-size : goal.returns-in-Err-clause-size
returns-in-Err-clause-size g c =
    let some : 0 < length c.args.bytes.now = some_bytes (length c.args.bytes.now) (search rules) in
    let wrote = wrote_some c.args.object c.args.at c.args.bytes.now c.args.handle.now c.write_long.new.self some c.in-Err.refusal c.in-Err.committed (c.in-Err.ensures.made c.requires) in
    c.in_pieces-in-Err.ensures.bytes ∙ wrote.1 ∙ ap (λ (k : ℕ). min (64512 * k) (length c.args.bytes.now)) (sym c.in_pieces-in-Err.ensures.transactions)

pub returns-in-Err-clause-few : goal.returns-in-Err-clause-few
returns-in-Err-clause-few g c =
    let some : 0 < length c.args.bytes.now = some_bytes (length c.args.bytes.now) (search rules) in
    let wrote = wrote_some c.args.object c.args.at c.args.bytes.now c.args.handle.now c.write_long.new.self some c.in-Err.refusal c.in-Err.committed (c.in-Err.ensures.made c.requires) in
    few_enough c.in_pieces-in-Err.result.transactions c.in-Err.committed (length c.args.bytes.now) c.in_pieces-in-Err.ensures.transactions wrote.1
