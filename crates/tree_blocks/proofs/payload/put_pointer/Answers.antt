use Rattle.std.proofs.Common.{◌≡◌, ◌^◌, ◌<◌, length, rules, arith}
use Rattle.tree_blocks.proofs.Payloads.{pointer_in-put, pointer_in-put_other}
use Rattle.tree_blocks.proofs.payload.put_pointer.Goals as goal

pub returns-clause-here : goal.returns-clause-here
returns-clause-here c =
    let p = c.args.pointer in
    let low : p.address < 2 ^ 64 = search (rules, arith) in
    let born : p.birth < 2 ^ 64 = search (rules, arith) in
    let long : length p.check ≡ 32 = search rules in
    rw c.write_pointer.ensures (pointer_in-put c.args.index p c.args.payload.now c.requires.size c.requires.index low born long)

pub returns-clause-others : goal.returns-clause-others
returns-clause-others c = λ r ne.
    let p = c.args.pointer in
    let long : length p.check ≡ 32 = search rules in
    rw c.write_pointer.ensures (pointer_in-put_other c.args.index r p c.args.payload.now c.requires.size c.requires.index long ne)
