use Rattle.std.proofs.Common.{◌≡◌, ◌<◌, ◌^◌, length, rules, arith}
use Rattle.space_maps.proofs.PayloadEntries.{map_entry_in-put, map_entry_in-put_other}
use Rattle.space_maps.proofs.entry.put_entry.Goals as goal

pub returns-clause-here : goal.returns-clause-here
returns-clause-here c =
    let e = c.args.entry in
    let low : e.pointer.address < 2 ^ 64 = search (rules, arith) in
    let born : e.pointer.birth < 2 ^ 64 = search (rules, arith) in
    let fits : e.count < 2 ^ 64 = search (rules, arith) in
    let long : length e.pointer.check ≡ 32 = search rules in
    rw c.write_map_entry.ensures (map_entry_in-put c.args.index e c.args.payload.now c.requires.size c.requires.index low born long fits)

pub returns-clause-others : goal.returns-clause-others
returns-clause-others c = λ r ne.
    let e = c.args.entry in
    let long : length e.pointer.check ≡ 32 = search rules in
    rw c.write_map_entry.ensures (map_entry_in-put_other c.args.index r e c.args.payload.now c.requires.size c.requires.index long ne)
