use Rattle.std.proofs.Common.{◌≡◌, ◌<◌, ◌^◌, length, rules, arith}
use Rattle.mapped_labels.proofs.EntriesRead.{map_entry_at-put}
use Rattle.mapped_labels.proofs.clients.a_written_map_entry_reads_back.Goals as goal

pub returns : goal.returns
returns c =
    let e = c.args.entry in
    let low : e.pointer.address < 2 ^ 64 = search (rules, arith) in
    let born : e.pointer.birth < 2 ^ 64 = search (rules, arith) in
    let fits : e.count < 2 ^ 64 = search (rules, arith) in
    let long : length e.pointer.check ≡ 32 = search rules in
    rw (c.read_map_entry.ensures, c.write_map_entry.ensures) (map_entry_at-put 8 e c.args.bytes.now (omega (arith, c.requires)) low born long fits)
