use Rattle.std.proofs.Common.{◌≡◌, length, rules}
use Rattle.mapped_labels.proofs.EntriesRead.{put-entry}
use Rattle.mapped_labels.proofs.map_entry.write_map_entry.Goals as goal

pub returns : goal.returns
returns c =
    let e = c.args.entry in
    let long : length e.pointer.check ≡ 32 = search rules in
    put-entry c.args.at e c.args.bytes.now c.write_pointer.new.bytes c.write_u64.new.bytes long c.requires c.write_pointer.ensures c.write_u64.ensures
