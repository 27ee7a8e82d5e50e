use Rattle.std.proofs.Common.{◌≡◌, ◌*◌, ◌^◌, ◌<◌, length, rules, arith}
use Rattle.tree_blocks.proofs.Entries.{entry_is_present, entry_has_length, entry_has_pointer, entry_apart, entries_apart}
use Rattle.tree_blocks.proofs.payload.write_entry.Goals as goal

pub returns-clause-present : goal.returns-clause-present
returns-clause-present c =
    let p = c.args.pointer in
    let long : length p.check ≡ 32 = search rules in
    let few : c.args.levels < 2 ^ 64 = search (rules, arith) in
    entry_is_present (64 * c.args.index) c.args.levels c.args.size p c.args.payload.now c.write_u64.new.bytes c.write_u64-2.new.bytes c.write_pointer.new.bytes (omega (arith, c.requires.size, c.requires.in_range)) long
    c.write_u64.ensures c.write_u64-2.ensures c.write_pointer.ensures few

pub returns-clause-length : goal.returns-clause-length
returns-clause-length c =
    let p = c.args.pointer in
    let long : length p.check ≡ 32 = search rules in
    let small : c.args.size < 2 ^ 64 = search (rules, arith) in
    entry_has_length (64 * c.args.index) c.args.levels c.args.size p c.args.payload.now c.write_u64.new.bytes c.write_u64-2.new.bytes c.write_pointer.new.bytes (omega (arith, c.requires.size, c.requires.in_range)) long
    c.write_u64.ensures c.write_u64-2.ensures c.write_pointer.ensures small

pub returns-clause-pointer : goal.returns-clause-pointer
returns-clause-pointer c =
    let p = c.args.pointer in
    let long : length p.check ≡ 32 = search rules in
    let low : p.address < 2 ^ 64 = search (rules, arith) in
    let born : p.birth < 2 ^ 64 = search (rules, arith) in
    entry_has_pointer (64 * c.args.index) c.args.levels c.args.size p c.args.payload.now c.write_u64.new.bytes c.write_u64-2.new.bytes c.write_pointer.new.bytes (omega (arith, c.requires.size, c.requires.in_range)) long
    c.write_u64.ensures c.write_u64-2.ensures c.write_pointer.ensures low born

pub returns-clause-others : goal.returns-clause-others
returns-clause-others c = λ k low ne.
    let p = c.args.pointer in
    let long : length p.check ≡ 32 = search rules in
    entry_apart (64 * c.args.index) c.args.levels c.args.size p c.args.payload.now c.write_u64.new.bytes c.write_u64-2.new.bytes c.write_pointer.new.bytes (omega (arith, c.requires.size, c.requires.in_range)) long
    c.write_u64.ensures c.write_u64-2.ensures c.write_pointer.ensures (64 * k) (entries_apart k c.args.index ne)
