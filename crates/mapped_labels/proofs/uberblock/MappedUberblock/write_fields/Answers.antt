use Rattle.std.proofs.Common.{ℕ, ◌≡◌, List, ◌++◌, length, arith, rules}
use Rattle.base.specs.disk.Disk.{put}
use Rattle.base.specs.formats.Fields.{number_bytes, pointer_bytes}
use Rattle.base.proofs.formats.FieldsRead.{length-number_bytes, length-pointer_bytes}
use Rattle.uberblocks.specs.Slots.{field_bytes}
use Rattle.uberblocks.proofs.SlotWrites.{put_next, length-two}
use Rattle.mapped_labels.proofs.uberblock.MappedUberblock.write_fields.Goals as goal

-- nine fields, one after the other
nine : (a b c d e f g h i bytes b1 b2 b3 b4 b5 b6 b7 b8 b9 : List ℕ)
    → length a ≡ 8 → length b ≡ 8 → length c ≡ 8 → length d ≡ 8 → length e ≡ 8 → length f ≡ 48 → length g ≡ 8 → length h ≡ 8 → length i ≡ 8 → length bytes ≡ 4096
    → b1 ≡ put 0 a bytes → b2 ≡ put 8 b b1 → b3 ≡ put 16 c b2 → b4 ≡ put 24 d b3 → b5 ≡ put 32 e b4 → b6 ≡ put 40 f b5 → b7 ≡ put 88 g b6 → b8 ≡ put 96 h b7 → b9 ≡ put 104 i b8
    → b9 ≡ put 0 (a ++ b ++ c ++ d ++ e ++ f ++ g ++ h ++ i) bytes
nine a b c d e f g h i bytes b1 b2 b3 b4 b5 b6 b7 b8 b9 la lb lc ld le lf lg lh li long e1 e2 e3 e4 e5 e6 e7 e8 e9 =
    let l2 = length-two a b 8 8 la lb in
    let l3 = length-two _ c 16 8 l2 lc in
    let l4 = length-two _ d 24 8 l3 ld in
    let l5 = length-two _ e 32 8 l4 le in
    let l6 = length-two _ f 40 48 l5 lf in
    let l7 = length-two _ g 88 8 l6 lg in
    let l8 = length-two _ h 96 8 l7 lh in
    let p2 = put_next 8 a b bytes b1 b2 la (omega (arith, lb, long)) e1 e2 in
    let p3 = put_next 16 _ c bytes b2 b3 l2 (omega (arith, lc, long)) p2 e3 in
    let p4 = put_next 24 _ d bytes b3 b4 l3 (omega (arith, ld, long)) p3 e4 in
    let p5 = put_next 32 _ e bytes b4 b5 l4 (omega (arith, le, long)) p4 e5 in
    let p6 = put_next 40 _ f bytes b5 b6 l5 (omega (arith, lf, long)) p5 e6 in
    let p7 = put_next 88 _ g bytes b6 b7 l6 (omega (arith, lg, long)) p6 e7 in
    let p8 = put_next 96 _ h bytes b7 b8 l7 (omega (arith, lh, long)) p7 e8 in
    put_next 104 _ i bytes b8 b9 l8 (omega (arith, li, long)) p8 e9

pub returns-clause-written : goal.returns-clause-written
unfolding field_bytes
returns-clause-written c =
    let u = c.args.self.state in
    let h : length u.root.check ≡ 32 = search rules in
    nine (number_bytes 0x00bab10c) (number_bytes 3) (number_bytes u.group.0) (number_bytes u.guid) (number_bytes u.moment) (pointer_bytes u.root) (number_bytes u.import_number) (number_bytes u.log_address) (number_bytes u.log_number)
    c.args.bytes.now c.write_u64.new.bytes c.write_u64-2.new.bytes c.write_u64-3.new.bytes c.write_u64-4.new.bytes c.write_u64-5.new.bytes c.write_pointer.new.bytes c.write_u64-6.new.bytes c.write_u64-7.new.bytes c.write_u64-8.new.bytes
    (length-number_bytes _) (length-number_bytes _) (length-number_bytes _) (length-number_bytes _) (length-number_bytes _) (length-pointer_bytes u.root h) (length-number_bytes _) (length-number_bytes _) (length-number_bytes _) c.requires
    c.write_u64.ensures c.write_u64-2.ensures c.write_u64-3.ensures c.write_u64-4.ensures c.write_u64-5.ensures c.write_pointer.ensures c.write_u64-6.ensures c.write_u64-7.ensures c.write_u64-8.ensures
