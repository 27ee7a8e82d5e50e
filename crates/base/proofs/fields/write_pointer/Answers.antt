use Rattle.std.proofs.Common.{ℕ, ◌≡◌, ◌+◌, ◌≤◌, List, ◌++◌, length, ap, sym, ◌∙◌, arith, rules}
use Rattle.base.specs.disk.Disk.{put}
use Rattle.base.specs.formats.Fields.{number_bytes}
use Rattle.base.proofs.formats.FieldsRead.{length-number_bytes, put-three}
use Rattle.base.proofs.fields.write_pointer.Goals as goal

three : (at : ℕ) (a b c bytes first second third : List ℕ) → length a ≡ 8 → length b ≡ 8 → length c ≡ 32 → at + 48 ≤ length bytes
    → first ≡ put at a bytes → second ≡ put (at + 8) b first → third ≡ put (at + 16) c second → third ≡ put at (a ++ (b ++ c)) bytes
three at a b c bytes first second third la lb lc fits e1 e2 e3 =
    let behind_a : at + 8 ≡ at + length a = omega (arith, la) in
    let behind_b : at + 16 ≡ at + length a + length b = omega (arith, la, lb) in
    e3 ∙ ap (λ (l : List ℕ). put (at + 16) c l) (e2 ∙ ap (λ (l : List ℕ). put (at + 8) b l) e1) ∙ (λ i. put (behind_b i) c (put (behind_a i) b (put at a bytes)))
    ∙ sym (put-three at a b c bytes (omega (arith, la, lb, lc, fits)))

pub returns : goal.returns
returns c =
    let p = c.args.pointer.now in
    let checked = c.fits-pointer in
    three c.args.at (number_bytes p.address) (number_bytes p.birth) p.check c.args.bytes.now c.write_u64.new.bytes c.write_u64-2.new.bytes c.write_bytes.new.bytes
    (length-number_bytes p.address) (length-number_bytes p.birth) (search rules) c.requires c.write_u64.ensures c.write_u64-2.ensures c.write_bytes.ensures
