-- What a sealed block is, byte by byte.
use Rattle.std.proofs.Common.{◌≡◌, ℕ, ◌^◌, ◌<◌, List, [], ◌++◌, length, take, drop, replicate, Option, Some, None, ◌≤◌, refl, sym, subst, ◌∙◌, ap, append_assoc, arith}
use Rattle.std.proofs.lemmas.List.{take_at, drop_at, length-append, length-replicate, length-take-le, take-append-drop, drop-drop}
use Rattle.std.proofs.Math.Seq.{take-add}
use Rattle.std.specs.List.{All}
use Rattle.std.specs.Option.{IfSome}
use Rattle.sha2.specs.Sha256.{sha256}
use Rattle.sha2.proofs.Facts256.{length-sha256}
use Rattle.base.specs.declared.names.Group.{Group}
use Rattle.base.specs.formats.Fields.{part, number_at, number_bytes}
use Rattle.base.specs.formats.Blocks.{IsSealed, IsBlock, block_head_bytes, sealed_block}
use Rattle.base.proofs.formats.FieldsRead.{length-number_bytes}
use Rattle.checked_blocks.specs.declared.expected.Expected.{Expected}
use Rattle.checked_blocks.specs.Opening.{IsExpected}
use Rattle.checked_blocks.proofs.Placed.{number_at-between, number_bytes-number_at}

pub length-head_bytes : (kind guid group number : ℕ) → length (block_head_bytes kind guid group number) ≡ 32
length-head_bytes kind guid group number =
    let a : List ℕ = number_bytes kind in
    let b : List ℕ = number_bytes guid in
    let c : List ℕ = number_bytes group in
    let d : List ℕ = number_bytes number in
    omega (
      arith,
      length-append a b,
      length-append (a ++ b) c,
      length-append (a ++ b ++ c) d,
      length-number_bytes kind,
      length-number_bytes guid,
      length-number_bytes group,
      length-number_bytes number,
    )

-- the three parts of a block
front : (head check payload : List ℕ) → length head ≡ 32 → take 32 (head ++ check ++ payload) ≡ head
front head check payload lh = ap (λ (l : List ℕ). take 32 l) (append_assoc head check payload) ∙ take_at head (check ++ payload) 32 lh

pub check-part : (head check payload : List ℕ) → length head ≡ 32 → length check ≡ 32 → part (head ++ check ++ payload) 32 32 ≡ check
check-part head check payload lh lc =
    ap (λ (l : List ℕ). take 32 l) (ap (λ (l : List ℕ). drop 32 l) (append_assoc head check payload) ∙ drop_at head (check ++ payload) 32 lh)
    ∙ take_at check payload 32 lc

back : (head check payload : List ℕ) → length head ≡ 32 → length check ≡ 32 → drop 64 (head ++ check ++ payload) ≡ payload
back head check payload lh lc = drop_at (head ++ check) payload 64 (length-append head check ∙ omega (arith, lh, lc))

-- a block whose check is the digest over zeros in its place is sealed
pub sealed-by_digest : (head payload : List ℕ) → length head ≡ 32 → IsSealed (head ++ sha256 (head ++ replicate 32 0 ++ payload) ++ payload)
sealed-by_digest head payload lh =
    let check : List ℕ = sha256 (head ++ replicate 32 0 ++ payload) in
    let lc : length check ≡ 32 = length-sha256 (head ++ replicate 32 0 ++ payload) in
    check-part head check payload lh lc
    ∙ sym (ap (λ (l : List ℕ). sha256 (l ++ replicate 32 0 ++ drop 64 (head ++ check ++ payload))) (front head check payload lh)
    ∙ ap (λ (l : List ℕ). sha256 (head ++ replicate 32 0 ++ l)) (back head check payload lh lc))

-- bytes with zeros in the place of the check are those before it, the zeros, and those behind it
pub clear-parts : (bytes : List ℕ) → part bytes 32 32 ≡ replicate 32 0 → bytes ≡ take 32 bytes ++ (replicate 32 0 ++ drop 64 bytes)
clear-parts bytes clear =
    sym (take-append-drop 32 bytes)
    ∙ ap (λ (l : List ℕ). take 32 bytes ++ l) (sym (take-append-drop 32 (drop 32 bytes)) ∙ ap (λ (l : List ℕ). l ++ drop 32 (drop 32 bytes)) clear ∙ ap (λ (l : List ℕ). replicate 32 0 ++ l) (drop-drop 32 32 bytes))

-- and with their digest there they are sealed
pub clear-sealed : (bytes : List ℕ) → 32 ≤ length bytes → part bytes 32 32 ≡ replicate 32 0 → IsSealed (take 32 bytes ++ sha256 bytes ++ drop 64 bytes)
clear-sealed bytes long clear =
    let same : take 32 bytes ++ replicate 32 0 ++ drop 64 bytes ≡ bytes = append_assoc (take 32 bytes) (replicate 32 0) (drop 64 bytes) ∙ sym (clear-parts bytes clear) in
    subst (λ (l : List ℕ). IsSealed (take 32 bytes ++ sha256 l ++ drop 64 bytes)) same (sealed-by_digest (take 32 bytes) (drop 64 bytes) (length-take-le 32 bytes long))

-- the bytes of a block with zeros in the place of its check, by parts
pub unsealed-parts : (bytes head payload : List ℕ) → length head ≡ 32 → bytes ≡ head ++ (replicate 32 0 ++ payload)
    → (part bytes 32 32 ≡ replicate 32 0) × (take 32 bytes ++ sha256 bytes ++ drop 64 bytes ≡ head ++ sha256 (head ++ replicate 32 0 ++ payload) ++ payload)
unsealed-parts bytes head payload lh is =
    let flat_is : bytes ≡ head ++ replicate 32 0 ++ payload = is ∙ sym (append_assoc head (replicate 32 0) payload) in (
      ap (λ (l : List ℕ). part l 32 32) flat_is ∙ check-part head (replicate 32 0) payload lh (length-replicate {A = ℕ} 32 0),
      ap (λ (l : List ℕ). take 32 l ++ sha256 l ++ drop 64 l) flat_is
          ∙ ap (λ (l : List ℕ). l ++ sha256 (head ++ replicate 32 0 ++ payload) ++ drop 64 (head ++ replicate 32 0 ++ payload)) (front head (replicate 32 0) payload lh)
          ∙ ap (λ (l : List ℕ). head ++ sha256 (head ++ replicate 32 0 ++ payload) ++ l) (back head (replicate 32 0) payload lh (length-replicate {A = ℕ} 32 0)),
    )

-- four fields and what lies behind them
flat : (a b c d check payload : List ℕ) → a ++ b ++ c ++ d ++ check ++ payload ≡ a ++ (b ++ (c ++ (d ++ (check ++ payload))))
flat a b c d check payload = simp append_assoc

-- what is sealed is a block of its fields
pub sealed_block-is : (kind guid group number : ℕ) (payload : List ℕ) → kind < 2 ^ 64 → guid < 2 ^ 64 → group < 2 ^ 64 → number < 2 ^ 64 → length payload ≡ 4032
    → IsBlock (sealed_block kind guid group number payload) kind guid group number payload
sealed_block-is kind guid group number payload k u g n long =
    let head : List ℕ = block_head_bytes kind guid group number in
    let check : List ℕ = sha256 (head ++ replicate 32 0 ++ payload) in
    let a : List ℕ = number_bytes kind in
    let b : List ℕ = number_bytes guid in
    let c : List ℕ = number_bytes group in
    let d : List ℕ = number_bytes number in
    let lh : length head ≡ 32 = length-head_bytes kind guid group number in
    let lc : length check ≡ 32 = length-sha256 (head ++ replicate 32 0 ++ payload) in
    let la : length a ≡ 8 = length-number_bytes kind in
    let lb : length b ≡ 8 = length-number_bytes guid in
    let lg : length c ≡ 8 = length-number_bytes group in
    let parts : head ++ check ++ payload ≡ a ++ (b ++ (c ++ (d ++ (check ++ payload)))) = flat a b c d check payload in
    let behind : List ℕ = d ++ (check ++ payload) in
    record {
      size = length-append (head ++ check) payload ∙ omega (arith, length-append head check, lh, lc, long);
      agrees = sealed-by_digest head payload lh;
      kind_is = ap (λ (l : List ℕ). number_at l 0) parts ∙ number_at-between 0 kind [] (b ++ (c ++ behind)) (omega arith) k;
      guid_is = ap (λ (l : List ℕ). number_at l 8) parts ∙ number_at-between 8 guid a (c ++ behind) la u;
      group_is = ap (λ (l : List ℕ). number_at l 16) (parts ∙ sym (append_assoc a b (c ++ behind)))
          ∙ number_at-between 16 group (a ++ b) behind (length-append a b ∙ omega (arith, la, lb)) g;
      number_is = ap (λ (l : List ℕ). number_at l 24) (parts ∙ sym (append_assoc a b (c ++ behind)) ∙ sym (append_assoc (a ++ b) c behind))
          ∙ number_at-between 24 number (a ++ b ++ c) (check ++ payload) (length-append (a ++ b) c ∙ omega (arith, length-append a b, la, lb, lg)) n;
      payload_is = back head check payload lh lc;
    }

-- bytes in three parts
three_parts : (bytes : List ℕ) → bytes ≡ take 32 bytes ++ part bytes 32 32 ++ drop 64 bytes
three_parts bytes =
    sym (take-append-drop 32 bytes)
    ∙ ap (λ (l : List ℕ). take 32 bytes ++ l) (sym (take-append-drop 32 (drop 32 bytes)) ∙ ap (λ (l : List ℕ). part bytes 32 32 ++ l) (drop-drop 32 32 bytes))
    ∙ sym (append_assoc (take 32 bytes) (part bytes 32 32) (drop 64 bytes))

-- the first 32 bytes, as four numbers
head-of : (bytes : List ℕ) → length bytes ≡ 4096 → All (λ b. b < 256) bytes
    → take 32 bytes ≡ block_head_bytes (number_at bytes 0) (number_at bytes 8) (number_at bytes 16) (number_at bytes 24)
head-of bytes long each =
    take-add 24 8 bytes ∙ ap (λ (l : List ℕ). l ++ part bytes 24 8) (take-add 16 8 bytes ∙ ap (λ (l : List ℕ). l ++ part bytes 16 8) (take-add 8 8 bytes))
    ∙ sym (four (number_bytes-number_at bytes 0 (omega (arith, long)) each) (number_bytes-number_at bytes 8 (omega (arith, long)) each)
    (number_bytes-number_at bytes 16 (omega (arith, long)) each) (number_bytes-number_at bytes 24 (omega (arith, long)) each))
  where
    four : {a b c d w x y z : List ℕ} → a ≡ w → b ≡ x → c ≡ y → d ≡ z → a ++ b ++ c ++ d ≡ w ++ x ++ y ++ z
    four p q r s = cc

-- a block is what is sealed of its fields and its payload
pub IsBlock-sealed_block : (bytes : List ℕ) (kind guid group number : ℕ) (payload : List ℕ) → All (λ b. b < 256) bytes → IsBlock bytes kind guid group number payload
    → bytes ≡ sealed_block kind guid group number payload
IsBlock-sealed_block bytes kind guid group number payload each block =
    let head : List ℕ = block_head_bytes kind guid group number in
    let headed : take 32 bytes ≡ head = head-of bytes block.size each ∙ fields block.kind_is block.guid_is block.group_is block.number_is in
    three_parts bytes
    ∙ ap (λ (l : List ℕ). take 32 bytes ++ l ++ drop 64 bytes) block.agrees
    ∙ ap (λ (l : List ℕ). l ++ sha256 (l ++ replicate 32 0 ++ drop 64 bytes) ++ drop 64 bytes) headed
    ∙ ap (λ (l : List ℕ). head ++ sha256 (head ++ replicate 32 0 ++ l) ++ l) block.payload_is
  where
    fields : {a b c d : ℕ} → a ≡ kind → b ≡ guid → c ≡ group → d ≡ number → block_head_bytes a b c d ≡ block_head_bytes kind guid group number
    fields p q r s = cc

-- bytes that are expected are a block of the expected kind, pool and number
pub IsExpected-block : (bytes : List ℕ) (e : Expected) → length bytes ≡ 4096 → IsExpected bytes e → IsBlock bytes e.kind e.guid (number_at bytes 16) e.number (drop 64 bytes)
IsExpected-block bytes e long x = record {
  size = long;
  agrees = x.agrees;
  kind_is = x.kind;
  guid_is = x.guid;
  group_is = refl;
  number_is = x.number;
  payload_is = refl;
}

-- and a block of these is expected
pub block-IsExpected : (bytes : List ℕ) (e : Expected) (kind guid group number : ℕ) (payload : List ℕ) → IsBlock bytes kind guid group number payload
    → e.kind ≡ kind → e.guid ≡ guid → e.number ≡ number → IfSome e.group (λ (g : Group). group ≡ g.0) → IfSome e.check (λ (c : List ℕ). part bytes 32 32 ≡ c)
    → IsExpected bytes e
block-IsExpected bytes e kind guid group number payload block k u n g c = record {
  agrees = block.agrees;
  kind = block.kind_is ∙ sym k;
  guid = block.guid_is ∙ sym u;
  number = block.number_is ∙ sym n;
  group = same_group e.group g;
  check = c;
}
  where
    same_group : (o : Option Group) → IfSome o (λ (g : Group). group ≡ g.0) → IfSome o (λ (g : Group). number_at bytes 16 ≡ g.0)
    same_group None h = h
    same_group (Some x) h = block.group_is ∙ h
