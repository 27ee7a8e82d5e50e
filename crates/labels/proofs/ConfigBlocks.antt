-- The blocks of label configs, byte by byte.
use Rattle.std.proofs.Common.{◌≡◌, ℕ, ◌+◌, ◌-◌, ◌^◌, ◌<◌, ◌≤◌, List, [], ◌++◌, length, take, drop, replicate, refl, sym, ◌∙◌, ap, subst, append_assoc, arith}
use Rattle.std.proofs.lemmas.List.{take_at, drop_at, length-append, length-replicate, drop-drop, take-append-drop, length-take-le, length-drop}
use Rattle.base.specs.formats.Fields.{number_at, number_bytes}
use Rattle.base.specs.formats.Names.{IsName}
use Rattle.base.specs.formats.Blocks.{IsBlock}
use Rattle.base.specs.formats.Labels.{Config, IsConfigPayload}
use Rattle.base.proofs.formats.FieldsRead.{length-number_bytes}
use Rattle.base.proofs.formats.NameTexts.{IsName-length}
use Rattle.checked_blocks.specs.Sealing.{padded}
use Rattle.checked_blocks.proofs.Placed.{number_at-between}
use Rattle.checked_blocks.proofs.SealedBlocks.{sealed_block-is}
use Rattle.labels.specs.ConfigBytes.{config_bytes}
use Rattle.labels.specs.Configs.{IsConfigBlock, config_block}

pub length-config_bytes : (size : ℕ) (name : List ℕ) → length (config_bytes size name) ≡ 24 + length name
length-config_bytes size name =
    let x : List ℕ = number_bytes 1 in
    let y : List ℕ = number_bytes size in
    let z : List ℕ = number_bytes (length name) in
    omega (arith, length-append x y, length-append (x ++ y) z, length-append (x ++ y ++ z) name, length-number_bytes 1, length-number_bytes size, length-number_bytes (length name))

pub length-config_payload : (c : Config) → length c.name ≤ 64 → length (padded (config_bytes c.size c.name)) ≡ 4032
length-config_payload c short =
    length-append (config_bytes c.size c.name) (replicate (4032 - length (config_bytes c.size c.name)) 0)
    ∙ omega (arith, length-replicate {A = ℕ} (4032 - length (config_bytes c.size c.name)) 0, length-config_bytes c.size c.name, short)

-- what is written of a config is the payload of one
pub config_payload-is : (c : Config) → c.size < 2 ^ 64 → IsName c.name → IsConfigPayload (padded (config_bytes c.size c.name)) c.size c.name
config_payload-is c small name =
    let short : length c.name ≤ 64 = IsName-length c.name name in
    let x : List ℕ = number_bytes 1 in
    let y : List ℕ = number_bytes c.size in
    let z : List ℕ = number_bytes (length c.name) in
    let tail : List ℕ = replicate (4032 - length (config_bytes c.size c.name)) 0 in
    let lx : length x ≡ 8 = length-number_bytes 1 in
    let ly : length y ≡ 8 = length-number_bytes c.size in
    let lz : length z ≡ 8 = length-number_bytes (length c.name) in
    let parts : padded (config_bytes c.size c.name) ≡ x ++ y ++ z ++ (c.name ++ tail) = append_assoc (x ++ y ++ z) c.name tail in
    let flat : padded (config_bytes c.size c.name) ≡ x ++ (y ++ (z ++ (c.name ++ tail))) = parts ∙ append_assoc (x ++ y) z (c.name ++ tail) ∙ append_assoc x y (z ++ (c.name ++ tail)) in
    let left : 4032 - length (config_bytes c.size c.name) ≡ 4008 - length c.name = omega (arith, length-config_bytes c.size c.name) in
    record {
      version = ap (λ (l : List ℕ). number_at l 0) flat ∙ number_at-between 0 1 [] (y ++ (z ++ (c.name ++ tail))) (omega arith) (omega arith);
      size_is = ap (λ (l : List ℕ). number_at l 8) flat ∙ number_at-between 8 c.size x (z ++ (c.name ++ tail)) lx small;
      name_length = ap (λ (l : List ℕ). number_at l 16) (flat ∙ sym (append_assoc x y (z ++ (c.name ++ tail))))
          ∙ number_at-between 16 (length c.name) (x ++ y) (c.name ++ tail) (length-append x y ∙ omega (arith, lx, ly)) (omega (arith, short));
      is_name = name;
      rest = ap (λ (l : List ℕ). drop 24 l) parts
          ∙ drop_at (x ++ y ++ z) (c.name ++ tail) 24 (length-append (x ++ y) z ∙ omega (arith, length-append x y, lx, ly, lz))
          ∙ ap (λ (k : ℕ). c.name ++ replicate k 0) left;
    }

-- the payload of a block is what lies after its check
IsBlock-own : (bytes : List ℕ) (kind guid group number : ℕ) (payload : List ℕ) → IsBlock bytes kind guid group number payload → IsBlock bytes kind guid group number (drop 64 bytes)
IsBlock-own bytes kind guid group number payload b = record {
  size = b.size;
  agrees = b.agrees;
  kind_is = b.kind_is;
  guid_is = b.guid_is;
  group_is = b.group_is;
  number_is = b.number_is;
  payload_is = refl;
}

-- a sealed block with this payload holds the config
pub IsConfigBlock-by : (bytes : List ℕ) (c : Config) → c.size < 2 ^ 64 → IsName c.name → IsBlock bytes 1 c.guid c.group 0 (padded (config_bytes c.size c.name)) → IsConfigBlock bytes c.size c
IsConfigBlock-by bytes c small name b = record {
  sealed = IsBlock-own bytes 1 c.guid c.group 0 (padded (config_bytes c.size c.name)) b;
  fields = let P : List ℕ → Type 0 = λ payload. IsConfigPayload payload c.size c.name in subst P (sym b.payload_is) (config_payload-is c small name);
  size_is = refl;
}

-- a config that is written reads back
pub configs-read_back : (c : Config) → c.guid < 2 ^ 64 → c.group < 2 ^ 64 → c.size < 2 ^ 64 → IsName c.name → IsConfigBlock (config_block c) c.size c
configs-read_back c guid group size name =
    IsConfigBlock-by (config_block c) c size name
    (sealed_block-is 1 c.guid c.group 0 (padded (config_bytes c.size c.name)) (omega arith) guid group (omega arith) (length-config_payload c (IsName-length c.name name)))

-- the name is where its length says
name-taken : (payload : List ℕ) (size : ℕ) (name : List ℕ) → IsConfigPayload payload size name → take (number_at payload 16) (drop 24 payload) ≡ name
name-taken payload size name p =
    ap (λ (k : ℕ). take k (drop 24 payload)) p.name_length ∙ ap (λ (l : List ℕ). take (length name) l) p.rest
    ∙ take_at name (replicate (4008 - length name) 0) (length name) refl

same_config : (c d : Config) → c.guid ≡ d.guid → c.group ≡ d.group → c.size ≡ d.size → c.name ≡ d.name → c ≡ d
same_config c d guid group size name =
    ap (λ (n : ℕ). record c { guid = n }) guid ∙ ap (λ (n : ℕ). record c { guid = d.guid; group = n }) group
    ∙ ap (λ (n : ℕ). record c { guid = d.guid; group = d.group; size = n }) size ∙ ap (λ (l : List ℕ). record d { name = l }) name

-- a block holds at most one config
pub configs-told_apart : (block : List ℕ) (size : ℕ) (c d : Config) → IsConfigBlock block size c → IsConfigBlock block size d → c ≡ d
configs-told_apart block size c d x y =
    same_config c d (sym x.sealed.guid_is ∙ y.sealed.guid_is) (sym x.sealed.group_is ∙ y.sealed.group_is) (x.size_is ∙ sym y.size_is)
    (sym (name-taken (drop 64 block) size c.name x.fields) ∙ name-taken (drop 64 block) size d.name y.fields)

-- after the name a config has zeros alone
pub zeros-behind : (payload : List ℕ) (size : ℕ) (name : List ℕ) → IsConfigPayload payload size name → length payload ≡ 4032
    → drop (24 + length name) payload ≡ replicate (length (drop (24 + length name) payload)) 0
zeros-behind payload size name p long =
    let zeros : drop (24 + length name) payload ≡ replicate (4008 - length name) 0 = sym (drop-drop (length name) 24 payload) ∙ ap (λ (l : List ℕ). drop (length name) l) p.rest
    ∙ drop_at name (replicate (4008 - length name) 0) (length name) refl in
    zeros ∙ ap (λ (k : ℕ). replicate k 0) (sym (ap (λ (l : List ℕ). length l) zeros ∙ length-replicate (4008 - length name) 0))

-- what has the version, the size, a name and zeros is the payload of a config
pub IsConfigPayload-by : (payload : List ℕ) (size n : ℕ) (name : List ℕ) → length payload ≡ 4032 → n ≤ 64 → number_at payload 0 ≡ 1 → number_at payload 8 ≡ size → number_at payload 16 ≡ n
    → name ≡ take n (drop 24 payload) → IsName name → drop (24 + n) payload ≡ replicate (length (drop (24 + n) payload)) 0 → IsConfigPayload payload size name
IsConfigPayload-by payload size n name long short version size_is length_is taken is_name zeros =
    let ln : length name ≡ n = ap (λ (l : List ℕ). length l) taken ∙ length-take-le n (drop 24 payload) (omega (arith, length-drop 24 payload, long, short)) in
    record {
      version = version;
      size_is = size_is;
      name_length = length_is ∙ sym ln;
      is_name = is_name;
      rest = sym (take-append-drop n (drop 24 payload))
          ∙ ap (λ (l : List ℕ). l ++ drop n (drop 24 payload)) (sym taken)
          ∙ ap (λ (l : List ℕ). name ++ l) (drop-drop n 24 payload ∙ zeros ∙ ap (λ (k : ℕ). replicate k 0) (length-drop (24 + n) payload ∙ omega (arith, long, ln)));
    }
