-- Where the pieces of a view's log lie: they have the first of its log blocks, in order. So of the fixed log blocks
-- only these have to stay for the records.
use Rattle.std.proofs.Common.{◌≡◌, ◌⊎◌, inl, inr, ℕ, zero, suc, ◌<◌, ◌≤◌, List, [], ◌∷◌, ◌++◌, length, take, replicate, Some, None, refl, sym, ◌∙◌, ap, arith, length-append}
use Rattle.std.specs.Prelude.{Contains, slice_get}
use Rattle.std.proofs.lemmas.Bool.{cases_lt}
use Rattle.std.proofs.lemmas.List.{append_assoc, length-replicate, map-append, take_all, take-take}
use Rattle.base.specs.formats.Records.{Record}
use Rattle.base.specs.formats.Chain.{LogBlock, LogPiece, AreCut, addresses_of, block_addresses, chain_addresses, ends_of}
use Rattle.base.specs.disk.Disk.{Moment}
use Rattle.base.specs.kept.Own.{IsAtRest}
use Rattle.base.specs.kept.Views.{Logged, HasCut, IsFoundAs, View, blocks_of, ended_in}
use Rattle.base.proofs.common.KeptLists.{Some-injective, take-at}
use Rattle.base.proofs.crash.CrashRule.{EndsWithin}
use Rattle.base.proofs.crash.CutViews.{cut_records}
use Rattle.base.proofs.formats.Pieces.{joined, records-joined}

-- the pieces have the first of the blocks, in order
pub cut_addresses : (version : ℕ) (blocks : List LogBlock) (ps : List LogPiece) → AreCut version blocks ps → (rest : List LogBlock) × (block_addresses blocks ≡ chain_addresses ps ++ block_addresses rest)
cut_addresses version blocks [] cut = (blocks, refl)
cut_addresses version blocks (p ∷ ps) (bs, others, parted, whole, addresses, next, cut) =
    let r = cut_addresses version others ps cut in (
      r.0,
      ap (λ (xs : List LogBlock). block_addresses xs) parted ∙ map-append (λ (b : LogBlock). b.address) bs others ∙ (λ i. addresses i ++ r.1 i)
          ∙ sym (append_assoc (addresses_of p) (chain_addresses ps) (block_addresses r.0)),
    )

-- an address of a front is one of a log block
pub at_logged : (ls : List Logged) (xs ys : List ℕ) (a : ℕ) → block_addresses (blocks_of ls) ≡ xs ++ ys → Contains xs a → (i : ℕ) × (l : Logged) × (slice_get ls i ≡ Some l) × (l.block.address ≡ a)
at_logged ls [] ys a same (k, low, is) = absurd (omega (arith, low))
at_logged [] (x ∷ xs) ys a same (k, low, is) = absurd (let e : 0 ≡ suc (length (xs ++ ys)) = ap (λ (l : List ℕ). length l) same in omega (arith, e))
at_logged (l ∷ ls) (x ∷ xs) ys a same (zero, low, is) = let head : l.block.address ≡ x = cc in (0, l, refl, head ∙ is)
at_logged (l ∷ ls) (x ∷ xs) ys a same (suc k, low, is) =
    let tail : block_addresses (blocks_of ls) ≡ xs ++ ys = cc in
    let (i, m, at, there) = at_logged ls xs ys a tail (k, omega (arith, low), is) in
    (suc i, m, at, there)

-- and so many log blocks are in it
pub logged_in : (ls : List Logged) (xs ys : List ℕ) (i : ℕ) (l : Logged) → block_addresses (blocks_of ls) ≡ xs ++ ys → i < length xs → slice_get ls i ≡ Some l → Contains xs l.block.address
logged_in ls [] ys i l same below at = absurd (omega (arith, below))
logged_in [] (x ∷ xs) ys i l same below at = absurd (let e : None ≡ Some l = at in cc)
logged_in (m ∷ ls) (x ∷ xs) ys zero l same below at =
    let head : m.block.address ≡ x = cc in
    (0, omega arith, sym head ∙ ap (λ (y : Logged). y.block.address) (Some-injective at))
logged_in (m ∷ ls) (x ∷ xs) ys (suc i) l same below at =
    let tail : block_addresses (blocks_of ls) ≡ xs ++ ys = cc in
    let (k, low, is) = logged_in ls xs ys i l tail (omega (arith, below)) at in
    (suc k, omega (arith, low), is)

-- so an address of the chain is that of a log block
pub chain_logged : (version : ℕ) (ls : List Logged) (has : HasCut version ls) (a : ℕ) → Contains (chain_addresses has.chain) a → (i : ℕ) × (l : Logged) × (slice_get ls i ≡ Some l) × (l.block.address ≡ a)
chain_logged version ls has a there = let r = cut_addresses version (blocks_of ls) has.chain has.cut in at_logged ls (chain_addresses has.chain) (block_addresses r.0) a r.1 there

-- and so many log blocks are of the chain
pub logged_chain : (version : ℕ) (ls : List Logged) (has : HasCut version ls) (i : ℕ) (l : Logged) → i < length (chain_addresses has.chain) → slice_get ls i ≡ Some l → Contains (chain_addresses has.chain) l.block.address
logged_chain version ls has i l below at = let r = cut_addresses version (blocks_of ls) has.chain has.cut in logged_in ls (chain_addresses has.chain) (block_addresses r.0) i l r.1 below at

-- a piece's records end in the last of its blocks
length-ends : (ps : List LogPiece) → length (ends_of ps) ≡ length (chain_addresses ps)
length-ends [] = refl
length-ends (p ∷ ps) =
    let before : List (List Record) = replicate (length p.behind) [] in
    let ends = length-append before (p.records ∷ ends_of ps) in
    let addresses = length-append (addresses_of p) (chain_addresses ps) in
    let short : length before ≡ length p.behind = length-replicate (length p.behind) [] in
    omega (arith, ends, addresses, short, length-ends ps)

-- so all records end in the blocks of the chain
pub cut_ends : (version : ℕ) (ls : List Logged) (has : HasCut version ls) (n : ℕ) → length (chain_addresses has.chain) ≤ n → ended_in (take n ls) ≡ ended_in ls
cut_ends version ls has n enough =
    has.ends n ∙ ap joined (take_all n (ends_of has.chain) (omega (arith, enough, length-ends has.chain))) ∙ sym (records-joined has.chain) ∙ cut_records version ls has

-- So many log blocks of a view have all its records and are of this chain.
pub record HasRecordsIn (v : View) (chain : List LogPiece) (count : ℕ) : Type 0 where
  pub in_chain : (i : ℕ) (l : Logged) → i < count → slice_get v.logged i ≡ Some l → Contains (chain_addresses chain) l.block.address
  pub all : EndsWithin count v

-- of a view that is found so many of the flushed ones do
pub records_in : (image : List ℕ) (flushed : ℕ) (v : View) (found : IsFoundAs image flushed v) → EndsWithin flushed v → (count : ℕ) × (count ≤ flushed) × HasRecordsIn v found.cut.chain count
records_in image flushed v found all = by_length (cases_lt (length places) flushed)
  where
    front : List Logged
    front = take found.count v.logged

    places : List ℕ
    places = chain_addresses found.cut.chain

    in_chain : (i : ℕ) (l : Logged) → i < length places → i < flushed → slice_get v.logged i ≡ Some l → Contains places l.block.address
    in_chain i l below low at =
        let least = found.least in logged_chain v.u.version front found.cut i l below (take-at found.count v.logged i l (omega (arith, low, least)) at)

    all_in : (n : ℕ) → length places ≤ n → (n < flushed) ⊎ (flushed ≤ n) → ended_in (take n v.logged) ≡ ended_in v.logged
    all_in n enough (inl less) =
        let least = found.least in
        ap (λ (ls : List Logged). ended_in ls) (sym (take-take n found.count v.logged (omega (arith, less, least)))) ∙ cut_ends v.u.version front found.cut n enough ∙ all found.count least
    all_in n enough (inr more) = all n more

    by_length : (length places < flushed) ⊎ (flushed ≤ length places) → (count : ℕ) × (count ≤ flushed) × HasRecordsIn v found.cut.chain count
    by_length (inl less) = (
      length places,
      omega (arith, less),
      record { in_chain = λ i l below at. in_chain i l below (omega (arith, below, less)) at; all = λ n enough. all_in n enough (cases_lt n flushed) },
    )
    by_length (inr more) = (flushed, omega arith, record { in_chain = λ i l below at. in_chain i l (omega (arith, below, more)) below at; all = all })

-- at rest on a view with fewer of its log blocks fixed
pub fewer_fixed : (size t flushed count : ℕ) (m : Moment) (v : View) → count ≤ flushed → IsAtRest size t flushed m v → IsAtRest size t count m v
fewer_fixed size t flushed count m v fewer rest = record {
  laid = record {
    view = rest.laid.view;
    firm = record {
      size_is = rest.laid.firm.size_is;
      config = rest.laid.firm.config;
      tree = rest.laid.firm.tree;
      log = (let within = rest.laid.firm.log.0 in omega (arith, fewer, within), λ i l below at. rest.laid.firm.log.1 i l (omega (arith, below, fewer)) at);
    };
    configs = rest.laid.configs;
    logs = rest.laid.logs;
  };
  slot = rest.slot;
  slots = rest.slots;
}
