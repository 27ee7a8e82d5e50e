-- Log blocks are cut into pieces in one way at most; a front of them into a front of the pieces; and the pieces of all
-- log blocks of an image from a header on are its chain.
use Rattle.std.proofs.Common.{◌≡◌, ◌⊎◌, inl, inr, ℕ, zero, suc, ◌+◌, ◌-◌, ◌<◌, ◌≤◌, List, [], ◌∷◌, ◌++◌, length, length-append, map, take, drop, replicate, refl, sym, ◌∙◌, ap, subst, arith, append_assoc}
use Rattle.std.specs.Prelude.{All, sum_by}
use Rattle.std.specs.List.{flat_map}
use Rattle.std.specs.Int.{from_le_bytes, to_le_bytes, w16, w32, w64}
use Rattle.std.proofs.lemmas.Bool.{cases_lt}
use Rattle.std.proofs.lemmas.List.{take_at, take_all, take-take, take-append-le, length-take-le, length-drop, take-append-drop, append-nil}
use Rattle.std.proofs.lemmas.List.Elements.{All-head, All-cons, All-nil}
use Rattle.std.proofs.lemmas.List.Sums.{sum_by-cons}
use Rattle.std.proofs.lemmas.Nat.{from_le_bytes-to_le_bytes_4}
use Rattle.base.specs.formats.Limits.{log_block_room}
use Rattle.base.specs.formats.Fields.{number_at}
use Rattle.base.specs.formats.Blocks.{Frame}
use Rattle.base.specs.formats.Records.{Record, IsAllowed, op_bytes, size_of, bytes_of_record, bytes_of_records}
use Rattle.base.specs.formats.Chain.{Header, LogBlock, IsLogBlock, next_block, after_blocks, AreLogBlocks, IsLine, AreParts, IsLongPiece, IsWholePiece, LogPiece, addresses_of, IsPiece, next_header, IsChain, records_of_chain, HasNoPiece, AreCut, AreCutTo, ends_of, block_addresses, IsBegun}
use Rattle.base.specs.formats.PieceLaws.{LinesAreChains, ChainsAreOne, FrontsAreCut, FrontsEnd, BegunRecordsEnd, CutsGrow}
use Rattle.base.proofs.formats.RecordSizes.{length-bytes_of_record}
use Rattle.base.proofs.formats.RecordSpelling.{split, one-spelling}

-- the length that the first bytes of a record say
pub length_said : (r : Record) (x : List ℕ) → IsAllowed r → from_le_bytes w32 (take 4 (bytes_of_record r ++ x)) ≡ size_of r
length_said r x allowed =
    let small = allowed.size in
    ap (λ (l : List ℕ). from_le_bytes w32 l)
    (take_at (to_le_bytes w32 (size_of r)) (to_le_bytes w64 r.group ++ (to_le_bytes w64 r.ordinal ++ (to_le_bytes w16 (length r.ops) ++ (flat_map op_bytes r.ops ++ x)))) 4 refl)
    ∙ from_le_bytes-to_le_bytes_4 (size_of r) (omega (arith, small))

pub length_said_alone : (r : Record) → IsAllowed r → from_le_bytes w32 (take 4 (bytes_of_record r)) ≡ size_of r
length_said_alone r allowed = ap (λ (l : List ℕ). from_le_bytes w32 (take 4 l)) (sym (append-nil (bytes_of_record r))) ∙ length_said r [] allowed

-- what the blocks have of records, in bytes
abbrev total_used : List LogBlock → ℕ
total_used blocks = sum_by (λ (b : LogBlock). length b.used) blocks

abbrev all_used : List LogBlock → List ℕ
all_used blocks = flat_map (λ (b : LogBlock). b.used) blocks

module _ (room : ℕ) (least : 4 ≤ room) where
  parts_total : (bytes : List ℕ) (bs : List LogBlock) → AreParts room bytes bs → total_used bs ≡ length bytes
  parts_total bytes [] are = absurd are
  parts_total bytes (b ∷ bs) (inl (more, used, rest)) =
      let front : length (take room bytes) ≡ room = length-take-le room bytes (omega (arith, more)) in
      let back : length (drop room bytes) ≡ length bytes - room = length-drop room bytes in
      let here : length b.used ≡ length (take room bytes) = ap (λ (l : List ℕ). length l) used in
      let later : total_used bs ≡ length (drop room bytes) = parts_total (drop room bytes) bs rest in
      omega (arith, sum_by-cons (λ (x : LogBlock). length x.used) b bs, front, back, here, later, more)
  parts_total bytes (b ∷ bs) (inr (short, used, none)) =
      let here : length b.used ≡ length bytes = ap (λ (l : List ℕ). length l) used in
      let later : total_used bs ≡ 0 = ap (λ (xs : List LogBlock). total_used xs) none in
      omega (arith, sum_by-cons (λ (x : LogBlock). length x.used) b bs, here, later)

  parts_joined : (bytes : List ℕ) (bs : List LogBlock) → AreParts room bytes bs → all_used bs ≡ bytes
  parts_joined bytes [] are = absurd are
  parts_joined bytes (b ∷ bs) (inl (more, used, rest)) = (λ i. used i ++ parts_joined (drop room bytes) bs rest i) ∙ take-append-drop room bytes
  parts_joined bytes (b ∷ bs) (inr (short, used, none)) = (λ i. used i ++ all_used (none i)) ∙ append-nil bytes

  -- a front of the parts has fewer bytes
  front_less : (bytes : List ℕ) (bs : List LogBlock) (n : ℕ) → AreParts room bytes bs → 0 < length bytes → n < length bs → total_used (take n bs) < length bytes
  front_less bytes [] n are some below = absurd are
  front_less bytes (b ∷ bs) zero are some below = some
  front_less bytes (b ∷ bs) (suc n) (inl (more, used, rest)) some below =
      let front : length (take room bytes) ≡ room = length-take-le room bytes (omega (arith, more)) in
      let back : length (drop room bytes) ≡ length bytes - room = length-drop room bytes in
      let here : length b.used ≡ length (take room bytes) = ap (λ (l : List ℕ). length l) used in
      let later : total_used (take n bs) < length (drop room bytes) = front_less (drop room bytes) bs n rest (omega (arith, back, more)) (omega (arith, below)) in
      omega (arith, sum_by-cons (λ (x : LogBlock). length x.used) b (take n bs), front, back, here, later, more)
  front_less bytes (b ∷ bs) (suc n) (inr (short, used, none)) some below =
      let one : length bs ≡ 0 = ap (λ (xs : List LogBlock). length xs) none in absurd (omega (arith, one, below))

  -- a block that is full of a long record's first bytes has no whole records
  module _ (r : Record) (allowed : IsAllowed r) (long : room < size_of r) where
    front_full : length (take room (bytes_of_record r)) ≡ room
    front_full = length-take-le room (bytes_of_record r) (omega (arith, length-bytes_of_record r, long))

    front_said : from_le_bytes w32 (take 4 (take room (bytes_of_record r))) ≡ size_of r
    front_said = ap (λ (l : List ℕ). from_le_bytes w32 l) (take-take 4 room (bytes_of_record r) least) ∙ length_said_alone r allowed

    no_short : (records : List Record) → take room (bytes_of_record r) ≡ bytes_of_records records → 0 < length records → All IsAllowed records → ⊥
    no_short [] same some all = omega (arith, some)
    no_short (s ∷ ss) same some all =
        let sizes : size_of s ≡ size_of r = sym (length_said s (bytes_of_records ss) (All-head IsAllowed s ss all)) ∙ sym (ap (λ (l : List ℕ). from_le_bytes w32 (take 4 l)) same) ∙ front_said in
        let both : length (bytes_of_record s ++ bytes_of_records ss) ≡ length (bytes_of_record s) + length (bytes_of_records ss) = length-append (bytes_of_record s) (bytes_of_records ss) in
        let whole : room ≡ length (bytes_of_record s ++ bytes_of_records ss) = sym front_full ∙ ap (λ (l : List ℕ). length l) same in
        omega (arith, sizes, both, whole, length-bytes_of_record s, long)

    -- and begins no other long record
    same_size : (s : Record) → IsAllowed s → room < size_of s → take room (bytes_of_record r) ≡ take room (bytes_of_record s) → size_of s ≡ size_of r
    same_size s ok big same =
        sym (ap (λ (l : List ℕ). from_le_bytes w32 l) (take-take 4 room (bytes_of_record s) least) ∙ length_said_alone s ok) ∙ sym (ap (λ (l : List ℕ). from_le_bytes w32 (take 4 l)) same) ∙ front_said

-- the room of a log block
least_room : 4 ≤ log_block_room
least_room = omega arith

-- blocks that begin a long record, but are too few for it, are no piece
module _ (version : ℕ) (r : Record) (allowed : IsAllowed r) (long : log_block_room < size_of r) where
  too_few : (b : LogBlock) (bs : List LogBlock) (records : List Record) → b.used ≡ take log_block_room (bytes_of_record r) → total_used (b ∷ bs) < size_of r → IsWholePiece version (b ∷ bs) records → ⊥
  too_few b bs records used few (inl short) =
      let same : b ≡ short.block = first b short.block bs [] short.blocks_are in
      no_short log_block_room least_room r allowed long records (sym used ∙ ap (λ (x : LogBlock). x.used) same ∙ short.spelled) short.some short.allowed
    where
      first : (x y : LogBlock) (xs ys : List LogBlock) → x ∷ xs ≡ y ∷ ys → x ≡ y
      first x y xs ys e = cc
  too_few b bs records used few (inr (new, is)) = by_part is.parts
    where
      total : total_used (b ∷ bs) ≡ size_of is.logged
      total = parts_total log_block_room least_room (bytes_of_record is.logged) (b ∷ bs) is.parts ∙ length-bytes_of_record is.logged

      by_part : AreParts log_block_room (bytes_of_record is.logged) (b ∷ bs) → ⊥
      by_part (inl (more, front, rest)) =
          let sizes : size_of is.logged ≡ size_of r = same_size log_block_room least_room r allowed long is.logged is.allowed is.long (sym used ∙ front) in
          omega (arith, sizes, total, few)
      by_part (inr (small, whole, none)) =
          let big = is.long in
          omega (arith, small, big, length-bytes_of_record is.logged)

-- a front of a whole piece that is not all of it is none
pub front_is_none : (version : ℕ) (bs : List LogBlock) (rs : List Record) → IsWholePiece version bs rs → (n : ℕ) → n < length bs → (ss : List Record) → IsWholePiece version (take n bs) ss → ⊥
front_is_none version bs rs (inl short) n below ss whole =
    let one : length bs ≡ 1 = ap (λ (xs : List LogBlock). length xs) short.blocks_are in
    let none : n ≡ 0 = omega (arith, one, below) in
    nothing ss (subst (λ (k : ℕ). IsWholePiece version (take k bs) ss) none whole)
  where
    nothing : (ss : List Record) → IsWholePiece version [] ss → ⊥
    nothing ss (inl x) = let e : 0 ≡ length (x.block ∷ []) = ap (λ (xs : List LogBlock). length xs) x.blocks_are in omega (arith, e)
    nothing ss (inr (new, x)) = x.parts
front_is_none version [] rs (inr (new, is)) n below ss whole = is.parts
front_is_none version (b ∷ bs) rs (inr (new, is)) zero below ss (inl x) = let e : 0 ≡ length (x.block ∷ []) = ap (λ (xs : List LogBlock). length xs) x.blocks_are in omega (arith, e)
front_is_none version (b ∷ bs) rs (inr (new, is)) zero below ss (inr (newer, x)) = x.parts
front_is_none version (b ∷ bs) rs (inr (new, is)) (suc n) below ss whole = by_part is.parts
  where
    some : 0 < length (bytes_of_record is.logged)
    some = let big = is.long in omega (arith, big, length-bytes_of_record is.logged)

    fewer : total_used (take (suc n) (b ∷ bs)) < size_of is.logged
    fewer =
        let less : total_used (take (suc n) (b ∷ bs)) < length (bytes_of_record is.logged) = front_less log_block_room least_room (bytes_of_record is.logged) (b ∷ bs) (suc n) is.parts some below in
        omega (arith, less, length-bytes_of_record is.logged)

    by_part : AreParts log_block_room (bytes_of_record is.logged) (b ∷ bs) → ⊥
    by_part (inl (more, used, rest)) = too_few version is.logged is.allowed is.long b (take n bs) ss used fewer whole
    by_part (inr (small, used, none)) =
        let one : length bs ≡ 0 = ap (λ (xs : List LogBlock). length xs) none in omega (arith, one, below)

-- fronts of fronts
pub take-short : {A : Type 0} (k : ℕ) (xs : List A) → length (take k xs) ≤ k
take-short zero xs = omega arith
take-short (suc k) [] = omega arith
take-short (suc k) (x ∷ xs) = let r = take-short k xs in omega (arith, r)

pub no_piece-take : (version n : ℕ) (blocks : List LogBlock) → HasNoPiece version blocks → HasNoPiece version (take n blocks)
no_piece-take version n blocks none m records whole =
    elim (cases_lt n m) as (λ _. ⊥) [
      | inl less ↦ none n records (subst (λ (xs : List LogBlock). IsWholePiece version xs records) (take_all m (take n blocks) (short m less)) whole)
      | inr within ↦ none m records (subst (λ (xs : List LogBlock). IsWholePiece version xs records) (take-take m n blocks within) whole)
    ]
  where
    short : (m : ℕ) → n < m → length (take n blocks) ≤ m
    short m less = let r = take-short n blocks in omega (arith, r, less)

pub no_piece-front : (version : ℕ) (bs : List LogBlock) (rs : List Record) → IsWholePiece version bs rs → (n : ℕ) → n < length bs → HasNoPiece version (take n bs)
no_piece-front version bs rs whole n below m ss is =
    elim (cases_lt n m) as (λ _. ⊥) [
      | inl less ↦ front_is_none version bs rs whole n below ss (subst (λ (xs : List LogBlock). IsWholePiece version xs ss) (take_all m (take n bs) (short m less)) is)
      | inr within ↦ front_is_none version bs rs whole m (omega (arith, within, below)) ss (subst (λ (xs : List LogBlock). IsWholePiece version xs ss) (take-take m n bs within) is)
    ]
  where
    short : (m : ℕ) → n < m → length (take n bs) ≤ m
    short m less = let r = take-short n bs in omega (arith, r, less)

-- a front that goes past the first of two lists
take-past : {A : Type 0} (n : ℕ) (xs ys : List A) → length xs ≤ n → take n (xs ++ ys) ≡ xs ++ take (n - length xs) ys
take-past n [] ys from = let same : n ≡ n - 0 = omega arith in ap (λ (k : ℕ). take k ys) same
take-past zero (x ∷ xs) ys from = absurd (omega (arith, from))
take-past (suc n) (x ∷ xs) ys from =
    let same : n - length xs ≡ suc n - suc (length xs) = omega arith in ap (λ l. x ∷ l) (take-past n xs ys (omega (arith, from)) ∙ ap (λ (k : ℕ). xs ++ take k ys) same)

-- A front of blocks is cut into a front of their pieces.
pub fronts_are_cut : FrontsAreCut
fronts_are_cut version blocks [] n none = (0, no_piece-take version n blocks none)
fronts_are_cut version blocks (p ∷ ps) n (bs, rest, parted, whole, addresses, next, later) =
    elim (cases_lt n (length bs)) as (λ _. (k : ℕ) × AreCut version (take n blocks) (take k (p ∷ ps))) [
      | inl less ↦ (0, subst (λ (xs : List LogBlock). HasNoPiece version xs) (sym (ap (λ (xs : List LogBlock). take n xs) parted ∙ take-append-le n bs rest (omega (arith, less)))) (no_piece-front version bs p.records whole n less))
      | inr from ↦
          let r = fronts_are_cut version rest ps (n - length bs) later in
          (suc r.0, (bs, take (n - length bs) rest, ap (λ (xs : List LogBlock). take n xs) parted ∙ take-past n bs rest from, whole, addresses, next, r.1))
    ]

pub length-block_addresses : (bs : List LogBlock) → length (block_addresses bs) ≡ length bs
length-block_addresses [] = refl
length-block_addresses (b ∷ bs) = ap (λ (n : ℕ). suc n) (length-block_addresses bs)

-- and their records are those that end in these blocks
pub piece_long : (bs : List LogBlock) (p : LogPiece) → block_addresses bs ≡ addresses_of p → length bs ≡ suc (length p.behind)
piece_long bs p same = sym (length-block_addresses bs) ∙ ap (λ (xs : List ℕ). length xs) same

-- the records of some lists
abbrev pub joined : List (List Record) → List Record
joined ends = flat_map (λ (rs : List Record). rs) ends

-- the records of a chain are those that end in its blocks
pub records-joined : (ps : List LogPiece) → records_of_chain ps ≡ joined (ends_of ps)
records-joined [] = refl
records-joined (p ∷ ps) = ap (λ rs. p.records ++ rs) (records-joined ps) ∙ sym (padded (length p.behind))
  where
    padded : (m : ℕ) → joined (replicate m [] ++ (p.records ∷ ends_of ps)) ≡ p.records ++ joined (ends_of ps)
    padded zero = refl
    padded (suc m) = padded m

-- none ends in a front of a piece that is not all of it
ends-short : (m n k : ℕ) (rs : List Record) (rest : List (List Record)) → n ≤ k → joined (take m (take n (replicate k [] ++ (rs ∷ rest)))) ≡ []
ends-short zero n k rs rest short = refl
ends-short (suc m) zero k rs rest short = refl
ends-short (suc m) (suc n) zero rs rest short = absurd (omega (arith, short))
ends-short (suc m) (suc n) (suc k) rs rest short = ends-short m n k rs rest (omega (arith, short))

-- behind a whole piece as much ends as ends there
ends-past : (m n k : ℕ) (rs : List Record) (front rest : List (List Record)) → suc k ≤ n → ((j : ℕ) → joined (take j front) ≡ joined (take j (take (n - suc k) rest)))
    → joined (take m (replicate k [] ++ (rs ∷ front))) ≡ joined (take m (take n (replicate k [] ++ (rs ∷ rest))))
ends-past zero n k rs front rest from same = refl
ends-past (suc m) zero k rs front rest from same = absurd (omega (arith, from))
ends-past (suc m) (suc n) zero rs front rest from same = let less : suc n - 1 ≡ n = omega arith in ap (λ xs. rs ++ xs) (same m ∙ ap (λ (k : ℕ). joined (take m (take k rest))) less)
ends-past (suc m) (suc n) (suc k) rs front rest from same =
    let less : suc n - suc (suc k) ≡ n - suc k = omega arith in ends-past m n k rs front rest (omega (arith, from)) (λ j. same j ∙ ap (λ (i : ℕ). joined (take j (take i rest))) less)

nothing_ends : (m n : ℕ) → joined (take m []) ≡ joined (take m (take n []))
nothing_ends zero n = refl
nothing_ends (suc m) zero = refl
nothing_ends (suc m) (suc n) = refl

pub fronts_end : FrontsEnd
fronts_end version blocks [] n none = (0, no_piece-take version n blocks none, λ m. nothing_ends m n)
fronts_end version blocks (p ∷ ps) n (bs, rest, parted, whole, addresses, next, later) =
    let long : length bs ≡ suc (length p.behind) = piece_long bs p addresses in
    elim (cases_lt n (length bs)) as (λ _. (k : ℕ) × AreCut version (take n blocks) (take k (p ∷ ps)) × ((m : ℕ) → joined (take m (ends_of (take k (p ∷ ps)))) ≡ joined (take m (take n (ends_of (p ∷ ps)))))) [
      | inl less ↦ (
        0,
        subst (λ (xs : List LogBlock). HasNoPiece version xs) (sym (ap (λ (xs : List LogBlock). take n xs) parted ∙ take-append-le n bs rest (omega (arith, less)))) (no_piece-front version bs p.records whole n less),
        λ m. empty m ∙ sym (ends-short m n (length p.behind) p.records (ends_of ps) (omega (arith, less, long))),
      )
      | inr from ↦
          let r = fronts_end version rest ps (n - length bs) later in
          let same : n - length bs ≡ n - suc (length p.behind) = ap (λ (k : ℕ). n - k) long in (
            suc r.0,
            (bs, take (n - length bs) rest, ap (λ (xs : List LogBlock). take n xs) parted ∙ take-past n bs rest from, whole, addresses, next, r.1),
            λ m. ends-past m n (length p.behind) p.records (ends_of (take r.0 ps)) (ends_of ps) (omega (arith, from, long))
                (λ j. r.2 j ∙ ap (λ (k : ℕ). joined (take j (take k (ends_of ps)))) same),
          )
    ]
  where
    empty : (m : ℕ) → joined (take m []) ≡ []
    empty zero = refl
    empty (suc m) = refl

-- a header names one log block
pub one_block : (image : List ℕ) (frame : Frame) (chain : ℕ) (header : Header) (b c : LogBlock) → IsLogBlock image frame chain header b → IsLogBlock image frame chain header c → b ≡ c
one_block image frame chain header b c x y =
    let same : x.payload ≡ y.payload = sym x.sealed.payload_is ∙ y.sealed.payload_is in
    let long : length b.used ≡ length c.used = sym x.fields.used_is ∙ ap (λ (l : List ℕ). number_at l 16) same ∙ y.fields.used_is in
    let bytes = (split b.used c.used (replicate (log_block_room - length b.used) 0) (replicate (log_block_room - length c.used) 0) long (sym x.fields.rest ∙ ap (λ (l : List ℕ). drop 24 l) same ∙ y.fields.rest)).0 in
    let addresses : b.address ≡ c.address = x.address_is ∙ sym y.address_is in
    let nexts : b.next ≡ c.next = sym x.fields.next_is ∙ ap (λ (l : List ℕ). number_at l 8) same ∙ y.fields.next_is in
    λ i. record { address = addresses i; next = nexts i; used = bytes i }

-- so of two lines of them from one header the shorter is a front of the other
pub one_line : (image : List ℕ) (frame : Frame) (chain : ℕ) (header : Header) (bs cs : List LogBlock) → AreLogBlocks image frame chain header bs → AreLogBlocks image frame chain header cs
    → length bs ≤ length cs → bs ≡ take (length bs) cs
one_line image frame chain header [] cs x y short = refl
one_line image frame chain header (b ∷ bs) [] x y short = absurd (omega (arith, short))
one_line image frame chain header (b ∷ bs) (c ∷ cs) x y short =
    let first : b ≡ c = one_block image frame chain header b c x.0 y.0 in
    let rest : bs ≡ take (length bs) cs =
    one_line image frame chain (next_block header b) bs cs x.1 (subst (λ (d : LogBlock). AreLogBlocks image frame chain (next_block header d) cs) (sym first) y.1) (omega (arith, short)) in
    λ i. first i ∷ rest i

-- the block at a place of a line
pub line_at : (image : List ℕ) (frame : Frame) (chain : ℕ) (header : Header) (cs : List LogBlock) (n : ℕ) → AreLogBlocks image frame chain header cs → n < length cs
    → (b : LogBlock) × IsLogBlock image frame chain (after_blocks header (take n cs)) b
line_at image frame chain header [] n are below = absurd (omega (arith, below))
line_at image frame chain header (c ∷ cs) zero are below = (c, are.0)
line_at image frame chain header (c ∷ cs) (suc n) are below = line_at image frame chain (next_block header c) cs n are.1 (omega (arith, below))

-- a piece has a block at its header
pub piece_block : (image : List ℕ) (frame : Frame) (chain : ℕ) (header : Header) (p : LogPiece) → IsPiece image frame chain header p → (b : LogBlock) × IsLogBlock image frame chain header b
piece_block image frame chain header p is = line_at image frame chain header is.blocks 0 is.stand (some is.blocks is.addresses)
  where
    some : (bs : List LogBlock) → block_addresses bs ≡ addresses_of p → 0 < length bs
    some [] same = absurd (let e : 0 ≡ suc (length p.behind) = ap (λ (xs : List ℕ). length xs) same in omega (arith, e))
    some (b ∷ bs) same = omega arith

-- two parts of a line
pub line_parts : (image : List ℕ) (frame : Frame) (chain : ℕ) (header : Header) (bs rest : List LogBlock) → AreLogBlocks image frame chain header (bs ++ rest)
    → AreLogBlocks image frame chain header bs × AreLogBlocks image frame chain (after_blocks header bs) rest
line_parts image frame chain header [] rest are = (tt, are)
line_parts image frame chain header (b ∷ bs) rest are = let r = line_parts image frame chain (next_block header b) bs rest are.1 in ((are.0, r.0), r.1)

pub after-number : (header : Header) (bs : List LogBlock) → (after_blocks header bs).number ≡ header.number + length bs
after-number header [] = omega arith
after-number header (b ∷ bs) = let r : (after_blocks (next_block header b) bs).number ≡ header.number + 1 + length bs = after-number (next_block header b) bs in omega (arith, r)

-- where a chain goes on after a piece
pub after_piece : (header : Header) (p : LogPiece) (bs : List LogBlock) → map (λ (b : LogBlock). b.address) bs ≡ addresses_of p → (after_blocks header bs).address ≡ p.next
    → after_blocks header bs ≡ next_header header p
after_piece header p bs addresses next =
    let many : length (map (λ (b : LogBlock). b.address) bs) ≡ length (addresses_of p) = ap (λ (xs : List ℕ). length xs) addresses in
    let mapped : length (map (λ (b : LogBlock). b.address) bs) ≡ length bs = length-map_of bs in
    let number : (after_blocks header bs).number ≡ header.number + length (addresses_of p) = (let n = after-number header bs in omega (arith, n, many, mapped)) in
    λ i. record { address = next i; number = number i }
  where
    length-map_of : (xs : List LogBlock) → length (map (λ (b : LogBlock). b.address) xs) ≡ length xs
    length-map_of [] = refl
    length-map_of (x ∷ xs) = ap (λ (n : ℕ). suc n) (length-map_of xs)

pub line_stands : (image : List ℕ) (frame : Frame) (chain : ℕ) (header : Header) (bs : List LogBlock) → IsLine image frame chain header bs → AreLogBlocks image frame chain header bs
line_stands image frame chain header [] line = tt
line_stands image frame chain header (b ∷ bs) line = (line.0, line_stands image frame chain (next_block header b) bs line.1)

pub line_ends : (image : List ℕ) (frame : Frame) (chain : ℕ) (header : Header) (bs : List LogBlock) → IsLine image frame chain header bs
    → (block : LogBlock) → IsLogBlock image frame chain (after_blocks header bs) block → ⊥
line_ends image frame chain header [] line = line
line_ends image frame chain header (b ∷ bs) line = line_ends image frame chain (next_block header b) bs line.1

pub line_rest : (image : List ℕ) (frame : Frame) (chain : ℕ) (header : Header) (bs rest : List LogBlock) → IsLine image frame chain header (bs ++ rest) → IsLine image frame chain (after_blocks header bs) rest
line_rest image frame chain header [] rest line = line
line_rest image frame chain header (b ∷ bs) rest line = line_rest image frame chain (next_block header b) bs rest line.1

-- If all log blocks of an image from a header on are cut into pieces, these are its chain.
pub lines_are_chains : LinesAreChains
lines_are_chains image frame chain header blocks [] line none = λ piece is.
    elim (cases_lt (length blocks) (length is.blocks)) as (λ _. ⊥) [
      | inl less ↦
          let front : blocks ≡ take (length blocks) is.blocks = one_line image frame chain header blocks is.blocks (line_stands image frame chain header blocks line) is.stand (omega (arith, less)) in
          let next = line_at image frame chain header is.blocks (length blocks) is.stand less in
          line_ends image frame chain header blocks line next.0 (subst (λ (xs : List LogBlock). IsLogBlock image frame chain (after_blocks header xs) next.0) (sym front) next.1)
      | inr within ↦
          let front : is.blocks ≡ take (length is.blocks) blocks = one_line image frame chain header is.blocks blocks is.stand (line_stands image frame chain header blocks line) within in
          none (length is.blocks) piece.records (subst (λ (xs : List LogBlock). IsWholePiece frame.version xs piece.records) front is.whole)
    ]
lines_are_chains image frame chain header blocks (p ∷ ps) line (bs, rest, parted, whole, addresses, next, later) =
    let all : IsLine image frame chain header (bs ++ rest) = subst (λ (xs : List LogBlock). IsLine image frame chain header xs) parted line in
    let stand = line_parts image frame chain header bs rest (line_stands image frame chain header (bs ++ rest) all) in
    let there : after_blocks header bs ≡ next_header header p = after_piece header p bs addresses (next header) in (
      record { blocks = bs; stand = stand.0; addresses = addresses; next_is = next header; whole = whole },
      lines_are_chains image frame chain (next_header header p) rest ps (subst (λ (h : Header). IsLine image frame chain h rest) there (line_rest image frame chain header bs rest all)) later,
    )

-- one block is no long piece
not_long : (bs : List LogBlock) (ss : List Record) (b : LogBlock) → bs ≡ b ∷ [] → IsLongPiece bs ss → ⊥
not_long bs ss b one y = by_part (subst (λ (xs : List LogBlock). AreParts log_block_room (bytes_of_record y.logged) xs) one y.parts)
  where
    by_part : AreParts log_block_room (bytes_of_record y.logged) (b ∷ []) → ⊥
    by_part (inl (more, used, rest)) = rest
    by_part (inr (small, used, none)) = let big = y.long in omega (arith, small, big, length-bytes_of_record y.logged)

-- the records of a piece's blocks are one list at most
pub one_records : (version : ℕ) (bs : List LogBlock) (rs ss : List Record) → IsWholePiece version bs rs → IsWholePiece version bs ss → rs ≡ ss
one_records version bs rs ss (inl x) (inl y) =
    let same : x.block ≡ y.block = first x.block y.block (sym x.blocks_are ∙ y.blocks_are) in
    one-spelling rs ss x.allowed y.allowed (sym x.spelled ∙ ap (λ (b : LogBlock). b.used) same ∙ y.spelled)
  where
    first : (a b : LogBlock) → a ∷ [] ≡ b ∷ [] → a ≡ b
    first a b e = cc
one_records version bs rs ss (inl x) (inr (new, y)) = absurd (not_long bs ss x.block x.blocks_are y)
one_records version bs rs ss (inr (new, x)) (inl y) = absurd (not_long bs rs y.block y.blocks_are x)
one_records version bs rs ss (inr (new, x)) (inr (newer, y)) =
    let same : bytes_of_record x.logged ≡ bytes_of_record y.logged =
    sym (parts_joined log_block_room least_room (bytes_of_record x.logged) bs x.parts) ∙ parts_joined log_block_room least_room (bytes_of_record y.logged) bs y.parts in
    let both : bytes_of_records (x.logged ∷ []) ≡ bytes_of_records (y.logged ∷ []) = ap (λ (l : List ℕ). l ++ []) same in
    x.records_are
    ∙ one-spelling (x.logged ∷ []) (y.logged ∷ []) (All-cons IsAllowed x.logged [] x.allowed (All-nil IsAllowed)) (All-cons IsAllowed y.logged [] y.allowed (All-nil IsAllowed)) both
    ∙ sym y.records_are

-- a header names one piece
pub one_piece : (image : List ℕ) (frame : Frame) (chain : ℕ) (header : Header) (p q : LogPiece) → IsPiece image frame chain header p → IsPiece image frame chain header q → p ≡ q
one_piece image frame chain header p q x y = by_length (cases_lt (length x.blocks) (length y.blocks)) (cases_lt (length y.blocks) (length x.blocks))
  where
    by_blocks : x.blocks ≡ y.blocks → p ≡ q
    by_blocks same =
        let addresses : addresses_of p ≡ addresses_of q = sym x.addresses ∙ ap (λ (bs : List LogBlock). map (λ (b : LogBlock). b.address) bs) same ∙ y.addresses in
        let heads : p.address ≡ q.address = cc in
        let tails : p.behind ≡ q.behind = cc in
        let nexts : p.next ≡ q.next = sym x.next_is ∙ ap (λ (bs : List LogBlock). (after_blocks header bs).address) same ∙ y.next_is in
        let records : p.records ≡ q.records = one_records frame.version y.blocks p.records q.records (subst (λ (bs : List LogBlock). IsWholePiece frame.version bs p.records) same x.whole) y.whole in
        λ i. record { address = heads i; behind = tails i; next = nexts i; records = records i }

    by_length : (length x.blocks < length y.blocks) ⊎ (length y.blocks ≤ length x.blocks) → (length y.blocks < length x.blocks) ⊎ (length x.blocks ≤ length y.blocks) → p ≡ q
    by_length (inl less) other =
        let front = one_line image frame chain header x.blocks y.blocks x.stand y.stand (omega (arith, less)) in
        absurd (front_is_none frame.version y.blocks q.records y.whole (length x.blocks) less p.records (subst (λ (bs : List LogBlock). IsWholePiece frame.version bs p.records) front x.whole))
    by_length (inr up) (inl less) =
        let front = one_line image frame chain header y.blocks x.blocks y.stand x.stand (omega (arith, less)) in
        absurd (front_is_none frame.version x.blocks p.records x.whole (length y.blocks) less q.records (subst (λ (bs : List LogBlock). IsWholePiece frame.version bs q.records) front y.whole))
    by_length (inr up) (inr down) =
        by_blocks (one_line image frame chain header x.blocks y.blocks x.stand y.stand down ∙ take_all (length x.blocks) y.blocks up)

-- So it begins one chain.
pub chains_are_one : ChainsAreOne
chains_are_one image frame chain header [] [] x y = refl
chains_are_one image frame chain header [] (q ∷ qs) x y = absurd (x q y.0)
chains_are_one image frame chain header (p ∷ ps) [] x y = absurd (y p x.0)
chains_are_one image frame chain header (p ∷ ps) (q ∷ qs) x y =
    let first : p ≡ q = one_piece image frame chain header p q x.0 y.0 in
    let rest : ps ≡ qs = chains_are_one image frame chain (next_header header p) ps qs x.1 (subst (λ (d : LogPiece). IsChain image frame chain (next_header header d) qs) (sym first) y.1) in
    λ i. first i ∷ rest i

-- a begun record: its blocks have no piece, and with what is left they are its parts
module _ (room : ℕ) (least : 4 ≤ room) where
  begun_total : (bytes : List ℕ) (bs : List LogBlock) (left : List ℕ) → IsBegun room bytes bs left → 0 < length bytes → (total_used bs + length left ≡ length bytes) × (0 < length left)
  begun_total bytes [] left is some = let same : length left ≡ length bytes = ap (λ (l : List ℕ). length l) is in (omega (arith, same), omega (arith, same, some))
  begun_total bytes (b ∷ bs) left is some =
      let more = is.0 in
      let front : length (take room bytes) ≡ room = length-take-le room bytes (omega (arith, more)) in
      let back : length (drop room bytes) ≡ length bytes - room = length-drop room bytes in
      let here : length b.used ≡ length (take room bytes) = ap (λ (l : List ℕ). length l) is.1 in
      let later = begun_total (drop room bytes) bs left is.2 (omega (arith, back, more)) in
      let sums = later.0 in
      (omega (arith, sum_by-cons (λ (x : LogBlock). length x.used) b bs, front, back, here, sums, more), later.1)

  begun_front : (bytes : List ℕ) (bs : List LogBlock) (n : ℕ) → total_used (take n bs) ≤ total_used bs
  begun_front bytes [] zero = omega arith
  begun_front bytes [] (suc n) = omega arith
  begun_front bytes (b ∷ bs) zero = omega arith
  begun_front bytes (b ∷ bs) (suc n) =
      let later = begun_front bytes bs n in
      omega (arith, later, sum_by-cons (λ (x : LogBlock). length x.used) b bs, sum_by-cons (λ (x : LogBlock). length x.used) b (take n bs))

  begun_last : (bytes : List ℕ) (bs : List LogBlock) (left : List ℕ) (last : LogBlock) → IsBegun room bytes bs left → length left ≤ room → last.used ≡ left → AreParts room bytes (bs ++ last ∷ [])
  begun_last bytes [] left last is fits used = inr ((let same : length left ≡ length bytes = ap (λ (l : List ℕ). length l) is in omega (arith, same, fits)), used ∙ is, refl)
  begun_last bytes (b ∷ bs) left last is fits used = inl (is.0, is.1, begun_last (drop room bytes) bs left last is.2 fits used)

pub begun_records_end : BegunRecordsEnd
begun_records_end version r [] left allowed long is = (λ n records whole. nothing n records whole, λ last fits used. begun_last log_block_room least_room (bytes_of_record r) [] left last is fits used)
  where
    nothing : (n : ℕ) (records : List Record) → IsWholePiece version (take n []) records → ⊥
    nothing zero records (inl x) = let e : 0 ≡ length (x.block ∷ []) = ap (λ (xs : List LogBlock). length xs) x.blocks_are in omega (arith, e)
    nothing zero records (inr (new, x)) = x.parts
    nothing (suc n) records (inl x) = let e : 0 ≡ length (x.block ∷ []) = ap (λ (xs : List LogBlock). length xs) x.blocks_are in omega (arith, e)
    nothing (suc n) records (inr (new, x)) = x.parts
begun_records_end version r (b ∷ bs) left allowed long is = (λ n records whole. none n records whole, λ last fits used. begun_last log_block_room least_room (bytes_of_record r) (b ∷ bs) left last is fits used)
  where
    some : 0 < length (bytes_of_record r)
    some = omega (arith, long, length-bytes_of_record r)

    none : (n : ℕ) (records : List Record) → IsWholePiece version (take n (b ∷ bs)) records → ⊥
    none zero records (inl x) = let e : 0 ≡ length (x.block ∷ []) = ap (λ (xs : List LogBlock). length xs) x.blocks_are in omega (arith, e)
    none zero records (inr (new, x)) = x.parts
    none (suc n) records whole =
        let t = begun_total log_block_room least_room (bytes_of_record r) (b ∷ bs) left is some in
        let sums = t.0 in
        let rest = t.1 in
        let front = begun_front log_block_room least_room (bytes_of_record r) (b ∷ bs) (suc n) in
        too_few version r allowed long b (take n bs) records is.1 (omega (arith, sums, rest, front, length-bytes_of_record r)) whole

-- What a log write makes of a cut.
cut_ends : (version : ℕ) (blocks : List LogBlock) (ps : List LogPiece) (tail : List LogBlock) → AreCutTo version blocks ps tail → HasNoPiece version tail → AreCut version blocks ps
cut_ends version blocks [] tail same none = subst (λ (xs : List LogBlock). HasNoPiece version xs) (sym same) none
cut_ends version blocks (p ∷ ps) tail (bs, rest, parted, whole, addresses, next, later) none = (bs, rest, parted, whole, addresses, next, cut_ends version rest ps tail later none)

pub cut_more : (version : ℕ) (blocks : List LogBlock) (ps : List LogPiece) (tail : List LogBlock) (b : LogBlock) → AreCutTo version blocks ps tail → AreCutTo version (blocks ++ b ∷ []) ps (tail ++ b ∷ [])
cut_more version blocks [] tail b same = ap (λ (xs : List LogBlock). xs ++ b ∷ []) same
cut_more version blocks (p ∷ ps) tail b (bs, rest, parted, whole, addresses, next, later) =
    (bs, rest ++ b ∷ [], ap (λ (xs : List LogBlock). xs ++ b ∷ []) parted ∙ append_assoc bs rest (b ∷ []), whole, addresses, next, cut_more version rest ps tail b later)

after_last : (header : Header) (xs : List LogBlock) (b : LogBlock) → (after_blocks header (xs ++ b ∷ [])).address ≡ b.next
after_last header [] b = refl
after_last header (x ∷ xs) b = after_last (next_block header x) xs b

-- a piece of these blocks and one more
pub piece_with : List LogBlock → LogBlock → List Record → LogPiece
piece_with [] b records = record { address = b.address; behind = []; next = b.next; records = records }
piece_with (x ∷ xs) b records = record { address = x.address; behind = block_addresses (xs ++ b ∷ []); next = b.next; records = records }

pub with_addresses : (xs : List LogBlock) (b : LogBlock) (records : List Record) → block_addresses (xs ++ b ∷ []) ≡ addresses_of (piece_with xs b records)
unfolding piece_with
with_addresses [] b records = refl
with_addresses (x ∷ xs) b records = refl

with_next : (xs : List LogBlock) (b : LogBlock) (records : List Record) → b.next ≡ (piece_with xs b records).next
unfolding piece_with
with_next [] b records = refl
with_next (x ∷ xs) b records = refl

pub with_records : (xs : List LogBlock) (b : LogBlock) (records : List Record) → (piece_with xs b records).records ≡ records
unfolding piece_with
with_records [] b records = refl
with_records (x ∷ xs) b records = refl

pub cut_whole : (version : ℕ) (blocks : List LogBlock) (ps : List LogPiece) (tail : List LogBlock) (b : LogBlock) (records : List Record) → AreCutTo version blocks ps tail → IsWholePiece version (tail ++ b ∷ []) records
    → AreCutTo version (blocks ++ b ∷ []) (ps ++ piece_with tail b records ∷ []) []
cut_whole version blocks [] tail b records same whole = (
  tail ++ b ∷ [],
  [],
  ap (λ (xs : List LogBlock). xs ++ b ∷ []) same ∙ sym (append-nil (tail ++ b ∷ [])),
  subst (λ (rs : List Record). IsWholePiece version (tail ++ b ∷ []) rs) (sym (with_records tail b records)) whole,
  with_addresses tail b records,
  λ header. after_last header tail b ∙ with_next tail b records,
  refl,
)
cut_whole version blocks (p ∷ ps) tail b records (bs, rest, parted, own, addresses, next, later) whole =
    (bs, rest ++ b ∷ [], ap (λ (xs : List LogBlock). xs ++ b ∷ []) parted ∙ append_assoc bs rest (b ∷ []), own, addresses, next, cut_whole version rest ps tail b records later whole)

pub cuts_grow : CutsGrow
cuts_grow version blocks ps tail cut = (
  λ none. cut_ends version blocks ps tail cut none,
  λ b. cut_more version blocks ps tail b cut,
  λ b records whole. (piece_with tail b records, with_records tail b records, cut_whole version blocks ps tail b records cut whole),
)
