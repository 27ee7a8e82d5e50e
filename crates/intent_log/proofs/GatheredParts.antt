-- The parts of a long record that were read so far: which bytes stand there in parts, and which of these are begun.
use Rattle.std.proofs.Common.{◌≡◌, ◌⊎◌, inl, inr, ℕ, ◌+◌, ◌-◌, ◌<◌, ◌≤◌, List, [], ◌∷◌, ◌++◌, length, length-append, length-drop, min, take, take-add, take-take, drop, refl, sym, ◌∙◌, ap, subst, arith}
use Rattle.std.proofs.Math.Seq.{take-append_seam}
use Rattle.std.proofs.lemmas.Bool.{cases_lt}
use Rattle.std.proofs.lemmas.List.{drop_at, drop-drop, take_all, length-take-le, map-append}
use Rattle.base.specs.formats.Blocks.{Frame}
use Rattle.base.specs.formats.Chain.{Header, LogBlock, IsLogBlock, AreLogBlocks, AreParts, IsBegun, after_blocks, block_addresses, next_block}
use Rattle.base.proofs.formats.Pieces.{one_block}
use Rattle.intent_log.specs.Chains.{AreGathered, frame_of_chain, header_of_chain}
use Rattle.intent_log.specs.declared.chains.ChainHeader.{ChainHeader}
use Rattle.intent_log.specs.declared.parts.Parts.{Parts}

module _ (room : ℕ) (image : List ℕ) (frame : Frame) (chain : ℕ) where
  -- some bytes stand in parts in the blocks from a header on
  abbrev pub Stand : Header → List ℕ → Type 0
  Stand header bytes = (ys : List LogBlock) × AreLogBlocks image frame chain header ys × AreParts room bytes ys

  -- Blocks were read up to a header, and these are their bytes: each list of so many bytes that stands here begins with
  -- them and goes on there, and each one that begins with them is begun in the blocks, or is all there.
  pub record IsReadTo (header : Header) (size : ℕ) (next : Header) (bytes behind : List ℕ) : Type 0 where
    pub blocks : List LogBlock
    pub stand : AreLogBlocks image frame chain header blocks
    pub end : after_blocks header blocks ≡ next
    pub addresses : block_addresses blocks ≡ header.address ∷ behind
    pub begun : (whole : List ℕ) → length whole ≡ size → take (length bytes) whole ≡ bytes → length bytes < size → IsBegun room whole blocks (drop (length bytes) whole)
    pub all : (whole : List ℕ) → length whole ≡ size → take (length bytes) whole ≡ bytes → size ≤ length bytes → AreParts room whole blocks
    pub front : (whole : List ℕ) → length whole ≡ size → Stand header whole → take (length bytes) whole ≡ bytes
    pub rest : (whole : List ℕ) → length whole ≡ size → Stand header whole → length bytes < size → Stand next (drop (length bytes) whole)

  stand_more : (header : Header) (bs : List LogBlock) (b : LogBlock) → AreLogBlocks image frame chain header bs → IsLogBlock image frame chain (after_blocks header bs) b
      → AreLogBlocks image frame chain header (bs ++ b ∷ [])
  stand_more header [] b are is = (is, tt)
  stand_more header (c ∷ bs) b are is = (are.0, stand_more (next_block header c) bs b are.1 is)

  after_more : (header : Header) (bs : List LogBlock) (b : LogBlock) → after_blocks header (bs ++ b ∷ []) ≡ next_block (after_blocks header bs) b
  after_more header [] b = refl
  after_more header (c ∷ bs) b = after_more (next_block header c) bs b

  begun_more : (whole : List ℕ) (bs : List LogBlock) (left : List ℕ) (b : LogBlock) → IsBegun room whole bs left → room < length left → b.used ≡ take room left → IsBegun room whole (bs ++ b ∷ []) (drop room left)
  begun_more whole [] left b is long used =
      let same : length left ≡ length whole = ap (λ (l : List ℕ). length l) is in
      (omega (arith, same, long), used ∙ ap (λ (l : List ℕ). take room l) is, ap (λ (l : List ℕ). drop room l) is)
  begun_more whole (c ∷ bs) left b is long used = (is.0, is.1, begun_more (drop room whole) bs left b is.2 long used)

  begun_last : (whole : List ℕ) (bs : List LogBlock) (left : List ℕ) (b : LogBlock) → IsBegun room whole bs left → length left ≤ room → b.used ≡ left → AreParts room whole (bs ++ b ∷ [])
  begun_last whole [] left b is fits used = inr ((let same : length left ≡ length whole = ap (λ (l : List ℕ). length l) is in omega (arith, same, fits)), used ∙ is, refl)
  begun_last whole (c ∷ bs) left b is fits used = inl (is.0, is.1, begun_last (drop room whole) bs left b is.2 fits used)

  -- the first block of bytes that stand somewhere, and what stands behind it
  first_stands : (header : Header) (b : LogBlock) (left : List ℕ) → IsLogBlock image frame chain header b → Stand header left
      → (b.used ≡ take room left) × (room < length left → Stand (next_block header b) (drop room left))
  first_stands header b left is ([], are, parts) = absurd parts
  first_stands header b left is (y ∷ ys, are, inl (long, used, rest)) =
      let same : y ≡ b = one_block image frame chain header y b are.0 is in
      (ap (λ (x : LogBlock). x.used) (sym same) ∙ used, λ _. (ys, subst (λ (x : LogBlock). AreLogBlocks image frame chain (next_block header x) ys) same are.1, rest))
  first_stands header b left is (y ∷ ys, are, inr (short, used, none)) =
      let same : y ≡ b = one_block image frame chain header y b are.0 is in
      (ap (λ (x : LogBlock). x.used) (sym same) ∙ used ∙ sym (take_all room left short), λ long. absurd (omega (arith, long, short)))

  -- the first block was read
  pub read_first : (header : Header) (size : ℕ) (b : LogBlock) → IsLogBlock image frame chain header b → length b.used ≡ room → room < size → IsReadTo header size (next_block header b) b.used []
  read_first header size b is full long = record {
    blocks = b ∷ [];
    stand = (is, tt);
    end = refl;
    addresses = ap (λ (a : ℕ). a ∷ []) is.address_is;
    begun = λ whole many front below.
        (omega (arith, many, long), sym front ∙ ap (λ (n : ℕ). take n whole) full, ap (λ (n : ℕ). drop n whole) full);
    all = λ whole many front past. absurd (omega (arith, past, full, long));
    front = λ whole many st. ap (λ (n : ℕ). take n whole) full ∙ sym (first_stands header b whole is st).0;
    rest = λ whole many st below. subst (λ (n : ℕ). Stand (next_block header b) (drop n whole)) (sym full) ((first_stands header b whole is st).1 (omega (arith, many, long)));
  }

  -- and another one, as long as its part has to be
  module _ (header : Header) (size : ℕ) (next : Header) (bytes behind : List ℕ) (before : IsReadTo header size next bytes behind) (below : length bytes < size) where
    pub none_missing : ((b : LogBlock) → IsLogBlock image frame chain next b → ⊥) → (whole : List ℕ) → length whole ≡ size → Stand header whole → ⊥
    none_missing none whole many st = at_none (before.rest whole many st below)
      where
        at_none : Stand next (drop (length bytes) whole) → ⊥
        at_none ([], are, parts) = parts
        at_none (y ∷ ys, are, parts) = none y are.0

    module _ (b : LogBlock) (is : IsLogBlock image frame chain next b) where
      pub none_other : (length b.used ≡ min room (size - length bytes) → ⊥) → (whole : List ℕ) → length whole ≡ size → Stand header whole → ⊥
      none_other other whole many st =
          let used : b.used ≡ take room (drop (length bytes) whole) = (first_stands next b (drop (length bytes) whole) is (before.rest whole many st below)).0 in
          let left : length (drop (length bytes) whole) ≡ size - length bytes = length-drop (length bytes) whole ∙ omega (arith, many) in
          other (ap (λ (l : List ℕ). length l) used ∙ by_length (drop (length bytes) whole) left (cases_lt room (length (drop (length bytes) whole))))
        where
          by_length : (l : List ℕ) → length l ≡ size - length bytes → (room < length l) ⊎ (length l ≤ room) → length (take room l) ≡ min room (size - length bytes)
          by_length l left (inl more) = length-take-le room l (omega (arith, more)) ∙ omega (arith, more, left)
          by_length l left (inr less) = ap (λ (x : List ℕ). length x) (take_all room l less) ∙ omega (arith, less, left)

      module _ (long : length b.used ≡ min room (size - length bytes)) where
        abbrev more : List ℕ
        more = bytes ++ b.used

        more_long : length more ≡ length bytes + length b.used
        more_long = length-append bytes b.used

        -- what bytes begin with that begin with these
        earlier : (whole : List ℕ) → take (length more) whole ≡ more → take (length bytes) whole ≡ bytes
        earlier whole front =
            sym (take-take (length bytes) (length more) whole (omega (arith, more_long))) ∙ ap (λ (l : List ℕ). take (length bytes) l) front ∙ take-append_seam {A = ℕ} bytes b.used

        parted : (whole : List ℕ) → take (length more) whole ≡ take (length bytes) whole ++ take (length b.used) (drop (length bytes) whole)
        parted whole = ap (λ (n : ℕ). take n whole) more_long ∙ take-add (length bytes) (length b.used) whole

        later : (whole : List ℕ) → length whole ≡ size → take (length more) whole ≡ more → take (length b.used) (drop (length bytes) whole) ≡ b.used
        later whole many front =
            let cut : length (take (length bytes) whole) ≡ length bytes = length-take-le (length bytes) whole (omega (arith, many, below)) in
            sym (drop_at (take (length bytes) whole) (take (length b.used) (drop (length bytes) whole)) (length bytes) cut)
            ∙ ap (λ (l : List ℕ). drop (length bytes) l) (sym (parted whole) ∙ front)
            ∙ drop_at bytes b.used (length bytes) refl

        left_long : (whole : List ℕ) → length whole ≡ size → length (drop (length bytes) whole) ≡ size - length bytes
        left_long whole many = length-drop (length bytes) whole ∙ omega (arith, many)

        pub read_more : IsReadTo header size (next_block next b) more (behind ++ next.address ∷ [])
        read_more = record {
          blocks = before.blocks ++ b ∷ [];
          stand = stand_more header before.blocks b before.stand (subst (λ (h : Header). IsLogBlock image frame chain h b) (sym before.end) is);
          end = after_more header before.blocks b ∙ ap (λ (h : Header). next_block h b) before.end;
          addresses = map-append (λ (x : LogBlock). x.address) before.blocks (b ∷ []) ∙ (λ i. before.addresses i ++ is.address_is i ∷ []);
          begun = λ whole many front under.
              let left = left_long whole many in
              let full : length b.used ≡ room = omega (arith, long, under, more_long, below) in
              let used : b.used ≡ take room (drop (length bytes) whole) = sym (later whole many front) ∙ ap (λ (n : ℕ). take n (drop (length bytes) whole)) full in
              let rest : drop room (drop (length bytes) whole) ≡ drop (length more) whole = drop-drop room (length bytes) whole ∙ ap (λ (n : ℕ). drop n whole) (omega (arith, more_long, full)) in
              subst (λ (l : List ℕ). IsBegun room whole (before.blocks ++ b ∷ []) l) rest
              (begun_more whole before.blocks (drop (length bytes) whole) b (before.begun whole many (earlier whole front) below) (omega (arith, left, under, more_long, full)) used);
          all = λ whole many front past.
              let left = left_long whole many in
              let last : length b.used ≡ size - length bytes = omega (arith, long, past, more_long, below) in
              let used : b.used ≡ drop (length bytes) whole =
              sym (later whole many front) ∙ take_all (length b.used) (drop (length bytes) whole) (omega (arith, left, last)) in
              begun_last whole before.blocks (drop (length bytes) whole) b (before.begun whole many (earlier whole front) below) (omega (arith, left, last, long)) used;
          front = λ whole many st.
              let left = left_long whole many in
              let used : b.used ≡ take room (drop (length bytes) whole) = (first_stands next b (drop (length bytes) whole) is (before.rest whole many st below)).0 in
              parted whole ∙ (λ i. before.front whole many st i ++ as_used (drop (length bytes) whole) left used (cases_lt room (length (drop (length bytes) whole))) i);
          rest = λ whole many st under.
              let left = left_long whole many in
              let full : length b.used ≡ room = omega (arith, long, under, more_long, below) in
              let rest : drop room (drop (length bytes) whole) ≡ drop (length more) whole = drop-drop room (length bytes) whole ∙ ap (λ (n : ℕ). drop n whole) (omega (arith, more_long, full)) in
              subst (λ (l : List ℕ). Stand (next_block next b) l) rest
              ((first_stands next b (drop (length bytes) whole) is (before.rest whole many st below)).1 (omega (arith, left, under, more_long, full)));
        }
          where
            as_used : (l : List ℕ) → length l ≡ size - length bytes → b.used ≡ take room l → (room < length l) ⊎ (length l ≤ room) → take (length b.used) l ≡ b.used
            as_used l left used (inl big) = let full : length b.used ≡ room = omega (arith, long, left, big) in ap (λ (n : ℕ). take n l) full ∙ sym used
            as_used l left used (inr small) =
                let last : length b.used ≡ length l = omega (arith, long, left, small) in
                take_all (length b.used) l (omega (arith, last)) ∙ sym (used ∙ take_all room l small)

  -- all were read
  pub read_all : (header : Header) (size : ℕ) (next : Header) (bytes behind : List ℕ) (is : IsReadTo header size next bytes behind) → length bytes ≡ size → AreParts room bytes is.blocks
  read_all header size next bytes behind is many = is.all bytes many (take_all (length bytes) bytes (omega arith)) (omega (arith, many))

  pub read_only : (header : Header) (size : ℕ) (next : Header) (bytes behind : List ℕ) → IsReadTo header size next bytes behind → length bytes ≡ size
      → (whole : List ℕ) → length whole ≡ size → Stand header whole → whole ≡ bytes
  read_only header size next bytes behind is many whole long st = sym (take_all (length bytes) whole (omega (arith, many, long))) ∙ is.front whole long st

  pub same_read : (header : Header) (size : ℕ) (next after : Header) (bytes more behind further : List ℕ) → IsReadTo header size next bytes behind → next ≡ after → bytes ≡ more → behind ≡ further
      → IsReadTo header size after more further
  same_read header size next after bytes more behind further is headers longer addresses =
      subst (λ (h : Header). IsReadTo header size h more further) headers
      (subst (λ (l : List ℕ). IsReadTo header size next l further) longer (subst (λ (l : List ℕ). IsReadTo header size next bytes l) addresses is))

-- what was read to the end is all of a record
pub gathered : (image : List ℕ) (frame : Frame) (h : ChainHeader) (size : ℕ) (next : Header) (parts : Parts) → length parts.bytes.items ≡ size → next.address ≡ parts.next
    → IsReadTo 4008 image (frame_of_chain frame h) h.import_number (header_of_chain h) size next parts.bytes.items parts.behind.items → AreGathered image frame h size parts
gathered image frame h size next parts many at is = record {
  blocks = is.blocks;
  stand = is.stand;
  addresses = is.addresses;
  next_is = ap (λ (x : Header). x.address) is.end ∙ at;
  are = read_all 4008 image (frame_of_chain frame h) h.import_number (header_of_chain h) size next parts.bytes.items parts.behind.items is many;
  only = λ whole long st. read_only 4008 image (frame_of_chain frame h) h.import_number (header_of_chain h) size next parts.bytes.items parts.behind.items is many whole long st;
}
