-- A front of a chain, up to the place where its next piece has to be, has no more blocks than the area has.
use Rattle.std.proofs.Common.{◌≡◌, ℕ, suc, ◌+◌, ◌<◌, ◌≤◌, ◌||◌, Bool, true, false, List, [], ◌∷◌, ◌++◌, length, length-append, refl, sym, ap, subst, ◌∙◌, arith, eqb}
use Rattle.std.specs.List.{list_any, IsDistinct, AllByRecursion}
use Rattle.std.proofs.lemmas.Bool.{eqb-true, ne_eqb}
use Rattle.std.proofs.lemmas.List.{length-map}
use Rattle.std.proofs.lemmas.Map.Steps.{length-le_from_distinct_below}
use Rattle.base.specs.formats.Fields.{number_at, part}
use Rattle.base.specs.formats.Geometry.{block_address, block_size}
use Rattle.base.specs.formats.Blocks.{Frame}
use Rattle.base.specs.formats.Chain.{Header, LogBlock, LogPiece, IsPiece, IsLogBlock, IsChain, AreLogBlocks, addresses_of, after_blocks, next_block, next_header}
use Rattle.base.proofs.formats.Pieces.{after-number}

module _ (image : List ℕ) (frame : Frame) (chain : ℕ) where
  -- these pieces follow one another from a header up to another
  abbrev pub IsFront : Header → List LogPiece → Header → Type 0
  IsFront header [] end = header ≡ end
  IsFront header (b ∷ bs) end = IsPiece image frame chain header b × IsFront (next_header header b) bs end

  pub front_more : (header : Header) (bs : List LogPiece) (end : Header) (b : LogPiece) → IsFront header bs end → IsPiece image frame chain end b
      → IsFront header (bs ++ b ∷ []) (next_header end b)
  front_more header [] end b e block = (subst (λ (h : Header). IsPiece image frame chain h b) (sym e) block, ap (λ (h : Header). next_header h b) e)
  front_more header (c ∷ bs) end b (first, rest) block = (first, front_more (next_header header c) bs end b rest block)

  -- if none follows, they are the chain
  pub front_is_chain : (header : Header) (bs : List LogPiece) (end : Header) → IsFront header bs end → ((b : LogPiece) → IsPiece image frame chain end b → ⊥)
      → IsChain image frame chain header bs
  front_is_chain header [] end e none = λ b block. none b (subst (λ (h : Header). IsPiece image frame chain h b) e block)
  front_is_chain header (b ∷ bs) end (first, rest) none = (first, front_is_chain (next_header header b) bs end rest none)

  -- the number that the block of an index has
  abbrev stamp : ℕ → ℕ
  stamp k = number_at (part image (block_address k) block_size) 24

  -- the indices of blocks that follow one another
  indices : (header : Header) (bs : List LogBlock) → AreLogBlocks image frame chain header bs → List ℕ
  indices header [] are = []
  indices header (b ∷ bs) (first, rest) = first.in_area.0 ∷ indices (next_block header b) bs rest

  length-indices : (header : Header) (bs : List LogBlock) (are : AreLogBlocks image frame chain header bs) → length (indices header bs are) ≡ length bs
  unfolding indices
  length-indices header [] are = refl
  length-indices header (b ∷ bs) (first, rest) = ap suc (length-indices (next_block header b) bs rest)

  stamp-is : (header : Header) (b : LogBlock) (first : IsLogBlock image frame chain header b) → stamp first.in_area.0 ≡ header.number
  stamp-is header b first = subst (λ (a : ℕ). number_at (part image a block_size) 24 ≡ header.number) first.in_area.2 first.sealed.number_is

  -- each is in the area, and has a number from the header's on
  record IsOf (header : Header) (k : ℕ) : Type 0 where
    pub within : k < frame.blocks
    pub from : header.number ≤ stamp k

  either : {P : Type 0} (x y : Bool) → (x || y) ≡ true → (x ≡ true → P) → (y ≡ true → P) → P
  either true y h left right = left refl
  either false y h left right = right h

  each_is_of : (header : Header) (bs : List LogBlock) (are : AreLogBlocks image frame chain header bs) (k : ℕ) → list_any (eqb k) (indices header bs are) ≡ true → IsOf header k
  unfolding indices
  each_is_of header [] are k h = absurd (let no : false ≡ true = h in cc)
  each_is_of header (b ∷ bs) (first, rest) k h =
      either (eqb k first.in_area.0) (list_any (eqb k) (indices (next_block header b) bs rest)) h
      (λ same. let e : k ≡ first.in_area.0 = eqb-true k first.in_area.0 same in
      subst (λ (n : ℕ). IsOf header n) (sym e) (record { within = first.in_area.1; from = omega (arith, stamp-is header b first) }))
      (λ behind. let r = each_is_of (next_block header b) bs rest k behind in record { within = r.within; from = omega (arith, r.from) })

  -- the block of a lower number is none of them
  apart : (k : ℕ) (header : Header) (bs : List LogBlock) (are : AreLogBlocks image frame chain header bs) → stamp k < header.number
      → AllByRecursion (λ y. eqb k y ≡ false) (indices header bs are)
  unfolding indices
  apart k header [] are lower = tt
  apart k header (b ∷ bs) (first, rest) lower = (
    ne_eqb k first.in_area.0 (λ same. let at : stamp k ≡ header.number = ap stamp same ∙ stamp-is header b first in omega (arith, at, lower)),
    apart k (next_block header b) bs rest (omega (arith, lower)),
  )

  are_distinct : (header : Header) (bs : List LogBlock) (are : AreLogBlocks image frame chain header bs) → IsDistinct eqb (indices header bs are)
  unfolding IsDistinct indices
  are_distinct header [] are = tt
  are_distinct header (b ∷ bs) (first, rest) = (apart first.in_area.0 (next_block header b) bs rest (omega (arith, stamp-is header b first)), are_distinct (next_block header b) bs rest)

  -- so no more blocks follow one another than the area has
  blocks-short : (header : Header) (bs : List LogBlock) (are : AreLogBlocks image frame chain header bs) → length bs ≤ frame.blocks
  blocks-short header bs are = rw (← length-indices header bs are)
      (length-le_from_distinct_below (indices header bs are) frame.blocks (are_distinct header bs are) (λ k h. (each_is_of header bs are k h).within))

  -- blocks that follow those of another list
  and_more : (header : Header) (bs cs : List LogBlock) → AreLogBlocks image frame chain header bs → AreLogBlocks image frame chain (after_blocks header bs) cs
      → AreLogBlocks image frame chain header (bs ++ cs)
  and_more header [] cs are more = more
  and_more header (b ∷ bs) cs (first, rest) more = (first, and_more (next_block header b) bs cs rest more)

  -- the blocks of a front: each adds one to the number
  record HasBlocks (header end : Header) : Type 0 where
    pub blocks : List LogBlock
    pub follow : AreLogBlocks image frame chain header blocks
    pub counted : end.number ≡ header.number + length blocks

  blocks_of_front : (header : Header) (bs : List LogPiece) (end : Header) → IsFront header bs end → HasBlocks header end
  blocks_of_front header [] end e = record { blocks = []; follow = tt; counted = let same : header.number ≡ end.number = ap (λ (h : Header). h.number) e in omega (arith, same) }
  blocks_of_front header (b ∷ bs) end (piece, rest) =
      let later = blocks_of_front (next_header header b) bs end rest in
      let first = piece.blocks in
      let many : length first ≡ length (addresses_of b) = sym (length-map first (λ (x : LogBlock). x.address)) ∙ ap (λ (l : List ℕ). length l) piece.addresses in
      let number = after-number header first in
      let next : after_blocks header first ≡ next_header header b = λ i. record { address = piece.next_is i; number = (number ∙ ap (λ (n : ℕ). header.number + n) many) i } in
      let counted = later.counted in
      record {
        blocks = first ++ later.blocks;
        follow = and_more header first later.blocks piece.stand (subst (λ (h : Header). AreLogBlocks image frame chain h later.blocks) (sym next) later.follow);
        counted = omega (arith, counted, many, length-append first later.blocks);
      }

  -- so a front's numbers are no more than the area has blocks
  pub front-short : (header : Header) (bs : List LogPiece) (end : Header) → IsFront header bs end → end.number ≤ header.number + frame.blocks
  front-short header bs end f = let has = blocks_of_front header bs end f in let counted = has.counted in omega (arith, counted, blocks-short header has.blocks has.follow)

  -- one piece more
  pub front_push : (header : Header) (bs new : List LogPiece) (end after : Header) (b : LogPiece) → IsFront header bs end → IsPiece image frame chain end b → new ≡ bs ++ b ∷ []
      → after.address ≡ b.next → after.number ≡ end.number + length (addresses_of b) → IsFront header new after
  front_push header bs new end after b f block whole at number =
      let next : next_header end b ≡ after = λ i. record { address = sym at i; number = sym number i } in
      subst (λ (h : Header). IsFront header new h) next (subst (λ (l : List LogPiece). IsFront header l (next_header end b)) (sym whole) (front_more header bs end b f block))

  -- after as many numbers as the area has blocks comes none
  pub front_full : (header : Header) (bs : List LogPiece) (end : Header) → IsFront header bs end → header.number + frame.blocks ≤ end.number → (b : LogPiece) → IsPiece image frame chain end b → ⊥
  front_full header bs end f full b block =
      let short = front-short header (bs ++ b ∷ []) (next_header end b) (front_more header bs end b f block) in
      omega (arith, short, full)
