-- Which pieces stand at a header, by the first block there: what its bytes say of the length of a record.
use Rattle.std.proofs.Common.{◌≡◌, inl, inr, ℕ, ◌<◌, ◌≤◌, List, [], ◌∷◌, ◌++◌, length, length-append, take, take-take, refl, sym, ◌∙◌, ap, subst, arith}
use Rattle.std.specs.Prelude.{All, Result, Ok, Err, Option, Some, None, IfOk, IfSome, IfNone}
use Rattle.std.specs.Int.{from_le_bytes, w32}
use Rattle.std.proofs.lemmas.List.{append-nil, length-take-le}
use Rattle.std.proofs.lemmas.List.Elements.{All-head}
use Rattle.base.specs.formats.Blocks.{Frame}
use Rattle.base.specs.formats.Chain.{LogBlock, LogPiece, AreParts, AreLogBlocks, IsWholePiece}
use Rattle.base.specs.formats.Limits.{log_block_room}
use Rattle.base.specs.formats.Records.{Record, IsAllowed, size_of, bytes_of_record, bytes_of_records}
use Rattle.base.specs.declared.version.Version.{Version}
use Rattle.base.specs.declared.version.Version.TheVariants.{Two}
use Rattle.base.specs.formats.Versions.{number_of_version}
use Rattle.base.proofs.formats.Pieces.{length_said, length_said_alone, one_block}
use Rattle.base.proofs.formats.RecordSizes.{length-bytes_of_record}
use Rattle.intent_log.specs.Chains.{AreGathered, BeginsNone, HasNoBlock, HasNoLong, HasNoPieceAt, HasNoneOfVersion, IsBlockAt, IsLongAt, IsNoRecord, IsPieceAt, IsRecordOf, IsShortOf, MayBegin, NoneStand, frame_of_chain, header_of_chain}
use Rattle.intent_log.specs.declared.chains.ChainHeader.{ChainHeader}
use Rattle.intent_log.specs.declared.parts.Parts.{Parts}

module _ (room : ℕ) (least : 4 ≤ room) where
  -- also if a block has only the first part of it
  part_said : (used : List ℕ) (r : Record) → IsAllowed r → used ≡ take room (bytes_of_record r) → from_le_bytes w32 (take 4 used) ≡ size_of r
  part_said used r allowed is =
      ap (λ (l : List ℕ). from_le_bytes w32 (take 4 l)) is ∙ ap (λ (l : List ℕ). from_le_bytes w32 l) (take-take 4 room (bytes_of_record r) least) ∙ length_said_alone r allowed

  part_long : (used : List ℕ) (r : Record) → room < size_of r → used ≡ take room (bytes_of_record r) → length used ≡ room
  part_long used r long is = ap (λ (l : List ℕ). length l) is ∙ length-take-le room (bytes_of_record r) (omega (arith, long, length-bytes_of_record r))

four : 4 ≤ log_block_room
four = omega arith

-- no long record begins with bytes that are too few
pub none_of_length : (used : List ℕ) → (length used ≡ 4008 → ⊥) → BeginsNone used
none_of_length used other r allowed long is = other (part_long log_block_room four used r long is)

-- a record is all of the bytes
pub no_record : (bytes : List ℕ) (r : Record) (rest : List ℕ) → ((s : Record) (more : List ℕ) → bytes ≡ bytes_of_record s ++ more → IsAllowed s → more ≡ rest) → 0 < length rest → IsNoRecord bytes
no_record bytes r rest same some s is =
    let none : [] ≡ rest = same s [] (is.spelled ∙ sym (append-nil (bytes_of_record s))) is.allowed in
    let zero : 0 ≡ length rest = ap (λ (l : List ℕ). length l) none in
    omega (arith, zero, some)

module _ (image : List ℕ) (frame : Frame) (h : ChainHeader) where
  -- a header names one block
  same_block : (b c : LogBlock) → IsBlockAt image frame h b → IsBlockAt image frame h c → b ≡ c
  same_block b c x y = one_block image (frame_of_chain frame h) h.import_number (header_of_chain h) b c x y

  -- a piece of one block
  pub short_piece : (b : LogBlock) (p : LogPiece) → IsBlockAt image frame h b → IsShortOf h.version b p → IsPieceAt image frame h p
  short_piece b p at is = record {
    blocks = b ∷ [];
    stand = (at, tt);
    addresses = λ i. sym is.address_is i ∷ sym is.none_behind i;
    next_is = sym is.next_is;
    whole = inl (record { block = b; blocks_are = refl; some = is.are.some; allowed = is.are.allowed; spelled = is.are.spelled; one_level = is.of_version });
  }

  -- and one of a long record
  pub long_piece : (p : LogPiece) → h.version ≡ Two → IsLongAt image frame h p → IsPieceAt image frame h p
  long_piece p two is = record {
    blocks = is.blocks;
    stand = is.stand;
    addresses = is.addresses;
    next_is = is.next_is;
    whole = inr (subst (λ (v : Version). 1 < number_of_version v) (sym two) (omega arith), is.long);
  }

  -- where no block stands there is none
  pub none_without_block : HasNoBlock image frame h → HasNoPieceAt image frame h
  none_without_block none p is = by_blocks is.blocks is.stand is.whole
    where
      nothing : IsWholePiece (frame_of_chain frame h).version [] p.records → ⊥
      nothing (inl x) = let e : 0 ≡ length (x.block ∷ []) = ap (λ (xs : List LogBlock). length xs) x.blocks_are in omega (arith, e)
      nothing (inr (new, x)) = x.parts

      by_blocks : (bs : List LogBlock) → AreLogBlocks image (frame_of_chain frame h) h.import_number (header_of_chain h) bs → IsWholePiece (frame_of_chain frame h).version bs p.records → ⊥
      by_blocks [] stand whole = nothing whole
      by_blocks (b ∷ bs) stand whole = none b stand.0

  module _ (b : LogBlock) (at : IsBlockAt image frame h b) where
    -- the block of a short piece
    of_short : (p : LogPiece) (bs : List LogBlock) → AreLogBlocks image (frame_of_chain frame h) h.import_number (header_of_chain h) bs → (c : LogBlock) → bs ≡ c ∷ [] → c ≡ b
    of_short p bs stand c is = same_block c b (subst (λ (xs : List LogBlock). AreLogBlocks image (frame_of_chain frame h) h.import_number (header_of_chain h) xs) is stand).0 at

    -- the first block of a long one has the front of its record
    of_long : (bs : List LogBlock) (r : Record) → log_block_room < size_of r → AreLogBlocks image (frame_of_chain frame h) h.import_number (header_of_chain h) bs
        → AreParts log_block_room (bytes_of_record r) bs → b.used ≡ take log_block_room (bytes_of_record r)
    of_long [] r long stand parts = absurd parts
    of_long (c ∷ bs) r long stand (inl (more, used, rest)) = ap (λ (x : LogBlock). x.used) (same_block b c at stand.0) ∙ used
    of_long (c ∷ bs) r long stand (inr (small, used, none)) = absurd (omega (arith, small, long, length-bytes_of_record r))

    -- without records, and where no long record begins, there is no piece
    pub none_short : HasNoneOfVersion h.version b.used → (1 < number_of_version h.version → BeginsNone b.used) → HasNoPieceAt image frame h
    none_short none long p is = by_piece is.whole
      where
        by_piece : IsWholePiece (frame_of_chain frame h).version is.blocks p.records → ⊥
        by_piece (inl short) =
            let same : short.block ≡ b = of_short p is.blocks is.stand short.block short.blocks_are in
            none p.records (record { some = short.some; allowed = short.allowed; spelled = ap (λ (x : LogBlock). x.used) (sym same) ∙ short.spelled }) short.one_level
        by_piece (inr (new, is_long)) = long new is_long.logged is_long.allowed is_long.long (of_long is.blocks is_long.logged is_long.long is.stand is_long.parts)

    -- where one may begin there is none of whole records
    whole_none : (size : ℕ) → MayBegin b.used size → (records : List Record) → 0 < length records → All IsAllowed records → b.used ≡ bytes_of_records records → ⊥
    whole_none size begins [] some allowed spelled = omega (arith, some)
    whole_none size begins (r ∷ rs) some allowed spelled =
        let same : size_of r ≡ size =
        sym (length_said r (bytes_of_records rs) (All-head IsAllowed r rs allowed)) ∙ sym (ap (λ (l : List ℕ). from_le_bytes w32 (take 4 l)) spelled) ∙ begins.said in
        let full = begins.full in
        let long = begins.long in
        let whole : length b.used ≡ length (bytes_of_record r ++ bytes_of_records rs) = ap (λ (l : List ℕ). length l) spelled in
        omega (arith, same, full, long, whole, length-append (bytes_of_record r) (bytes_of_records rs), length-bytes_of_record r)

    pub none_long : (size : ℕ) → MayBegin b.used size → HasNoLong image frame h size → HasNoPieceAt image frame h
    none_long size begins none p is = by_piece is.whole
      where
        by_piece : IsWholePiece (frame_of_chain frame h).version is.blocks p.records → ⊥
        by_piece (inl short) =
            let same : short.block ≡ b = of_short p is.blocks is.stand short.block short.blocks_are in
            whole_none size begins p.records short.some short.allowed (ap (λ (x : LogBlock). x.used) (sym same) ∙ short.spelled)
        by_piece (inr (new, long)) =
            let size_is : size_of long.logged ≡ size =
            sym (part_said log_block_room four b.used long.logged long.allowed (of_long is.blocks long.logged long.long is.stand long.parts)) ∙ begins.said in
            none long.logged long.allowed size_is (is.blocks, is.stand, long.parts)

  -- what was gathered is a long piece, if it is a record
  pub gathered_long : (size : ℕ) (parts : Parts) (p : LogPiece) (r : Record) → log_block_room < size → length parts.bytes.items ≡ size → AreGathered image frame h size parts → IsRecordOf parts.bytes.items r
      → p.address ≡ h.address → p.behind ≡ parts.behind.items → p.next ≡ parts.next → p.records ≡ r ∷ [] → IsLongAt image frame h p
  gathered_long size parts p r long many are is address behind next records = record {
    blocks = are.blocks;
    stand = are.stand;
    addresses = are.addresses ∙ (λ i. sym address i ∷ sym behind i);
    next_is = are.next_is ∙ sym next;
    long = record {
      logged = r;
      records_are = records;
      allowed = is.allowed;
      long = (let size_is : length parts.bytes.items ≡ size_of r = ap (λ (l : List ℕ). length l) is.spelled ∙ length-bytes_of_record r in omega (arith, size_is, many, long));
      parts = subst (λ (l : List ℕ). AreParts log_block_room l are.blocks) is.spelled are.are;
    };
  }

  -- and else there is none
  pub gathered_none : (size : ℕ) (parts : Parts) → AreGathered image frame h size parts → IsNoRecord parts.bytes.items → HasNoLong image frame h size
  gathered_none size parts are none r allowed size_is st =
      none r (record { allowed = allowed; spelled = sym (are.only (bytes_of_record r) (length-bytes_of_record r ∙ size_is) st) })

  pub missing_none : (size : ℕ) → NoneStand image frame h size → HasNoLong image frame h size
  missing_none size none r allowed size_is st = none (bytes_of_record r) (length-bytes_of_record r ∙ size_is) st

-- what follows of a value that was found, and of one that was not
pub some_weaker : {A E : Type 0} (P Q : A → Type 0) (found : Result (Option A) E) → IfOk found (λ o. IfSome o P) → ((a : A) → P a → Q a) → IfOk found (λ o. IfSome o Q)
some_weaker P Q (Ok (Some a)) p f = f a p
some_weaker P Q (Ok None) p f = tt
some_weaker P Q (Err e) p f = tt

pub none_weaker : {A E : Type 0} (P Q : Type 0) (found : Result (Option A) E) → IfOk found (λ o. IfNone o P) → (P → Q) → IfOk found (λ o. IfNone o Q)
none_weaker P Q (Ok (Some a)) p f = tt
none_weaker P Q (Ok None) p f = f p
none_weaker P Q (Err e) p f = tt
