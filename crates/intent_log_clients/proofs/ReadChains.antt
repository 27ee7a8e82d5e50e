-- A block of one record begins a chain, if the version has the record; one at address 0 or of another run begins none.
use Rattle.std.proofs.Common.{◌≡◌, ℕ, ◌<◌, ◌≤◌, List, [], ◌∷◌, ◌++◌, inl, inr, drop, length, length-drop, sym, ap, refl, subst, ◌∙◌, arith}
use Rattle.std.specs.Prelude.{◌-◌, All, replicate}
use Rattle.std.proofs.lemmas.List.{append-nil}
use Rattle.std.proofs.lemmas.List.Sums.{sum_by-cons}
use Rattle.base.specs.formats.Blocks.{Frame}
use Rattle.base.specs.formats.Chain.{AreParts, IsWholePiece, LogBlock, LogPiece, addresses_of, block_addresses}
use Rattle.base.specs.formats.Fields.{number_at}
use Rattle.base.specs.formats.Records.{IsAllowed, IsOneLevelRecord, Record, bytes_of_record, size_of}
use Rattle.base.specs.declared.version.Version.{Version}
use Rattle.base.specs.declared.version.Version.TheVariants.{One}
use Rattle.base.specs.formats.Versions.{number_of_version}
use Rattle.base.proofs.formats.RecordSpelling.{one-spelling}
use Rattle.base.specs.steps.Logs.{total_size}
use Rattle.base.proofs.formats.Pieces.{piece_block, piece_long}
use Rattle.base.proofs.formats.RecordSizes.{length-bytes_of_record}
use Rattle.intent_log.proofs.LongRecords.{none_short, short_piece}
use Rattle.std.proofs.lemmas.List.Elements.{All-cons, All-head, All-nil}
use Rattle.intent_log.specs.Chains.{HasNoneOfVersion, HasOneRecord, IsBlockAt, IsChainFrom, IsPieceAt, frame_of_chain, header_of_chain}
use Rattle.intent_log.specs.declared.chains.ChainHeader.{ChainHeader}

-- no block lies at address 0
pub none_at_0 : (image : List ℕ) (frame : Frame) (h : ChainHeader) (ps : List LogPiece) → h.address ≡ 0 → IsChainFrom image frame h ps → ps ≡ []
none_at_0 image frame h [] at chain = refl
none_at_0 image frame h (p ∷ ps) at (piece, rest) =
    let place = (piece_block image (frame_of_chain frame h) h.import_number (header_of_chain h) p piece).1.in_area.2 in
    absurd (omega (arith, at, place))

-- a piece that stands where the chain begins is of the chain
pub some_piece : (image : List ℕ) (frame : Frame) (h : ChainHeader) (p : LogPiece) (ps : List LogPiece) → IsPieceAt image frame h p → IsChainFrom image frame h ps → 0 < length ps
some_piece image frame h p [] piece chain = absurd (chain p piece)
some_piece image frame h p (q ∷ ps) piece chain = omega arith

-- a block of one record stands, and is a piece if the version has the record
one_block : (image : List ℕ) (frame : Frame) (h : ChainHeader) (r : Record) (has : HasOneRecord image frame h.import_number h.address h.number r)
    → IsBlockAt image frame h (record { address = h.address; next = number_at has.payload 8; used = bytes_of_record r })
one_block image frame h r has =
    let long = length-bytes_of_record r in
    let short = has.short in
    record {
      address_is = refl;
      in_area = has.in_area;
      group = has.group;
      payload = has.payload;
      sealed = has.sealed;
      fields = record {
        chain_is = has.chain_is;
        next_is = refl;
        used_is = has.used_is ∙ sym long;
        fits = omega (arith, long, short);
        rest = has.rest ∙ ap (λ (n : ℕ). bytes_of_record r ++ replicate (4008 - n) 0) (sym long);
      };
    }

pub one_record : (image : List ℕ) (frame : Frame) (h : ChainHeader) (r : Record) → HasOneRecord image frame h.import_number h.address h.number r → (number_of_version h.version ≤ 1 → IsOneLevelRecord r)
    → (p : LogPiece) × IsPieceAt image frame h p
one_record image frame h r has of_version =
    let p : LogPiece = record { address = h.address; behind = []; next = number_at has.payload 8; records = r ∷ [] } in (
      p,
      short_piece image frame h (record { address = h.address; next = number_at has.payload 8; used = bytes_of_record r }) p (one_block image frame h r has) (record {
        address_is = refl;
        none_behind = refl;
        next_is = refl;
        are = record { some = omega arith; allowed = All-cons IsAllowed r [] has.allowed (All-nil IsAllowed); spelled = sym (append-nil (bytes_of_record r)) };
        of_version = λ old. All-cons IsOneLevelRecord r [] (of_version old) (All-nil IsOneLevelRecord);
      }),
    )

-- and if version 1 has it not, it begins no chain of that version
pub none_past_one_level : (image : List ℕ) (frame : Frame) (h : ChainHeader) (r : Record) → h.version ≡ One → HasOneRecord image frame h.import_number h.address h.number r → (IsOneLevelRecord r → ⊥)
    → (ps : List LogPiece) → IsChainFrom image frame h ps → ps ≡ []
none_past_one_level image frame h r one has past [] chain = refl
none_past_one_level image frame h r one has past (p ∷ ps) (piece, rest) =
    absurd (none_short image frame h (record { address = h.address; next = number_at has.payload 8; used = bytes_of_record r }) (one_block image frame h r has) none
    (λ new. absurd (let later : 1 < 1 = subst (λ (v : Version). 1 < number_of_version v) one new in omega (arith, later))) p piece)
  where
    none : HasNoneOfVersion h.version (bytes_of_record r)
    none records are of_version =
        let same : r ∷ [] ≡ records = one-spelling (r ∷ []) records (All-cons IsAllowed r [] has.allowed (All-nil IsAllowed)) are.allowed (append-nil (bytes_of_record r) ∙ are.spelled) in
        past (All-head IsOneLevelRecord r [] (subst (λ (rs : List Record). All IsOneLevelRecord rs) (sym same) (of_version (subst (λ (v : Version). number_of_version v ≤ 1) (sym one) (omega arith)))))

-- nor does a block of another run begin a chain
pub none_of_run : (image : List ℕ) (frame : Frame) (h : ChainHeader) (r : Record) → h.import_number ≡ 3 → HasOneRecord image frame 2 h.address h.number r
    → (ps : List LogPiece) → IsChainFrom image frame h ps → ps ≡ []
none_of_run image frame h r three has [] chain = refl
none_of_run image frame h r three has (p ∷ ps) (piece, rest) =
    let stands = (piece_block image (frame_of_chain frame h) h.import_number (header_of_chain h) p piece).1 in
    let same : number_at stands.payload 0 ≡ number_at has.payload 0 = ap (λ (l : List ℕ). number_at l 0) (sym stands.sealed.payload_is ∙ has.sealed.payload_is) in
    absurd (omega (arith, same, stands.fields.chain_is, has.chain_is, three))

-- a piece of version 1 has one block
pub one_block_alone : (image : List ℕ) (frame : Frame) (h : ChainHeader) → h.version ≡ One → (ps : List LogPiece) → IsChainFrom image frame h ps
    → (p : LogPiece) (rest : List LogPiece) → ps ≡ p ∷ rest → p.behind ≡ []
one_block_alone image frame h one ps chain p rest is = by_form (subst (λ (l : List LogPiece). IsChainFrom image frame h l) is chain).0
  where
    by_form : IsPieceAt image frame h p → p.behind ≡ []
    by_form piece = by_whole piece.blocks piece.addresses piece.whole
      where
        by_whole : (bs : List LogBlock) → block_addresses bs ≡ addresses_of p → IsWholePiece (number_of_version h.version) bs p.records → p.behind ≡ []
        by_whole bs addresses (inl short) =
            let single : short.block.address ∷ [] ≡ p.address ∷ p.behind = ap block_addresses (sym short.blocks_are) ∙ addresses in
            ap (λ (l : List ℕ). drop 1 l) (sym single)
        by_whole bs addresses (inr (new, long)) = absurd (let later : 1 < 1 = subst (λ (v : Version). 1 < number_of_version v) one new in omega (arith, later))

-- and a record in three blocks fills two of them
pub fills_two : (image : List ℕ) (frame : Frame) (h : ChainHeader) (ps : List LogPiece) → IsChainFrom image frame h ps
    → (p : LogPiece) (rest : List LogPiece) → ps ≡ p ∷ rest → length p.behind ≡ 2 → 8016 < total_size p.records
fills_two image frame h ps chain p rest is three = by_form (subst (λ (l : List LogPiece). IsChainFrom image frame h l) is chain).0
  where
    by_parts : (bytes : List ℕ) (bs : List LogBlock) → length bs ≡ 3 → AreParts 4008 bytes bs → 8016 < length bytes
    by_parts bytes [] many none = absurd none
    by_parts bytes (b ∷ bs) many (inr (fits, used, none)) = absurd (omega (arith, many, ap (λ (l : List LogBlock). length l) none))
    by_parts bytes (b ∷ c ∷ bs) many (inl (more, used, inr (fits, last, none))) = absurd (omega (arith, many, ap (λ (l : List LogBlock). length l) none))
    by_parts bytes (b ∷ c ∷ bs) many (inl (more, used, inl (longer, second, third))) = omega (arith, longer, length-drop 4008 bytes)
    by_parts bytes (b ∷ []) many (inl (more, used, none)) = absurd none

    by_form : IsPieceAt image frame h p → 8016 < total_size p.records
    by_form piece = by_whole piece.blocks piece.addresses piece.whole
      where
        by_whole : (bs : List LogBlock) → block_addresses bs ≡ addresses_of p → IsWholePiece (number_of_version h.version) bs p.records → 8016 < total_size p.records
        by_whole bs addresses (inl short) =
            let many = piece_long bs p addresses in absurd (omega (arith, many, three, ap (λ (l : List LogBlock). length l) short.blocks_are))
        by_whole bs addresses (inr (new, long)) =
            let many = piece_long bs p addresses in
            let bytes = by_parts (bytes_of_record long.logged) bs (omega (arith, many, three)) long.parts in
            omega (arith, bytes, length-bytes_of_record long.logged, ap total_size long.records_are, sum_by-cons size_of long.logged [])
