-- How many records a chain may have: a number of 64 bits counts them.
use Rattle.std.proofs.Common.{◌≡◌, inl, inr, ℕ, suc, ◌*◌, ◌≤◌, Bool, true, false, List, [], ◌∷◌, length, map, ap, subst, arith, length-append}
use Rattle.std.specs.Prelude.{cond, filter, nat_lt}
use Rattle.std.specs.List.{flat_map}
use Rattle.std.proofs.lemmas.List.{length-map}
use Rattle.base.specs.kept.LogChains.{ArePieces}
use Rattle.base.specs.tree.Mount.{IsChainOf, Placed, frame_of, header_of, placed_records, records_above}
use Rattle.base.specs.formats.Blocks.{Frame}
use Rattle.base.specs.formats.Chain.{AreLogBlocks, Header, IsChain, IsPiece, IsWholePiece, LogBlock, LogPiece, addresses_of, next_header}
use Rattle.base.specs.formats.Geometry.{IsGeometry}
use Rattle.base.specs.formats.Records as formats
use Rattle.base.specs.formats.Records.{bytes_of_record, bytes_of_records}
use Rattle.base.specs.formats.Uberblocks.{Uberblock}
use Rattle.base.proofs.crash.LogChains.{chains_end}
use Rattle.base.proofs.formats.Geometry.{IsGeometry-IsSize}
use Rattle.base.proofs.formats.RecordSizes.{length-bytes_of_record}
use Rattle.log_replay.specs.AddedRecords.{counted_up_to_last}

-- each record has bytes
records_have_bytes : (rs : List formats.Record) → length rs ≤ length (bytes_of_records rs)
records_have_bytes [] = omega arith
records_have_bytes (r ∷ rs) =
    let rest = records_have_bytes rs in
    let long = length-append (bytes_of_record r) (bytes_of_records rs) in
    let one = length-bytes_of_record r in
    omega (arith, rest, long, one)

front_of_chain : (image : List ℕ) (frame : Frame) (chain : ℕ) (header : Header) (bs : List LogPiece) → IsChain image frame chain header bs → ArePieces image frame chain header bs
front_of_chain image frame chain header [] is = tt
front_of_chain image frame chain header (b ∷ bs) is = (is.0, front_of_chain image frame chain (next_header header b) bs is.1)

-- a piece has the records of one block, or one record
few_in_piece : (image : List ℕ) (frame : Frame) (chain : ℕ) (header : Header) (p : LogPiece) → IsPiece image frame chain header p → length p.records ≤ 4008
few_in_piece image frame chain header p is = by_form is.whole
  where
    by_form : IsWholePiece frame.version is.blocks p.records → length p.records ≤ 4008
    by_form (inl short) =
        let one : AreLogBlocks image frame chain header (short.block ∷ []) = subst (λ (bs : List LogBlock). AreLogBlocks image frame chain header bs) short.blocks_are is.stand in
        let fits = one.0.fields.fits in
        let bytes = records_have_bytes p.records in
        omega (arith, bytes, ap (λ (l : List ℕ). length l) short.spelled, fits)
    by_form (inr (new, long)) = omega (arith, ap (λ (l : List formats.Record). length l) long.records_are)

few_in_chain : (image : List ℕ) (frame : Frame) (chain : ℕ) (header : Header) (bs : List LogPiece) → IsChain image frame chain header bs → length (placed_records bs) ≤ 4008 * length (flat_map addresses_of bs)
few_in_chain image frame chain header [] is = omega arith
few_in_chain image frame chain header (b ∷ bs) is =
    let placed : List Placed = map (λ (r : formats.Record). record { address = b.address; logged = r }) b.records in
    let rest = few_in_chain image frame chain (next_header header b) bs is.1 in
    let both = length-append placed (placed_records bs) in
    let here = length-map {B = Placed} b.records (λ (r : formats.Record). record { address = b.address; logged = r }) in
    let few = few_in_piece image frame chain header b is.0 in
    let blocks = length-append (addresses_of b) (flat_map addresses_of bs) in
    omega (arith, rest, both, here, few, blocks)

fewer : {X : Type 0} (p : X → Bool) (xs : List X) → length (filter p xs) ≤ length xs
fewer p [] = omega arith
fewer p (x ∷ xs) = by_flag (p x) (fewer p xs)
  where
    by_flag : (b : Bool) → length (filter p xs) ≤ length xs → length (cond b (x ∷ filter p xs) (filter p xs)) ≤ suc (length xs)
    by_flag true rest = omega (arith, rest)
    by_flag false rest = omega (arith, rest)

-- so the count of those above a group is exact
pub counted-above : (image : List ℕ) (u : Uberblock) (group : ℕ) (bs : List LogPiece) → IsGeometry (length image) → IsChainOf image u bs → counted_up_to_last (length (records_above group bs)) ≡ length (records_above group bs)
counted-above image u group bs sized is =
    let frame : Frame = frame_of image u in
    let blocks = chains_end image frame u.import_number (header_of u) bs (front_of_chain image frame u.import_number (header_of u) bs is) in
    let few = few_in_chain image frame u.import_number (header_of u) bs is in
    let above = fewer (λ (p : Placed). nat_lt group p.logged.group) (placed_records bs) in
    let size = (IsGeometry-IsSize (length image) sized).greatest in
    omega (arith, blocks, few, above, size)
