-- How many records a packed block holds, what it says of itself, and how many used bytes the next block has.
use Rattle.std.proofs.Common.{◌≡◌, ℕ, zero, suc, ◌+◌, ◌<◌, ◌≤◌, List, [], ◌∷◌, inl, inr, length, length-drop, take, drop, sym, ap, refl, subst, ◌∙◌, arith}
use Rattle.std.specs.Prelude.{IfSome, Option, None, Some, slice_get}
use Rattle.std.specs.Int.{from_le_bytes, w64}
use Rattle.std.proofs.lemmas.List.{append-nil, drop-drop, take_all}
use Rattle.std.proofs.lemmas.List.Sums.{sum_by-append, sum_by-cons}
use Rattle.base.specs.formats.Blocks.{Frame, IsBlock}
use Rattle.base.specs.formats.Fields.{number_at, part}
use Rattle.base.specs.formats.Geometry.{IsBlockAddress}
use Rattle.base.specs.formats.Limits.{log_block_room}
use Rattle.base.specs.formats.Records.{Record, bytes_of_record, size_of}
use Rattle.base.specs.steps.Logs.{Begun, IsPacked, IsTaken, Taken, total_size}
use Rattle.base.proofs.formats.RecordSizes.{length-bytes_of_record}
use Rattle.intent_log.specs.Fillings.{IsNextBlock, taken_of}
use Rattle.intent_log.specs.declared.filling.NextLogBlock.{NextLogBlock}
use Rattle.intent_log.proofs.PackedRecords.{length-bytes_of_records}
use Rattle.intent_log.specs.Chains.{IsBlockAt}
use Rattle.intent_log.specs.Kept.{RunLog}
use Rattle.intent_log.specs.Packing.{HoldsUsed, IsBegunFirst, IsCount, IsPackedAs, IsPackedFront, block_of, logged, used_of}
use Rattle.intent_log.specs.declared.packing.Packed.{Packed}
use Rattle.intent_log.specs.declared.packing.Packed.TheVariants.{Whole, First}
use Rattle.intent_log.specs.declared.packing.NewBlock.{NewBlock}

-- a packed block that stands at its place is the log block there
pub stands_packed : (place : NewBlock) (block : List ℕ) (used : List ℕ) → HoldsUsed place block used → (image : List ℕ) (frame : Frame) → frame.guid ≡ place.guid
    → IsBlockAddress frame.blocks place.header.address → part image place.header.address 4096 ≡ block → IsBlockAt image frame place.header (logged place used)
stands_packed place block used holds image frame same in_area at = record {
  address_is = refl;
  in_area = in_area;
  group = place.group.0;
  payload = holds.payload;
  sealed = subst (λ (l : List ℕ). IsBlock l 6 frame.guid place.group.0 place.header.number holds.payload) (sym at)
      (subst (λ (guid : ℕ). IsBlock block 6 guid place.group.0 place.header.number holds.payload) (sym same) holds.sealed);
  fields = holds.fields;
}

-- what was packed is held by its block
pub packed_holds : (place : NewBlock) (records : List Record) (p : Packed) → IsPackedAs place records p → HoldsUsed place (block_of p) (used_of records p)
packed_holds place records (Whole p) (front, holds) = holds
packed_holds place records (First f) (r, is, part) = subst (λ (l : List ℕ). HoldsUsed place f.block (take log_block_room l)) (sym part.begun.bytes_are) part.holds

-- the number at a place of a block's payload
pub number_behind : (bytes payload : List ℕ) (at : ℕ) → drop 64 bytes ≡ payload → number_at bytes (64 + at) ≡ number_at payload at
unfolding number_at
number_behind bytes payload at is = ap (λ (l : List ℕ). from_le_bytes w64 (take 8 l)) (sym (drop-drop at 64 bytes) ∙ ap (λ (l : List ℕ). drop at l) is)

-- records that have no more bytes than there is room have no long one
first_size : (rs more : List Record) (r : Record) → rs ≡ r ∷ more → size_of r ≤ total_size rs
first_size rs more r is = omega (arith, ap (λ (l : List Record). total_size l) is, sum_by-cons size_of r more)

pub count_is : (place : NewBlock) (rs : List Record) (n : ℕ) (p : Packed) → ((r : Record) (more : List Record) → rs ≡ r ∷ more → size_of r ≤ 4008) → ((count : ℕ) → IsPackedFront rs count → count ≡ n)
    → IsPackedAs place rs p → IsCount n p
count_is place rs n (Whole p) short front (is, holds) = front p.count is
count_is place rs n (First f) short front (r, is, part) = let small = short r (drop 1 rs) is in let long = part.long in omega (arith, small, long)

pub short_of_total : (rs : List Record) → total_size rs ≤ 4008 → (r : Record) (more : List Record) → rs ≡ r ∷ more → size_of r ≤ 4008
short_of_total rs fits r more is = let first = first_size rs more r is in omega (arith, first, fits)

pub short_of_first : (rs : List Record) → IfSome (slice_get rs 0) (λ r. size_of r ≤ 4008) → (r : Record) (more : List Record) → rs ≡ r ∷ more → size_of r ≤ 4008
short_of_first rs short r more is = subst (λ (l : List Record). IfSome (slice_get l 0) (λ r. size_of r ≤ 4008)) is short

pub begun_is : (place : NewBlock) (rs : List Record) (p : Packed) → IfSome (slice_get rs 0) (λ r. 4008 < size_of r) → IsPackedAs place rs p → IsBegunFirst p
begun_is place rs (First f) long (r, is, first) = first.begun.written_is
begun_is place [] (Whole p) long (is, holds) = none p.count is.packed.some
  where
    none : (n : ℕ) → 0 < length {A = Record} (take {A = Record} n []) → ⊥
    none zero some = omega (arith, some)
    none (suc n) some = omega (arith, some)
begun_is place (r ∷ rs) (Whole p) long (is, holds) = by_count p.count is
  where
    by_count : (n : ℕ) → IsPackedFront (r ∷ rs) n → ⊥
    by_count zero front = let some = front.packed.some in omega (arith, some)
    by_count (suc n) front = let fits = front.packed.fits in omega (arith, fits, long, sum_by-cons size_of r (take n rs))

-- one record that fits is packed
pub one_packed : (rs : List Record) (count : ℕ) → length rs ≡ 1 → IsPackedFront rs count → count ≡ 1
one_packed rs zero one is = let some = is.packed.some in absurd (omega (arith, some))
one_packed rs (suc zero) one is = refl
one_packed rs (suc (suc n)) one is = let within = is.within in absurd (omega (arith, within, one))

-- all of two records fit if they have no more bytes than there is room
pub both_packed : (rs : List Record) (count : ℕ) → length rs ≡ 2 → total_size rs ≡ 4008 → IsPackedFront rs count → count ≡ 2
both_packed [] count two full is = absurd (omega (arith, two))
both_packed (r ∷ []) count two full is = absurd (omega (arith, two))
both_packed (r ∷ s ∷ t ∷ rs) count two full is = absurd (omega (arith, two))
both_packed (r ∷ s ∷ []) zero two full is = absurd (omega (arith, is.packed.some))
both_packed (r ∷ s ∷ []) (suc zero) two full is = absurd (omega (arith, full, is.packed.no_more))
both_packed (r ∷ s ∷ []) (suc (suc zero)) two full is = refl
both_packed (r ∷ s ∷ []) (suc (suc (suc n))) two full is = absurd (omega (arith, is.within))

-- and the second one does not if they have more
pub first_packed : (rs : List Record) (count : ℕ) → length rs ≡ 2 → total_size rs ≡ 4009 → IsPackedFront rs count → count ≡ 1
first_packed [] count two over is = absurd (omega (arith, two))
first_packed (r ∷ []) count two over is = absurd (omega (arith, two))
first_packed (r ∷ s ∷ t ∷ rs) count two over is = absurd (omega (arith, two))
first_packed (r ∷ s ∷ []) zero two over is = absurd (omega (arith, is.packed.some))
first_packed (r ∷ s ∷ []) (suc zero) two over is = refl
first_packed (r ∷ s ∷ []) (suc (suc zero)) two over is = absurd (omega (arith, over, is.packed.fits))
first_packed (r ∷ s ∷ []) (suc (suc (suc n))) two over is = absurd (omega (arith, is.within))

-- the number of used bytes of the block that is written next
pub used_number : (place : NewBlock) (l : RunLog) (b : NextLogBlock) → IsNextBlock place l b → number_at b.block 80 ≡ length (taken_of l b.filling).used
used_number place l b is = number_behind b.block is.holds.payload 16 is.holds.sealed.payload_is ∙ is.holds.fields.used_is

-- and the address of the block after it
pub next_number : (place : NewBlock) (l : RunLog) (b : NextLogBlock) → IsNextBlock place l b → number_at b.block 72 ≡ place.next
next_number place l b is = number_behind b.block is.holds.payload 8 is.holds.sealed.payload_is ∙ is.holds.fields.next_is

-- all pending records, if they fit together
pub all_used : (place : NewBlock) (l : RunLog) (b : NextLogBlock) → l.begun ≡ None → 0 < length l.pending → total_size l.pending ≤ 4008 → IsNextBlock place l b → number_at b.block 80 ≡ total_size l.pending
all_used place l b none some fits is =
    let t : Taken = taken_of l b.filling in
    used_number place l b is ∙ by t (subst (λ (o : Option Begun). IsTaken o l.pending t) none is.takes.taken)
  where
    only : (taken rest : List Record) → IsPacked l.pending taken rest → taken ≡ l.pending
    only taken [] packed = sym (packed.front ∙ append-nil taken)
    only taken (r ∷ rest) packed =
        let all = ap total_size packed.front ∙ sum_by-append size_of taken (r ∷ rest) in
        let more = sum_by-append size_of taken (r ∷ []) in
        let over = packed.no_more in
        absurd (omega (arith, all, more, over, fits, sum_by-cons size_of r rest, sum_by-cons size_of r []))

    by : (t : Taken) → IsTaken None l.pending t → length t.used ≡ total_size l.pending
    by t (inl (packed, ends, used, begun)) =
        ap (λ (bytes : List ℕ). length bytes) used ∙ length-bytes_of_records t.begins ∙ ap total_size (only t.begins t.pending packed)
    by t (inr (r, front, begins, long, ends, used, begun)) = let first = first_size l.pending t.pending r front in absurd (omega (arith, first, long, fits))

-- and what is left of one that is begun
pub rest_used : (place : NewBlock) (l : RunLog) (b : NextLogBlock) (r : Record) → l.begun ≡ Some (record { logged = r; written = 8016 }) → size_of r ≡ 8017 → IsNextBlock place l b → number_at b.block 80 ≡ 1
rest_used place l b r some size is =
    let t : Taken = taken_of l b.filling in
    let left = length-drop 8016 (bytes_of_record r) in
    let long = length-bytes_of_record r in
    let one : length (drop 8016 (bytes_of_record r)) ≡ 1 = omega (arith, left, long, size) in
    used_number place l b is ∙ ap (λ (bytes : List ℕ). length bytes) (by t (subst (λ (o : Option Begun). IsTaken o l.pending t) some is.takes.taken) ∙ take_all 4008 (drop 8016 (bytes_of_record r)) (omega (arith, one))) ∙ one
  where
    by : (t : Taken) → IsTaken (Some (record { logged = r; written = 8016 })) l.pending t → t.used ≡ take 4008 (drop 8016 (bytes_of_record r))
    by t (begins, pending, used, rest) = used
