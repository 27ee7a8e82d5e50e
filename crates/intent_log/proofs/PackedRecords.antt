-- How many records from the front one log block takes, and the payload that holds them.
use Rattle.std.proofs.Common.{◌≡◌, ℕ, suc, ◌+◌, ◌-◌, ◌<◌, ◌≤◌, ◌^◌, List, [], ◌∷◌, ◌++◌, length, length-append, length-drop, min, ◌⊎◌, inl, inr, take, drop, get_or, drop-cons, map, replicate, refl, sym, ap, subst, ◌∙◌, append_assoc, add-one, arith}
use Rattle.std.specs.Prelude.{None, IfSome, slice_get}
use Rattle.std.proofs.Math.ListN.{get_or-map}
use Rattle.std.proofs.Math.Seq.{take-append_seam}
use Rattle.std.proofs.lemmas.Bool.{cases_lt, le-leb, le-ltb}
use Rattle.std.proofs.lemmas.List.{append-nil, take-append-drop, take_more, drop_at, take_all, drop_all, length-take-le}
use Rattle.std.proofs.lemmas.List.Concat.{flat_map-append}
use Rattle.std.proofs.lemmas.List.Sums.{sum_by-cons}
use Rattle.base.specs.formats.Limits.{last_number, max_log_record, log_block_room}
use Rattle.base.specs.formats.Chain.{IsLogPayload}
use Rattle.base.specs.formats.Fields.{number_at, number_bytes}
use Rattle.base.specs.formats.Records.{Record, IsAllowed, bytes_of_record, bytes_of_records, size_of}
use Rattle.base.specs.steps.Logs.{total_size}
use Rattle.base.proofs.formats.FieldsRead.{length-number_bytes}
use Rattle.base.proofs.formats.RecordSizes.{length-bytes_of_record}
use Rattle.checked_blocks.specs.Sealing.{padded}
use Rattle.checked_blocks.proofs.Placed.{number_at-between}
use Rattle.records.specs.Records.{encode_refusal, record_fields}
use Rattle.records.specs.declared.record.Record as code
use Rattle.intent_log.specs.Packing.{HoldsBytes, HoldsUsed, IsEncodedFront, IsEncodedLong, IsPackedFront, log_bytes, logged}
use Rattle.intent_log.specs.declared.packing.NewBlock.{NewBlock}

-- a record within its limits is encoded
pub passes : (r : Record) → IsAllowed r → encode_refusal r ≡ None
passes r allowed = rw (le-leb r.group last_number allowed.group, le-leb r.ordinal last_number allowed.ordinal, allowed.shapes, allowed.contents, le-ltb max_log_record (size_of r) allowed.size) refl

-- records have as many bytes as their sizes say
pub length-bytes_of_records : (records : List Record) → length (bytes_of_records records) ≡ total_size records
length-bytes_of_records [] = refl
length-bytes_of_records (r ∷ records) =
    omega (arith, length-append (bytes_of_record r) (bytes_of_records records), length-bytes_of_record r, length-bytes_of_records records, sum_by-cons size_of r records)

-- the bytes of one record more
pub bytes_more : (records : List Record) (r : Record) → bytes_of_records (records ++ r ∷ []) ≡ bytes_of_records records ++ bytes_of_record r
bytes_more records r = flat_map-append bytes_of_record records (r ∷ []) ∙ ap (λ (l : List ℕ). bytes_of_records records ++ l) (append-nil (bytes_of_record r))

pub bytes_next : (records : List Record) (i : ℕ) (r : Record) → i < length records → get_or records i r ≡ r
    → bytes_of_records (take (i + 1) records) ≡ bytes_of_records (take i records) ++ bytes_of_record r
bytes_next records i r within at =
    ap (λ (l : List Record). bytes_of_records l) (take_more records i r within ∙ ap (λ (x : Record). take i records ++ x ∷ []) at) ∙ bytes_more (take i records) r

-- the record at a place stands before those after it
drop_one : (records : List Record) (i : ℕ) (r : Record) → i < length records → get_or records i r ≡ r → drop i records ≡ r ∷ drop (i + 1) records
drop_one records i r within at = rw add-one (drop-cons records i r within ∙ ap (λ (x : Record). x ∷ drop (suc i) records) at)

-- if the next record does not fit, those before it are what a block takes
pub front_at : (records : List Record) (i : ℕ) (r : Record) (bytes : List ℕ) → 0 < i → i < length records → get_or records i r ≡ r
    → bytes ≡ bytes_of_records (take i records) → length bytes ≤ 4008 → 4008 < length (bytes ++ bytes_of_record r) → IsEncodedFront records i bytes
front_at records i r bytes some within at spelled fits over =
    let taken : List Record = take i records in
    let size : length bytes ≡ total_size taken = ap (λ (l : List ℕ). length l) spelled ∙ length-bytes_of_records taken in
    let as_many : length taken ≡ i = length-take-le i records (omega (arith, within)) in
    let behind : drop i records ≡ r ∷ drop (i + 1) records = drop_one records i r within at in
    let more : length (bytes ++ bytes_of_record r) ≡ total_size (taken ++ r ∷ []) =
    ap (λ (l : List ℕ). length (l ++ bytes_of_record r)) spelled ∙ ap (λ (l : List ℕ). length l) (sym (bytes_more taken r)) ∙ length-bytes_of_records (taken ++ r ∷ []) in
    record {
      front = record {
        within = omega (arith, within);
        packed = record {
          front = sym (take-append-drop i records);
          some = subst (λ (n : ℕ). 0 < n) (sym as_many) some;
          fits = subst (λ (n : ℕ). n ≤ log_block_room) size fits;
          no_more = subst (λ (l : List Record). IfSome (slice_get l 0) (λ x. log_block_room < total_size (taken ++ x ∷ []))) (sym behind) (subst (λ (n : ℕ). 4008 < n) more over);
        };
      };
      spelled = spelled;
      fits = fits;
    }

-- and if it is the first, it is a long one
pub front_long : (records : List Record) (i : ℕ) (r : Record) (old bytes : List ℕ) → i ≡ 0 → i < length records → get_or records i r ≡ r
    → old ≡ bytes_of_records (take i records) → bytes ≡ old ++ bytes_of_record r → 4008 < length bytes → IsEncodedLong records bytes
front_long records i r old bytes first within at before spelled over =
    let none : old ≡ [] = before ∙ ap (λ (n : ℕ). bytes_of_records (take n records)) first in
    let whole : bytes ≡ bytes_of_record r = spelled ∙ ap (λ (l : List ℕ). l ++ bytes_of_record r) none in
    record {
      first = r;
      front = ap (λ (n : ℕ). drop n records) (sym first) ∙ drop_one records i r within at ∙ ap (λ (n : ℕ). r ∷ drop (n + 1) records) first;
      spelled = whole;
      long = omega (arith, over, ap (λ (l : List ℕ). length l) whole, length-bytes_of_record r);
    }

-- and if all fit, all are
pub front_all : (records : List Record) (bytes : List ℕ) (n : ℕ) → n ≡ length records → 0 < length records → bytes ≡ bytes_of_records (take n records) → length bytes ≤ 4008
    → IsEncodedFront records n bytes
front_all records bytes n all some spelled fits =
    let taken : take n records ≡ records = take_all n records (omega (arith, all)) in
    let behind : drop n records ≡ [] = drop_all n records (omega (arith, all)) in
    let size : length bytes ≡ total_size (take n records) = ap (λ (l : List ℕ). length l) spelled ∙ length-bytes_of_records (take n records) in
    record {
      front = record {
        within = omega (arith, all);
        packed = record {
          front = sym (take-append-drop n records);
          some = subst (λ (l : List Record). 0 < length l) (sym taken) some;
          fits = subst (λ (k : ℕ). k ≤ log_block_room) size fits;
          no_more = subst (λ (l : List Record). IfSome (slice_get l 0) (λ x. log_block_room < total_size (take n records ++ x ∷ []))) (sym behind) tt;
        };
      };
      spelled = spelled;
      fits = fits;
    }

-- three numbers and the bytes of records: what is sealed is the payload of a log block
pub payload_is : (place : NewBlock) (bytes : List ℕ) → place.header.import_number < 2 ^ 64 → place.next < 2 ^ 64 → length bytes ≤ 4008
    → IsLogPayload (padded (log_bytes place.header.import_number place.next bytes)) place.header.import_number (logged place bytes)
payload_is place bytes chain next fits =
    let x : List ℕ = number_bytes place.header.import_number in
    let y : List ℕ = number_bytes place.next in
    let z : List ℕ = number_bytes (length bytes) in
    let tail : List ℕ = replicate (4032 - length (log_bytes place.header.import_number place.next bytes)) 0 in
    let lx : length x ≡ 8 = length-number_bytes place.header.import_number in
    let ly : length y ≡ 8 = length-number_bytes place.next in
    let lz : length z ≡ 8 = length-number_bytes (length bytes) in
    let lxy = length-append x y in
    let lxyz = length-append (x ++ y) z in
    let whole = length-append (x ++ y ++ z) bytes in
    let parts : padded (log_bytes place.header.import_number place.next bytes) ≡ x ++ y ++ z ++ (bytes ++ tail) = append_assoc (x ++ y ++ z) bytes tail in
    let flat : padded (log_bytes place.header.import_number place.next bytes) ≡ x ++ (y ++ (z ++ (bytes ++ tail))) = parts ∙ append_assoc (x ++ y) z (bytes ++ tail) ∙ append_assoc x y (z ++ (bytes ++ tail)) in
    let left : 4032 - length (log_bytes place.header.import_number place.next bytes) ≡ 4008 - length bytes =
    omega (arith, whole, lxyz, lxy, lx, ly, lz) in
    record {
      chain_is = ap (λ (l : List ℕ). number_at l 0) flat ∙ number_at-between 0 place.header.import_number [] (y ++ (z ++ (bytes ++ tail))) (omega arith) chain;
      next_is = ap (λ (l : List ℕ). number_at l 8) flat ∙ number_at-between 8 place.next x (z ++ (bytes ++ tail)) lx next;
      used_is = ap (λ (l : List ℕ). number_at l 16) (flat ∙ sym (append_assoc x y (z ++ (bytes ++ tail))))
          ∙ number_at-between 16 (length bytes) (x ++ y) (bytes ++ tail) (length-append x y ∙ omega (arith, lx, ly)) (omega (arith, fits));
      fits = fits;
      rest = ap (λ (l : List ℕ). drop 24 l) parts
          ∙ drop_at (x ++ y ++ z) (bytes ++ tail) 24 (lxyz ∙ omega (arith, lxy, lx, ly, lz))
          ∙ ap (λ (n : ℕ). bytes ++ replicate n 0) left;
    }

-- so a block with these bytes holds them
pub holds_used : (place : NewBlock) (block bytes : List ℕ) → length bytes ≤ 4008 → HoldsBytes place block bytes → HoldsUsed place block bytes
holds_used place block bytes fits holds = record {
  payload = padded (log_bytes place.header.import_number place.next bytes);
  sealed = holds.sealed;
  fields = payload_is place bytes holds.chain_fits holds.next_fits fits;
}

-- whole records from the front, and the first part of the first one
pub packed_whole : (place : NewBlock) (block : List ℕ) (all : List Record) (count : ℕ) (bytes : List ℕ) → IsEncodedFront all count bytes → HoldsBytes place block bytes
    → IsPackedFront all count × HoldsUsed place block (bytes_of_records (take count all))
packed_whole place block all count bytes front holds =
    (front.front, subst (λ (l : List ℕ). HoldsUsed place block l) front.spelled (holds_used place block bytes front.fits holds))

-- the record at a place
pub record_at : (xs : List code.Record) (i : ℕ) (x : code.Record) → x ≡ get_or xs i x → get_or (map record_fields xs) i (record_fields x) ≡ record_fields x
record_at xs i x e = get_or-map record_fields xs i x ∙ ap record_fields (sym e)

-- what was put after some bytes is cut off again
pub cut_back : (old out new more : List ℕ) (n : ℕ) → n ≡ length old → out ≡ old ++ more → new ≡ take n out → new ≡ old
cut_back old out new more n long is cut =
    cut ∙ (λ i. take (long i) (is i)) ∙ take-append_seam {A = ℕ} old more

-- the bytes of a begun record that the next block takes
pub part_is : (bytes : List ℕ) (written from n : ℕ) → from ≡ min written (length bytes) → n ≡ min (length bytes - from) 4008
    → take n (take (length bytes - from) (drop from bytes)) ≡ take 4008 (drop written bytes)
part_is bytes written from n from_is n_is =
    let long : length (drop from bytes) ≡ length bytes - from = length-drop from bytes in
    let whole : take (length bytes - from) (drop from bytes) ≡ drop from bytes = take_all (length bytes - from) (drop from bytes) (omega (arith, long)) in
    ap (λ (l : List ℕ). take n l) whole ∙ by_left (cases_lt 4008 (length (drop from bytes))) ∙ ap (λ (l : List ℕ). take 4008 l) (by_written (cases_lt (length bytes) written))
  where
    by_left : (4008 < length (drop from bytes)) ⊎ (length (drop from bytes) ≤ 4008) → take n (drop from bytes) ≡ take 4008 (drop from bytes)
    by_left (inl more) =
        let long : length (drop from bytes) ≡ length bytes - from = length-drop from bytes in
        let same : n ≡ 4008 = omega (arith, n_is, long, more) in
        ap (λ (k : ℕ). take k (drop from bytes)) same
    by_left (inr less) =
        let long : length (drop from bytes) ≡ length bytes - from = length-drop from bytes in
        take_all n (drop from bytes) (omega (arith, n_is, long, less)) ∙ sym (take_all 4008 (drop from bytes) less)

    by_written : (length bytes < written) ⊎ (written ≤ length bytes) → drop from bytes ≡ drop written bytes
    by_written (inl past) = drop_all from bytes (omega (arith, from_is, past)) ∙ sym (drop_all written bytes (omega (arith, past)))
    by_written (inr within) = let same : from ≡ written = omega (arith, from_is, within) in ap (λ (k : ℕ). drop k bytes) same
