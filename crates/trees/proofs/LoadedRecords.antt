-- Records of an object as they are loaded, strip by strip.
use Rattle.std.proofs.Common.{◌≡◌, ℕ, zero, suc, ◌+◌, ◌-◌, ◌*◌, ◌<◌, ◌≤◌, ◌≢◌, min, Bool, List, [], ◌++◌, length, take, drop, replicate, get_or, refl, ap, sym, subst, ◌∙◌, arith, ◌⊎◌, inl, inr}
use Rattle.std.specs.Prelude.{IsTrue}
use Rattle.std.proofs.lemmas.List.{ext_get_or, get_or-take, get_or-drop, get_or-replicate, get_or_past, length-replicate, length-take, length-take-le, length-drop, take_all, take-append-drop, drop_all}
use Rattle.std.proofs.lemmas.Bool.{cases_lt, cases_eq}
use Rattle.base.specs.declared.pointer.Pointer.{Pointer}
use Rattle.base.specs.formats.Limits.{object_count, record_size, pointer_count}
use Rattle.base.specs.formats.Fields.{part, pointer_in, no_pointer}
use Rattle.base.specs.disk.Disk.{put}
use Rattle.base.specs.formats.Geometry.{IsBlockAddress}
use Rattle.base.specs.formats.Blocks.{Frame}
use Rattle.base.specs.tree.Places.{record_number, record_start, strip_number, strip_of}
use Rattle.base.specs.tree.Places.Place.{Indirect, Data}
use Rattle.base.specs.tree.Tree.{OpensAt, IsRecord, record_bytes}
use Rattle.base.specs.kept.PlacedTrees.{IsPlaced}
use Rattle.base.specs.tree.Damages.{IsRecordPointerForm}
use Rattle.base.proofs.tree.Strips.{strip-which}
use Rattle.base.proofs.disk.Put.{length-put, part-put_same, part-put_apart}
use Rattle.tree_blocks.specs.Pointers.{TellsStrip, payload_pointers, strip_in, told_record}
use Rattle.tree_blocks.specs.Bytes.{AreBytes}
use Rattle.trees.specs.SoundBlocks.{IsFormed}
use Rattle.trees.specs.Loading.{AreLoadedRecords, AreLoadedStrips, HasZeroRecord, IsLoadedRecord, IsLoadedStrip, KeepsOthers}
use Rattle.tree_blocks.proofs.ToldStrips.{payload_pointer, told-none, told-some}

-- bytes that are all zero
zeros-by : (xs : List ℕ) → ((i : ℕ) → i < length xs → get_or xs i 0 ≡ 0) → xs ≡ replicate (length xs) 0
zeros-by xs each = ext_get_or 0 xs (replicate (length xs) 0) (sym (length-replicate (length xs) 0)) (λ k below. each k below ∙ sym (get_or-replicate (length xs) k 0 0 below))

zero-at : (xs : List ℕ) → xs ≡ replicate (length xs) 0 → (i : ℕ) → get_or xs i 0 ≡ 0
zero-at xs zeros i = go (cases_lt i (length xs))
  where
    go : (i < length xs) ⊎ (length xs ≤ i) → get_or xs i 0 ≡ 0
    go (inl below) = ap (λ (l : List ℕ). get_or l i 0) zeros ∙ get_or-replicate (length xs) i 0 0 below
    go (inr past) = get_or_past xs i 0 past

-- a part of zeros
zeros-part : (xs : List ℕ) (at n : ℕ) → xs ≡ replicate (length xs) 0 → part xs at n ≡ replicate (length (part xs at n)) 0
zeros-part xs at n zeros = zeros-by (part xs at n) (λ i below.
    let low : i < n = omega (arith, below, length-take n (drop at xs)) in
    get_or-take n (drop at xs) i 0 low ∙ get_or-drop at xs i 0 ∙ zero-at xs zeros (at + i))

pub zero_records : (bytes : List ℕ) → bytes ≡ replicate (length bytes) 0 → (r : ℕ) → HasZeroRecord r bytes
zero_records bytes zeros r = zeros-part bytes (record_size * r) record_size zeros

pub zeros-records : (size : ℕ) (bytes : List ℕ) → bytes ≡ replicate size 0 → (r : ℕ) → HasZeroRecord r bytes
zeros-records size bytes zeros = zero_records bytes (zeros ∙ ap (λ (n : ℕ). replicate n 0) (sym (ap (λ (l : List ℕ). length l) zeros ∙ length-replicate size 0)))

-- the front of a payload, as far as a list reaches after a place, is what stands there once it is put
part-taken : (s at count : ℕ) (payload bytes : List ℕ) → length payload ≡ s → at < length bytes → count ≡ min (length bytes - at) s
    → part (put at (take count payload) bytes) at s ≡ take count payload
part-taken s at count payload bytes long within is = go (cases_lt (length bytes - at) s)
  where
    content : List ℕ
    content = take count payload

    new : List ℕ
    new = put at content bytes

    size : length content ≡ count
    size = length-take-le count payload (omega (arith, is, long))

    fits : at + length content ≤ length bytes
    fits = omega (arith, is, size, within)

    behind : length (drop at new) ≡ length bytes - at
    behind = length-drop at new ∙ ap (λ (k : ℕ). k - at) (length-put at content bytes fits)

    same : part new at count ≡ content
    same = ap (λ (k : ℕ). part new at k) (sym size) ∙ part-put_same at content bytes fits

    go : (length bytes - at < s) ⊎ (s ≤ length bytes - at) → part new at s ≡ content
    go (inl short) = take_all s (drop at new) (omega (arith, behind, short)) ∙ sym (take_all count (drop at new) (omega (arith, behind, is, short))) ∙ same
    go (inr whole) = let e : s ≡ count = omega (arith, is, whole) in ap (λ (k : ℕ). part new at k) e ∙ same

-- and with zeros after it is the payload
taken-padded : (s count : ℕ) (payload front : List ℕ) → length payload ≡ s → count ≤ s → drop count payload ≡ replicate (length (drop count payload)) 0
    → front ≡ take count payload → front ++ replicate (s - length front) 0 ≡ payload
taken-padded s count payload front long most zeros is =
    let size : s - length front ≡ length (drop count payload) = omega (arith, ap length is, length-take-le count payload (omega (arith, most, long)), length-drop count payload, long) in
    ap (λ (k : ℕ). front ++ replicate k 0) size ∙ ap (λ (l : List ℕ). front ++ l) (sym zeros) ∙ ap (λ (l : List ℕ). l ++ drop count payload) is
    ∙ take-append-drop count payload

-- a record from the end of an object on
pub past_zeros : (bytes : List ℕ) (r : ℕ) → length bytes ≤ record_size * r → HasZeroRecord r bytes
past_zeros bytes r past =
    let none : drop (record_size * r) bytes ≡ [] = drop_all (record_size * r) bytes past in
    zeros-by (record_bytes r bytes) (λ i below.
    let empty : length (record_bytes r bytes) ≡ 0 = ap (λ (l : List ℕ). length (take record_size l)) none in
    absurd (omega (arith, below, empty)))

pub bytes-zeros : (n : ℕ) → AreBytes (replicate n 0)
bytes-zeros zero = refl
bytes-zeros (suc n) = bytes-zeros n

-- past the object's end the payload of a record is zeros
padded_back : (payload : List ℕ) (past count : ℕ) → length payload ≡ 4032 → count ≡ min past 4032 → drop past payload ≡ replicate (record_size - past) 0
    → drop count payload ≡ replicate (length (drop count payload)) 0
padded_back payload past count long is padded = go (cases_lt past 4032)
  where
    go : (past < 4032) ⊎ (4032 ≤ past) → drop count payload ≡ replicate (length (drop count payload)) 0
    go (inl low) =
        let e : count ≡ past = omega (arith, is, low) in
        let size : record_size - past ≡ length (drop count payload) = omega (arith, length-drop count payload, long, e) in
        ap (λ (k : ℕ). drop k payload) e ∙ padded ∙ ap (λ (k : ℕ). replicate k 0) size
    go (inr high) =
        let e : drop count payload ≡ [] = drop_all count payload (omega (arith, long, is, high)) in
        e ∙ sym (ap (λ (l : List ℕ). replicate (length l) 0) e)

-- a record as it is taken from the payload of its block
pub record_taken : (keeps : Bool) (image : List ℕ) (frame : Frame) (m k size count : ℕ) (pointer : Pointer) (payload bytes new : List ℕ) → length payload ≡ 4032 → length bytes ≡ size
    → record_start m k < size → count ≡ min (size - record_start m k) 4032 → IsFormed frame size (Data m k) payload → new ≡ put (record_start m k) (take count payload) bytes
    → IsBlockAddress frame.blocks pointer.address → (IsTrue keeps → OpensAt image frame (Data m k) pointer payload) → IsLoadedRecord keeps image frame m k pointer new
record_taken keeps image frame m k size count pointer payload bytes new long as_long within is formed put_is placed opens =
    go (record_number m k) refl
  where
    go : (r : ℕ) → record_number m k ≡ r → IsLoadedRecord keeps image frame m k pointer new
    go r at =
        let start : record_start m k ≡ record_size * r = ap (λ (q : ℕ). record_size * q) at in
        let inside : record_size * r < length bytes = omega (arith, within, start, as_long) in
        let counted : count ≡ min (length bytes - record_size * r) record_size = is ∙ ap (λ (q : ℕ). min (size - q) 4032) start ∙ ap (λ (s : ℕ). min (s - record_size * r) 4032) (sym as_long) in
        let put_at : new ≡ put (record_size * r) (take count payload) bytes = put_is ∙ ap (λ (q : ℕ). put q (take count payload) bytes) start in
        let fits : record_size * r + length (take count payload) ≤ length bytes = omega (arith, counted, inside, length-take count payload) in
        let same_size : length new ≡ length bytes = ap length put_at ∙ length-put (record_size * r) (take count payload) bytes fits in
        let front : record_bytes r new ≡ take count payload = ap (λ (l : List ℕ). record_bytes r l) put_at ∙ part-taken record_size (record_size * r) count payload bytes long inside counted in
        let zeros = padded_back payload (size - record_start m k) count long is formed in
        let whole = taken-padded record_size count payload (record_bytes r new) long (omega (arith, counted)) zeros front in
        record {
          placed = inr placed;
          stands = λ keep. inr (
            omega (arith, same_size, within, as_long),
            subst (λ (q : ℕ). OpensAt image frame (Data m k) pointer (record_bytes q new ++ replicate (record_size - length (record_bytes q new)) 0)) (sym at)
                (subst (λ (l : List ℕ). OpensAt image frame (Data m k) pointer l) (sym whole) (opens keep)),
          );
        }

pub records_apart : (r size count : ℕ) (payload bytes new : List ℕ) → length bytes ≡ size → record_size * r < size → count ≡ min (size - record_size * r) 4032
    → new ≡ put (record_size * r) (take count payload) bytes → (q : ℕ) → q ≢ r → record_bytes q new ≡ record_bytes q bytes
records_apart r size count payload bytes new as_long within is put_is q ne =
    let fits : record_size * r + length (take count payload) ≤ length bytes = omega (arith, is, within, as_long, length-take count payload) in
    ap (λ (l : List ℕ). record_bytes q l) put_is ∙ part-put_apart (record_size * r) (take count payload) bytes (record_size * q) record_size fits (side (cases_lt q r))
  where
    side : (q < r) ⊎ (r ≤ q) → (record_size * r + length (take count payload) ≤ record_size * q) ⊎ (record_size * q + record_size ≤ record_size * r)
    side (inl below) = inr (omega arith)
    side (inr above) = inl (omega (arith, is, length-take count payload))

-- a record stays if its bytes and the length stay
carry : (image : List ℕ) (frame : Frame) (m k : ℕ) (pointer : Pointer) (bytes new : List ℕ) → record_bytes (record_number m k) new ≡ record_bytes (record_number m k) bytes → length new ≡ length bytes
    → IsRecord image frame m k pointer bytes → IsRecord image frame m k pointer new
carry image frame m k pointer bytes new same size (inl hole) = inl (hole.0, subst (λ (l : List ℕ). l ≡ replicate (length l) 0) (sym same) hole.1)
carry image frame m k pointer bytes new same size (inr block) = inr (
  subst (λ (s : ℕ). record_start m k < s) (sym size) block.0,
  subst (λ (l : List ℕ). OpensAt image frame (Data m k) pointer (l ++ replicate (record_size - length l) 0)) (sym same) block.1,
)

zeros_stay : (r : ℕ) (bytes new : List ℕ) → record_bytes r new ≡ record_bytes r bytes → HasZeroRecord r bytes → HasZeroRecord r new
zeros_stay r bytes new same zeros = subst (λ (l : List ℕ). l ≡ replicate (length l) 0) (sym same) zeros

-- one record more of a strip, a hole
pub records_skip : (keeps : Bool) (image : List ℕ) (frame : Frame) (m : ℕ) (payload bytes : List ℕ) (count : ℕ) (pointer : Pointer)
    → AreLoadedRecords keeps image frame m payload bytes count → count < pointer_count → pointer ≡ pointer_in payload count → pointer ≡ no_pointer
    → AreLoadedRecords keeps image frame m payload bytes (count + 1)
records_skip keeps image frame m payload bytes count pointer so_far low read is_none = record { loaded = λ k inside. go k inside (cases_eq k count); rest = λ k high inside. so_far.rest k (omega (arith, high)) inside }
  where
    none : pointer_in payload count ≡ no_pointer
    none = sym read ∙ is_none

    go : (k : ℕ) → k < count + 1 → (k ≡ count) ⊎ (k ≢ count) → IsLoadedRecord keeps image frame m k (pointer_in payload k) bytes
    go k inside (inl e) =
        subst (λ (i : ℕ). IsLoadedRecord keeps image frame m i (pointer_in payload i) bytes) (sym e) (record { placed = inl none; stands = λ keep. inl (none, so_far.rest count (omega arith) low) })
    go k inside (inr ne) = so_far.loaded k (omega (arith, inside, ne))

-- one record more, a block
pub records_load : (keeps : Bool) (image : List ℕ) (frame : Frame) (m : ℕ) (payload bytes new : List ℕ) (count : ℕ) (pointer : Pointer)
    → AreLoadedRecords keeps image frame m payload bytes count → pointer ≡ pointer_in payload count → IsLoadedRecord keeps image frame m count pointer new
    → ((r : ℕ) → r ≢ record_number m count → record_bytes r new ≡ record_bytes r bytes) → length new ≡ length bytes → AreLoadedRecords keeps image frame m payload new (count + 1)
records_load keeps image frame m payload bytes new count pointer so_far read here others size = record {
  loaded = λ k inside. go k inside (cases_eq k count);
  rest = λ k high inside. zeros_stay (record_number m k) bytes new (others (record_number m k) (other_record (strip_of m) k count (λ e. omega (arith, high, e)))) (so_far.rest k (omega (arith, high)) inside);
}
  where
    other_record : (j k count : ℕ) → k ≢ count → 84 * j + k ≢ 84 * j + count
    other_record j k count ne e = ne (omega (arith, e))

    go : (k : ℕ) → k < count + 1 → (k ≡ count) ⊎ (k ≢ count) → IsLoadedRecord keeps image frame m k (pointer_in payload k) new
    go k inside (inl e) =
        subst (λ (i : ℕ). IsLoadedRecord keeps image frame m i (pointer_in payload i) new) (sym e) (subst (λ (p : Pointer). IsLoadedRecord keeps image frame m count p new) read here)
    go k inside (inr ne) =
        let h = so_far.loaded k (omega (arith, inside, ne)) in
        record { placed = h.placed; stands = λ keep. carry image frame m k (pointer_in payload k) bytes new (others (record_number m k) (other_record (strip_of m) k count ne)) size (h.stands keep) }

-- where a pointer stands, its record begins inside the object
pub begins_inside : (size start : ℕ) (pointer : Pointer) → IsRecordPointerForm size start pointer → (pointer ≡ no_pointer → ⊥) → start < size
begins_inside size start pointer form some = elim (cases_lt start size) as (λ _. start < size) [ inl low ↦ low | inr past ↦ absurd (some (form.1 past)) ]

-- the other strips keep their bytes as the records of one are loaded
pub keeps_none : (j : ℕ) (bytes : List ℕ) → KeepsOthers j bytes bytes
keeps_none j bytes = record { size = refl; bytes = λ are. are; records = λ r out. refl }

outside : (j k r : ℕ) → k < 84 → (r < 84 * j) ⊎ (84 * (j + 1) ≤ r) → r ≢ 84 * j + k
outside j k r low (inl before) = λ e. omega (arith, low, before, e)
outside j k r low (inr behind) = λ e. omega (arith, low, behind, e)

pub keeps_more : (j k size : ℕ) (old mid new : List ℕ) → k < pointer_count → length old ≡ size → KeepsOthers j old mid → length new ≡ size → (AreBytes mid → AreBytes new)
    → ((r : ℕ) → r ≢ pointer_count * j + k → record_bytes r new ≡ record_bytes r mid) → KeepsOthers j old new
keeps_more j k size old mid new low long kept as_long bytes others = record {
  size = as_long ∙ sym long;
  bytes = λ are. bytes (kept.bytes are);
  records = λ r out. others r (outside j k r low out) ∙ kept.records r out;
}

-- no records yet
pub no_records_yet : (keeps : Bool) (image : List ℕ) (frame : Frame) (m : ℕ) (payload bytes : List ℕ) → ((k : ℕ) → k < pointer_count → HasZeroRecord (record_number m k) bytes)
    → AreLoadedRecords keeps image frame m payload bytes 0
no_records_yet keeps image frame m payload bytes zeros = record { loaded = λ k low. absurd (omega (arith, low)); rest = λ k _ low. zeros k low }

-- a strip with its indirect block and all its records
pub some_address : (blocks : ℕ) (address : ℕ) → IsBlockAddress blocks address → address ≢ 0
some_address blocks address (k, low, at) none = omega (arith, at, none)

pub strip_loaded : (keeps : Bool) (image : List ℕ) (frame : Frame) (m : ℕ) (indirect : Pointer) (bytes payload : List ℕ)
    → IsBlockAddress frame.blocks indirect.address → (IsTrue keeps → OpensAt image frame (Indirect m) indirect payload)
    → AreLoadedRecords keeps image frame m payload bytes pointer_count → IsLoadedStrip keeps image frame m indirect (told_record (indirect, payload_pointers payload)) bytes
strip_loaded keeps image frame m indirect bytes payload placed opens all = record {
  placed = inr placed;
  records_placed = λ k low. subst (λ (p : Pointer). IsPlaced frame.blocks p) (sym (told k low)) (all.loaded k low).placed;
  stands = λ keep. inr (payload, opens keep, λ k low. sym (told k low));
  records_stand = λ keep k low. subst (λ (p : Pointer). IsRecord image frame m k p bytes) (sym (told k low)) ((all.loaded k low).stands keep);
}
  where
    told : (k : ℕ) → k < pointer_count → told_record (indirect, payload_pointers payload) k ≡ pointer_in payload k
    told k low = told-some (indirect, payload_pointers payload) k (some_address frame.blocks indirect.address placed) ∙ payload_pointer payload k low

-- a strip with no indirect block
pub strip_hole : (keeps : Bool) (image : List ℕ) (frame : Frame) (m : ℕ) (s : Pointer × List Pointer) (bytes : List ℕ) → s.0 ≡ no_pointer
    → ((k : ℕ) → k < pointer_count → HasZeroRecord (record_number m k) bytes) → IsLoadedStrip keeps image frame m s.0 (told_record s) bytes
strip_hole keeps image frame m s bytes none zeros = record {
  placed = inl none;
  records_placed = λ k low. inl (told k);
  stands = λ keep. inl (none, λ k low. told k);
  records_stand = λ keep k low. inl (told k, zeros k low);
}
  where
    told : (k : ℕ) → told_record s k ≡ no_pointer
    told k = told-none s k (ap (λ (p : Pointer). p.address) none)

-- a strip stays if its records and the length stay
pub strip_stays : (keeps : Bool) (image : List ℕ) (frame : Frame) (m : ℕ) (indirect : Pointer) (record_at : ℕ → Pointer) (bytes new : List ℕ)
    → ((k : ℕ) → k < pointer_count → record_bytes (record_number m k) new ≡ record_bytes (record_number m k) bytes) → length new ≡ length bytes
    → IsLoadedStrip keeps image frame m indirect record_at bytes → IsLoadedStrip keeps image frame m indirect record_at new
strip_stays keeps image frame m indirect record_at bytes new same size h = record {
  placed = h.placed;
  records_placed = h.records_placed;
  stands = h.stands;
  records_stand = λ keep k low. carry image frame m k (record_at k) bytes new (same k low) size (h.records_stand keep k low);
}

-- the records of a strip lie in it
in_strip : (n j k : ℕ) → n < object_count → record_number (strip_number n j) k ≡ pointer_count * j + k
in_strip n j k low = ap (λ (i : ℕ). pointer_count * i + k) (strip-which n j low)

-- no strips yet
pub no_strips : (keeps : Bool) (image : List ℕ) (frame : Frame) (n : ℕ) (strips : List (ℕ × (Pointer × List Pointer))) (bytes : List ℕ) → ((r : ℕ) → HasZeroRecord r bytes)
    → AreLoadedStrips keeps image frame n strips bytes 0
no_strips keeps image frame n strips bytes zeros = record { loaded = λ j low. absurd (omega (arith, low)); rest = λ r high. zeros r }

-- one strip more
pub strips_more : (keeps : Bool) (image : List ℕ) (frame : Frame) (n : ℕ) (strips told : List (ℕ × (Pointer × List Pointer))) (bytes new : List ℕ) (count : ℕ) (indirect : Pointer) → n < object_count
    → AreLoadedStrips keeps image frame n strips bytes count → TellsStrip count indirect strips told → KeepsOthers count bytes new
    → IsLoadedStrip keeps image frame (strip_number n count) indirect (told_record (strip_in told count)) new → AreLoadedStrips keeps image frame n told new (count + 1)
strips_more keeps image frame n strips told bytes new count indirect n_low so_far tells kept here = record {
  loaded = λ j low. go j low (cases_eq j count);
  rest = λ r high. zeros_stay r bytes new (kept.records r (inr (omega (arith, high)))) (so_far.rest r (omega (arith, high)));
}
  where
    before : (j k count : ℕ) → j < count → k < 84 → 84 * j + k < 84 * count
    before j k count low inside = omega (arith, low, inside)

    same : (j : ℕ) → j < count → (k : ℕ) → k < pointer_count → record_bytes (record_number (strip_number n j) k) new ≡ record_bytes (record_number (strip_number n j) k) bytes
    same j low k inside =
        let at = in_strip n j k n_low in
        ap (λ (r : ℕ). record_bytes r new) at ∙ kept.records (84 * j + k) (inl (before j k count low inside)) ∙ sym (ap (λ (r : ℕ). record_bytes r bytes) at)

    go : (j : ℕ) → j < count + 1 → (j ≡ count) ⊎ (j ≢ count) → IsLoadedStrip keeps image frame (strip_number n j) (strip_in told j).0 (told_record (strip_in told j)) new
    go j low (inl e) =
        subst (λ (i : ℕ). IsLoadedStrip keeps image frame (strip_number n i) (strip_in told i).0 (told_record (strip_in told i)) new) (sym e)
        (subst (λ (p : Pointer). IsLoadedStrip keeps image frame (strip_number n count) p (told_record (strip_in told count)) new) (sym tells.0) here)
    go j low (inr ne) =
        let earlier : j < count = omega (arith, low, ne) in
        subst (λ (s : Pointer × List Pointer). IsLoadedStrip keeps image frame (strip_number n j) s.0 (told_record s) new) (sym (tells.1 j ne))
        (strip_stays keeps image frame (strip_number n j) (strip_in strips j).0 (told_record (strip_in strips j)) bytes new (same j earlier) kept.size (so_far.loaded j earlier))

-- the strips behind those that are loaded have zeros, and so has the next one
pub zeros_more : (count : ℕ) (bytes new : List ℕ) → ((r : ℕ) → pointer_count * count ≤ r → HasZeroRecord r bytes) → KeepsOthers count bytes new → (r : ℕ) → pointer_count * (count + 1) ≤ r → HasZeroRecord r new
zeros_more count bytes new zeros kept r high = zeros_stay r bytes new (kept.records r (inr high)) (zeros r (omega (arith, high)))

pub next_zeros : (n count : ℕ) (bytes : List ℕ) → n < object_count → ((r : ℕ) → pointer_count * count ≤ r → HasZeroRecord r bytes) → (k : ℕ) → k < pointer_count
    → HasZeroRecord (record_number (strip_number n count) k) bytes
next_zeros n count bytes n_low zeros k inside = subst (λ (r : ℕ). HasZeroRecord r bytes) (sym (in_strip n count k n_low)) (zeros (84 * count + k) (omega arith))
