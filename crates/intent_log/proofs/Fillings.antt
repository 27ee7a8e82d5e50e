-- What the next block takes: whole records, the first part of one, or a later part of the one that is begun. With it
-- the log is the one after a write of them.
use Rattle.std.proofs.Common.{◌≡◌, ℕ, ◌+◌, ◌<◌, ◌≤◌, ◌⊎◌, Bool, true, false, List, [], ◌∷◌, ◌++◌, inl, inr, map, length, take, drop, ap, refl, sym, subst, ◌∙◌, arith}
use Rattle.std.specs.Prelude.{All, IfSome, None, Option, Some, cond, is_some, nat_le, ◌-◌}
use Rattle.std.specs.Global.{Vec}
use Rattle.std.specs.Option.{option_map_or}
use Rattle.std.proofs.lemmas.Bool.{leb-false, leb-true}
use Rattle.std.proofs.lemmas.Bool.Decides.{nat_tests}
use Rattle.std.proofs.lemmas.List.{drop-drop, drop-map, length-map, length-take-le, take-map}
use Rattle.std.proofs.lemmas.List.Elements.{All-drop}
use Rattle.std.proofs.lemmas.Simd.{map-map}
use Rattle.base.specs.declared.names.Receipt.{Receipt}
use Rattle.base.specs.formats.Limits.{log_block_room}
use Rattle.base.specs.formats.Records.{IsAllowed, Record, bytes_of_record, bytes_of_records, size_of}
use Rattle.base.specs.steps.Logs.{Begun, Committed, IsTaken, committed_of, log_after_write, next_part}
use Rattle.base.proofs.formats.RecordSizes.{length-bytes_of_record}
use Rattle.intent_log.specs.Fillings.{TakesNext, begun_after_part, begun_then, ended_by_part, is_last_part, part_noted, receipt_of, taken_of, used_by}
use Rattle.intent_log.specs.Kept.{RunLog, begun_shown, log_shown}
use Rattle.intent_log.specs.Packing.{IsBegunOf, IsPackedFront}
use Rattle.intent_log.specs.Receipts.{committed}
use Rattle.intent_log.specs.declared.begun.BegunRecord.{BegunRecord}
use Rattle.intent_log.specs.declared.filling.Filling.TheVariants.{Whole, First, Part}
use Rattle.records.specs.declared.record.Record as code
use Rattle.records.specs.Records.{record_fields}
use Rattle.intent_log.proofs.KeptBlocks.{begun_named}

-- What the next block takes: whole records,
module _ (l : RunLog) (records : List code.Record) (pending_is : l.pending ≡ map record_fields records) (receipts : Vec Receipt) (count : ℕ) (none : l.begun ≡ None) (front : IsPackedFront l.pending count)
    (are : receipts.items ≡ map receipt_of (take count records)) where
  as_many : count ≡ length receipts.items
  as_many =
      let within = front.within in
      let long = ap (λ (rs : List Record). length rs) pending_is ∙ length-map records record_fields in
      let low : count ≤ length records = omega (arith, within, long) in
      sym (ap (λ (rs : List Receipt). length rs) are ∙ length-map (take count records) receipt_of ∙ length-take-le count records low)

  packed_front : IsPackedFront l.pending (length receipts.items)
  packed_front = subst (IsPackedFront l.pending) as_many front

  of_records : map committed receipts.items ≡ map committed_of (take (length receipts.items) l.pending)
  of_records =
      ap (map committed) are ∙ map-map committed receipt_of (take count records) ∙ sym (map-map committed_of record_fields (take count records))
      ∙ ap (map committed_of) (sym (take-map record_fields count records)) ∙ (λ k. map committed_of (take (as_many k) (sym pending_is k)))

  pub takes_whole : TakesNext l (Whole receipts)
  takes_whole = record {
    taken = subst (λ (o : Option Begun). IsTaken o l.pending (taken_of l (Whole receipts))) (sym none) (inl (packed_front.packed, refl, refl, none));
    within = packed_front.within;
    named = of_records;
    part = tt;
  }

  pub whole_used : bytes_of_records (take count l.pending) ≡ used_by l (Whole receipts)
  whole_used = ap (λ (n : ℕ). bytes_of_records (take n l.pending)) as_many

-- the first part of a record,
module _ (l : RunLog) (first : BegunRecord) (r : Record) (none : l.begun ≡ None) (front : l.pending ≡ r ∷ drop 1 l.pending) (long : log_block_room < size_of r) (is : IsBegunOf r log_block_room first) where
  one : take 1 l.pending ≡ r ∷ []
  one = ap (take 1) front

  pub takes_first : TakesNext l (First first)
  takes_first = record {
    taken = subst (λ (o : Option Begun). IsTaken o l.pending (taken_of l (First first))) (sym none)
        (inr (r, front, one, long, refl, ap (take log_block_room) is.bytes_are, λ k. Some (record { logged = is.logged_is k; written = is.written_is k })));
    within = let some = ap (λ (rs : List Record). length rs) front in omega (arith, some);
    named = ap (λ (c : Committed). c ∷ []) (sym (begun_named first) ∙ ap committed_of is.logged_is) ∙ sym (ap (map committed_of) one);
    part = tt;
  }

  pub first_used : take log_block_room (bytes_of_record r) ≡ used_by l (First first)
  first_used = ap (take log_block_room) (sym is.bytes_are)

-- and a later part of the one that is begun.
pub begun_size : (b : BegunRecord) → length b.bytes.items ≡ size_of (record_fields b.logged.value)
begun_size b = ap (λ (bytes : List ℕ). length bytes) b.spelled ∙ length-bytes_of_record (record_fields b.logged.value)

within_part : (n m : ℕ) → nat_le (n - m) 4008 ≡ nat_le n (m + 4008)
within_part n m = grind (arith, nat_tests)

pub last_part : (b : BegunRecord) (left : ℕ) → left ≡ length b.bytes.items - b.written → nat_le left 4008 ≡ is_last_part (begun_shown b)
last_part b left is = ap (λ (n : ℕ). nat_le n 4008) is ∙ within_part (length b.bytes.items) b.written ∙ ap (λ (n : ℕ). nat_le n (b.written + 4008)) (begun_size b)

pub more_left : (b : BegunRecord) → is_last_part (begun_shown b) ≡ false → b.written + 4008 < length b.bytes.items
more_left b is = subst (λ (n : ℕ). b.written + 4008 < n) (sym (begun_size b)) (leb-false (size_of (record_fields b.logged.value)) (b.written + 4008) is)

part_is : (g : Begun) (rest : List Record) → IsTaken (Some g) rest (record { used = next_part g; begins = []; ends = ended_by_part g; begun = begun_after_part g; pending = rest })
part_is g rest = (refl, refl, refl, by (is_last_part g) refl)
  where
    ended : Bool → List Record
    ended last = cond last (g.logged ∷ []) []

    left : Bool → Option Begun
    left last = cond last None (Some (record g { written = g.written + log_block_room }))

    by : (last : Bool) → is_last_part g ≡ last
        → ((size_of g.logged ≤ g.written + log_block_room) × (ended last ≡ g.logged ∷ []) × (left last ≡ None))
        ⊎ ((g.written + log_block_room < size_of g.logged) × (ended last ≡ []) × (left last ≡ Some (record g { written = g.written + log_block_room })))
    by true is = inl (leb-true (size_of g.logged) (g.written + log_block_room) is, refl, refl)
    by false is = inr (leb-false (size_of g.logged) (g.written + log_block_room) is, refl, refl)

-- Once so many more are written, they are pending no more.
pub pending-written : (written count : ℕ) (records : List code.Record) → map record_fields (drop (written + count) records) ≡ drop count (map record_fields (drop written records))
pending-written written count records = ap (map record_fields) (sym (drop-drop count written records)) ∙ sym (drop-map record_fields count (drop written records))

-- the pending records are within their limits
pub allowed_rest : (written : ℕ) (records : List code.Record) → All IsAllowed (map record_fields records) → All IsAllowed (map record_fields (drop written records))
allowed_rest written records all = subst (λ (rs : List Record). All IsAllowed rs) (drop-map record_fields written records) (All-drop IsAllowed written (map record_fields records) all)

-- The log with a later part is the one after a write of it.
pub part_logged : (l new : RunLog) (address : ℕ) → is_some l.begun ≡ true → new.records ≡ l.records → new.pending ≡ l.pending
    → IfSome l.begun (λ g. new.kept ≡ l.kept ++ part_noted l.next g ∷ []) → IfSome l.begun (λ g. new.begun ≡ begun_after_part g) → new.next ≡ record { address = address; number = l.next.number + 1 }
    → log_shown new ≡ log_after_write (taken_of l Part) address (log_shown l)
part_logged l new address some records pending kept begun next = go l.begun refl kept begun
  where
    go : (o : Option Begun) → l.begun ≡ o → IfSome o (λ g. new.kept ≡ l.kept ++ part_noted l.next g ∷ []) → IfSome o (λ g. new.begun ≡ begun_after_part g)
        → log_shown new ≡ log_after_write (taken_of l Part) address (log_shown l)
    go None is noted left = absurd (let e : false ≡ true = sym (ap (λ (o : Option Begun). is_some o) is) ∙ some in cc)
    go (Some g) is noted left = λ k. record {
      unsynced = map record_fields (records k);
      begun = (left ∙ sym (ap (λ (o : Option Begun). begun_then o Part) is)) k;
      pending = pending k;
      kept = (noted ∙ (λ i. l.kept ++ record (part_noted l.next g) { ends = map committed_of (option_map_or ended_by_part (sym is i) []) } ∷ [])) k;
      next = next k;
    }
