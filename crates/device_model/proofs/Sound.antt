-- The fields of a device in memory, and the disk that they stand for.
use Rattle.std.proofs.Common.{◌≡◌, ℕ, ◌+◌, ◌-◌, ◌*◌, ◌≤◌, Bool, false, List, [], ◌∷◌, ◌++◌, length, take, drop, sym, ◌∙◌, ap, subst, arith, length-drop, length-append, Result, Ok, Err, OnOk, is_err}
use Rattle.std.specs.List.{AllByRecursion, All}
use Rattle.std.proofs.lemmas.List.Elements.{All-from_recursion}
use Rattle.base.specs.declared.piece.Piece.{Piece}
use Rattle.device_model.specs.declared.notes.Note.{Note}
use Rattle.device_model.specs.declared.memory.MemDevice.TheInside.{Inside}
use Rattle.base.specs.disk.Disk.{Write, Disk, MayLeave, bytes_of, written, certain}
use Rattle.device_model.proofs.Left.{FitsWrite, crash_may_leave, open_fit}
use Rattle.base.specs.declared.piece.Piece.TheVariants.{Keep}
use Rattle.base.specs.disk.Crashes.{left, crash_image}
use Rattle.device_model.specs.Notes.{Track, after_note, tracked, start, IsOpen, LeadTo, AddsNote, Closes, with_pieces, replayed, undone}
use Rattle.device_model.specs.MemState.{MemState}
use Rattle.device_model.specs.Memory.{state_of, IsSoundDevice}
use Rattle.device_model.proofs.Tracks.{GoesOn, reads, split, goes_on_step, leads_on, writes_disk, image_is, all_weaker, Closed, closes_disk, Fits, recall_fits, length-replayed, marked_counted, marked_front, marked_goes, marked_behind, marked_disk, marked_image, undone_bytes, replayed_bytes, recall_old_fits}

-- from the lists that the fields hold
pub sound : (m : Inside) (bytes : List ℕ) (notes : List Note) → m.bytes.items ≡ bytes → m.notes.items ≡ notes → length bytes ≡ 512 * m.sectors → m.settled ≤ length notes → LeadTo (tracked (start m.sectors) (take m.settled notes)) (drop m.settled notes) bytes → IsSoundDevice m
sound m bytes notes bytes_are notes_are size counted leads = record {
  size = ap (λ (l : List ℕ). length l) bytes_are ∙ size;
  counted = omega (arith, counted, ap (λ (l : List Note). length l) notes_are);
  leads = subst (λ (l : List ℕ). LeadTo (tracked (start m.sectors) (take m.settled m.notes.items)) (drop m.settled m.notes.items) l) (sym bytes_are)
      (subst (λ (l : List Note). LeadTo (tracked (start m.sectors) (take m.settled l)) (drop m.settled l) bytes) (sym notes_are) leads);
}

-- what a read gives is what the bytes are
pub sound_reads : (m : Inside) → IsSoundDevice m → bytes_of (state_of m).disk.now ≡ m.bytes.items
sound_reads m is = reads (start m.sectors) m.settled m.notes.items is.counted m.bytes.items is.leads

-- how many writes are unflushed
open_count : (t : Track) (ns : List Note) → AllByRecursion IsOpen ns → length (tracked t ns).disk.now.unflushed ≡ length t.disk.now.unflushed + length ns
open_count t [] each = omega arith
open_count t (n ∷ ns) each =
    let step : length (after_note t n).disk.now.unflushed ≡ length t.disk.now.unflushed + 1 = ap (λ (u : Track). length u.disk.now.unflushed) (goes_on_step t n each.0.goes_on) ∙ omega arith in
    omega (arith, open_count (after_note t n) ns each.1, step)

pub sound_unflushed : (m : Inside) → IsSoundDevice m → length m.notes.items - m.settled ≡ length (state_of m).disk.now.unflushed
sound_unflushed m is =
    let from = tracked (start m.sectors) (take m.settled m.notes.items) in
    let none : length from.disk.now.unflushed ≡ 0 = ap (λ (ws : List Write). length ws) is.leads.certain in
    let whole = ap (λ (t : Track). length t.disk.now.unflushed) (split (start m.sectors) m.settled m.notes.items is.counted) in
    omega (arith, open_count from (drop m.settled m.notes.items) is.leads.each_open, none, whole, length-drop m.settled m.notes.items)

-- what an answer that is no error promises
pub from_ok : {A E : Type 0} (P : Type 0) (r : Result A E) → is_err r ≡ false → OnOk r P → P
from_ok P (Ok x) no_error p = p
from_ok P (Err e) no_error p = absurd (cc no_error)

-- one write more
module _ (m : Inside) (is : IsSoundDevice m) (more : List Note) (place : ℕ) (content seen : List ℕ) (done : Bool) (same : seen ≡ m.bytes.items)
    (adds : AddsNote m.notes.items more place content done seen) (fits : place + length content ≤ 512 * m.sectors) where
  adds_here : AddsNote m.notes.items more place content done m.bytes.items
  adds_here = subst (λ (l : List ℕ). AddsNote m.notes.items more place content done l) same adds

  pub write_counted : m.settled ≤ length more
  write_counted = omega (arith, is.counted, ap (λ (l : List Note). length l) adds.added, length-append m.notes.items (adds.note ∷ []))

  pub write_leads : LeadTo (tracked (start m.sectors) (take m.settled more)) (drop m.settled more) (left Keep done place content m.bytes.items)
  write_leads = leads_on (start m.sectors) m.settled m.notes.items is.counted m.bytes.items more place content done is.leads adds_here (omega (arith, fits, is.size))

  pub write_disk : (tracked (start m.sectors) more).disk ≡ written place content done (state_of m).disk
  write_disk = writes_disk (start m.sectors) m.settled m.notes.items is.counted m.bytes.items more place content done adds_here

-- the notes are closed: a good flush
module _ (m : Inside) (is : IsSoundDevice m) (closed : List Note) (closes : Closes m.settled m.notes.items closed) where
  goes : AllByRecursion GoesOn (drop m.settled m.notes.items)
  goes = all_weaker IsOpen GoesOn (λ n is_open. is_open.goes_on) (drop m.settled m.notes.items) is.leads.each_open

  image_is_bytes : (tracked (start m.sectors) m.notes.items).image ≡ m.bytes.items
  image_is_bytes = ap (λ (t : Track). t.image) (split (start m.sectors) m.settled m.notes.items is.counted) ∙ image_is (tracked (start m.sectors) (take m.settled m.notes.items)) (drop m.settled m.notes.items) ∙ sym is.leads.bytes_are

  shut : Closed (start m.sectors) m.settled m.notes.items closed is.counted closes goes is.leads.certain is.leads.same
  shut = closes_disk (start m.sectors) m.settled m.notes.items closed is.counted closes goes is.leads.certain is.leads.same

  pub flush_leads : LeadTo (tracked (start m.sectors) (take (length closed) closed)) (drop (length closed) closed) m.bytes.items
  flush_leads = subst (λ (l : List ℕ). LeadTo (tracked (start m.sectors) (take (length closed) closed)) (drop (length closed) closed) l) image_is_bytes shut.leads

  pub flush_disk : (tracked (start m.sectors) closed).disk ≡ certain (bytes_of (state_of m).disk.now) (state_of m).disk
  flush_disk = shut.disk ∙ ap (λ (l : List ℕ). certain l (state_of m).disk) (image_is_bytes ∙ sym (sound_reads m is))

-- what is taken back, and what is left, lies on the device
module _ (m : Inside) (is : IsSoundDevice m) where
  bytes_long : length m.bytes.items ≡ length (tracked (start m.sectors) (take m.settled m.notes.items)).image
  bytes_long = ap (λ (l : List ℕ). length l) is.leads.bytes_are ∙ length-replayed (drop m.settled m.notes.items) (tracked (start m.sectors) (take m.settled m.notes.items)).image (recall_fits (tracked (start m.sectors) (take m.settled m.notes.items)).image (drop m.settled m.notes.items) is.leads.recall)

  pub old_fits : (size : ℕ) → size ≡ length m.bytes.items → All (λ n. n.place + length n.old ≤ size) (drop m.settled m.notes.items)
  old_fits size long = All-from_recursion _ (drop m.settled m.notes.items) (subst (λ (k : ℕ). AllByRecursion (λ (n : Note). n.place + length n.old ≤ k) (drop m.settled m.notes.items)) (sym (long ∙ bytes_long)) (recall_old_fits (tracked (start m.sectors) (take m.settled m.notes.items)).image (drop m.settled m.notes.items) is.leads.recall))

  pub content_fits : (size : ℕ) → size ≡ length m.bytes.items → All (λ n. n.place + length n.content ≤ size) (drop m.settled m.notes.items)
  content_fits size long = All-from_recursion _ (drop m.settled m.notes.items) (subst (λ (k : ℕ). AllByRecursion (Fits k) (drop m.settled m.notes.items)) (sym (long ∙ bytes_long)) (recall_fits (tracked (start m.sectors) (take m.settled m.notes.items)).image (drop m.settled m.notes.items) is.leads.recall))

-- a crash that leaves these pieces
module _ (m : Inside) (is : IsSoundDevice m) (pieces : List Piece) (marked closed : List Note) (marked_is : marked ≡ take m.settled m.notes.items ++ with_pieces pieces 0 (drop m.settled m.notes.items)) (closes : Closes m.settled marked closed) where
  abbrev from : Track
  from = tracked (start m.sectors) (take m.settled m.notes.items)

  marked_within : m.settled ≤ length marked
  marked_within = marked_counted (start m.sectors) m.settled m.notes.items marked m.bytes.items pieces is.counted is.leads marked_is

  front_is : take m.settled marked ≡ take m.settled m.notes.items
  front_is = marked_front (start m.sectors) m.settled m.notes.items marked m.bytes.items pieces is.counted is.leads marked_is

  none : (tracked (start m.sectors) (take m.settled marked)).disk.now.unflushed ≡ []
  none = subst (λ (l : List Note). (tracked (start m.sectors) l).disk.now.unflushed ≡ []) (sym front_is) is.leads.certain

  same : (tracked (start m.sectors) (take m.settled marked)).image ≡ (tracked (start m.sectors) (take m.settled marked)).disk.now.flushed
  same = subst (λ (l : List Note). (tracked (start m.sectors) l).image ≡ (tracked (start m.sectors) l).disk.now.flushed) (sym front_is) is.leads.same

  shut_marked : Closed (start m.sectors) m.settled marked closed marked_within closes (marked_goes (start m.sectors) m.settled m.notes.items marked m.bytes.items pieces is.counted is.leads marked_is) none same
  shut_marked = closes_disk (start m.sectors) m.settled marked closed marked_within closes (marked_goes (start m.sectors) m.settled m.notes.items marked m.bytes.items pieces is.counted is.leads marked_is) none same

  -- what the code leaves: first all is taken back, then the pieces are written
  pub crash_bytes : replayed (with_pieces pieces 0 (drop m.settled m.notes.items)) (undone (drop m.settled m.notes.items) m.bytes.items) ≡ (tracked (start m.sectors) marked).image
  crash_bytes = ap (λ (l : List ℕ). replayed (with_pieces pieces 0 (drop m.settled m.notes.items)) l) (undone_bytes (start m.sectors) m.settled m.notes.items marked m.bytes.items pieces is.counted is.leads marked_is)
      ∙ ap (λ (l : List Note). replayed l from.image) (sym (marked_behind (start m.sectors) m.settled m.notes.items marked m.bytes.items pieces is.counted is.leads marked_is))
      ∙ replayed_bytes (start m.sectors) m.settled m.notes.items marked m.bytes.items pieces is.counted is.leads marked_is

  pub crash_leads : (bytes : List ℕ) → bytes ≡ (tracked (start m.sectors) marked).image → LeadTo (tracked (start m.sectors) (take (length closed) closed)) (drop (length closed) closed) bytes
  crash_leads bytes is_image = subst (λ (l : List ℕ). LeadTo (tracked (start m.sectors) (take (length closed) closed)) (drop (length closed) closed) l) (sym is_image) shut_marked.leads

  pub crash_disk : (tracked (start m.sectors) closed).disk ≡ certain (crash_image pieces (state_of m).disk.now) (state_of m).disk
  crash_disk = shut_marked.disk
      ∙ ap (λ (l : List ℕ). certain l (tracked (start m.sectors) marked).disk) (marked_image (start m.sectors) m.settled m.notes.items marked m.bytes.items pieces is.counted is.leads marked_is)
      ∙ ap (λ (d : Disk). certain (crash_image pieces (state_of m).disk.now) d) (marked_disk (start m.sectors) m.settled m.notes.items marked m.bytes.items pieces is.counted is.leads marked_is)

-- and that image is one that a crash may leave
pub crash_possible : (m : Inside) → IsSoundDevice m → (pieces : List Piece) → MayLeave (state_of m).disk.now (crash_image pieces (state_of m).disk.now)
crash_possible m is pieces =
    let from = tracked (start m.sectors) (take m.settled m.notes.items) in
    let behind = drop m.settled m.notes.items in
    let size = ap (λ (l : List ℕ). length l) is.leads.same in
    let fits = recall_fits from.image behind is.leads.recall in
    let none : AllByRecursion (FitsWrite (length from.image)) from.disk.now.unflushed = subst (λ (ws : List Write). AllByRecursion (FitsWrite (length from.image)) ws) (sym is.leads.certain) tt in
    let all = open_fit (length from.image) from behind is.leads.each_open fits none in
    let flushed : length from.image ≡ length (tracked from behind).disk.now.flushed = size ∙ ap (λ (l : List ℕ). length l) (sym all.1) in
    subst (λ (t : Track). MayLeave t.disk.now (crash_image pieces t.disk.now)) (sym (split (start m.sectors) m.settled m.notes.items is.counted))
    (crash_may_leave pieces (tracked from behind).disk.now (subst (λ (k : ℕ). AllByRecursion (FitsWrite k) (tracked from behind).disk.now.unflushed) flushed all.0))

-- the size that callers see is that of the bytes
pub seen_size : (m : Inside) (v : MemState) → IsSoundDevice m → state_of m ≡ v → length (bytes_of v.disk.now) ≡ length m.bytes.items
seen_size m v is view_is = ap (λ (w : MemState). length (bytes_of w.disk.now)) (sym view_is) ∙ ap (λ (l : List ℕ). length l) (sound_reads m is)

-- and stays while the number of sectors does
pub same_size : (m after : Inside) (v : MemState) → IsSoundDevice m → IsSoundDevice after → after.sectors ≡ m.sectors → state_of m ≡ v → length (bytes_of (state_of after).disk.now) ≡ length (bytes_of v.disk.now)
same_size m after v is is_after same view_is =
    omega (arith, seen_size m v is view_is, ap (λ (l : List ℕ). length l) (sound_reads after is_after), is.size, is_after.size, same)
