-- What the notes of a device in memory tell of its disk, as they grow.
use Rattle.std.proofs.Common.{◌≡◌, ⊎_elim, ℕ, suc, ◌+◌, ◌-◌, ◌<◌, ◌≤◌, Bool, true, false, List, [], ◌∷◌, ◌++◌, length, take, drop, get_or, set, zero, replicate, refl, sym, ◌∙◌, ap, subst, arith, length-append, length-take, take-append-drop}
use Rattle.std.specs.List.{AllByRecursion, All}
use Rattle.std.proofs.lemmas.List.{take_all, take_at, drop_at, drop_all, take-append-le, drop-append-le, length-replicate, length-take-le}
use Rattle.std.proofs.lemmas.List.Sums.{fold-append}
use Rattle.std.proofs.lemmas.List.Elements.{All-from_recursion, recursion_from_All}
use Rattle.std.proofs.lemmas.Bool.{cases_lt}
use Rattle.base.specs.declared.piece.Piece.{Piece}
use Rattle.base.specs.declared.piece.Piece.TheVariants.{Keep, Lose, Fill}
use Rattle.device_model.specs.declared.notes.Note.{Note}
use Rattle.base.specs.formats.Fields.{part}
use Rattle.base.specs.disk.Disk.{Write, Disk, HasEarlierWrites, put, bytes_after, bytes_of, written, next, settled, certain, certain_with}
use Rattle.base.specs.disk.Crashes.{left, piece_at, image_after, crash_image}
use Rattle.device_model.specs.Notes.{Track, left_of, noted, ended_track, after_note, tracked, replayed, undone, with_piece, with_pieces, ended, IsOpen, Recall, LeadTo, AddsNote, TellSame, Closes}
use Rattle.base.proofs.disk.EarlierWrites.{earlier_settled, earlier_written}
use Rattle.base.proofs.disk.Put.{length-put, put-put_part, put-part}

-- no good flush or crash came after it
abbrev pub GoesOn : Note → Type 0
GoesOn n = n.last ≡ false

abbrev pub Fits : ℕ → Note → Type 0
Fits size n = n.place + length n.content ≤ size

pub length-left : (p : Piece) (done : Bool) (place : ℕ) (content bytes : List ℕ) → place + length content ≤ length bytes → length (left p done place content bytes) ≡ length bytes
length-left Keep true place content bytes fits = length-put place content bytes fits
length-left Keep false place content bytes fits = refl
length-left Lose done place content bytes fits = refl
length-left (Fill b) done place content bytes fits = length-put place (replicate (length content) b) bytes (omega (arith, fits, length-replicate (length content) b))

pub length-left_of : (n : Note) (bytes : List ℕ) → Fits (length bytes) n → length (left_of n bytes) ≡ length bytes
length-left_of n bytes fits = length-left n.piece n.done n.place n.content bytes fits

-- the image is what stands of the notes' writes
image_ended : (b : Bool) (t : Track) → (ended_track b t).image ≡ t.image
image_ended true t = refl
image_ended false t = refl

image_step : (t : Track) (n : Note) → (after_note t n).image ≡ left_of n t.image
image_step t n = image_ended n.last (noted t n)

-- a note after which none came adds its write
pub goes_on_step : (t : Track) (n : Note) → GoesOn n → after_note t n ≡ noted t n
goes_on_step t n is = ap (λ (b : Bool). ended_track b (noted t n)) is

pub image_is : (t : Track) (ns : List Note) → (tracked t ns).image ≡ replayed ns t.image
image_is t [] = refl
image_is t (n ∷ ns) = image_is (after_note t n) ns ∙ ap (λ (l : List ℕ). replayed ns l) (image_step t n)

pub replayed-push : (ns : List Note) (n : Note) (bytes : List ℕ) → replayed (ns ++ n ∷ []) bytes ≡ left_of n (replayed ns bytes)
replayed-push [] n bytes = refl
replayed-push (m ∷ ns) n bytes = replayed-push ns n (left_of m bytes)

-- what a read gives after open notes
open_bytes : (t : Track) (ns : List Note) → AllByRecursion IsOpen ns → t.image ≡ bytes_of t.disk.now → bytes_of (tracked t ns).disk.now ≡ replayed ns t.image
open_bytes t [] each same = sym same
open_bytes t (n ∷ ns) each same =
    let step = goes_on_step t n each.0.goes_on in
    let kept : left_of n t.image ≡ left Keep n.done n.place n.content t.image = ap (λ (p : Piece). left p n.done n.place n.content t.image) each.0.kept in
    let next_same : (after_note t n).image ≡ bytes_of (after_note t n).disk.now =
    image_step t n ∙ kept ∙ ap (λ (l : List ℕ). left Keep n.done n.place n.content l) same ∙ sym (ap (λ (u : Track). bytes_of u.disk.now) step) in
    open_bytes (after_note t n) ns each.1 next_same ∙ ap (λ (l : List ℕ). replayed ns l) (image_step t n)

pub all_push : (P : Note → Type 0) (ns : List Note) (n : Note) → AllByRecursion P ns → P n → AllByRecursion P (ns ++ n ∷ [])
all_push P [] n each last = (last, tt)
all_push P (m ∷ ns) n each last = (each.0, all_push P ns n each.1 last)

pub all_last : (P : Note → Type 0) (ns : List Note) (n : Note) → AllByRecursion P (ns ++ n ∷ []) → P n
all_last P [] n each = each.0
all_last P (m ∷ ns) n each = all_last P ns n each.1

pub all_weaker : (P Q : Note → Type 0) → ((n : Note) → P n → Q n) → (ns : List Note) → AllByRecursion P ns → AllByRecursion Q ns
all_weaker P Q weaker [] each = tt
all_weaker P Q weaker (n ∷ ns) each = (weaker n each.0, all_weaker P Q weaker ns each.1)

recall-push : (bytes : List ℕ) (ns : List Note) (n : Note) → Recall bytes ns → Fits (length (replayed ns bytes)) n → n.old ≡ part (replayed ns bytes) n.place (length n.content) → Recall bytes (ns ++ n ∷ [])
recall-push bytes [] n so_far fits old = (fits, old, tt)
recall-push bytes (m ∷ ns) n so_far fits old = (so_far.0, so_far.1, recall-push (left_of m bytes) ns n so_far.2 fits old)

-- notes that remember take back what they did
pub undone-replayed : (bytes : List ℕ) (ns : List Note) → AllByRecursion IsOpen ns → Recall bytes ns → undone ns (replayed ns bytes) ≡ bytes
undone-replayed bytes [] each recall = refl
undone-replayed bytes (n ∷ ns) each recall =
    ap (λ (l : List ℕ). put n.place n.old l) (undone-replayed (left_of n bytes) ns each.1 recall.2)
    ∙ ap (λ (l : List ℕ). put n.place l (left_of n bytes)) recall.1
    ∙ ap (λ (p : Piece). put n.place (part bytes n.place (length n.content)) (left p n.done n.place n.content bytes)) each.0.kept
    ∙ back n.done
  where
    back : (done : Bool) → put n.place (part bytes n.place (length n.content)) (left Keep done n.place n.content bytes) ≡ bytes
    back true = put-put_part n.place n.content bytes recall.0
    back false = put-part n.place (length n.content) bytes recall.0

pub recall_fits : (bytes : List ℕ) (ns : List Note) → Recall bytes ns → AllByRecursion (Fits (length bytes)) ns
recall_fits bytes [] recall = tt
recall_fits bytes (n ∷ ns) recall =
    let same = length-left_of n bytes recall.0 in
    (recall.0, subst (λ (k : ℕ). AllByRecursion (Fits k) ns) same (recall_fits (left_of n bytes) ns recall.2))

pub recall_old_fits : (bytes : List ℕ) (ns : List Note) → Recall bytes ns → AllByRecursion (λ n. n.place + length n.old ≤ length bytes) ns
recall_old_fits bytes [] recall = tt
recall_old_fits bytes (n ∷ ns) recall =
    let same = length-left_of n bytes recall.0 in
    let long : length n.old ≤ length n.content = omega (arith, ap (λ (l : List ℕ). length l) recall.1, length-take (length n.content) (drop n.place bytes)) in
    (omega (arith, recall.0, long), subst (λ (k : ℕ). AllByRecursion (λ (m : Note). m.place + length m.old ≤ k) ns) same (recall_old_fits (left_of n bytes) ns recall.2))

pub length-replayed : (ns : List Note) (bytes : List ℕ) → AllByRecursion (Fits (length bytes)) ns → length (replayed ns bytes) ≡ length bytes
length-replayed [] bytes fits = refl
length-replayed (n ∷ ns) bytes fits =
    let same = length-left_of n bytes fits.0 in
    length-replayed ns (left_of n bytes) (subst (λ (k : ℕ). AllByRecursion (Fits k) ns) (sym same) fits.1) ∙ same

-- where nothing is unflushed the image is what a read gives
flat : (t : Track) → t.disk.now.unflushed ≡ [] → t.image ≡ t.disk.now.flushed → t.image ≡ bytes_of t.disk.now
flat t none same = same ∙ ap (λ (ws : List Write). bytes_after t.disk.now.flushed ws) (sym none)

-- the disk is as a read gives it
pub bytes_now : (t : Track) (ns : List Note) (bytes : List ℕ) → LeadTo t ns bytes → bytes_of (tracked t ns).disk.now ≡ bytes
bytes_now t ns bytes leads = open_bytes t ns leads.each_open (flat t leads.certain leads.same) ∙ sym leads.bytes_are

tracked-append : (t : Track) (front back : List Note) → tracked t (front ++ back) ≡ tracked (tracked t front) back
tracked-append t front back = fold-append after_note t front back

-- what stood before a write does not matter to what its note tells
pub tracked-set : (t : Track) (notes : List Note) (i : ℕ) (n m : Note) → n ≡ get_or notes i n → ((u : Track) → after_note u m ≡ after_note u n) → tracked t (set notes i m) ≡ tracked t notes
tracked-set t [] i n m is same = refl
tracked-set t (x ∷ notes) zero n m is same = ap (λ (u : Track). tracked u notes) (same t ∙ ap (λ (y : Note). after_note t y) is)
tracked-set t (x ∷ notes) (suc i) n m is same = tracked-set (after_note t x) notes i n m is same

-- notes that tell the same lead to the same
pub tells_leads : (first : Track) (closed new : List Note) (bytes : List ℕ) → TellSame closed new → length new ≡ length closed → LeadTo (tracked first (take (length closed) closed)) (drop (length closed) closed) bytes
    → LeadTo (tracked first (take (length new) new)) (drop (length new) new) bytes
tells_leads first closed new bytes tells long leads =
    subst (λ (l : List Note). LeadTo (tracked first l) (drop (length new) new) bytes) (sym (take_all (length new) new (omega arith)))
    (subst (λ (l : List Note). LeadTo (tracked first new) l bytes) (sym (drop_all (length new) new (omega arith)))
    (subst (λ (t : Track). LeadTo t [] bytes) (sym (tells first))
    (subst (λ (l : List Note). LeadTo (tracked first l) [] bytes) (take_all (length closed) closed (omega arith))
    (subst (λ (l : List Note). LeadTo (tracked first (take (length closed) closed)) l bytes) (drop_all (length closed) closed (omega arith)) leads))))

-- the fields of a device: where it started, how many notes are settled, the notes, the bytes
module _ (first : Track) (k : ℕ) (notes : List Note) (counted : k ≤ length notes) where
  pub split : tracked first notes ≡ tracked (tracked first (take k notes)) (drop k notes)
  split = ap (λ (l : List Note). tracked first l) (sym (take-append-drop k notes)) ∙ tracked-append first (take k notes) (drop k notes)

  pub reads : (bytes : List ℕ) → LeadTo (tracked first (take k notes)) (drop k notes) bytes → bytes_of (tracked first notes).disk.now ≡ bytes
  reads bytes leads = ap (λ (t : Track). bytes_of t.disk.now) split ∙ bytes_now (tracked first (take k notes)) (drop k notes) bytes leads

  -- one write more
  pub leads_on : (bytes : List ℕ) (more : List Note) (place : ℕ) (content : List ℕ) (done : Bool) → LeadTo (tracked first (take k notes)) (drop k notes) bytes → AddsNote notes more place content done bytes → place + length content ≤ length bytes
      → LeadTo (tracked first (take k more)) (drop k more) (left Keep done place content bytes)
  leads_on bytes more place content done leads adds fits =
      subst (λ (l : List Note). LeadTo (tracked first (take k l)) (drop k l) (left Keep done place content bytes)) (sym adds.added)
      (subst (λ (l : List Note). LeadTo (tracked first l) (drop k (notes ++ adds.note ∷ [])) (left Keep done place content bytes)) (sym (take-append-le k notes (adds.note ∷ []) counted))
      (subst (λ (l : List Note). LeadTo (tracked first (take k notes)) l (left Keep done place content bytes)) (sym (drop-append-le k notes (adds.note ∷ []) counted)) (record {
        certain = leads.certain;
        same = leads.same;
        each_open = all_push IsOpen (drop k notes) adds.note leads.each_open adds.tells.open_is;
        recall = recall-push (tracked first (take k notes)).image (drop k notes) adds.note leads.recall
            (omega (arith, fits, ap (λ (l : List ℕ). length l) leads.bytes_are, ap (λ (l : List ℕ). length l) adds.tells.content_is, adds.tells.place_is))
            (adds.tells.old_is ∙ ap (λ (l : List ℕ). part l place (length content)) leads.bytes_are ∙ same_part);
        bytes_are = ap (λ (l : List ℕ). left Keep done place content l) leads.bytes_are ∙ sym (replayed-push (drop k notes) adds.note (tracked first (take k notes)).image ∙ same_left);
      })))
    where
      base : List ℕ
      base = replayed (drop k notes) (tracked first (take k notes)).image

      same_part : part base place (length content) ≡ part base adds.note.place (length adds.note.content)
      same_part = ap (λ (p : ℕ). part base p (length content)) (sym adds.tells.place_is) ∙ ap (λ (l : List ℕ). part base adds.note.place (length l)) (sym adds.tells.content_is)

      same_left : left_of adds.note base ≡ left Keep done place content base
      same_left = ap (λ (p : Piece). left p adds.note.done adds.note.place adds.note.content base) adds.tells.open_is.kept
          ∙ ap (λ (b : Bool). left Keep b adds.note.place adds.note.content base) adds.tells.done_is
          ∙ ap (λ (p : ℕ). left Keep done p adds.note.content base) adds.tells.place_is
          ∙ ap (λ (l : List ℕ). left Keep done place l base) adds.tells.content_is

  pub writes_disk : (bytes : List ℕ) (more : List Note) (place : ℕ) (content : List ℕ) (done : Bool) → AddsNote notes more place content done bytes → (tracked first more).disk ≡ written place content done (tracked first notes).disk
  writes_disk bytes more place content done adds =
      ap (λ (l : List Note). (tracked first l).disk) adds.added
      ∙ ap (λ (t : Track). t.disk) (tracked-append first notes (adds.note ∷ []) ∙ goes_on_step (tracked first notes) adds.note adds.tells.open_is.goes_on)
      ∙ ap (λ (p : ℕ). written p adds.note.content adds.note.done (tracked first notes).disk) adds.tells.place_is
      ∙ ap (λ (l : List ℕ). written place l adds.note.done (tracked first notes).disk) adds.tells.content_is
      ∙ ap (λ (b : Bool). written place content b (tracked first notes).disk) adds.tells.done_is

all_drop_last : (P : Note → Type 0) (k : ℕ) (front : List Note) (n : Note) → k ≤ length front → AllByRecursion P (drop k (front ++ n ∷ [])) → P n
all_drop_last P k front n within each = all_last P (drop k front) n (subst (λ (l : List Note). AllByRecursion P l) (drop-append-le k front (n ∷ []) within) each)

-- a track at which nothing is unflushed, with no notes after it
pub settled_leads : (t : Track) → t.disk.now.unflushed ≡ [] → t.image ≡ t.disk.now.flushed → (bytes : List ℕ) → bytes ≡ t.image → LeadTo t [] bytes
settled_leads t none same bytes is = record { certain = none; same = same; each_open = tt; recall = tt; bytes_are = is }

certain_none : (image : List ℕ) (disk : Disk) → disk.now.unflushed ≡ [] → certain image disk ≡ disk
certain_none image disk none = ap (λ (ws : List Write). certain_with image disk ws) none

-- the newest note becomes the last before a good flush or a crash
module _ (first : Track) (k : ℕ) (notes closed : List Note) (counted : k ≤ length notes) (closes : Closes k notes closed) (each : AllByRecursion GoesOn (drop k notes))
    (none : (tracked first (take k notes)).disk.now.unflushed ≡ []) (same : (tracked first (take k notes)).image ≡ (tracked first (take k notes)).disk.now.flushed) where
  abbrev pub image : List ℕ
  image = (tracked first notes).image

  pub record Closed : Type 0 where
    pub disk : (tracked first closed).disk ≡ certain image (tracked first notes).disk
    pub leads : LeadTo (tracked first (take (length closed) closed)) (drop (length closed) closed) image

  whole : (LeadTo (tracked first closed) [] image) → LeadTo (tracked first (take (length closed) closed)) (drop (length closed) closed) image
  whole leads =
      subst (λ (l : List Note). LeadTo (tracked first l) (drop (length closed) closed) image) (sym (take_all (length closed) closed (omega arith)))
      (subst (λ (l : List Note). LeadTo (tracked first closed) l image) (sym (drop_all (length closed) closed (omega arith))) leads)

  nothing_new : length notes ≤ k → Closed
  nothing_new short =
      let is : closed ≡ notes = closes.none short in
      let all : take k notes ≡ notes = take_all k notes short in
      let none_now : (tracked first notes).disk.now.unflushed ≡ [] = ap (λ (l : List Note). (tracked first l).disk.now.unflushed) (sym all) ∙ none in
      let same_now : (tracked first notes).image ≡ (tracked first notes).disk.now.flushed = subst (λ (l : List Note). (tracked first l).image ≡ (tracked first l).disk.now.flushed) all same in
      record {
        disk = ap (λ (l : List Note). (tracked first l).disk) is ∙ sym (certain_none image (tracked first notes).disk none_now);
        leads = whole (subst (λ (l : List Note). LeadTo (tracked first l) [] image) (sym is) (settled_leads (tracked first notes) none_now same_now image refl));
      }

  one_closed : k < length notes → Closed
  one_closed more =
      let cut = closes.some more in
      let n = cut.0 in
      let front = take (length notes - 1) notes in
      let long : k ≤ length front = omega (arith, more, length-take (length notes - 1) notes) in
      let open_end : GoesOn n = all_drop_last GoesOn k front n long (subst (λ (l : List Note). AllByRecursion GoesOn (drop k l)) cut.1 each) in
      let before : tracked first notes ≡ noted (tracked first front) n = ap (λ (l : List Note). tracked first l) cut.1 ∙ tracked-append first front (n ∷ []) ∙ goes_on_step (tracked first front) n open_end in
      let after : tracked first closed ≡ ended_track true (noted (tracked first front) n) = ap (λ (l : List Note). tracked first l) cut.2 ∙ tracked-append first front (ended n ∷ []) in
      let last : tracked first closed ≡ ended_track true (tracked first notes) = after ∙ ap (λ (t : Track). ended_track true t) (sym before) in
      let certain_is : certain image (tracked first notes).disk ≡ next (settled image (tracked first notes).disk.now) (tracked first notes).disk =
      subst (λ (t : Track). certain t.image t.disk ≡ next (settled t.image t.disk.now) t.disk) (sym before) refl in
      record {
        disk = ap (λ (t : Track). t.disk) last ∙ sym certain_is;
        leads = whole (settled_leads (tracked first closed) (ap (λ (t : Track). t.disk.now.unflushed) last) (ap (λ (t : Track). t.image) last ∙ sym (ap (λ (t : Track). t.disk.now.flushed) last)) image (sym (ap (λ (t : Track). t.image) last)));
      }

  pub closes_disk : Closed
  closes_disk = ⊎_elim one_closed nothing_new (cases_lt k (length notes))

-- pieces change what a crash leaves, and nothing else
with_pieces_goes_on : (pieces : List Piece) (i : ℕ) (ns : List Note) → AllByRecursion GoesOn ns → AllByRecursion GoesOn (with_pieces pieces i ns)
with_pieces_goes_on pieces i [] each = tt
with_pieces_goes_on pieces i (n ∷ ns) each = (each.0, with_pieces_goes_on pieces (i + 1) ns each.1)

with_pieces_fits : (size : ℕ) (pieces : List Piece) (i : ℕ) (ns : List Note) → AllByRecursion (Fits size) ns → AllByRecursion (Fits size) (with_pieces pieces i ns)
with_pieces_fits size pieces i [] each = tt
with_pieces_fits size pieces i (n ∷ ns) each = (each.0, with_pieces_fits size pieces (i + 1) ns each.1)

same_disk : (pieces : List Piece) (i : ℕ) (ns : List Note) (t u : Track) → AllByRecursion GoesOn ns → t.disk ≡ u.disk → (tracked t (with_pieces pieces i ns)).disk ≡ (tracked u ns).disk
same_disk pieces i [] t u each same = same
same_disk pieces i (n ∷ ns) t u each same =
    same_disk pieces (i + 1) ns (after_note t (with_piece (piece_at pieces i) n)) (after_note u n) each.1
    (ap (λ (v : Track). v.disk) (goes_on_step t (with_piece (piece_at pieces i) n) each.0) ∙ ap (λ (d : Disk). written n.place n.content n.done d) same ∙ sym (ap (λ (v : Track). v.disk) (goes_on_step u n each.0)))

-- the image of a track, by the pieces of its unflushed writes
record HasImage (pieces : List Piece) (i : ℕ) (flushed : List ℕ) (t : Track) : Type 0 where
  image : t.image ≡ image_after pieces flushed t.disk.now.unflushed
  count : length t.disk.now.unflushed ≡ i
  flushed_is : t.disk.now.flushed ≡ flushed

image_of_pieces : (pieces : List Piece) (i : ℕ) (flushed : List ℕ) (ns : List Note) (t : Track) → AllByRecursion GoesOn ns → HasImage pieces i flushed t → HasImage pieces (i + length ns) flushed (tracked t (with_pieces pieces i ns))
image_of_pieces pieces i flushed [] t each has = record { image = has.image; count = omega (arith, has.count); flushed_is = has.flushed_is }
image_of_pieces pieces i flushed (n ∷ ns) t each has =
    let m = with_piece (piece_at pieces i) n in
    let at : i + 1 + length ns ≡ i + suc (length ns) = omega arith in
    let step : HasImage pieces (i + 1) flushed (noted t m) = record {
      image = ap (λ (l : List ℕ). left (piece_at pieces i) n.done n.place n.content l) has.image ∙ ap (λ (j : ℕ). left (piece_at pieces j) n.done n.place n.content (image_after pieces flushed t.disk.now.unflushed)) (sym has.count);
      count = omega (arith, has.count);
      flushed_is = has.flushed_is;
    } in
    subst (λ (j : ℕ). HasImage pieces j flushed (tracked (after_note t m) (with_pieces pieces (i + 1) ns))) at
    (image_of_pieces pieces (i + 1) flushed ns (after_note t m) each.1 (subst (λ (u : Track). HasImage pieces (i + 1) flushed u) (sym (goes_on_step t m each.0)) step))

-- a crash with these pieces
module _ (first : Track) (k : ℕ) (notes marked : List Note) (bytes : List ℕ) (pieces : List Piece) (counted : k ≤ length notes) (leads : LeadTo (tracked first (take k notes)) (drop k notes) bytes)
    (is : marked ≡ take k notes ++ with_pieces pieces 0 (drop k notes)) where
  abbrev from : Track
  from = tracked first (take k notes)

  abbrev behind : List Note
  behind = drop k notes

  goes : AllByRecursion GoesOn behind
  goes = all_weaker IsOpen GoesOn (λ n is_open. is_open.goes_on) behind leads.each_open

  front_long : length (take k notes) ≡ k
  front_long = length-take-le k notes counted

  pub marked_counted : k ≤ length marked
  marked_counted = omega (arith, ap (λ (l : List Note). length l) is, length-append (take k notes) (with_pieces pieces 0 behind), front_long)

  pub marked_front : take k marked ≡ take k notes
  marked_front = ap (λ (l : List Note). take k l) is ∙ take_at (take k notes) (with_pieces pieces 0 behind) k front_long

  pub marked_behind : drop k marked ≡ with_pieces pieces 0 behind
  marked_behind = ap (λ (l : List Note). drop k l) is ∙ drop_at (take k notes) (with_pieces pieces 0 behind) k front_long

  pub marked_goes : AllByRecursion GoesOn (drop k marked)
  marked_goes = subst (λ (l : List Note). AllByRecursion GoesOn l) (sym marked_behind) (with_pieces_goes_on pieces 0 behind goes)

  marked_track : tracked first marked ≡ tracked from (with_pieces pieces 0 behind)
  marked_track = ap (λ (l : List Note). tracked first l) is ∙ tracked-append first (take k notes) (with_pieces pieces 0 behind)

  pub marked_disk : (tracked first marked).disk ≡ (tracked first notes).disk
  marked_disk = ap (λ (t : Track). t.disk) marked_track ∙ same_disk pieces 0 behind from from goes refl ∙ sym (ap (λ (t : Track). t.disk) (split first k notes counted))

  has_image : HasImage pieces (0 + length behind) from.disk.now.flushed (tracked from (with_pieces pieces 0 behind))
  has_image = image_of_pieces pieces 0 from.disk.now.flushed behind from goes (record {
    image = leads.same ∙ ap (λ (ws : List Write). image_after pieces from.disk.now.flushed ws) (sym leads.certain);
    count = ap (λ (ws : List Write). length ws) leads.certain;
    flushed_is = refl;
  })

  -- the image that the crash leaves
  pub marked_image : (tracked first marked).image ≡ crash_image pieces (tracked first notes).disk.now
  marked_image = ap (λ (t : Track). t.image) marked_track ∙ has_image.image ∙ ap (λ (f : List ℕ). image_after pieces f (tracked from (with_pieces pieces 0 behind)).disk.now.unflushed) (sym has_image.flushed_is)
      ∙ ap (λ (t : Track). crash_image pieces t.disk.now) (sym marked_track) ∙ ap (λ (d : Disk). crash_image pieces d.now) marked_disk

  pub undo_fits : All (λ n. n.place + length n.old ≤ length bytes) behind
  undo_fits = All-from_recursion _ behind (subst (λ (j : ℕ). AllByRecursion (λ (n : Note). n.place + length n.old ≤ j) behind) (sym long) (recall_old_fits from.image behind leads.recall))
    where
      long : length bytes ≡ length from.image
      long = ap (λ (l : List ℕ). length l) leads.bytes_are ∙ length-replayed behind from.image (recall_fits from.image behind leads.recall)

  pub undone_bytes : undone behind bytes ≡ from.image
  undone_bytes = ap (λ (l : List ℕ). undone behind l) leads.bytes_are ∙ undone-replayed from.image behind leads.each_open leads.recall

  pub replay_fits : AllByRecursion (Fits (length from.image)) (drop k marked)
  replay_fits = subst (λ (l : List Note). AllByRecursion (Fits (length from.image)) l) (sym marked_behind) (with_pieces_fits (length from.image) pieces 0 behind (recall_fits from.image behind leads.recall))

  pub replayed_bytes : replayed (drop k marked) from.image ≡ (tracked first marked).image
  replayed_bytes = ap (λ (l : List Note). replayed l from.image) marked_behind ∙ sym (image_is from (with_pieces pieces 0 behind)) ∙ sym (ap (λ (t : Track). t.image) marked_track)

pub with_pieces_all_fit : (size : ℕ) (pieces : List Piece) (ns : List Note) → All (λ n. n.place + length n.content ≤ size) ns → All (λ n. n.place + length n.content ≤ size) (with_pieces pieces 0 ns)
with_pieces_all_fit size pieces ns each = All-from_recursion (Fits size) (with_pieces pieces 0 ns) (with_pieces_fits size pieces 0 ns (recursion_from_All (Fits size) ns each))

-- each write that counts is earlier than the disk now, whatever the notes are
earlier_note : (t : Track) (n : Note) → HasEarlierWrites t.disk → HasEarlierWrites (after_note t n).disk
earlier_note t n earlier = by_last n.last (earlier_written n.place n.content n.done t.disk earlier)
  where
    by_last : (last : Bool) → HasEarlierWrites (noted t n).disk → HasEarlierWrites (ended_track last (noted t n)).disk
    by_last true noted_earlier = earlier_settled (noted t n).image (noted t n).disk noted_earlier
    by_last false noted_earlier = noted_earlier

pub tracked_earlier : (t : Track) (ns : List Note) → HasEarlierWrites t.disk → HasEarlierWrites (tracked t ns).disk
tracked_earlier t [] earlier = earlier
tracked_earlier t (n ∷ ns) earlier = tracked_earlier (after_note t n) ns (earlier_note t n earlier)
