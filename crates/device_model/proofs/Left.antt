-- The image that a crash with given pieces leaves is one that a crash may leave.
use Rattle.std.proofs.Common.{◌≡◌, ◌⊎◌, inl, inr, ⊎_elim, ℕ, ◌+◌, ◌<◌, ◌≤◌, Bool, true, false, List, [], ◌∷◌, length, get_or, replicate, refl, sym, ◌∙◌, ap, subst, arith}
use Rattle.std.specs.List.{AllByRecursion}
use Rattle.std.proofs.lemmas.List.{length-replicate}
use Rattle.std.proofs.lemmas.Bool.{cases_lt}
use Rattle.base.specs.declared.piece.Piece.{Piece}
use Rattle.base.specs.declared.piece.Piece.TheVariants.{Keep, Lose, Fill}
use Rattle.device_model.specs.declared.notes.Note.{Note}
use Rattle.base.specs.disk.Disk.{Write, Moment, bytes_after, IsTouched, MayLeave}
use Rattle.base.specs.disk.Crashes.{left, piece_at, image_after, crash_image}
use Rattle.device_model.specs.Notes.{Track, after_note, tracked, IsOpen}
use Rattle.base.proofs.disk.Put.{get_or-put_other}
use Rattle.device_model.proofs.Tracks.{Fits, length-left, goes_on_step}

abbrev pub FitsWrite : ℕ → Write → Type 0
FitsWrite size w = w.place + length w.content ≤ size

-- outside its range a write's piece leaves what was there
left_other : (p : Piece) (done : Bool) (place : ℕ) (content bytes : List ℕ) (i : ℕ) → place + length content ≤ length bytes → (i < place) ⊎ (place + length content ≤ i) → get_or (left p done place content bytes) i 0 ≡ get_or bytes i 0
left_other Keep true place content bytes i fits out = get_or-put_other place content bytes i fits out
left_other Keep false place content bytes i fits out = refl
left_other Lose done place content bytes i fits out = refl
left_other (Fill b) done place content bytes i fits out =
    let long = length-replicate (length content) b in
    get_or-put_other place (replicate (length content) b) bytes i (omega (arith, fits, long)) (⊎_elim (λ before. inl before) (λ behind. inr (omega (arith, behind, long))) out)

record SameBut (ws : List Write) (flushed image bytes : List ℕ) : Type 0 where
  image_long : length image ≡ length flushed
  bytes_long : length bytes ≡ length flushed
  others : (i : ℕ) → (IsTouched ws i → ⊥) → get_or image i 0 ≡ get_or bytes i 0

side : (w : Write) (ws : List Write) (i : ℕ) → (IsTouched (w ∷ ws) i → ⊥) → (i < w.place) ⊎ (w.place + length w.content ≤ i)
side w ws i untouched = elim (cases_lt i w.place) [
  | inl before ↦ inl before
  | inr from ↦ elim (cases_lt i (w.place + length w.content)) [ inl to ↦ absurd (untouched (inl (from, to))) | inr behind ↦ inr behind ]
]

same_but : (pieces : List Piece) (flushed : List ℕ) (ws : List Write) → AllByRecursion (FitsWrite (length flushed)) ws → SameBut ws flushed (image_after pieces flushed ws) (bytes_after flushed ws)
same_but pieces flushed [] fits = record { image_long = refl; bytes_long = refl; others = λ i untouched. refl }
same_but pieces flushed (w ∷ ws) fits =
    let below = same_but pieces flushed ws fits.1 in
    let piece = piece_at pieces (length ws) in
    let image = image_after pieces flushed ws in
    let bytes = bytes_after flushed ws in
    let image_fits : w.place + length w.content ≤ length image = omega (arith, fits.0, below.image_long) in
    let bytes_fits : w.place + length w.content ≤ length bytes = omega (arith, fits.0, below.bytes_long) in
    record {
      image_long = length-left piece w.done w.place w.content image image_fits ∙ below.image_long;
      bytes_long = by_done w.done bytes bytes_fits ∙ below.bytes_long;
      others = λ i untouched. left_other piece w.done w.place w.content image i image_fits (side w ws i untouched) ∙ below.others i (λ touched. untouched (inr touched))
          ∙ sym (left_other Keep w.done w.place w.content bytes i bytes_fits (side w ws i untouched));
    }
  where
    by_done : (done : Bool) (bytes : List ℕ) → w.place + length w.content ≤ length bytes → length (left Keep done w.place w.content bytes) ≡ length bytes
    by_done done bytes fits = length-left Keep done w.place w.content bytes fits

pub crash_may_leave : (pieces : List Piece) (m : Moment) → AllByRecursion (FitsWrite (length m.flushed)) m.unflushed → MayLeave m (crash_image pieces m)
crash_may_leave pieces m fits =
    let same = same_but pieces m.flushed m.unflushed fits in
    record { size = same.image_long ∙ sym same.bytes_long; others = same.others }

-- the writes of open notes that fit, fit
pub open_fit : (size : ℕ) (t : Track) (ns : List Note) → AllByRecursion IsOpen ns → AllByRecursion (Fits size) ns → AllByRecursion (FitsWrite size) t.disk.now.unflushed
    → AllByRecursion (FitsWrite size) (tracked t ns).disk.now.unflushed × ((tracked t ns).disk.now.flushed ≡ t.disk.now.flushed)
open_fit size t [] each fits so_far = (so_far, refl)
open_fit size t (n ∷ ns) each fits so_far =
    let step = goes_on_step t n each.0.goes_on in
    let rest = open_fit size (after_note t n) ns each.1 fits.1 (subst (λ (u : Track). AllByRecursion (FitsWrite size) u.disk.now.unflushed) (sym step) (fits.0, so_far)) in
    (rest.0, rest.1 ∙ ap (λ (u : Track). u.disk.now.flushed) step)
