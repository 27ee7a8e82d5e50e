-- How the notes of a device in memory tell its disk.
use Rattle.std.specs.Prelude.{◌≡◌, ℕ, ◌+◌, ◌-◌, ◌*◌, ◌<◌, ◌≤◌, ◌++◌, Bool, true, false, List, [], ◌∷◌, length, take, fold, All}
use Rattle.std.specs.List.{AllByRecursion}
use Rattle.base.specs.formats.Geometry.{sector_size}
use Rattle.base.specs.declared.piece.Piece.TheVariants.{Keep}
use Rattle.base.specs.declared.piece.Piece.{Piece}
use Rattle.device_model.specs.declared.notes.Note.{Note}
use Rattle.base.specs.formats.Fields.{part}
use Rattle.base.specs.disk.Disk.{Disk, put, written, next, settled}
use Rattle.base.specs.disk.Crashes.{left, piece_at}
use Rattle.device_model.specs.MemState.{zeros, blank}

-- the disk after some notes, and the image that would stand if the newest of them were the last before a crash
pub record Track : Type 0 where
  pub disk : Disk
  pub image : List ℕ

-- the image with what stands of a note's write
abbrev pub left_of : Note → List ℕ → List ℕ
left_of n image = left n.piece n.done n.place n.content image

-- one write more
abbrev pub noted : Track → Note → Track
noted t n = record { disk = written n.place n.content n.done t.disk; image = left_of n t.image }

-- and the good flush or crash after it, if one came
abbrev pub ended_track : Bool → Track → Track
ended_track true t = record { disk = next (settled t.image t.disk.now) t.disk; image = t.image }
ended_track false t = t

abbrev pub after_note : Track → Note → Track
after_note t n = ended_track n.last (noted t n)

abbrev pub tracked : Track → List Note → Track
tracked t notes = fold after_note t notes

abbrev pub start : ℕ → Track
start sectors = record { disk = blank sectors; image = zeros (sector_size * sectors) }

-- the bytes with what stands of these notes' writes, the oldest first
abbrev pub replayed : List Note → List ℕ → List ℕ
replayed [] bytes = bytes
replayed (n ∷ ns) bytes = replayed ns (left_of n bytes)

-- the bytes with what stood before these notes' writes, the newest taken back first
abbrev pub undone : List Note → List ℕ → List ℕ
undone [] bytes = bytes
undone (n ∷ ns) bytes = put n.place n.old (undone ns bytes)

-- a note after which no good flush or crash came
pub record IsOpen (n : Note) : Type 0 where
  pub kept : n.piece ≡ Keep
  pub goes_on : n.last ≡ false

-- what stood before these notes' writes lies within so many bytes
abbrev pub OldsFit : ℕ → List Note → Type 0
OldsFit size notes = All (λ n. n.place + length n.old ≤ size) notes

-- these notes' writes lie within so many bytes
abbrev pub WritesFit : ℕ → List Note → Type 0
WritesFit size notes = All (λ n. n.place + length n.content ≤ size) notes

-- the notes remember what stood before their writes, from these bytes on
abbrev pub Recall : List ℕ → List Note → Type 0
Recall bytes [] = Unit {0}
Recall bytes (n ∷ ns) = (n.place + length n.content ≤ length bytes) × (n.old ≡ part bytes n.place (length n.content)) × Recall (left_of n bytes) ns

-- from a track at which nothing is unflushed, open notes lead to these bytes
pub record LeadTo (t : Track) (open_notes : List Note) (bytes : List ℕ) : Type 0 where
  pub certain : t.disk.now.unflushed ≡ []
  pub same : t.image ≡ t.disk.now.flushed
  pub each_open : AllByRecursion IsOpen open_notes
  pub recall : Recall t.image open_notes
  pub bytes_are : bytes ≡ replayed open_notes t.image

-- this note tells a write of this content over these bytes
pub record Notes (n : Note) (place : ℕ) (content : List ℕ) (done : Bool) (bytes : List ℕ) : Type 0 where
  pub place_is : n.place ≡ place
  pub content_is : n.content ≡ content
  pub done_is : n.done ≡ done
  pub old_is : n.old ≡ part bytes place (length content)
  pub open_is : IsOpen n

-- one note more, which tells the write
pub record AddsNote (old new : List Note) (place : ℕ) (content : List ℕ) (done : Bool) (bytes : List ℕ) : Type 0 where
  pub note : Note
  pub added : new ≡ old ++ note ∷ []
  pub tells : Notes note place content done bytes

-- the note as a crash leaves it
abbrev pub with_piece : Piece → Note → Note
with_piece piece n = record n { piece = piece }

-- the notes with these pieces, the first of them with the piece of this number
abbrev pub with_pieces : List Piece → ℕ → List Note → List Note
with_pieces pieces i [] = []
with_pieces pieces i (n ∷ ns) = with_piece (piece_at pieces i) n ∷ with_pieces pieces (i + 1) ns

-- the note as the last before a good flush or a crash
abbrev pub ended : Note → Note
ended n = record n { last = true }

-- where there are notes after so many, the newest is the last before a good flush or a crash
pub record Closes (settled : ℕ) (old new : List Note) : Type 0 where
  pub none : length old ≤ settled → new ≡ old
  pub some : settled < length old → (n : Note) × (old ≡ take (length old - 1) old ++ n ∷ []) × (new ≡ take (length old - 1) old ++ ended n ∷ [])

-- the notes tell the same disk, and leave the same image
abbrev pub TellSame : List Note → List Note → Type 0
TellSame old new = (t : Track) → tracked t new ≡ tracked t old

-- The newest note becomes the last before a good flush or a crash, and what the notes tell stays. What stood before a
-- settled write is not needed.
pub record Settles (settled : ℕ) (old new : List Note) : Type 0 where
  pub closed : List Note
  pub closes : Closes settled old closed
  pub tells : TellSame closed new
  pub long : length new ≡ length closed
