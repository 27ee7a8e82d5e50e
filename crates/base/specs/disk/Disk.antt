-- What a disk is at one moment and over time, and what a crash may leave of it.
use Rattle.std.specs.Prelude.{◌≡◌, ◌⊎◌, ℕ, ◌+◌, ◌<◌, ◌≤◌, Bool, if◌then◌else◌, List, [], ◌∷◌, ◌++◌, length, take, drop, filter, slice_index}
use Rattle.std.specs.List.{AllByRecursion}
use Rattle.std.specs.Str.{bytes_eq}
use Rattle.base.specs.formats.Fields.{part}

-- a write as it was handed to the disk: after how many moments, where, which bytes, and whether it answered Ok
pub record Write : Type 0 where
  pub moment : ℕ
  pub place : ℕ
  pub content : List ℕ
  pub done : Bool

-- The disk at one moment. The newest write stands first.
pub record Moment : Type 0 where
  -- the bytes at the last good flush
  pub flushed : List ℕ
  -- the writes since
  pub unflushed : List Write
  -- the writes before it whose bytes were held at the first good flush, or left by the first crash, after them
  pub kept : List Write

-- The disk over time. The newest moment stands first.
pub record Disk : Type 0 where
  pub now : Moment
  pub past : List Moment

-- how many moments the disk has left behind
abbrev pub moments : Disk → ℕ
moments disk = length disk.past

-- the bytes with these written over them at this place
abbrev pub put : ℕ → List ℕ → List ℕ → List ℕ
put place content bytes = take place bytes ++ (content ++ drop (place + length content) bytes)

-- two ranges of bytes have no byte in common
abbrev pub Apart : ℕ → ℕ → ℕ → ℕ → Type 0
Apart a m b n = (a + m ≤ b) ⊎ (b + n ≤ a)

-- these bytes after the writes
abbrev pub bytes_after : List ℕ → List Write → List ℕ
bytes_after bytes [] = bytes
bytes_after bytes (w ∷ ws) = if w.done then put w.place w.content (bytes_after bytes ws) else bytes_after bytes ws

-- what a read gives
abbrev pub bytes_of : Moment → List ℕ
bytes_of m = bytes_after m.flushed m.unflushed

-- one of the writes had this byte in its range
abbrev pub IsTouched : List Write → ℕ → Type 0
IsTouched [] i = ⊥
IsTouched (w ∷ ws) i = ((w.place ≤ i) × (i < w.place + length w.content)) ⊎ IsTouched ws i

-- A crash at this moment may leave this image: any bytes where a write is not yet flushed, and elsewhere what a read
-- gives.
pub record MayLeave (m : Moment) (image : List ℕ) : Type 0 where
  pub size : length image ≡ length (bytes_of m)
  pub others : (i : ℕ) → (IsTouched m.unflushed i → ⊥) → slice_index image i ≡ slice_index (bytes_of m) i

-- the image has the write's bytes at its place
abbrev pub holds : List ℕ → Write → Bool
holds image w = bytes_eq (part image w.place (length w.content)) w.content

-- how many bytes it has
abbrev pub disk_size : Disk → ℕ
disk_size disk = length (bytes_of disk.now)

-- the writes that count: those not yet flushed, and those that were held
abbrev pub handed : Moment → List Write
handed m = m.unflushed ++ m.kept

-- among these writes one since the moment t was handed whole, for this place, with these bytes
abbrev pub HandedSince : ℕ → List Write → ℕ → List ℕ → Type 0
HandedSince t [] place content = ⊥
HandedSince t (w ∷ ws) place content = ((t ≤ w.moment) × (w.place ≡ place) × (w.content ≡ content)) ⊎ HandedSince t ws place content

-- each write that counts was handed at an earlier moment than the disk has now
abbrev pub HasEarlierWrites : Disk → Type 0
HasEarlierWrites disk = (place : ℕ) (content : List ℕ) → HandedSince (moments disk) (handed disk.now) place content → ⊥

-- the moment after a write of these bytes
abbrev pub wrote : ℕ → ℕ → List ℕ → Bool → Moment → Moment
wrote t place content done m = record {
  flushed = m.flushed;
  unflushed = record { moment = t; place = place; content = content; done = done } ∷ m.unflushed;
  kept = m.kept;
}

-- the moment after which the image is certain, and the writes that it does not hold count no more
abbrev pub settled : List ℕ → Moment → Moment
settled image m = record { flushed = image; unflushed = []; kept = filter (holds image) m.unflushed ++ m.kept }

-- the disk at one moment more
abbrev pub next : Moment → Disk → Disk
next m disk = record { now = m; past = disk.now ∷ disk.past }

-- the disk after a write
abbrev pub written : ℕ → List ℕ → Bool → Disk → Disk
written place content done disk = next (wrote (moments disk) place content done disk.now) disk

abbrev pub certain_with : List ℕ → Disk → List Write → Disk
certain_with image disk [] = disk
certain_with image disk (w ∷ ws) = next (settled image disk.now) disk

-- The disk once this image is certain. Where nothing was unflushed it is as before.
abbrev pub certain : List ℕ → Disk → Disk
certain image disk = certain_with image disk disk.now.unflushed

-- each moment from the old disk's to the new disk's has P, both included
pub record EachMoment (P : Moment → Type 0) (old new : Disk) : Type 0 where
  pub later : List Moment
  pub joined : new.now ∷ new.past ≡ later ++ old.now ∷ old.past
  pub each : AllByRecursion P later
  pub first : P old.now

-- a crash at this moment leaves only images that have P
abbrev pub CrashLeaves : (List ℕ → Type 0) → Moment → Type 0
CrashLeaves P m = (image : List ℕ) → MayLeave m image → P image

-- a crash at any moment from the old disk's to the new disk's leaves only images that have P
abbrev pub LeavesOnly : Disk → Disk → (List ℕ → Type 0) → Type 0
LeavesOnly old new P = EachMoment (CrashLeaves P) old new

-- one of these moments, of which the last is number 0, comes at t or later and has P
abbrev pub SomeSince : List Moment → ℕ → (Moment → Type 0) → Type 0
SomeSince [] t P = ⊥
SomeSince (m ∷ ms) t P = ((t ≤ length ms) × P m) ⊎ SomeSince ms t P

-- the disk now, or one of its moments since t, has P
abbrev pub SomeMomentSince : Disk → ℕ → (Moment → Type 0) → Type 0
SomeMomentSince disk t P = P disk.now ⊎ SomeSince disk.past t P

-- a crash at some moment since t may have left this image
abbrev pub LeftSince : Disk → ℕ → List ℕ → Type 0
LeftSince disk t image = SomeMomentSince disk t (λ m. MayLeave m image)

-- At this moment only bytes of the region differ, or may differ after a crash, from these.
pub record ChangesOnly (Region : ℕ → Type 0) (base : List ℕ) (m : Moment) : Type 0 where
  pub size : length (bytes_of m) ≡ length base
  pub touched : (i : ℕ) → IsTouched m.unflushed i → Region i
  pub others : (i : ℕ) → (Region i → ⊥) → slice_index (bytes_of m) i ≡ slice_index base i

-- the image differs from these bytes in the region alone
pub record SameOutside (Region : ℕ → Type 0) (base image : List ℕ) : Type 0 where
  pub size : length image ≡ length base
  pub others : (i : ℕ) → (Region i → ⊥) → slice_index image i ≡ slice_index base i

-- a place of a range
abbrev pub IsInRange : ℕ → ℕ → ℕ → Type 0
IsInRange place n i = (place ≤ i) × (i < place + n)
