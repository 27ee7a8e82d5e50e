-- A crash of a device in memory: what becomes of each write that no flush has made certain.
use Rattle.std.specs.Prelude.{ℕ, Bool, if◌then◌else◌, List, [], ◌∷◌, length, get_or, replicate}
use Rattle.base.specs.declared.piece.Piece.{Piece}
use Rattle.base.specs.declared.piece.Piece.TheVariants.{Keep, Lose, Fill}
use Rattle.base.specs.disk.Disk.{Write, Moment, put}

-- The image with this piece of a write. Of a write that failed what was there is kept or lost.
abbrev pub left : Piece → Bool → ℕ → List ℕ → List ℕ → List ℕ
left Keep done place content image = if done then put place content image else image
left Lose done place content image = image
left (Fill byte) done place content image = put place (replicate (length content) byte) image

-- the piece of the write with this number, the oldest being 0
abbrev pub piece_at : List Piece → ℕ → Piece
piece_at pieces i = get_or pieces i Keep

-- the image with a piece of each of these writes, the newest first, over the bytes that were flushed
abbrev pub image_after : List Piece → List ℕ → List Write → List ℕ
image_after pieces flushed [] = flushed
image_after pieces flushed (w ∷ ws) = left (piece_at pieces (length ws)) w.done w.place w.content (image_after pieces flushed ws)

-- what a crash with these pieces leaves
abbrev pub crash_image : List Piece → Moment → List ℕ
crash_image pieces m = image_after pieces m.flushed m.unflushed
