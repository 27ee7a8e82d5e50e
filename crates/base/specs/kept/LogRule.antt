-- The log of a view on a disk: what a crash leaves of its blocks, what a running pool knows of them, and the room that
-- an import of it needs.
use Rattle.std.specs.Prelude.{ℕ, ◌≡◌, ◌<◌, ◌≤◌, ◌+◌, Bool, false, List, length, take, slice_get, Some}
use Rattle.base.specs.formats.Geometry.{block_count, block_address}
use Rattle.base.specs.formats.Fields.{part}
use Rattle.base.specs.formats.Chain.{LogBlock}
use Rattle.base.specs.disk.Disk.{Write, Moment, HandedSince, bytes_of, handed}
use Rattle.base.specs.kept.Views.{View, Logged, IsLogContent}

-- the view with the first so many of its log blocks
abbrev pub with_front : ℕ → View → View
with_front n v = record v { logged = take n v.logged }

-- of these writes each log block of the view's chain has a number below the one that so many blocks from its header on
-- lead to
abbrev pub AreLogBlocksBelow : ℕ → ℕ → List Write → View → ℕ → Type 0
AreLogBlocksBelow size t ws v count = (k number : ℕ) (content : List ℕ) (block : LogBlock) → k < block_count size → HandedSince t ws (block_address k) content
    → IsLogContent content v.u.guid v.u.import_number number block → number < v.u.log_number + count

-- of these writes each log block of the pool is of a chain up to this one
abbrev pub AreChainsUpTo : ℕ → ℕ → List Write → ℕ → ℕ → Type 0
AreChainsUpTo size t ws guid top = (k chain number : ℕ) (content : List ℕ) (block : LogBlock) → k < block_count size → HandedSince t ws (block_address k) content
    → IsLogContent content guid chain number block → chain ≤ top

-- each log block of the view stands in what a read gives
abbrev pub AreLogBlocksStanding : Moment → View → Type 0
AreLogBlocksStanding m v = (i : ℕ) (l : Logged) → slice_get v.logged i ≡ Some l → part (bytes_of m) l.block.address (length l.content) ≡ l.content

-- What a running pool knows of the log of a view, whose first so many blocks are fixed: no number after its last block
-- was written in this chain; those whose writes an earlier flush or crash kept are fixed; and where no write was
-- refused all stand in what a read gives.
pub record IsLogHeld (size t flushed : ℕ) (refused : Bool) (m : Moment) (v : View) : Type 0 where
  pub below : AreLogBlocksBelow size t (handed m) v (length v.logged)
  pub kept : AreLogBlocksBelow size t m.kept v flushed
  pub stand : refused ≡ false → AreLogBlocksStanding m v
