-- Blocks as they are read.
use Rattle.std.proofs.Common.{◌≡◌, ℕ, List, ap, ◌∙◌}
use Rattle.base.specs.disk.Disk.{Disk, bytes_of}
use Rattle.std.specs.Prelude.{Bool, IsTrue}
use Rattle.object_maps.specs.BlockReads.{Shows}

-- the image stays if the disk stays
pub still_shows : (keeps : Bool) (old new : Disk) (image : List ℕ) → (IsTrue keeps → new ≡ old) → Shows keeps old image → Shows keeps new image
still_shows keeps old new image same shows = λ k. ap (λ (d : Disk). bytes_of d.now) (same k) ∙ shows k
