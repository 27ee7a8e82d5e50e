-- A good flush leaves no fewer moments.
use Rattle.std.proofs.Common.{◌≤◌, List, [], ◌∷◌, Ok, sym, subst, arith}
use Rattle.base.specs.disk.Calls.{Flushes}
use Rattle.base.specs.disk.Disk.{Disk, Write, bytes_of, certain_with, moments}

pub flushed_later : (old new : Disk) → Flushes old (Ok tt) new → moments old ≤ moments new
flushed_later old new flushes = subst (λ (d : Disk). moments old ≤ moments d) (sym flushes) (by_cases old.now.unflushed)
  where
    by_cases : (ws : List Write) → moments old ≤ moments (certain_with (bytes_of old.now) old ws)
    by_cases [] = omega arith
    by_cases (w ∷ ws) = omega arith
