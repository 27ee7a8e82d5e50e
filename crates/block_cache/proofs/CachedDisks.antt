-- What a cache has of a disk after each call of its device.
use Rattle.std.proofs.Common.{◌≡◌, ℕ, ◌+◌, ◌≤◌, List, [], ◌∷◌, length, refl, sym, subst, inl, inr}
use Rattle.std.specs.Prelude.{Result, Ok, Err}
use Rattle.base.specs.declared.error.PoolError.{PoolError}
use Rattle.base.specs.disk.Calls.{Flushes, Writes}
use Rattle.base.specs.disk.Disk.{Disk, Write, bytes_of, certain_with, disk_size}
use Rattle.block_cache.specs.CachedEntries.{AgreesWith, DropsIn}
use Rattle.block_cache.proofs.CachedBlocks.{dropped-agrees, written-agrees}

-- a disk that stays
pub same-agrees : (old new : Disk) (entries : List (ℕ × List ℕ)) → new ≡ old → AgreesWith (bytes_of old.now) entries → AgreesWith (bytes_of new.now) entries
same-agrees old new entries same agrees = subst (λ (d : Disk). AgreesWith (bytes_of d.now) entries) (sym same) agrees

-- what a read gives is the same once it is certain
certain-same : (disk : Disk) (writes : List Write) → bytes_of (certain_with (bytes_of disk.now) disk writes).now ≡ bytes_of disk.now
certain-same disk [] = refl
certain-same disk (w ∷ ws) = refl

pub flushed-agrees : (old new : Disk) (answer : Result (Unit {0}) PoolError) (entries : List (ℕ × List ℕ)) → Flushes old answer new → AgreesWith (bytes_of old.now) entries → AgreesWith (bytes_of new.now) entries
flushed-agrees old new (Ok x) entries is agrees =
    subst (λ (d : Disk). AgreesWith (bytes_of d.now) entries) (sym is)
    (subst (λ (l : List ℕ). AgreesWith l entries) (sym (certain-same old old.now.unflushed)) agrees)
flushed-agrees old new (Err e) entries is agrees = same-agrees old new entries is agrees

-- a write, whatever it answers
pub written-disk_agrees : (old new : Disk) (at : ℕ) (content : List ℕ) (answer : Result (Unit {0}) PoolError) (before entries : List (ℕ × List ℕ)) → at + length content ≤ disk_size old
    → DropsIn at (length content) before entries → Writes old at content answer new → AgreesWith (bytes_of old.now) before → AgreesWith (bytes_of new.now) entries
written-disk_agrees old new at content (Ok x) before entries fits drops is agrees =
    subst (λ (d : Disk). AgreesWith (bytes_of d.now) entries) (sym is) (written-agrees (bytes_of old.now) at content before entries fits drops agrees)
written-disk_agrees old new at content (Err e) before entries fits drops (inl is) agrees =
    subst (λ (d : Disk). AgreesWith (bytes_of d.now) entries) (sym is) (dropped-agrees (bytes_of old.now) at (length content) before entries drops agrees)
written-disk_agrees old new at content (Err e) before entries fits drops (inr is) agrees =
    subst (λ (d : Disk). AgreesWith (bytes_of d.now) entries) (sym is) (dropped-agrees (bytes_of old.now) at (length content) before entries drops agrees)
