-- What a read of a record of the old pool says, and several of them that one damage refuses.
use Rattle.std.proofs.Common.{◌≡◌, ◌<◌, ◌≤◌, ◌/◌, ◌⊎◌, ℕ, List, arith, inl, inr, subst}
use Rattle.std.specs.Prelude.{Bool}
use Rattle.std.proofs.lemmas.Bool.{cases_lt}
use Rattle.base.specs.declared.error.PoolError.{PoolError}
use Rattle.base.specs.declared.error.PoolError.TheVariants as refusal
use Rattle.base.specs.declared.pointer.Pointer.{Pointer}
use Rattle.base.specs.declared.range.Range.{Range}
use Rattle.base.specs.disk.Disk.{Disk, bytes_of}
use Rattle.base.specs.formats.Limits.{record_size}
use Rattle.object_views.specs.ReadPaths.{TellsRecord}
use Rattle.object_views.specs.ObjectViews.{TellsBetween, object_of}
use Rattle.object_views.specs.declared.view.ObjectView.{ObjectView}
use Rattle.trees.specs.declared.damages.BlockDamage.{BlockDamage}
use Rattle.copies.specs.Copies.{AreChecked, IsLostFrom}
use Rattle.copies.specs.ReadRecords.{AreLost, IsInRecord, IsRangeRead, OnSeen}
use Rattle.copies.specs.declared.old_records.ReadRecord.{ReadRecord}
use Rattle.copies.specs.declared.old_records.ReadRecord.TheVariants.{Bytes, Damaged}

-- a damage of one byte of a record is one of each
pub all_lost : (image : List ℕ) (root : Pointer) (v : ObjectView) (range : Range) (e : PoolError) (kind address : ℕ) → e ≡ refusal.Damaged kind address → IsInRecord range → TellsBetween image root v range.low range.high e
    → AreLost image root v (record { kind = kind; address = address }) range.low range.high
all_lost image root v range e kind address is inside tells = λ i above below.
    let (j, from, to, told) = tells kind address is in
    let aligned = inside.aligned in
    let short = inside.short in
    let same : j / 4032 ≡ i / 4032 = omega (arith, aligned, short, above, below, from, to) in
    subst (λ (r : ℕ). TellsRecord image v.frame root (object_of v) r (refusal.Damaged kind address)) same (subst (λ (x : PoolError). TellsRecord image v.frame root (object_of v) (j / 4032) x) is told)

module _ (keeps : Bool) (disk : Disk) (v : ObjectView) where
  -- what was read is bytes that are checked, or it is lost
  pub read_bytes : (range : Range) (read : ReadRecord) (bytes : List ℕ) → OnSeen keeps disk v (λ image root. IsRangeRead image root v range read) → read ≡ Bytes bytes → AreChecked keeps disk v range.low range.high bytes
  read_bytes range read bytes h is = λ k seen. subst (λ (r : ReadRecord). IsRangeRead (bytes_of disk.now) seen.u.root v range r) is (h k seen)

  pub read_damage : (range : Range) (read : ReadRecord) (d : BlockDamage) → OnSeen keeps disk v (λ image root. IsRangeRead image root v range read) → read ≡ Damaged d → IsLostFrom keeps disk v d range.low range.high
  read_damage range read d h is = λ k seen. subst (λ (r : ReadRecord). IsRangeRead (bytes_of disk.now) seen.u.root v range r) is (h k seen)

  -- parts that lie side by side are lost as one
  both_lost : (image : List ℕ) (root : Pointer) (d : BlockDamage) (low middle high : ℕ) → AreLost image root v d low middle → AreLost image root v d middle high → AreLost image root v d low high
  both_lost image root d low middle high first later = λ i above below. at i above below (cases_lt i middle)
    where
      at : (i : ℕ) → low ≤ i → i < high → (i < middle) ⊎ (middle ≤ i) → TellsRecord image v.frame root (object_of v) (i / record_size) (refusal.Damaged d.kind d.address)
      at i above below (inl before) = first i above before
      at i above below (inr after) = later i after below

  pub lost_more : (d : BlockDamage) (low end : ℕ) (range : Range) (read : ReadRecord) → OnSeen keeps disk v (λ image root. AreLost image root v d low end) → OnSeen keeps disk v (λ image root. IsRangeRead image root v range read) → read ≡ Damaged d → range.low ≡ end
      → OnSeen keeps disk v (λ image root. AreLost image root v d low range.high)
  lost_more d low end range read lost h is begins = λ k seen.
      both_lost (bytes_of disk.now) seen.u.root d low end range.high (lost k seen) (subst (λ (at : ℕ). AreLost (bytes_of disk.now) seen.u.root v d at range.high) begins (read_damage range read d h is k seen).0)

  pub lost_on : (d : BlockDamage) (low middle high : ℕ) → IsLostFrom keeps disk v d low middle → OnSeen keeps disk v (λ image root. AreLost image root v d middle high) → IsLostFrom keeps disk v d low high
  lost_on d low middle high first later = λ k seen. (both_lost (bytes_of disk.now) seen.u.root d low middle high (first k seen).0 (later k seen), (first k seen).1)
