-- The writes of a create change only bytes that a pool has.
use Rattle.std.proofs.Common.{◌≡◌, ◌⊎◌, inl, inr, ℕ, ◌+◌, ◌<◌, ◌≤◌, Bool, true, false, List, length, Result, refl, sym, ◌∙◌, subst, arith}
use Rattle.base.specs.declared.error.PoolError.{PoolError}
use Rattle.base.specs.disk.Calls.{Flushes, Writes}
use Rattle.base.specs.disk.Disk.{Disk, IsInRange, Moment, bytes_of, moments, settled, wrote}
use Rattle.base.specs.formats.Geometry.{IsGeometry, IsWritable, label_place, slot_place}
use Rattle.base.proofs.disk.Moments.{each_flush, each_write, starts}
use Rattle.base.proofs.disk.Put.{get_or-put_other, length-put, outside_range}
use Rattle.base.proofs.formats.Geometry.{blocks-end, label-on_device}
use Rattle.import_replay.specs.Outside.{IsPoolByte, KeepsOutside, WritesPoolBytes}

module _ (Region : ℕ → Type 0) (start : Moment) where
  -- no byte outside is touched anew
  touched_inside : (place n i : ℕ) (Before After : Type 0) → ((j : ℕ) → IsInRange place n j → Region j) → (Region i → ⊥) → (Before → After) → IsInRange place n i ⊎ Before → After
  touched_inside place n i Before After within out keeps (inl here) = absurd (out (within i here))
  touched_inside place n i Before After within out keeps (inr before) = keeps before

  -- a write in the region, whether it is done or not
  keeps_wrote : (t place : ℕ) (content : List ℕ) (done : Bool) (m : Moment) → KeepsOutside Region start m → place + length content ≤ length (bytes_of m)
      → ((i : ℕ) → IsInRange place (length content) i → Region i) → KeepsOutside Region start (wrote t place content done m)
  keeps_wrote t place content true m so_far fits within = record {
    bytes = record {
      size = length-put place content (bytes_of m) fits ∙ so_far.bytes.size;
      others = λ i out. get_or-put_other place content (bytes_of m) i fits (outside_range place (length content) i (λ here. out (within i here))) ∙ so_far.bytes.others i out;
    };
    touched = λ i out. touched_inside place (length content) i _ _ within out (so_far.touched i out);
  }
  keeps_wrote t place content false m so_far fits within = record {
    bytes = so_far.bytes;
    touched = λ i out. touched_inside place (length content) i _ _ within out (so_far.touched i out);
  }

  -- after a flush nothing is touched
  keeps_settled : (m : Moment) → KeepsOutside Region start m → KeepsOutside Region start (settled (bytes_of m) m)
  keeps_settled m so_far = record { bytes = record { size = so_far.bytes.size; others = so_far.bytes.others }; touched = λ i out touched. absurd touched }

byte_writable : (size at count i : ℕ) → IsWritable size at count → IsInRange at count i → IsPoolByte size i
byte_writable size at count i (inl (label, low, from, to)) here = inl (label, low, omega (arith, from, here.0), omega (arith, to, here.1))
byte_writable size at count i (inr (from, to)) here = inr (omega (arith, from, here.0), omega (arith, to, here.1))

writable_fits : (size at count : ℕ) → IsGeometry size → IsWritable size at count → at + count ≤ size
writable_fits size at count is (inl (label, low, from, to)) = omega (arith, (label-on_device size label is low).within, to)
writable_fits size at count is (inr (from, to)) = omega (arith, blocks-end size is, to)

-- before the first call
pub none_outside : (size : ℕ) (start : Disk) → WritesPoolBytes size start start
none_outside size start = starts (KeepsOutside (IsPoolByte size) start.now) start (record { bytes = record { size = refl; others = λ i out. refl }; touched = λ i out touched. touched })

-- one write more
pub writes_on : (size : ℕ) (start disk new : Disk) (place other n : ℕ) (content : List ℕ) (r : Result (Unit {0}) PoolError) → IsGeometry size → length (bytes_of disk.now) ≡ size
    → WritesPoolBytes size start disk → Writes disk place content r new → place ≡ other → length content ≡ n → IsWritable size other n → WritesPoolBytes size start new
writes_on size start disk new place other n content r is long so_far writes same content_long writable =
    each_write (KeepsOutside (IsPoolByte size) start.now) start disk new place content r so_far writes
    (λ done inside. keeps_wrote (IsPoolByte size) start.now (moments disk) place content done disk.now inside (omega (arith, writable_fits size place (length content) is here, long))
    (λ i in_range. byte_writable size place (length content) i here in_range))
  where
    here : IsWritable size place (length content)
    here = subst (λ (k : ℕ). IsWritable size k (length content)) (sym same) (subst (λ (k : ℕ). IsWritable size other k) (sym content_long) writable)

-- one flush more
pub flushes_on : (size : ℕ) (start disk new : Disk) (r : Result (Unit {0}) PoolError) → WritesPoolBytes size start disk → Flushes disk r new → WritesPoolBytes size start new
flushes_on size start disk new r so_far flushes =
    each_flush (KeepsOutside (IsPoolByte size) start.now) start disk new r so_far flushes (keeps_settled (IsPoolByte size) start.now disk.now)

-- a part of a label after its boot header
pub label_writable : (size label at n : ℕ) → label < 4 → 16384 ≤ at → at + n ≤ 262144 → IsWritable size (label_place size label + at) n
label_writable size label at n low from to = inl (label, low, omega (arith, from), omega (arith, to))

-- the slot of the first uberblock
pub first_slot_writable : (size label : ℕ) → label < 4 → IsWritable size (slot_place size label 4) 1024
first_slot_writable size label low = inl (label, low, omega arith, omega arith)
