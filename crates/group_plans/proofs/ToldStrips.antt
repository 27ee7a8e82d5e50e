-- The pointers of a tree's entry, told strip by strip: below a strip without an indirect block there are none, and what
-- was read of a strip is what the tree has of it.
use Rattle.std.proofs.Common.{◌≡◌, ℕ, inl, Bool, true, false, List, refl, sym, ap, ◌∙◌}
use Rattle.std.specs.Prelude.{◌==◌, if◌then◌else◌}
use Rattle.base.specs.declared.pointer.Pointer.{Pointer}
use Rattle.base.specs.formats.Fields.{no_pointer}
use Rattle.base.specs.kept.PlacedTrees.{IsPlaced}
use Rattle.tree_blocks.specs.declared.tree.ObjectEntry.{ObjectEntry}
use Rattle.tree_blocks.specs.Pointers.{ObjectPointers, is_long_entry, long_pointers, pointer_of_list, pointers_of_entry, short_pointers, strip_in, told_record}

-- a strip without an indirect block has no records
abbrev NoneBelow : ObjectPointers → ℕ → ℕ → Type 0
NoneBelow o j k = ((o.strip j).address == 0) ≡ true → o.record_at j k ≡ no_pointer

none_below : (e : ObjectEntry) (j k : ℕ) → NoneBelow (pointers_of_entry e) j k
none_below e j k = by (is_long_entry e)
  where
    of_first : (b : Bool) → ((if b then e.pointer else no_pointer).address == 0) ≡ true → (if b then told_record (e.pointer, (strip_in e.strips.value 0).1) k else no_pointer) ≡ no_pointer
    of_first true none = ap (λ (b : Bool). if b then no_pointer else pointer_of_list (strip_in e.strips.value 0).1 k) none
    of_first false none = refl

    by : (b : Bool) → NoneBelow (if b then long_pointers e.pointer e.strips.value else short_pointers e.pointer e.strips.value) j k
    by true none = ap (λ (b : Bool). if b then no_pointer else pointer_of_list (strip_in e.strips.value j).1 k) none
    by false none = of_first (j == 0) none

-- so the tree's pointers are told by that of the indirect block, and by those in it
pub as_told : (e : ObjectEntry) (j k : ℕ) (indirect : Pointer) (records : List Pointer) → indirect ≡ (pointers_of_entry e).strip j → pointer_of_list records k ≡ (pointers_of_entry e).record_at j k
    → told_record (indirect, records) k ≡ (pointers_of_entry e).record_at j k
as_told e j k indirect records is are = by (indirect.address == 0) refl
  where
    by : (b : Bool) → (indirect.address == 0) ≡ b → (if b then no_pointer else pointer_of_list records k) ≡ (pointers_of_entry e).record_at j k
    by false there = are
    by true nowhere = sym (none_below e j k (ap (λ (p : Pointer). p.address == 0) (sym is) ∙ nowhere))

-- and what is told of them is placed, if the pointers in the block are
pub told_placed : (blocks : ℕ) (indirect : Pointer) (records : List Pointer) (k : ℕ) → IsPlaced blocks (pointer_of_list records k) → IsPlaced blocks (told_record (indirect, records) k)
told_placed blocks indirect records k placed = by (indirect.address == 0)
  where
    by : (b : Bool) → IsPlaced blocks (if b then no_pointer else pointer_of_list records k)
    by true = inl refl
    by false = placed

-- the strips and the top of an entry by its levels
pub short-strip : (e : ObjectEntry) (j : ℕ) → is_long_entry e ≡ false → (pointers_of_entry e).strip j ≡ (if j == 0 then e.pointer else no_pointer)
short-strip e j short = ap (λ (b : Bool). (if b then long_pointers e.pointer e.strips.value else short_pointers e.pointer e.strips.value).strip j) short

pub long-top : (e : ObjectEntry) → is_long_entry e ≡ true → (pointers_of_entry e).top ≡ e.pointer
long-top e long = ap (λ (b : Bool). (if b then long_pointers e.pointer e.strips.value else short_pointers e.pointer e.strips.value).top) long
