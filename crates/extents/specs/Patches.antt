-- What one group made of the objects of a pool, told without what lies below: which bytes it wrote, and what stays of
-- those below.
use Rattle.std.specs.Prelude.{cond, ℕ, zero, suc, true, false, Bool, ◌≡◌, ◌<◌, ◌≤◌, ◌+◌, ◌-◌, ◌==◌, ◌&&◌, List, [], fold, map, length, max, min, take, get_or, nat_lt, nat_le, Option, Some, None, is_some, unwrap_or, option_map}
use Rattle.std.specs.List.{range_with_len}
use Rattle.std.specs.Coded.{×_prop, Π_prop, →_prop, Unit-prop, le_prop}
use Rattle.std.specs.Ordering.{nat_cmp}
use Rattle.std.specs.FinMap as finite
use Rattle.std.specs.FinMap.{FinMap}
use Rattle.base.specs.declared.operation.Op.{Op}
use Rattle.base.specs.declared.operation.Op.TheVariants.{Create, Remove, Write, SetLength, SetName}
use Rattle.base.specs.formats.Limits.{object_count}
use Rattle.extents.specs.declared.basis.Basis.{Basis}
use Rattle.extents.specs.declared.basis.Basis.TheVariants.{Grown, Cut, Made, Gone}
use Rattle.base.specs.history.Contents.{object_after, stored}

-- what a group makes of one object: what it leaves of the one below, and the byte that it wrote at each offset, None
-- where it wrote none
pub record Patch : Type 0 where
  pub basis : Basis
  pub written : ℕ → Option ℕ

-- for each object number what a group makes of it
abbrev pub Patches : Type 0
Patches = ℕ → Patch

-- what leaves an object as it is
abbrev pub no_patch : Patch
no_patch = record { basis = Grown 0; written = λ _. None }

-- so many bytes: those that were written, else those below, else zeros
abbrev pub filled : (ℕ → Option ℕ) → List ℕ → ℕ → List ℕ
filled written below size = map (λ i. unwrap_or (written i) (get_or below i 0)) (range_with_len 0 size)

-- the object that a patch makes of the one below, where None is no object
abbrev pub patched : Patch → Option (List ℕ) → Option (List ℕ)
patched p below = elim p.basis [
  | Grown end ↦ option_map (λ bytes. filled p.written bytes (max (length bytes) end)) below
  | Cut kept size ↦ option_map (λ bytes. filled p.written (take kept bytes) size) below
  | Made size ↦ Some (filled p.written [] size)
  | Gone ↦ None
]

-- a patch after a write, a cut
abbrev pub basis_after_write : ℕ → Basis → Basis
basis_after_write end (Grown before) = Grown (max before end)
basis_after_write end (Cut kept size) = Cut kept (max size end)
basis_after_write end (Made size) = Made (max size end)
basis_after_write end Gone = Gone

abbrev pub basis_after_cut : ℕ → Basis → Basis
basis_after_cut size (Grown end) = Cut size size
basis_after_cut size (Cut kept before) = Cut (min kept size) size
basis_after_cut size (Made before) = Made size
basis_after_cut size Gone = Gone

abbrev pub written_after : ℕ → List ℕ → (ℕ → Option ℕ) → ℕ → Option ℕ
written_after offset bytes written i = cond (nat_le offset i && nat_lt i (offset + length bytes)) (Some (get_or bytes (i - offset) 0)) (written i)

abbrev pub written_below : ℕ → (ℕ → Option ℕ) → ℕ → Option ℕ
written_below size written i = cond (nat_lt i size) (written i) None

-- a patch after a write and after a cut, and of an object that was created or removed
abbrev pub patch_after_write : ℕ → List ℕ → Patch → Patch
patch_after_write offset bytes p = record { basis = basis_after_write (offset + length bytes) p.basis; written = written_after offset bytes p.written }

abbrev pub patch_after_cut : ℕ → Patch → Patch
patch_after_cut size p = record { basis = basis_after_cut size p.basis; written = written_below size p.written }

abbrev pub made_patch : Patch
made_patch = record { basis = Made 0; written = λ _. None }

abbrev pub gone_patch : Patch
gone_patch = record { basis = Gone; written = λ _. None }

-- the patch of object n after an operation
abbrev pub patch_after : ℕ → Op → Patch → Patch
patch_after n (Create m) p = cond (n == m.0) made_patch p
patch_after n (Remove m) p = cond (n == m.0) gone_patch p
patch_after n (Write m offset bytes) p = cond (n == m.0) (patch_after_write offset bytes p) p
patch_after n (SetLength m size) p = cond (n == m.0) (patch_after_cut size p) p
patch_after n (SetName bytes) p = p

-- the patches after operations, in order
abbrev pub with_ops : List Op → Patches → Patches
with_ops ops patches n = fold (λ p op. patch_after n op p) (patches n) ops

-- only bytes of the object are written, and no more is kept than it is long
abbrev pub IsSized : Patch → Type 0
IsSized p = elim p.basis [
  | Grown end ↦ ((i : ℕ) → is_some (p.written i) ≡ true → i < end)
  | Cut kept size ↦ (kept ≤ size) × ((i : ℕ) → is_some (p.written i) ≡ true → i < size)
  | Made size ↦ ((i : ℕ) → is_some (p.written i) ≡ true → i < size)
  | Gone ↦ Unit {0}
]

-- a patch is sized in one way at most
pub IsSized-prop : (p : Patch) → IsProp (IsSized p)
IsSized-prop p = by_basis p.basis p.written
  where
    by_basis : (basis : Basis) (written : ℕ → Option ℕ) → IsProp (IsSized (record { basis = basis; written = written }))
    by_basis (Grown end) written = Π_prop (λ i. →_prop le_prop)
    by_basis (Cut kept size) written = ×_prop le_prop (Π_prop (λ i. →_prop le_prop))
    by_basis (Made size) written = Π_prop (λ i. →_prop le_prop)
    by_basis Gone written = Unit-prop

-- the length that the patched object has at least, where it is there
abbrev pub least_length : Basis → ℕ
least_length (Grown end) = end
least_length (Cut kept size) = size
least_length (Made size) = size
least_length Gone = 0

-- the length of the patched object, from that of the one below
abbrev pub length_over : Basis → Option ℕ → Option ℕ
length_over (Grown end) below = option_map (λ size. max size end) below
length_over (Cut kept size) below = option_map (λ _. size) below
length_over (Made size) below = Some size
length_over Gone below = None

-- whether the byte of the object below shows at an offset where none was written
abbrev pub is_shown : Basis → ℕ → Bool
is_shown (Grown end) i = true
is_shown (Cut kept size) i = nat_lt i kept
is_shown (Made size) i = false
is_shown Gone i = false

-- the objects that patches make of those below
unfoldable pub objects_up_to : ℕ → (ℕ → Option (List ℕ)) → FinMap nat_cmp (List ℕ)
objects_up_to zero object = finite.empty
objects_up_to (suc n) object = stored (objects_up_to n object) n (object n)

abbrev pub laid_over : Patches → FinMap nat_cmp (List ℕ) → FinMap nat_cmp (List ℕ)
laid_over patches below = objects_up_to object_count (λ n. patched (patches n) (finite.get below n))

-- patches make of any objects what these operations make of them, one after the other
abbrev pub ArePatchesOf : List Op → Patches → Type 0
ArePatchesOf ops patches = (n : ℕ) (below : Option (List ℕ)) → patched (patches n) below ≡ fold (λ object op. object_after n op object) below ops

-- no object has a number above the last
abbrev pub AreNumbered : FinMap nat_cmp (List ℕ) → Type 0
AreNumbered objects = (n : ℕ) → object_count ≤ n → finite.get objects n ≡ None
