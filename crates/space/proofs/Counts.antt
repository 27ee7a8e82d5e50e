-- How many blocks of flags are free.
use Rattle.std.proofs.Common.{◌≡◌, ℕ, zero, suc, ◌+◌, ◌-◌, ◌<◌, ◌≤◌, Bool, true, false, List, [], ◌∷◌, length, get_or, refl, sym, ◌∙◌, ap, arith}
use Rattle.std.specs.Prelude.{replicate}
use Rattle.std.specs.Ordering.{nat_cmp}
use Rattle.std.proofs.Math.ListN.{set as list_set}
use Rattle.std.proofs.lemmas.List.{length-set}
use Rattle.std.proofs.lemmas.Cmp.{nat_cmp_total}
use Rattle.std.specs.FinSet as set
use Rattle.std.specs.FinSet.{FinSet, contains-empty, empty_of_len, len-insert, len-remove}
use Rattle.base.specs.formats.Geometry.{block_address}
use Rattle.base.specs.steps.Charges.{available_of}
use Rattle.space.specs.Flags.{addresses_from, free_of}
use Rattle.space.proofs.Flags.{contains-free_of, free_of-given}
use Rattle.space.proofs.FreeLists.{len-from_list, rise}

-- each free block is counted once
len-addresses : (flags : List Bool) → set.len (free_of flags) ≡ length (addresses_from 0 flags)
len-addresses flags = len-from_list (addresses_from 0 flags) (rise 0 flags)

length-addresses-le : (k : ℕ) (flags : List Bool) → length (addresses_from k flags) ≤ length flags
unfolding addresses_from
length-addresses-le k [] = omega arith
length-addresses-le k (true ∷ flags) = let h = length-addresses-le (k + 1) flags in omega (arith, h)
length-addresses-le k (false ∷ flags) = let h = length-addresses-le (k + 1) flags in omega (arith, h)

-- no more blocks are free than there are
pub free_of-le : (flags : List Bool) → set.len (free_of flags) ≤ length flags
free_of-le flags = rw (len-addresses flags) (length-addresses-le 0 flags)

length-all : (k n : ℕ) → length (addresses_from k (replicate n true)) ≡ n
unfolding addresses_from
length-all k zero = refl
length-all k (suc n) = ap suc (length-all (k + 1) n)

-- where all are free, so many are
pub len-all : (n : ℕ) (flags : List Bool) → flags ≡ replicate n true → set.len (free_of flags) ≡ n
len-all n flags e = ap (λ l. set.len (free_of l)) e ∙ len-addresses (replicate n true) ∙ length-all 0 n

-- one less where a free block is taken, and one is there
pub len-taken : (flags : List Bool) (i : ℕ) → get_or flags i false ≡ true → set.len (set.remove (free_of flags) (block_address i)) ≡ set.len (free_of flags) - 1
len-taken flags i is = len-remove nat_cmp_total (free_of flags) (block_address i) ∙ rw (contains-free_of flags i ∙ is) refl

-- a set with a number is not empty
pub one_there : (numbers : FinSet nat_cmp) (n : ℕ) → set.contains numbers n ≡ true → 1 ≤ set.len numbers
one_there numbers n is = counted (set.len numbers) refl
  where
    counted : (count : ℕ) → set.len numbers ≡ count → 1 ≤ count
    counted (suc count) e = omega arith
    counted zero e = absurd (let h : true ≡ false = sym is ∙ ap (λ s. set.contains s n) (empty_of_len numbers e) ∙ contains-empty nat_cmp n in cc)

pub one_free : (flags : List Bool) (i : ℕ) → get_or flags i false ≡ true → 1 ≤ set.len (free_of flags)
one_free flags i is = one_there (free_of flags) (block_address i) (contains-free_of flags i ∙ is)

-- one more where a taken one is given, and there is room for it
pub len-given : (flags : List Bool) (i : ℕ) → get_or flags i false ≡ false → set.len (set.insert (free_of flags) (block_address i)) ≡ set.len (free_of flags) + 1
len-given flags i is = len-insert nat_cmp_total (free_of flags) (block_address i) ∙ rw (contains-free_of flags i ∙ is) refl

pub one_taken : (flags : List Bool) (i : ℕ) → i < length flags → get_or flags i false ≡ false → set.len (free_of flags) + 1 ≤ length flags
one_taken flags i low is =
    let after : set.len (free_of (list_set flags i true)) ≡ set.len (free_of flags) + 1 = ap (λ s. set.len s) (free_of-given flags i low) ∙ len-given flags i is in
    let room = free_of-le (list_set flags i true) in
    let same : length (list_set flags i true) ≡ length flags = length-set flags i true in
    omega (arith, after, room, same)

-- what is reserved is not more than the free blocks and the taken ones
pub reserve_fits : (free reserved taken count blocks most : ℕ) → count ≤ available_of free reserved taken → free ≤ blocks → taken ≤ most → reserved ≤ blocks + most → reserved + count ≤ blocks + most
reserve_fits free reserved taken count blocks most fits within few kept = omega (arith, fits, within, few, kept)
