-- The free addresses from an index on, as a rising list, by the flags.
use Rattle.std.proofs.Common.{◌≡◌, ℕ, zero, suc, ◌+◌, ◌-◌, ◌*◌, ◌/◌, ◌<◌, ◌≤◌, Bool, true, false, ◌&&◌, cond, List, [], ◌∷◌, drop, length, map, get_or, refl, sym, subst, ◌∙◌, ap, add-one, arith, Option, Some, None, Less, Equal, Greater, nat_eq, nat_le}
use Rattle.std.specs.Prelude.{T, is_some, filter}
use Rattle.std.specs.List.{list_any}
use Rattle.std.specs.Ordering.{nat_cmp, eq_by_cmp, is_lt}
use Rattle.std.proofs.Math.Seq.{drop-cons}
use Rattle.std.proofs.Math.Nat.{mul-div_cancel_left}
use Rattle.std.proofs.lemmas.List.{drop_all}
use Rattle.std.proofs.lemmas.Bool.{lt-ltb}
use Rattle.std.proofs.lemmas.Cmp.{nat_cmp_total}
use Rattle.std.specs.FinMap as finite
use Rattle.std.specs.FinMap.{FinMap, entries_sorted, contains_key-keys, entries-from_sorted, get-from_sorted, get-from_entries, same_map, is_sorted, find}
use Rattle.std.specs.FinMap.Entries.{below_all, is_some-find}
use Rattle.std.specs.FinSet as set
use Rattle.std.specs.FinSet.{FinSet, contains-items, contains-from_list, contains-from_list_nat, len-empty, len-insert, same_set, nat_cmp-IsAntisymmetric}
use Rattle.base.specs.formats.Geometry.{block_address, block_area, block_size}
use Rattle.base.specs.common.Rising.{as_keys, rising}
use Rattle.base.proofs.stored.StoredSets.{keys-as_keys, less-by_cmp, split}
use Rattle.space.specs.FreeSets.{block_index, free_from}
use Rattle.space.proofs.Flags.{other}
use Rattle.space.specs.SetFlags.{AreClear, IsFirstSet}
use Rattle.space.specs.Flags.{addresses_from, free_of}

less : (x y : ℕ) → x < y → is_lt (nat_cmp x y) ≡ true
less x y h = ap (λ (b : Bool). is_lt (cond b Less (cond (nat_eq x y) Equal Greater))) (lt-ltb x y h)

both : (a b : Bool) → a ≡ true → T b → T (a && b)
both a b e t = rw e t

-- the addresses from a block on lie above what lies below the block
below_addresses : (q k : ℕ) (flags : List Bool) → q < block_address k → T (below_all nat_cmp q (as_keys (addresses_from k flags)))
unfolding addresses_from
below_addresses q k [] low = tt
below_addresses q k (true ∷ flags) low = both _ _ (less q (block_address k) low) (below_addresses q (k + 1) flags (omega arith))
below_addresses q k (false ∷ flags) low = below_addresses q (k + 1) flags (omega arith)

pub rise : (k : ℕ) (flags : List Bool) → T (is_sorted nat_cmp (as_keys (addresses_from k flags)))
unfolding addresses_from
rise k [] = tt
rise k (true ∷ flags) = both_T _ _ (below_addresses (block_address k) (k + 1) flags (omega arith)) (rise (k + 1) flags)
  where
    both_T : (a b : Bool) → T a → T b → T (a && b)
    both_T true b p q = q
    both_T false b p q = absurd p
rise k (false ∷ flags) = rise (k + 1) flags

same_marks : (a b : Option (Unit {0})) → is_some a ≡ is_some b → a ≡ b
same_marks None None e = refl
same_marks None (Some u) e = absurd (cc)
same_marks (Some u) None e = absurd (cc)
same_marks (Some u) (Some v) e = refl

any_key : (q : ℕ) (xs : List ℕ) → is_some (find nat_cmp q (as_keys xs)) ≡ list_any (eq_by_cmp nat_cmp q) xs
any_key q xs = is_some-find nat_cmp q (as_keys xs) ∙ ap (list_any (eq_by_cmp nat_cmp q)) (keys-as_keys xs)

-- the numbers of the set of a rising list are that list
rising-from_list : (xs : List ℕ) → T (is_sorted nat_cmp (as_keys xs)) → rising (set.from_list xs) ≡ xs
rising-from_list xs sorted =
    let items : List ℕ = set.items (set.from_list {R = nat_cmp} xs) in
    let same : finite.from_entries {R = nat_cmp} (as_keys items) ≡ finite.from_sorted (as_keys xs) =
    same_map nat_cmp_total nat_cmp-IsAntisymmetric _ _ (λ q. same_marks _ _
    (ap is_some (get-from_entries nat_cmp_total (as_keys items) q) ∙ any_key q items ∙ sym (contains-items (set.from_list {R = nat_cmp} xs) q)
    ∙ contains-from_list nat_cmp_total xs q ∙ sym (any_key q xs) ∙ ap is_some (sym (get-from_sorted nat_cmp (as_keys xs) q sorted)))) in
    ap finite.keys same ∙ ap (λ es. map (λ (e : ℕ × Unit {0}). e.0) es) (entries-from_sorted nat_cmp (as_keys xs) sorted) ∙ keys-as_keys xs

-- so the free addresses in their order are those of the flags, and the lowest ones are a front of them
pub rising-free_of : (flags : List Bool) → rising (free_of flags) ≡ addresses_from 0 flags
rising-free_of flags = rising-from_list (addresses_from 0 flags) (rise 0 flags)

-- a number below those of a list is none of them
not_among : (x : ℕ) (xs : List ℕ) → T (below_all nat_cmp x (as_keys xs)) → list_any (λ y. nat_eq y x) xs ≡ false
not_among x [] low = refl
not_among x (y ∷ xs) low =
    let parts = split (is_lt (nat_cmp x y)) (below_all nat_cmp x (as_keys xs)) low in
    let less : x < y = less-by_cmp x y parts.0 in
    rw (other y x (λ same. omega (arith, less, same))) (not_among x xs parts.1)

-- the set of a rising list has as many numbers as the list
pub len-from_list : (xs : List ℕ) → T (is_sorted nat_cmp (as_keys xs)) → set.len (set.from_list {R = nat_cmp} xs) ≡ length xs
len-from_list [] sorted = len-empty nat_cmp
len-from_list (x ∷ xs) sorted =
    let parts = split (below_all nat_cmp x (as_keys xs)) (is_sorted nat_cmp (as_keys xs)) sorted in
    let rest : FinSet nat_cmp = set.from_list xs in
    let apart : set.contains rest x ≡ false = contains-from_list_nat xs x ∙ not_among x xs parts.0 in
    len-insert nat_cmp_total rest x ∙ rw apart (ap (λ n. n + 1) (len-from_list xs parts.1) ∙ omega arith)

-- and a set has as many as its rising list
pub length-rising : (numbers : FinSet nat_cmp) → length (rising numbers) ≡ set.len numbers
length-rising numbers =
    let items : List ℕ = set.items numbers in
    let m : FinMap nat_cmp (Unit {0}) = finite.from_entries (as_keys items) in
    let keys : as_keys (rising numbers) ≡ finite.entries m = as_keys-keys (finite.entries m) in
    let sorted : T (is_sorted nat_cmp (as_keys (rising numbers))) = subst (λ es. T (is_sorted nat_cmp es)) (sym keys) (entries_sorted m) in
    let same : set.from_list {R = nat_cmp} (rising numbers) ≡ numbers =
    same_set nat_cmp_total nat_cmp-IsAntisymmetric _ _ (λ q.
    contains-from_list nat_cmp_total (rising numbers) q ∙ sym (contains_key-keys m q) ∙ ap is_some (get-from_entries nat_cmp_total (as_keys items) q)
    ∙ any_key q items ∙ sym (contains-items numbers q)) in
    sym (len-from_list (rising numbers) sorted) ∙ ap (λ s. set.len s) same
  where
    as_keys-keys : (es : List (ℕ × Unit {0})) → as_keys (map (λ (e : ℕ × Unit {0}). e.0) es) ≡ es
    as_keys-keys [] = refl
    as_keys-keys (e ∷ es) = ap (λ l. e ∷ l) (as_keys-keys es)

-- the index of a block's address is the block's
block_index-block_address : (k : ℕ) → block_index (block_address k) ≡ k
block_index-block_address k =
    let e : block_address k - block_area ≡ block_size * k = omega arith in
    ap (λ n. n / block_size) e ∙ mul-div_cancel_left k (omega arith)

-- whether an address is that of a block from an index on
abbrev is_from : ℕ → ℕ → Bool
is_from first address = nat_le first (block_index address)

is_from-block_address : (first k : ℕ) → is_from first (block_address k) ≡ nat_le first k
is_from-block_address first k = ap (nat_le first) (block_index-block_address k)

kept_at : (first k : ℕ) → first ≤ k → is_from first (block_address k) ≡ true
kept_at first k low = is_from-block_address first k ∙ grind (arith, low)

left_at : (first k : ℕ) → k < first → is_from first (block_address k) ≡ false
left_at first k low = is_from-block_address first k ∙ grind (arith, low)

all_kept : (first k : ℕ) (flags : List Bool) → first ≤ k → filter (is_from first) (addresses_from k flags) ≡ addresses_from k flags
unfolding addresses_from
all_kept first k [] low = refl
all_kept first k (true ∷ flags) low = rw (kept_at first k low) (ap (λ l. block_address k ∷ l) (all_kept first (k + 1) flags (omega arith)))
all_kept first k (false ∷ flags) low = all_kept first (k + 1) flags (omega arith)

-- of the free addresses from a block on, those from a later block on are those of the flags after it
some_kept : (k i first : ℕ) (flags : List Bool) → first ≡ k + i → filter (is_from first) (addresses_from k flags) ≡ addresses_from first (drop i flags)
unfolding addresses_from
some_kept k zero first flags is = let e : k ≡ first = omega (arith, is) in all_kept first k flags (omega (arith, is)) ∙ ap (λ j. addresses_from j flags) e
some_kept k (suc i) first [] is = refl
some_kept k (suc i) first (true ∷ flags) is = rw (left_at first k (omega (arith, is))) (some_kept (k + 1) i first flags (omega (arith, is)))
some_kept k (suc i) first (false ∷ flags) is = some_kept (k + 1) i first flags (omega (arith, is))

-- the free addresses from an index on, by the flags
abbrev addresses_behind : ℕ → List Bool → List ℕ
addresses_behind first flags = addresses_from first (drop first flags)

free_from-free_of : (first : ℕ) (flags : List Bool) → free_from first (free_of flags) ≡ addresses_behind first flags
unfolding free_from
free_from-free_of first flags = ap (filter (is_from first)) (rising-free_of flags) ∙ some_kept 0 first first flags (omega arith)

-- from index 0 on they are all
from_0 : (address : ℕ) → is_from 0 address ≡ true
from_0 address = grind arith

all_pass : (xs : List ℕ) → filter (is_from 0) xs ≡ xs
all_pass [] = refl
all_pass (x ∷ xs) = rw (from_0 x) (ap (λ l. x ∷ l) (all_pass xs))

pub free_from-0 : (free : FinSet nat_cmp) → free_from 0 free ≡ rising free
unfolding free_from
free_from-0 free = all_pass (rising free)

free_here : (flags : List Bool) (i : ℕ) → i < length flags → get_or flags i false ≡ true → addresses_behind i flags ≡ block_address i ∷ addresses_behind (i + 1) flags
unfolding addresses_from
free_here flags i low is =
    let e : drop i flags ≡ true ∷ drop (i + 1) flags = rw add-one (drop-cons flags i false low ∙ ap (λ b. b ∷ drop (suc i) flags) is) in
    ap (addresses_from i) e

free_behind : (flags : List Bool) (i : ℕ) → i < length flags → get_or flags i false ≡ false → addresses_behind i flags ≡ addresses_behind (i + 1) flags
unfolding addresses_from
free_behind flags i low is =
    let e : drop i flags ≡ false ∷ drop (i + 1) flags = rw add-one (drop-cons flags i false low ∙ ap (λ b. b ∷ drop (suc i) flags) is) in
    ap (addresses_from i) e

free_past : (flags : List Bool) (i : ℕ) → length flags ≤ i → addresses_behind i flags ≡ []
unfolding addresses_from
free_past flags i past = ap (addresses_from i) (drop_all i flags past)

-- blocks that are taken have no address among them
skipped : (flags : List Bool) (i n : ℕ) → i + n ≤ length flags → AreClear i (i + n) flags → addresses_behind i flags ≡ addresses_behind (i + n) flags
skipped flags i zero within taken = let e : i + 0 ≡ i = omega arith in rw e refl
skipped flags i (suc n) within taken =
    let e : i + suc n ≡ i + 1 + n = omega arith in
    free_behind flags i (omega arith) (taken i (omega arith) (omega arith))
    ∙ skipped flags (i + 1) n (omega arith) (λ k low high. taken k (omega arith) (omega arith))
    ∙ ap (λ j. addresses_behind j flags) (sym e)

-- from an index on, the first free block's address is the first
pub first_free-lowest : (first block : ℕ) (flags : List Bool) → IsFirstSet first (length flags) flags block
    → free_from first (free_of flags) ≡ block_address block ∷ free_from (block + 1) (free_of flags)
first_free-lowest first block flags f =
    let from = f.from in
    let within = f.within in
    let there : first + (block - first) ≡ block = omega (arith, from) in
    free_from-free_of first flags
    ∙ skipped flags first (block - first) (omega (arith, there, within)) (λ k low high. f.lowest k low (omega (arith, high, there)))
    ∙ ap (λ j. addresses_behind j flags) there
    ∙ free_here flags block within f.is_set
    ∙ ap (λ l. block_address block ∷ l) (sym (free_from-free_of (block + 1) flags))

-- and where no block from there on is free, there is none
pub none_free : (first : ℕ) (flags : List Bool) → AreClear first (length flags) flags → free_from first (free_of flags) ≡ []
none_free first flags taken = free_from-free_of first flags ∙ all_taken (first - length flags) refl
  where
    all_taken : (past : ℕ) → first - length flags ≡ past → addresses_behind first flags ≡ []
    all_taken (suc past) is = free_past flags first (omega (arith, is))
    all_taken zero is =
        let there : first + (length flags - first) ≡ length flags = omega (arith, is) in
        skipped flags first (length flags - first) (omega (arith, there)) (λ k low high. taken k low (omega (arith, high, there)))
        ∙ free_past flags (first + (length flags - first)) (omega (arith, there))
