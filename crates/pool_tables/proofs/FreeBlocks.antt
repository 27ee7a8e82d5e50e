-- Blocks that are taken from the free ones, or come back to them, one after another.
use Rattle.std.proofs.Common.{◌≡◌, ℕ, ◌+◌, ◌<◌, Bool, true, false, not, ◌&&◌, ◌||◌, List, [], ◌∷◌, ◌++◌, length, map, nat_eq, take, refl, sym, ◌∙◌, ap, arith, add-zero}
use Rattle.std.specs.Prelude.{get_or}
use Rattle.std.specs.List.{list_any}
use Rattle.std.specs.Ordering.{nat_cmp, eq_by_cmp}
use Rattle.std.proofs.lemmas.List.{length-append, length-map, length-take-le, take_more, map-append}
use Rattle.std.proofs.lemmas.List.Folds.{list_any-append}
use Rattle.std.proofs.lemmas.Bool.{eq-eqb}
use Rattle.std.proofs.lemmas.Cmp.{nat_cmp_total}
use Rattle.std.proofs.Math.Bool.{and-false}
use Rattle.std.specs.FinSet as set
use Rattle.std.specs.FinSet.{FinSet, contains-empty, contains-insert, contains-remove, contains-from_list, contains-from_list_nat, contains-difference, contains-union, same_set, nat_cmp-IsAntisymmetric}
use Rattle.base.specs.formats.Geometry.{block_address}
use Rattle.base.proofs.common.KeptLists.{any_at}
use Rattle.space.specs.FreeSets.{FreeSpace, after_give, after_sync_take}
use Rattle.tree_plans.specs.declared.planner.PlannedBlock.{PlannedBlock}
use Rattle.tree_plans.specs.Plans.{address_of}
use Rattle.mounted.specs.GivenBlocks.{after_gives}
use Rattle.mounted.proofs.GivenBlocks.{one_more}
use Rattle.pool_tables.specs.Areas.{after_sync_takes}

and_true : (b : Bool) → (b && true) ≡ b
and_true true = refl
and_true false = refl

pub difference_none : (s : FinSet nat_cmp) → s ≡ set.difference s (set.from_list [])
difference_none s = same_set nat_cmp_total nat_cmp-IsAntisymmetric _ _ (λ q.
    sym (contains-difference nat_cmp_total s (set.from_list []) q ∙ ap (λ b. set.contains s q && not b) (contains-empty nat_cmp q) ∙ and_true (set.contains s q)))

pub difference_more : (s : FinSet nat_cmp) (xs : List ℕ) (x : ℕ) → set.remove (set.difference s (set.from_list xs)) x ≡ set.difference s (set.from_list (xs ++ x ∷ []))
difference_more s xs x = same_set nat_cmp_total nat_cmp-IsAntisymmetric _ _ (λ q.
    contains-remove nat_cmp_total (set.difference s (set.from_list xs)) x q
    ∙ ap (λ b. not (eq_by_cmp nat_cmp q x) && b) (contains-difference nat_cmp_total s (set.from_list xs) q)
    ∙ turned (eq_by_cmp nat_cmp q x) (set.contains s q) (set.contains (set.from_list {R = nat_cmp} xs) q)
    ∙ sym (contains-difference nat_cmp_total s (set.from_list (xs ++ x ∷ [])) q ∙ ap (λ b. set.contains s q && not b) (one_more xs x q)))
  where
    turned : (e c l : Bool) → (not e && (c && not l)) ≡ (c && not (l || e))
    turned true true true = refl
    turned true true false = refl
    turned true false l = refl
    turned false true true = refl
    turned false true false = refl
    turned false false l = refl

-- the first one may come back before the others
union_first : (s : FinSet nat_cmp) (x : ℕ) (rest : List ℕ) → set.union s (set.from_list (x ∷ rest)) ≡ set.union (set.insert s x) (set.from_list rest)
union_first s x rest = same_set nat_cmp_total nat_cmp-IsAntisymmetric _ _ (λ q.
    contains-union nat_cmp_total s (set.from_list (x ∷ rest)) q
    ∙ ap (λ b. set.contains s q || b) (contains-from_list nat_cmp_total (x ∷ rest) q)
    ∙ turned (eq_by_cmp nat_cmp q x) (set.contains s q) (list_any (eq_by_cmp nat_cmp q) rest)
    ∙ sym (contains-union nat_cmp_total (set.insert s x) (set.from_list rest) q ∙ (λ k. contains-insert nat_cmp_total s x q k || contains-from_list nat_cmp_total rest q k)))
  where
    turned : (e c l : Bool) → (c || (e || l)) ≡ ((e || c) || l)
    turned true true l = refl
    turned true false l = refl
    turned false c l = refl

pub gives_first : (s : FreeSpace) (k address : ℕ) (rest : List ℕ) → block_address k ≡ address → after_gives (address ∷ rest) s ≡ after_gives rest (after_give k s)
gives_first s k address rest at = (λ j. record s { free = union_first s.free (sym at j) rest j })

-- and the last ones before the first
pub union_both : (s : FinSet nat_cmp) (xs ys : List ℕ) → set.union (set.union s (set.from_list ys)) (set.from_list xs) ≡ set.union s (set.from_list (xs ++ ys))
union_both s xs ys = same_set nat_cmp_total nat_cmp-IsAntisymmetric _ _ (λ q.
    contains-union nat_cmp_total (set.union s (set.from_list ys)) (set.from_list xs) q
    ∙ (λ k. contains-union nat_cmp_total s (set.from_list ys) q k || contains-from_list nat_cmp_total xs q k)
    ∙ ap (λ b. (set.contains s q || b) || list_any (eq_by_cmp nat_cmp q) xs) (contains-from_list nat_cmp_total ys q)
    ∙ turned (set.contains s q) (list_any (eq_by_cmp nat_cmp q) xs) (list_any (eq_by_cmp nat_cmp q) ys)
    ∙ sym (contains-union nat_cmp_total s (set.from_list (xs ++ ys)) q
    ∙ ap (λ b. set.contains s q || b) (contains-from_list nat_cmp_total (xs ++ ys) q ∙ list_any-append (eq_by_cmp nat_cmp q) xs ys)))
  where
    turned : (c x y : Bool) → ((c || y) || x) ≡ (c || (x || y))
    turned true x y = refl
    turned false true true = refl
    turned false true false = refl
    turned false false true = refl
    turned false false false = refl

-- a front of a list is one longer
pub front_more : {A : Type 0} (xs : List A) (i : ℕ) (x : A) → i < length xs → x ≡ get_or xs i x → take (i + 1) xs ≡ take i xs ++ x ∷ []
front_more {A} xs i x low is = take_more xs i x low ∙ ap (λ (y : A). take i xs ++ y ∷ []) (sym is)

-- a sync that starts has taken none yet, and one more each time
pub none_taken : (s : FreeSpace) → s ≡ after_sync_takes [] s
none_taken s = λ k. record s { free = difference_none s.free k; taken = sym (add-zero s.taken) k }

pub taken_more : (first old new : FreeSpace) (blocks : List PlannedBlock) (i : ℕ) (b : PlannedBlock) → i < length blocks → b ≡ get_or blocks i b
    → old ≡ after_sync_takes (map address_of (take i blocks)) first → new ≡ after_sync_take b.index old
    → new ≡ after_sync_takes (map address_of (take (i + 1) blocks)) first
taken_more first old new blocks i b low is so_far now =
    let before : List ℕ = map address_of (take i blocks) in
    let front : map address_of (take (i + 1) blocks) ≡ before ++ address_of b ∷ [] =
    ap (map address_of) (front_more blocks i b low is) ∙ map-append address_of (take i blocks) (b ∷ []) in
    let count : first.taken + length before + 1 ≡ first.taken + length (before ++ address_of b ∷ []) = omega (arith, length-append before (address_of b ∷ [])) in
    now ∙ ap (after_sync_take b.index) so_far
    ∙ (λ k. record first { free = difference_more first.free before (address_of b) k; taken = count k })
    ∙ ap (λ (l : List ℕ). after_sync_takes l first) (sym front)

-- where none was taken before, it took as many as went before
pub taken_so_far : (first old : FreeSpace) (blocks : List PlannedBlock) (i : ℕ) → i < length blocks → first.taken ≡ 0 → old ≡ after_sync_takes (map address_of (take i blocks)) first → old.taken ≡ i
taken_so_far first old blocks i low none so_far =
    let count : length (map address_of (take i blocks)) ≡ i = length-map (take i blocks) address_of ∙ length-take-le i blocks (omega (arith, low)) in
    omega (arith, none, count, ap (λ (s : FreeSpace). s.taken) so_far)

-- an address that a sync takes is free no more
pub taken_away : (free : FinSet nat_cmp) (address : ℕ) → set.contains (set.difference free (set.from_list (address ∷ []))) address ≡ false
taken_away free address =
    contains-difference nat_cmp_total free (set.from_list (address ∷ [])) address
    ∙ ap (λ (b : Bool). set.contains free address && not b) (contains-from_list_nat (address ∷ []) address ∙ any_at (λ y. nat_eq y address) (address ∷ []) 0 address refl (eq-eqb address address refl))
    ∙ and-false (set.contains free address)
