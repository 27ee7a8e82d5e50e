-- Blocks that come back to the free ones, one after another.
use Rattle.std.proofs.Common.{◌≡◌, ℕ, ◌+◌, ◌<◌, Bool, true, false, ◌||◌, List, [], ◌∷◌, ◌++◌, length, take, refl, sym, ◌∙◌, ap}
use Rattle.std.specs.Prelude.{get_or}
use Rattle.std.specs.Ordering.{nat_cmp, eq_by_cmp}
use Rattle.std.proofs.lemmas.List.{take_more}
use Rattle.std.proofs.lemmas.List.Folds.{list_any-append}
use Rattle.std.proofs.lemmas.Cmp.{nat_cmp_total}
use Rattle.std.specs.List.{list_any}
use Rattle.std.proofs.Math.Bool.{or-true, or-false}
use Rattle.base.proofs.stored.StoredSets.{at-set}
use Rattle.std.specs.FinSet as set
use Rattle.std.specs.FinSet.{FinSet, contains-empty, contains-insert, contains-from_list, contains-union, same_set, nat_cmp-IsAntisymmetric}
use Rattle.base.specs.formats.Geometry.{block_address}
use Rattle.space.specs.FreeSets.{FreeSpace, after_give}
use Rattle.mounted.specs.GivenBlocks.{after_gives}

-- a union with no numbers
pub union_none : (s : FinSet nat_cmp) → s ≡ set.union s (set.from_list [])
union_none s = same_set nat_cmp_total nat_cmp-IsAntisymmetric _ _ (λ q.
    sym (contains-union nat_cmp_total s (set.from_list []) q ∙ ap (λ b. set.contains s q || b) (contains-empty nat_cmp q) ∙ or-false (set.contains s q)))

pub one_more : (xs : List ℕ) (x q : ℕ) → set.contains (set.from_list {R = nat_cmp} (xs ++ x ∷ [])) q ≡ (set.contains (set.from_list {R = nat_cmp} xs) q || eq_by_cmp nat_cmp q x)
one_more xs x q =
    contains-from_list nat_cmp_total (xs ++ x ∷ []) q
    ∙ list_any-append (eq_by_cmp nat_cmp q) xs (x ∷ [])
    ∙ ap (λ b. list_any (eq_by_cmp nat_cmp q) xs || b) (or-false (eq_by_cmp nat_cmp q x))
    ∙ sym (ap (λ b. b || eq_by_cmp nat_cmp q x) (contains-from_list nat_cmp_total xs q))

-- and with one number more
pub union_more : (s : FinSet nat_cmp) (xs : List ℕ) (x : ℕ) → set.insert (set.union s (set.from_list xs)) x ≡ set.union s (set.from_list (xs ++ x ∷ []))
union_more s xs x = same_set nat_cmp_total nat_cmp-IsAntisymmetric _ _ (λ q.
    contains-insert nat_cmp_total (set.union s (set.from_list xs)) x q
    ∙ ap (λ b. eq_by_cmp nat_cmp q x || b) (contains-union nat_cmp_total s (set.from_list xs) q)
    ∙ turned (eq_by_cmp nat_cmp q x) (set.contains s q) (set.contains (set.from_list {R = nat_cmp} xs) q)
    ∙ sym (contains-union nat_cmp_total s (set.from_list (xs ++ x ∷ [])) q ∙ ap (λ b. set.contains s q || b) (one_more xs x q)))
  where
    turned : (e c l : Bool) → (e || (c || l)) ≡ (c || (l || e))
    turned true true l = refl
    turned true false true = refl
    turned true false false = refl
    turned false true l = refl
    turned false false true = refl
    turned false false false = refl

-- of addresses none has come back yet, and one more each time
pub none_given : (s : FreeSpace) → s ≡ after_gives [] s
none_given s = λ k. record s { free = union_none s.free k }

pub given_more : (first old new : FreeSpace) (addresses : List ℕ) (i k : ℕ) → i < length addresses → block_address k ≡ get_or addresses i 0
    → old ≡ after_gives (take i addresses) first → new ≡ after_give k old → new ≡ after_gives (take (i + 1) addresses) first
given_more first old new addresses i k low at so_far now =
    let a = get_or addresses i 0 in
    now ∙ (λ j. record (so_far j) { free = set.insert (so_far j).free (at j) })
    ∙ (λ j. record first { free = union_more first.free (take i addresses) a j })
    ∙ ap (λ (l : List ℕ). after_gives l first) (sym (take_more addresses i 0 low))

-- an address that has come back is free
pub given_free : (s : FreeSpace) (address : ℕ) → set.contains (after_gives (address ∷ []) s).free address ≡ true
given_free s address =
    contains-union nat_cmp_total s.free (set.from_list (address ∷ [])) address ∙ ap (λ (b : Bool). set.contains s.free address || b) (at-set (address ∷ []) address (0, refl)) ∙ or-true (set.contains s.free address)
