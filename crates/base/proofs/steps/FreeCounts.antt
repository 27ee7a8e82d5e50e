-- How many free addresses a set has at least once some are taken or given.
use Rattle.std.proofs.Common.{◌≡◌, ℕ, ◌+◌, ◌-◌, ◌≤◌, Bool, true, false, not, ◌&&◌, ◌||◌, List, [], ◌∷◌, length, refl, ap, sym, ◌∙◌, arith}
use Rattle.std.specs.Prelude.{cond}
use Rattle.std.specs.Ordering.{nat_cmp, eq_by_cmp}
use Rattle.std.proofs.lemmas.Cmp.{nat_cmp_total}
use Rattle.std.proofs.Math.Bool.{or-false}
use Rattle.std.specs.FinMap.{nat_cmp-IsAntisymmetric}
use Rattle.std.specs.FinSet as set
use Rattle.std.specs.FinSet.{FinSet, same_set, contains-empty, contains-insert, contains-remove, contains-difference, contains-union, len-insert, len-remove}
use Rattle.base.proofs.common.Choices.{or-swap}

-- whether a number is in a set without one more, and with one more
difference-insert : (a b c : Bool) → (a && not (b || c)) ≡ (not b && (a && not c))
difference-insert true true c = refl
difference-insert true false c = refl
difference-insert false true c = refl
difference-insert false false c = refl

and-true : (b : Bool) → (b && not false) ≡ b
and-true true = refl
and-true false = refl

less_one : (b : Bool) (n m : ℕ) → m ≡ cond b (n - 1) n → n ≤ m + 1
less_one true n m e = omega arith
less_one false n m e = omega arith

more_one : (b : Bool) (n m : ℕ) → m ≡ cond b n (n + 1) → n ≤ m
more_one true n m e = omega arith
more_one false n m e = omega arith

-- one number less, a list of numbers less, and a list of numbers more
pub removed_len : (numbers : FinSet nat_cmp) (n : ℕ) → set.len numbers ≤ set.len (set.remove numbers n) + 1
removed_len numbers n = less_one (set.contains numbers n) (set.len numbers) (set.len (set.remove numbers n)) (len-remove nat_cmp_total numbers n)

pub difference_len : (numbers : FinSet nat_cmp) (taken : List ℕ) → set.len numbers ≤ set.len (set.difference numbers (set.from_list taken)) + length taken
difference_len numbers [] =
    let same : set.difference numbers (set.from_list []) ≡ numbers = same_set nat_cmp_total nat_cmp-IsAntisymmetric (set.difference numbers (set.from_list [])) numbers
    (λ q. contains-difference nat_cmp_total numbers (set.from_list []) q ∙ ap (λ b. set.contains numbers q && not b) (contains-empty nat_cmp q) ∙ and-true (set.contains numbers q)) in
    let long : set.len (set.difference numbers (set.from_list [])) ≡ set.len numbers = ap (λ (t : FinSet nat_cmp). set.len t) same in
    omega arith
difference_len numbers (n ∷ taken) =
    let left : FinSet nat_cmp = set.difference numbers (set.from_list taken) in
    let same : set.difference numbers (set.from_list (n ∷ taken)) ≡ set.remove left n = same_set nat_cmp_total nat_cmp-IsAntisymmetric (set.difference numbers (set.from_list (n ∷ taken))) (set.remove left n)
    (λ q. contains-difference nat_cmp_total numbers (set.from_list (n ∷ taken)) q
    ∙ ap (λ b. set.contains numbers q && not b) (contains-insert nat_cmp_total (set.from_list taken) n q)
    ∙ difference-insert (set.contains numbers q) (eq_by_cmp nat_cmp q n) (set.contains (set.from_list {R = nat_cmp} taken) q)
    ∙ ap (λ b. not (eq_by_cmp nat_cmp q n) && b) (sym (contains-difference nat_cmp_total numbers (set.from_list taken) q))
    ∙ sym (contains-remove nat_cmp_total left n q)) in
    let long : set.len (set.difference numbers (set.from_list (n ∷ taken))) ≡ set.len (set.remove left n) = ap (λ (t : FinSet nat_cmp). set.len t) same in
    let one : set.len left ≤ set.len (set.remove left n) + 1 = removed_len left n in
    let rest : set.len numbers ≤ set.len left + length taken = difference_len numbers taken in
    omega arith

pub union_len : (numbers : FinSet nat_cmp) (more : List ℕ) → set.len numbers ≤ set.len (set.union numbers (set.from_list more))
union_len numbers [] =
    let same : set.union numbers (set.from_list []) ≡ numbers = same_set nat_cmp_total nat_cmp-IsAntisymmetric (set.union numbers (set.from_list [])) numbers
    (λ q. contains-union nat_cmp_total numbers (set.from_list []) q ∙ ap (λ b. set.contains numbers q || b) (contains-empty nat_cmp q) ∙ or-false (set.contains numbers q)) in
    let long : set.len (set.union numbers (set.from_list [])) ≡ set.len numbers = ap (λ (t : FinSet nat_cmp). set.len t) same in
    omega arith
union_len numbers (n ∷ more) =
    let all : FinSet nat_cmp = set.union numbers (set.from_list more) in
    let same : set.union numbers (set.from_list (n ∷ more)) ≡ set.insert all n = same_set nat_cmp_total nat_cmp-IsAntisymmetric (set.union numbers (set.from_list (n ∷ more))) (set.insert all n)
    (λ q. contains-union nat_cmp_total numbers (set.from_list (n ∷ more)) q
    ∙ ap (λ b. set.contains numbers q || b) (contains-insert nat_cmp_total (set.from_list more) n q)
    ∙ or-swap (set.contains numbers q) (eq_by_cmp nat_cmp q n) (set.contains (set.from_list {R = nat_cmp} more) q)
    ∙ ap (λ b. eq_by_cmp nat_cmp q n || b) (sym (contains-union nat_cmp_total numbers (set.from_list more) q))
    ∙ sym (contains-insert nat_cmp_total all n q)) in
    let long : set.len (set.union numbers (set.from_list (n ∷ more))) ≡ set.len (set.insert all n) = ap (λ (t : FinSet nat_cmp). set.len t) same in
    let one : set.len all ≤ set.len (set.insert all n) = more_one (set.contains all n) (set.len all) (set.len (set.insert all n)) (len-insert nat_cmp_total all n) in
    let rest : set.len numbers ≤ set.len all = union_len numbers more in
    omega arith
