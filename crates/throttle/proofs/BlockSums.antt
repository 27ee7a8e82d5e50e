-- The blocks of a map of sums, and what each call of the dirty bytes does to them.
use Rattle.std.proofs.Common.{◌≡◌, ℕ, zero, suc, ◌+◌, ◌-◌, ◌*◌, ◌%◌, ◌<◌, Bool, true, false, cond, List, [], ◌∷◌, map, Option, Some, None, refl, ap, sym, ◌∙◌, arith}
use Rattle.std.specs.Prelude.{option_map, unwrap_or, sum_by}
use Rattle.std.specs.List.{fold}
use Rattle.std.specs.Ordering.{nat_cmp, eq_by_cmp}
use Rattle.std.proofs.lemmas.Cmp.{nat_cmp_total}
use Rattle.std.specs.FinMap as finite
use Rattle.std.specs.FinMap.{FinMap, find, get-entries, get-from_entries, get-empty, get-insert, get-remove, same_map, nat_cmp-IsAntisymmetric}
use Rattle.base.specs.formats.Geometry.{block_size}
use Rattle.base.specs.steps.Charges.{with_sum}
use Rattle.throttle.specs.Blocks.{blocks_in, blocks_of}
use Rattle.throttle.proofs.GroupSums.{with_sum-some}

option_map-cond : (b : Bool) (n : ℕ) (o : Option ℕ) → cond b (Some (blocks_in n)) (option_map blocks_in o) ≡ option_map blocks_in (cond b (Some n) o)
option_map-cond true n o = refl
option_map-cond false n o = refl

option_map-cond_none : (b : Bool) (o : Option ℕ) → cond b None (option_map blocks_in o) ≡ option_map blocks_in (cond b None o)
option_map-cond_none true o = refl
option_map-cond_none false o = refl

find-block_entries : (q : ℕ) (es : List (ℕ × ℕ)) → find nat_cmp q (map (λ (e : ℕ × ℕ). (e.0, blocks_in e.1)) es) ≡ option_map blocks_in (find nat_cmp q es)
find-block_entries q [] = refl
find-block_entries q (e ∷ es) = ap (cond (eq_by_cmp nat_cmp q e.0) (Some (blocks_in e.1))) (find-block_entries q es) ∙ option_map-cond (eq_by_cmp nat_cmp q e.0) e.1 (find nat_cmp q es)

pub get-blocks_of : (sums : FinMap nat_cmp ℕ) (group : ℕ) → finite.get (blocks_of sums) group ≡ option_map blocks_in (finite.get sums group)
unfolding blocks_of
get-blocks_of sums group =
    get-from_entries nat_cmp_total (map (λ (e : ℕ × ℕ). (e.0, blocks_in e.1)) (finite.entries sums)) group
    ∙ find-block_entries group (finite.entries sums) ∙ ap (option_map blocks_in) (sym (get-entries sums group))

-- a map whose entries are these blocks is that of the blocks
are_blocks : (m sums : FinMap nat_cmp ℕ) → ((q : ℕ) → finite.get m q ≡ option_map blocks_in (finite.get sums q)) → blocks_of sums ≡ m
are_blocks m sums is = same_map nat_cmp_total nat_cmp-IsAntisymmetric _ _ (λ q. get-blocks_of sums q ∙ sym (is q))

pub blocks_of-empty : blocks_of finite.empty ≡ finite.empty
blocks_of-empty = are_blocks finite.empty finite.empty (λ q. get-empty nat_cmp q ∙ ap (option_map blocks_in) (sym (get-empty nat_cmp q)))

pub blocks_of-insert : (sums : FinMap nat_cmp ℕ) (group n : ℕ) → blocks_of (finite.insert sums group n) ≡ finite.insert (blocks_of sums) group (blocks_in n)
blocks_of-insert sums group n = are_blocks _ (finite.insert sums group n) (λ q.
    get-insert nat_cmp_total (blocks_of sums) group (blocks_in n) q
    ∙ ap (cond (eq_by_cmp nat_cmp q group) (Some (blocks_in n))) (get-blocks_of sums q)
    ∙ option_map-cond (eq_by_cmp nat_cmp q group) n (finite.get sums q)
    ∙ ap (option_map blocks_in) (sym (get-insert nat_cmp_total sums group n q)))

pub blocks_of-remove : (sums : FinMap nat_cmp ℕ) (group : ℕ) → blocks_of (finite.remove sums group) ≡ finite.remove (blocks_of sums) group
blocks_of-remove sums group = are_blocks _ (finite.remove sums group) (λ q.
    get-remove nat_cmp_total (blocks_of sums) group q
    ∙ ap (cond (eq_by_cmp nat_cmp q group) None) (get-blocks_of sums q)
    ∙ option_map-cond_none (eq_by_cmp nat_cmp q group) (finite.get sums q)
    ∙ ap (option_map blocks_in) (sym (get-remove nat_cmp_total sums group q)))

-- a sum of whole blocks that is set, or that ends
some_blocks : (n : ℕ) → 0 < n → n % block_size ≡ 0 → 0 < blocks_in n
some_blocks n some whole = omega arith

pub blocks_of-with_sum : (sums : FinMap nat_cmp ℕ) (group n : ℕ) → n % block_size ≡ 0 → blocks_of (with_sum group n sums) ≡ with_sum group (blocks_in n) (blocks_of sums)
unfolding with_sum
blocks_of-with_sum sums group zero whole = blocks_of-remove sums group
blocks_of-with_sum sums group (suc n) whole =
    blocks_of-insert sums group (suc n) ∙ sym (with_sum-some group (blocks_in (suc n)) (blocks_of sums) (some_blocks (suc n) (omega arith) whole))

-- the blocks of one group
blocks_in-none : (o : Option ℕ) → unwrap_or (option_map blocks_in o) 0 ≡ blocks_in (unwrap_or o 0)
blocks_in-none None = refl
blocks_in-none (Some n) = refl

pub block_sum : (sums : FinMap nat_cmp ℕ) (group : ℕ) → unwrap_or (finite.get (blocks_of sums) group) 0 ≡ blocks_in (unwrap_or (finite.get sums group) 0)
block_sum sums group = ap (λ o. unwrap_or o 0) (get-blocks_of sums group) ∙ blocks_in-none (finite.get sums group)

-- numbers of blocks
pub blocks_in-charged : (sum count : ℕ) → blocks_in (sum + block_size * count) ≡ blocks_in sum + count
blocks_in-charged sum count = omega arith

pub blocks_in-canceled : (sum count : ℕ) → blocks_in (sum - block_size * count) ≡ blocks_in sum - count
blocks_in-canceled sum count = omega arith

pub whole-charged : (sum count : ℕ) → sum % block_size ≡ 0 → (sum + block_size * count) % block_size ≡ 0
whole-charged sum count whole = omega arith

pub whole-canceled : (sum count : ℕ) → sum % block_size ≡ 0 → (sum - block_size * count) % block_size ≡ 0
whole-canceled sum count whole = omega arith

blocks_in-whole : (a b : ℕ) → b % block_size ≡ 0 → blocks_in a + blocks_in b ≡ blocks_in (a + b)
blocks_in-whole a b whole = omega arith

-- where each number is of whole blocks, the blocks of the sum are the sum of the blocks
blocks_in-fold : (f : ℕ → ℕ) (first : ℕ) (groups : List ℕ) → ((group : ℕ) → f group % block_size ≡ 0)
    → fold (λ n group. n + blocks_in (f group)) (blocks_in first) groups ≡ blocks_in (fold (λ n group. n + f group) first groups)
blocks_in-fold f first [] whole = refl
blocks_in-fold f first (group ∷ groups) whole =
    ap (λ n. fold (λ m g. m + blocks_in (f g)) n groups) (blocks_in-whole first (f group) (whole group)) ∙ blocks_in-fold f (first + f group) groups whole

pub blocks_in-sum : (f : ℕ → ℕ) (groups : List ℕ) → ((group : ℕ) → f group % block_size ≡ 0) → sum_by (λ group. blocks_in (f group)) groups ≡ blocks_in (sum_by f groups)
blocks_in-sum f groups whole = blocks_in-fold f 0 groups whole
