-- Where each call stands in the order of a sync's calls: first the blocks, and then the others.
use Rattle.std.proofs.Common.{◌≡◌, ℕ, zero, suc, ◌+◌, ◌-◌, ◌<◌, Bool, List, [], ◌∷◌, ◌++◌, map, length, take, Some, None, refl, subst, ◌∙◌, ap, arith}
use Rattle.std.specs.Prelude.{slice_get, if◌then◌else◌}
use Rattle.std.specs.List.{count_by, range_with_len}
use Rattle.std.proofs.lemmas.List.{length-append}
use Rattle.std.proofs.lemmas.List.FromFn.{length-map-range_with_len, get_or-map-range_with_len}
use Rattle.std.proofs.lemmas.Option.{slice_get-get_or}
use Rattle.base.specs.disk.SyncOrder.{DeviceCall, calls_in_order, is_config, label_stage}
use Rattle.base.specs.disk.SyncOrder.DeviceCall.{Block, Uberblock, Flush}

slice_get_front : {A : Type 0} (xs ys : List A) (k : ℕ) → k < length xs → slice_get (xs ++ ys) k ≡ slice_get xs k
slice_get_front [] ys k below = absurd (omega (arith, below))
slice_get_front (x ∷ xs) ys zero below = refl
slice_get_front (x ∷ xs) ys (suc k) below = slice_get_front xs ys k (omega (arith, below))

slice_get_behind : {A : Type 0} (xs ys : List A) (k p : ℕ) → length xs + p ≡ k → slice_get (xs ++ ys) k ≡ slice_get ys p
slice_get_behind [] ys k p at = let same : k ≡ p = omega (arith, at) in ap (λ (i : ℕ). slice_get ys i) same
slice_get_behind (x ∷ xs) ys zero p at = absurd (omega (arith, at))
slice_get_behind (x ∷ xs) ys (suc k) p at = slice_get_behind xs ys k p (omega (arith, at))

abbrev blocks_in_order : ℕ → List DeviceCall
blocks_in_order count = map (λ k. Block k) (range_with_len 0 count)

length_blocks : (count : ℕ) → length (blocks_in_order count) ≡ count
length_blocks count = length-map-range_with_len (λ k. Block k) 0 count

in_one : (blocks flush first ubers last : List DeviceCall) → blocks ++ flush ++ first ++ ubers ++ flush ++ last ≡ blocks ++ (flush ++ first ++ ubers ++ flush ++ last)
in_one [] flush first ubers last = refl
in_one (b ∷ blocks) flush first ubers last = ap (λ (l : List DeviceCall). b ∷ l) (in_one blocks flush first ubers last)

-- no block is a config
no_configs : (n from d : ℕ) (rest : List DeviceCall) → count_by is_config (take d (map (λ k. Block k) (range_with_len from n) ++ rest)) ≡ count_by is_config (take (d - n) rest)
no_configs zero from d rest = let same : d ≡ d - zero = omega arith in ap (λ (k : ℕ). count_by is_config (take k rest)) same
no_configs (suc n) from zero rest = let same : zero ≡ zero - suc n = omega arith in ap (λ (k : ℕ). count_by is_config (take k rest)) same
no_configs (suc n) from (suc d) rest = let same : d - n ≡ suc d - suc n = omega arith in no_configs n (from + 1) d rest ∙ ap (λ (k : ℕ). count_by is_config (take k rest)) same

module _ (count : ℕ) (staged : Bool) (first last : List ℕ) where
  -- the blocks, and then the others
  blocks_first : calls_in_order count staged first last ≡ blocks_in_order count ++ calls_in_order 0 staged first last
  blocks_first = in_one (blocks_in_order count) (Flush ∷ []) (if staged then label_stage first else []) (map (λ l. Uberblock l) (range_with_len 0 4)) (if staged then label_stage last else [])

  -- the blocks stand first, in their order
  pub block_stands : (k : ℕ) → k < count → slice_get (calls_in_order count staged first last) k ≡ Some (Block k)
  block_stands k below =
      let inside : k < length (blocks_in_order count) = omega (arith, below, length_blocks count) in
      ap (λ (calls : List DeviceCall). slice_get calls k) blocks_first
      ∙ slice_get_front (blocks_in_order count) (calls_in_order 0 staged first last) k inside
      ∙ slice_get-get_or (blocks_in_order count) k Flush inside
      ∙ ap (λ (call : DeviceCall). Some call) (get_or-map-range_with_len (λ k. Block k) 0 count k k Flush below (omega arith))

  -- the others stand after them
  pub others_stand : (place position : ℕ) → count + position ≡ place → slice_get (calls_in_order count staged first last) place ≡ slice_get (calls_in_order 0 staged first last) position
  others_stand place position at =
      ap (λ (calls : List DeviceCall). slice_get calls place) blocks_first
      ∙ slice_get_behind (blocks_in_order count) (calls_in_order 0 staged first last) place position (omega (arith, length_blocks count, at))

  -- there are so many
  pub length-calls : length (calls_in_order count staged first last) ≡ count + length (calls_in_order 0 staged first last)
  length-calls =
      ap (λ (calls : List DeviceCall). length calls) blocks_first
      ∙ length-append (blocks_in_order count) (calls_in_order 0 staged first last)
      ∙ ap (λ (n : ℕ). n + length (calls_in_order 0 staged first last)) (length_blocks count)

  -- and as many configs are among the first of them as among the others
  pub count-configs : (d : ℕ) → count_by is_config (take d (calls_in_order count staged first last)) ≡ count_by is_config (take (d - count) (calls_in_order 0 staged first last))
  count-configs d = ap (λ (calls : List DeviceCall). count_by is_config (take d calls)) blocks_first ∙ no_configs count 0 d (calls_in_order 0 staged first last)

-- each call of a list, with its place in it
abbrev pub EachAt : (ℕ → DeviceCall → Type 0) → ℕ → List DeviceCall → Type 0
EachAt P n [] = Unit {0}
EachAt P n (c ∷ calls) = P n c × EachAt P (n + 1) calls

pub call_at : (P : ℕ → DeviceCall → Type 0) (n : ℕ) (calls : List DeviceCall) (k : ℕ) (call : DeviceCall) → EachAt P n calls → slice_get calls k ≡ Some call → P (n + k) call
call_at P n [] k call each at = absurd (let no_way : None ≡ Some call = at in cc)
call_at P n (c ∷ calls) zero call each at = let same : c ≡ call = cc in let place : n ≡ n + zero = omega arith in subst (λ (m : ℕ). P m call) place (subst (P n) same each.0)
call_at P n (c ∷ calls) (suc k) call each at = let place : n + 1 + k ≡ n + suc k = omega arith in subst (λ (m : ℕ). P m call) place (call_at P (n + 1) calls k call each.1 at)
