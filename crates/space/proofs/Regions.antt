-- The counts of regions, after a flag is set or cleared.
use Rattle.std.proofs.Common.{◌≡◌, ℕ, ◌+◌, ◌-◌, ◌*◌, ◌/◌, ◌%◌, ◌<◌, ◌≤◌, Bool, true, false, cond, List, length, min, get_or, inl, inr, sym, ◌∙◌, ap, arith}
use Rattle.std.specs.Prelude.{replicate}
use Rattle.std.proofs.Math.ListN.{set as list_set}
use Rattle.std.proofs.lemmas.Bool.{cases_eq}
use Rattle.std.proofs.lemmas.List.{get_or-replicate, get_or-set_other, get_or-set_same, length-replicate, length-set}
use Rattle.space.specs.Regions.{AreCounts, region_size}
use Rattle.space.specs.SetFlags.{AreClear, set_count}
use Rattle.space.proofs.SetFlags.{none_set, one_set, set_count-all, set_count-apart, set_count-le, set_count-set}

-- the count of a flag's region alone changes, as the flag does
counted : (counts : List ℕ) (flags : List Bool) (i c : ℕ) (b : Bool) → AreCounts counts flags → i / region_size < length counts → i < length flags
    → c + cond (get_or flags i false) 1 0 ≡ get_or counts (i / region_size) 0 + cond b 1 0
    → AreCounts (list_set counts (i / region_size) c) (list_set flags i b)
counted counts flags i c b are there within is r low = elim (cases_eq r (i / region_size)) [
  | inl here ↦
      (let inside = set_count-set (r * region_size) region_size i b flags (omega (arith, here)) (omega (arith, here)) within in
      let count = are (i / region_size) there in
      rw here (get_or-set_same counts (i / region_size) c 0 there ∙ (let all = rw here at inside in omega (arith, all, count, is))))
  | inr other ↦
      get_or-set_other counts (i / region_size) r c 0 other
      ∙ are r (let h = rw length-set at low in h)
      ∙ sym (set_count-apart (r * region_size) region_size i b flags (λ k from below same. other (omega (arith, from, below, same))))
]

pub counted_set : (counts : List ℕ) (flags : List Bool) (i : ℕ) → AreCounts counts flags → i / region_size < length counts → i < length flags → get_or flags i false ≡ false
    → AreCounts (list_set counts (i / region_size) (get_or counts (i / region_size) 0 + 1)) (list_set flags i true)
counted_set counts flags i are there within is = counted counts flags i _ true are there within (rw is (omega arith))

-- a region has a set flag more only if there is room for it
pub fits_one : (counts : List ℕ) (flags : List Bool) (i : ℕ) → AreCounts counts flags → i / region_size < length counts → i < length flags → get_or flags i false ≡ false
    → get_or counts (i / region_size) 0 + 1 ≤ region_size
fits_one counts flags i are there within is =
    let low : ℕ = i / region_size * region_size in
    let more = set_count-set low region_size i true flags (omega arith) (omega arith) within in
    let most = set_count-le low region_size (list_set flags i true) in
    let count = are (i / region_size) there in
    let as_false = rw is at more in
    omega (arith, as_false, most, count)

-- the region of a set flag counts it
pub has_one : (counts : List ℕ) (flags : List Bool) (i : ℕ) → AreCounts counts flags → i / region_size < length counts → get_or flags i false ≡ true → 1 ≤ get_or counts (i / region_size) 0
has_one counts flags i are there is =
    let one = one_set (i / region_size * region_size) region_size i flags (omega arith) (omega arith) is in
    let count = are (i / region_size) there in
    omega (arith, one, count)

pub counted_cleared : (counts : List ℕ) (flags : List Bool) (i : ℕ) → AreCounts counts flags → i / region_size < length counts → i < length flags → get_or flags i false ≡ true
    → AreCounts (list_set counts (i / region_size) (get_or counts (i / region_size) 0 - 1)) (list_set flags i false)
counted_cleared counts flags i are there within is =
    let one = has_one counts flags i are there is in
    counted counts flags i _ false are there within (rw is (omega (arith, one)))

-- a region that counts none has none
pub region_clear : (counts : List ℕ) (flags : List Bool) (r : ℕ) → AreCounts counts flags → r < length counts → get_or counts r 0 ≡ 0
    → AreClear (r * region_size) (r * region_size + region_size) flags
region_clear counts flags r are there none = none_set (r * region_size) region_size flags (sym (are r there) ∙ none)

-- where all flags are set, each region but the last counts as many as it may
pub all_counted : (count : ℕ) (flags : List Bool) → flags ≡ replicate count true
    → AreCounts (list_set (replicate (count / region_size + 1) region_size) (count / region_size) (count % region_size)) flags
all_counted count flags all r low =
    let full : List ℕ = replicate (count / region_size + 1) region_size in
    let last : ℕ = count / region_size in
    let there : last < length full = omega (arith, length-replicate {A = ℕ} (count / region_size + 1) region_size) in
    let inside : r < count / region_size + 1 = (let h = rw length-set at low in omega (arith, h, length-replicate {A = ℕ} (count / region_size + 1) region_size)) in
    let counts = set_count-all (r * region_size) region_size count in
    (elim (cases_eq r last) as (λ _. get_or (list_set full last (count % region_size)) r 0 ≡ min region_size (count - r * region_size)) [
      | inl here ↦ rw here (get_or-set_same full last (count % region_size) 0 there ∙ omega arith)
      | inr other ↦
          get_or-set_other full last r (count % region_size) 0 other
          ∙ get_or-replicate (count / region_size + 1) r region_size 0 inside ∙ omega (arith, inside, other)
    ])
    ∙ sym (ap (set_count (r * region_size) region_size) all ∙ counts)
