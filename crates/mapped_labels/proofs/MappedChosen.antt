-- The best of the uberblocks that stand in a ring, by the order in which positions are looked at.
use Rattle.std.proofs.Common.{ℕ, ◌≡◌, ◌≢◌, ◌+◌, ◌/◌, ◌<◌, ◌≤◌, ◌⊎◌, inl, inr, List, true, false, Option, Some, None, IfSome, IfNone, ap, sym, subst, arith}
use Rattle.std.proofs.lemmas.Bool.{cases_lt, ltb-true, ltb-false, true≢false}
use Rattle.mapped_labels.specs.Shapes.{mapped_slot_of}
use Rattle.mapped_labels.specs.MappedUberblocks.{MappedState}
use Rattle.mapped_labels.specs.declared.uberblock.MappedUberblock.{MappedUberblock}
use Rattle.mapped_labels.specs.MappedSlots.{fields_of}
use Rattle.mapped_labels.specs.MappedRings.{StandsAtPosition, StandsInRing, IsBetterAt, IsActiveInRing, HasNoneInRing, is_above, position_of}
use Rattle.mapped_labels.proofs.MappedReads.{readings_agree}
use Rattle.mapped_labels.proofs.MappedPlaces.{slot-below, StandsInRing-at, StandsAtPosition-count, count_of, label-position_of}

-- an uberblock stands at the position that is looked at after so many others
abbrev StandsAfter : List ℕ → ℕ → MappedState → Type 0
StandsAfter ring count u = StandsAtPosition ring (position_of count) u

-- of those that stand at the first n positions that are looked at the one of the highest group, and the first that has
-- that group
pub record IsFirstHighest (ring : List ℕ) (n : ℕ) (u : MappedState) : Type 0 where
  pub count : ℕ
  pub in_range : count < n
  pub stands : StandsAfter ring count u
  pub highest : (k : ℕ) (other : MappedState) → k < n → StandsAfter ring k other → other.state.group ≤ u.state.group
  pub lowest : (k : ℕ) (other : MappedState) → k < count → StandsAfter ring k other → other.state.group ≢ u.state.group

-- the best of those that stand at the first n positions, if any
abbrev pub IsBestBelow : List ℕ → ℕ → Option MappedUberblock → Type 0
IsBestBelow ring n (Some u) = IsFirstHighest ring n (fields_of u)
IsBestBelow ring n None = (k : ℕ) (u : MappedState) → k < n → StandsAfter ring k u → ⊥

-- a place below n + 1 is below n or is n
last_or_below : (k n : ℕ) → k < n + 1 → (k < n) ⊎ (k ≡ n)
last_or_below k n below = split (cases_lt k n)
  where
    split : (k < n) ⊎ (n ≤ k) → (k < n) ⊎ (k ≡ n)
    split (inl less) = inl less
    split (inr more) = inr (omega arith)

-- two that stand at one position are one
same_group : (ring : List ℕ) (n k : ℕ) (u v : MappedState) → k ≡ n → StandsAfter ring k u → StandsAfter ring n v → u.state.group ≡ v.state.group
same_group ring n k u v same at_k at_n =
    let there : StandsAfter ring n u = subst (λ (i : ℕ). StandsAfter ring i u) same at_k in
    ap (λ (w : MappedState). w.state.group) (readings_agree _ u v there.0 at_n.0)

-- nothing more stands at the next position
none_more : (ring : List ℕ) (n : ℕ) → IsBestBelow ring n None → ((u : MappedState) → StandsAfter ring n u → ⊥) → IsBestBelow ring (n + 1) None
none_more ring n none here k u below at = split (last_or_below k n below)
  where
    split : (k < n) ⊎ (k ≡ n) → ⊥
    split (inl less) = none k u less at
    split (inr same) = here u (subst (λ (i : ℕ). StandsAfter ring i u) same at)

-- the one at the next position is the best if it is above all before it
found_best : (ring : List ℕ) (n : ℕ) (found : MappedState) → StandsAfter ring n found
    → ((k : ℕ) (other : MappedState) → k < n → StandsAfter ring k other → other.state.group < found.state.group) → IsFirstHighest ring (n + 1) found
found_best ring n found at above =
    record { count = n; in_range = omega arith; stands = at; highest = highest; lowest = λ k other below other_at same. below_not_same (above k other below other_at) same }
  where
    below_not_same : {a b : ℕ} → a < b → a ≡ b → ⊥
    below_not_same less same = omega arith

    highest : (k : ℕ) (other : MappedState) → k < n + 1 → StandsAfter ring k other → other.state.group ≤ found.state.group
    highest k other below other_at = split (last_or_below k n below)
      where
        split : (k < n) ⊎ (k ≡ n) → other.state.group ≤ found.state.group
        split (inl less) = let up = above k other less other_at in omega arith
        split (inr same) = let one = same_group ring n k other found same other_at at in omega arith

-- the best stays so if what stands at the next position is not above it
kept_best : (ring : List ℕ) (n : ℕ) (best : MappedState) → IsFirstHighest ring n best
    → ((other : MappedState) → StandsAfter ring n other → other.state.group ≤ best.state.group) → IsFirstHighest ring (n + 1) best
kept_best ring n best is here =
    record { count = is.count; in_range = let low = is.in_range in omega arith; stands = is.stands; highest = highest; lowest = is.lowest }
  where
    highest : (k : ℕ) (other : MappedState) → k < n + 1 → StandsAfter ring k other → other.state.group ≤ best.state.group
    highest k other below other_at = split (last_or_below k n below)
      where
        split : (k < n) ⊎ (k ≡ n) → other.state.group ≤ best.state.group
        split (inl less) = is.highest k other less other_at
        split (inr same) = here other (subst (λ (i : ℕ). StandsAfter ring i other) same other_at)

-- all before are below one that is above the best of them
all_below : (ring : List ℕ) (n : ℕ) (best : Option MappedUberblock) (u : MappedUberblock) → IsBestBelow ring n best → is_above u.state.group.0 best ≡ true
    → (k : ℕ) (other : MappedState) → k < n → StandsAfter ring k other → other.state.group < u.state.group.0
all_below ring n None u none above k other below at = absurd (none k other below at)
all_below ring n (Some best) u is above k other below at =
    let less = ltb-true best.state.group.0 u.state.group.0 above in
    let high = is.highest k other below at in
    omega arith

-- the best of the first n is the best of one more if nothing that stands there is above it
best_stays : (ring : List ℕ) (n : ℕ) (best : Option MappedUberblock) → IsBestBelow ring n best
    → ((u : MappedState) → StandsAfter ring n u → is_above u.state.group best ≡ false) → IsBestBelow ring (n + 1) best
best_stays ring n None none here = none_more ring n none (λ u at. true≢false (here u at))
best_stays ring n (Some best) is here = kept_best ring n (fields_of best) is (λ other at. ltb-false best.state.group.0 other.state.group (here other at))

-- one position more
pub best_more : (ring : List ℕ) (n : ℕ) (best result : Option MappedUberblock) → IsBestBelow ring n best → IsBetterAt ring (position_of n) best result → IsBestBelow ring (n + 1) result
best_more ring n best result is (inl f) =
    subst (IsBestBelow ring (n + 1)) (sym f.is) (found_best ring n (fields_of f.found) f.stands (all_below ring n best f.found is f.above))
best_more ring n best result is (inr k) = subst (IsBestBelow ring (n + 1)) (sym k.is) (best_stays ring n best is k.none)

-- the best of all is the active one
pub IsActiveInRing-best : (ring : List ℕ) (u : MappedState) → IsFirstHighest ring 128 u → IsActiveInRing ring u
IsActiveInRing-best ring u is =
    record {
      label = is.count / 32;
      in_range = let below = is.in_range in omega arith;
      stands = subst (λ (k : ℕ). StandsInRing ring k u) (label-position_of is.count) (StandsInRing-at ring (position_of is.count) u is.stands);
      highest = λ k other below stands. is.highest (count_of k (mapped_slot_of other.state.group)) other (let low = slot-below other.state.group in omega arith) (StandsAtPosition-count ring k other stands);
      lowest = lowest;
    }
  where
    lowest : (k : ℕ) (other : MappedState) → k < is.count / 32 → StandsInRing ring k other → other.state.group ≢ u.state.group
    lowest k other below stands same =
        let low = slot-below other.state.group in
        is.lowest (count_of k (mapped_slot_of other.state.group)) other (omega arith) (StandsAtPosition-count ring k other stands) same

pub HasNoneInRing-best : (ring : List ℕ) → IsBestBelow ring 128 None → HasNoneInRing ring
HasNoneInRing-best ring none k u below stands =
    none (count_of k (mapped_slot_of u.state.group)) u (let low = slot-below u.state.group in omega arith) (StandsAtPosition-count ring k u stands)

pub active_from_best : (ring : List ℕ) (best : Option MappedUberblock) → IsBestBelow ring 128 best → IfSome best (λ u. IsActiveInRing ring (fields_of u))
active_from_best ring None none = tt
active_from_best ring (Some u) is = IsActiveInRing-best ring (fields_of u) is

pub none_from_best : (ring : List ℕ) (best : Option MappedUberblock) → IsBestBelow ring 128 best → IfNone best (HasNoneInRing ring)
none_from_best ring None none = HasNoneInRing-best ring none
none_from_best ring (Some u) is = tt
