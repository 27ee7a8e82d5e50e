-- Objects of zeros: one more that is set, and none past the last number.
use Rattle.std.proofs.Common.{◌≡◌, ◌∙◌, ◌<◌, ◌≤◌, ◌≢◌, ◌⊎◌, inl, inr, ℕ, List, length, replicate, get_or, Option, Some, None, ap, sym, arith}
use Rattle.std.specs.Prelude.{option_map}
use Rattle.std.specs.Ordering.{nat_cmp}
use Rattle.std.specs.FinMap as finite
use Rattle.std.specs.FinMap.{FinMap, get-empty}
use Rattle.std.proofs.Math.ListN.{set}
use Rattle.std.proofs.lemmas.Bool.{cases_eq, cases_lt}
use Rattle.std.proofs.lemmas.List.{get_or-replicate, get_or_past, get_or-set_other, get_or-set_same, length-replicate}
use Rattle.base.proofs.history.Objects.{get-stored_other, get-stored_same}
use Rattle.extents.specs.Patches.{AreNumbered}
use Rattle.tree_blocks.specs.Sources.{object_length}
use Rattle.tree_blocks.proofs.TreeObjects.{none_long}
use Rattle.object_views.specs.declared.zeros.ZeroObjects.{ZeroObjects}

pub zeros_numbered : (z : ZeroObjects) → AreNumbered z.told.value
zeros_numbered z n past = none_long (finite.get z.told.value n) (sym (z.sized n) ∙ get_or_past z.lengths.items n None (omega (arith, past, z.lengths.ok.0, z.all_objects)))

-- there is no object at first
abbrev no_length : Option ℕ
no_length = None

none_at : (count n : ℕ) → get_or (replicate count no_length) n no_length ≡ no_length
none_at count n = go (cases_lt n count)
  where
    go : (n < count) ⊎ (count ≤ n) → get_or (replicate count no_length) n no_length ≡ no_length
    go (inl low) = get_or-replicate count n no_length no_length low
    go (inr past) = get_or_past (replicate count no_length) n no_length (omega (arith, past, length-replicate count no_length))

pub none_told : (objects : FinMap nat_cmp (List ℕ)) → objects ≡ finite.empty → (n : ℕ) → object_length objects n ≡ None
none_told objects none n = ap (λ (m : FinMap nat_cmp (List ℕ)). object_length m n) none ∙ ap (option_map length) (get-empty {X = List ℕ} nat_cmp n)

pub none_sized : (lengths : List (Option ℕ)) (objects : FinMap nat_cmp (List ℕ)) (count : ℕ) → lengths ≡ replicate count None → objects ≡ finite.empty
    → (n : ℕ) → get_or lengths n None ≡ object_length objects n
none_sized lengths objects count are none n = ap (λ (l : List (Option ℕ)). get_or l n None) are ∙ none_at count n ∙ sym (none_told objects none n)

-- an object of zeros is put among others
module _ (objects : FinMap nat_cmp (List ℕ)) (n size : ℕ) (bytes : List ℕ) (zeros : bytes ≡ replicate size 0) where
  pub length_here : object_length (finite.insert objects n bytes) n ≡ Some size
  length_here =
      ap (option_map length) (get-stored_same objects n (Some bytes))
      ∙ ap (λ (k : ℕ). Some k) (ap (λ (l : List ℕ). length l) zeros ∙ length-replicate size 0)

  pub length_elsewhere : (q : ℕ) → q ≢ n → object_length (finite.insert objects n bytes) q ≡ object_length objects q
  length_elsewhere q other = ap (option_map length) (get-stored_other objects n (Some bytes) q other)

  -- and so is its length
  pub sized_more : (lengths : List (Option ℕ)) → n < length lengths → ((q : ℕ) → get_or lengths q None ≡ object_length objects q)
      → (q : ℕ) → get_or (set lengths n (Some size)) q None ≡ object_length (finite.insert objects n bytes) q
  sized_more lengths low before q = go (cases_eq q n)
    where
      go : (q ≡ n) ⊎ (q ≢ n) → get_or (set lengths n (Some size)) q None ≡ object_length (finite.insert objects n bytes) q
      go (inl same) = rw same (get_or-set_same lengths n (Some size) None low ∙ sym length_here)
      go (inr other) = get_or-set_other lengths n q (Some size) None other ∙ before q ∙ sym (length_elsewhere q other)
