-- The best of the configs of the first labels.
use Rattle.std.proofs.Common.{◌≡◌, ◌≢◌, ℕ, ◌+◌, ◌<◌, ◌≤◌, ◌⊎◌, inl, inr, List, length, Option, Some, None, Bor, Bool, true, false, sym, ◌∙◌, ap, subst, arith}
use Rattle.std.specs.Prelude.{slice_get, IfSome, IfOk, OnErr, IsTrue}
use Rattle.std.specs.Option.{option_copied, ok_or}
use Rattle.std.proofs.lemmas.Bool.{cases_lt}
use Rattle.std.proofs.lemmas.Option.{slice_get_within}
use Rattle.base.specs.formats.Labels.{Config, IsCandidate, IsChoice, HasNoCandidate}

-- of the candidates of the first labels the one of the highest group, and then of the lowest label
pub record IsBest (configs : List (Option Config)) (guid group n : ℕ) (c : Config) : Type 0 where
  pub label : ℕ
  pub below : label < n
  pub candidate : IsCandidate configs guid group label c
  pub highest : (k : ℕ) (other : Config) → k < n → IsCandidate configs guid group k other → other.group ≤ c.group
  pub lowest : (k : ℕ) (other : Config) → k < label → IsCandidate configs guid group k other → other.group ≢ c.group

-- this is the best of the first labels, or None if they have no candidate
abbrev pub BestAmong : List (Option Config) → ℕ → ℕ → ℕ → Option Config → Type 0
BestAmong configs guid group n None = (k : ℕ) (c : Config) → k < n → IsCandidate configs guid group k c → ⊥
BestAmong configs guid group n (Some c) = IsBest configs guid group n c

-- a config of no higher group than the best
abbrev pub IsNotHigher : Option Config → Config → Type 0
IsNotHigher None c = ⊥
IsNotHigher (Some b) c = c.group ≤ b.group

module _ (configs : List (Option Config)) (guid group n : ℕ) where
  -- a label that has nothing better leaves the best as it is
  pub BestAmong-keeps : (best : Option Config) → BestAmong configs guid group n best → ((c : Config) → IsCandidate configs guid group n c → IsNotHigher best c)
      → BestAmong configs guid group (n + 1) best
  BestAmong-keeps None b worse = λ k c below candidate. go k c candidate (cases_lt k n) below
    where
      go : (k : ℕ) (c : Config) → IsCandidate configs guid group k c → (k < n) ⊎ (n ≤ k) → k < n + 1 → ⊥
      go k c candidate (inl less) below = b k c less candidate
      go k c candidate (inr more) below = let same : k ≡ n = omega arith in
          worse c (let P : ℕ → Type 0 = λ i. IsCandidate configs guid group i c in subst P same candidate)
  BestAmong-keeps (Some best) b worse = record {
    label = b.label;
    below = omega (arith, b.below);
    candidate = b.candidate;
    highest = λ k other below candidate. go k other candidate (cases_lt k n) below;
    lowest = b.lowest;
  }
    where
      go : (k : ℕ) (c : Config) → IsCandidate configs guid group k c → (k < n) ⊎ (n ≤ k) → k < n + 1 → c.group ≤ best.group
      go k c candidate (inl less) below = b.highest k c less candidate
      go k c candidate (inr more) below = let same : k ≡ n = omega arith in
          worse c (let P : ℕ → Type 0 = λ i. IsCandidate configs guid group i c in subst P same candidate)

  -- each candidate of a label is its config
  only : (k : ℕ) (c d : Config) → IsCandidate configs guid group k c → IsCandidate configs guid group k d → d ≡ c
  only k c d x y = let e : Some (Some d) ≡ Some (Some c) = sym y.0 ∙ x.0 in cc

  -- a candidate of a higher group is the best
  pub BestAmong-takes : (best : Option Config) (c : Config) → BestAmong configs guid group n best → IsCandidate configs guid group n c → IfSome best (λ (b : Config). b.group < c.group)
      → BestAmong configs guid group (n + 1) (Some c)
  BestAmong-takes best c b candidate higher = record {
    label = n;
    below = omega arith;
    candidate = candidate;
    highest = λ k other below x. go k other x (cases_lt k n) below;
    lowest = λ k other below x same. lower best b higher k other below x same;
  }
    where
      below_best : (best : Option Config) → BestAmong configs guid group n best → IfSome best (λ (b : Config). b.group < c.group)
          → (k : ℕ) (other : Config) → k < n → IsCandidate configs guid group k other → other.group < c.group
      below_best None b higher k other below x = absurd (b k other below x)
      below_best (Some d) b higher k other below x = omega (arith, b.highest k other below x, higher)

      lower : (best : Option Config) → BestAmong configs guid group n best → IfSome best (λ (b : Config). b.group < c.group)
          → (k : ℕ) (other : Config) → k < n → IsCandidate configs guid group k other → other.group ≡ c.group → ⊥
      lower best b higher k other below x same = omega (arith, below_best best b higher k other below x, same)

      go : (k : ℕ) (other : Config) → IsCandidate configs guid group k other → (k < n) ⊎ (n ≤ k) → k < n + 1 → other.group ≤ c.group
      go k other x (inl less) below = omega (arith, below_best best b higher k other less x)
      go k other x (inr more) below =
          let same : k ≡ n = omega arith in
          let there : IsCandidate configs guid group n other = let P : ℕ → Type 0 = λ i. IsCandidate configs guid group i other in subst P same x in
          let is : other ≡ c = only n c other candidate there in
          omega (arith, ap (λ (d : Config). d.group) is)

-- the best of all labels is the choice
pub IsBest-IsChoice : (configs : List (Option Config)) (guid group n : ℕ) (c : Config) → length configs ≤ n → IsBest configs guid group n c → IsChoice configs guid group c
IsBest-IsChoice configs guid group n c all b = record {
  label = b.label;
  candidate = b.candidate;
  highest = λ k other x. b.highest k other (let l : k < length configs = slice_get_within configs k (Some other) x.0 in omega (arith, l, all)) x;
  lowest = b.lowest;
}

-- if the labels have no best, none has a candidate
pub BestAmong-none : (configs : List (Option Config)) (guid group n : ℕ) → length configs ≤ n → BestAmong configs guid group n None → HasNoCandidate configs guid group
BestAmong-none configs guid group n all b = λ k c x. b k c (let l : k < length configs = slice_get_within configs k (Some c) x.0 in omega (arith, l, all)) x

-- the label's config is the only one that it can have as a candidate
pub held : (configs : List (Option Config)) (guid group n : ℕ) (r : Option Config) (c d : Config) → slice_get configs n ≡ Some r → r ≡ Some d → IsCandidate configs guid group n c → c ≡ d
held configs guid group n r c d at is candidate = let e : Some (Some c) ≡ Some (Some d) = sym candidate.0 ∙ at ∙ ap (λ (o : Option Config). Some o) is in cc

-- a label with no config has no candidate
pub held-none : (configs : List (Option Config)) (guid group n : ℕ) (r : Option Config) (c : Config) → slice_get configs n ≡ Some r → r ≡ None → IsCandidate configs guid group n c → ⊥
held-none configs guid group n r c at is candidate = let e : Some (Some c) ≡ Some None = sym candidate.0 ∙ at ∙ ap (λ (o : Option Config). Some o) is in cc

-- what holds of a reference's value holds of the copy
pub higher-copied : (o : Option (Bor Config)) (c : Config) → IfSome o (λ (b : Bor Config). b.now.group < c.group) → IfSome (option_copied o) (λ (b : Config). b.group < c.group)
higher-copied None c h = h
higher-copied (Some b) c h = h

-- a config that is not higher than the best
pub not_higher : (o : Option (Bor Config)) (c : Config) (r : Bool) → (IfSome o (λ (b : Bor Config). b.now.group < c.group) → IsTrue r) → r ≡ false → IsNotHigher (option_copied o) c
not_higher None c r told wrong = let yes : r ≡ true = told tt in absurd (let e : true ≡ false = sym yes ∙ wrong in cc)
not_higher (Some b) c r told wrong = go (cases_lt b.now.group c.group)
  where
    go : (b.now.group < c.group) ⊎ (c.group ≤ b.now.group) → c.group ≤ b.now.group
    go (inl less) = let yes : r ≡ true = told less in absurd (let e : true ≡ false = sym yes ∙ wrong in cc)
    go (inr more) = more

module _ (configs : List (Option Config)) (guid group n : ℕ) (all : length configs ≤ n) {E : Type 0} (e : E) where
  -- the best of all labels is the choice, and without one there is no candidate
  pub chosen : (o : Option (Bor Config)) → BestAmong configs guid group n (option_copied o) → IfOk (ok_or o e) (λ (config : Bor Config). IsChoice configs guid group config.now)
  chosen None b = tt
  chosen (Some c) b = IsBest-IsChoice configs guid group n c.now all b

  pub none_chosen : (o : Option (Bor Config)) → BestAmong configs guid group n (option_copied o) → OnErr (ok_or o e) (HasNoCandidate configs guid group)
  none_chosen None b = BestAmong-none configs guid group n all b
  none_chosen (Some c) b = tt
