-- Steps that may be refused, in turn.
use Rattle.std.proofs.Common.{◌≡◌, List, [], ◌∷◌, ◌++◌, Result, Ok, Err, refl, ◌∙◌}
use Rattle.std.specs.Prelude.{All, Bool, true, false, not, map}
use Rattle.std.proofs.lemmas.List.Elements.{All-head, All-tail}
use Rattle.base.specs.declared.error.PoolError.{PoolError}
use Rattle.base.specs.history.Sequences.{and_then, in_turn, Commute}
use Rattle.base.specs.history.History.{kept}

-- what a step was taken from
pub parted : {A B : Type 0} (r : Result A PoolError) (f : A → Result B PoolError) (b : B) → and_then r f ≡ Ok b → (a : A) × (r ≡ Ok a) × (f a ≡ Ok b)
parted (Ok a) f b h = (a, refl, h)
parted (Err e) f b h = cc

pub joined : {A B : Type 0} (r : Result A PoolError) (f : A → Result B PoolError) (a : A) (b : B) → r ≡ Ok a → f a ≡ Ok b → and_then r f ≡ Ok b
joined r f a b e h = rw e h

module _ {X A : Type 0} (run : X → A → Result A PoolError) where
  pub in_turn-append : (xs ys : List X) (a b c : A) → in_turn run xs a ≡ Ok b → in_turn run ys b ≡ Ok c → in_turn run (xs ++ ys) a ≡ Ok c
  in_turn-append [] ys a b c h k = let e : a ≡ b = cc in rw e k
  in_turn-append (x ∷ xs) ys a b c h k =
      let p = parted (run x a) (in_turn run xs) b h in
      joined (run x a) (in_turn run (xs ++ ys)) p.0 c p.1 (in_turn-append xs ys p.0 b c p.2 k)

  -- a step that commutes with each of some commutes with all of them in turn
  pub past : (f : A → Result A PoolError) (xs : List X) → All (λ x. Commute f (run x)) xs → Commute f (in_turn run xs)
  past f [] all a b h = let p = parted (f a) (in_turn run []) b h in p.1 ∙ p.2
  past f (x ∷ xs) all a b h =
      let p = parted (f a) (in_turn run (x ∷ xs)) b h in
      let q = parted (run x p.0) (in_turn run xs) b p.2 in
      let r = parted (run x a) f q.0 (All-head (λ x. Commute f (run x)) x xs all a q.0 (joined (f a) (run x) p.0 q.0 p.1 q.1)) in
      let s = past f xs (All-tail (λ x. Commute f (run x)) x xs all) r.0 b (joined (f r.0) (in_turn run xs) q.0 b r.2 q.2) in
      rw r.1 s

  pub before : (f : A → Result A PoolError) (xs : List X) → All (λ x. Commute (run x) f) xs → Commute (in_turn run xs) f
  before f [] all a b h = joined (f a) (in_turn run []) b b h refl
  before f (x ∷ xs) all a b h =
      let p = parted (in_turn run (x ∷ xs) a) f b h in
      let q = parted (run x a) (in_turn run xs) p.0 p.1 in
      let r = parted (f q.0) (in_turn run xs) b (before f xs (All-tail (λ x. Commute (run x) f) x xs all) q.0 b (joined (in_turn run xs q.0) f p.0 b q.2 p.2)) in
      let s = parted (f a) (run x) r.0 (All-head (λ x. Commute (run x) f) x xs all a r.0 (joined (run x a) f q.0 r.0 q.1 r.1)) in
      joined (f a) (in_turn run (x ∷ xs)) s.0 b s.1 (joined (run x s.0) (in_turn run xs) r.0 b s.2 r.2)

  -- each unmarked step commutes with the marked ones after it
  abbrev pub Passes : List Bool → List X → Type 0
  Passes [] [] = Unit {0}
  Passes [] (x ∷ xs) = ⊥
  Passes (mark ∷ marks) [] = ⊥
  Passes (true ∷ marks) (x ∷ xs) = Passes marks xs
  Passes (false ∷ marks) (x ∷ xs) = All (λ y. Commute (run x) (run y)) (kept marks xs) × Passes marks xs

  -- then the marked ones can go first
  pub sifted : (marks : List Bool) (xs : List X) (a c : A) → Passes marks xs → in_turn run xs a ≡ Ok c
      → (b : A) × (in_turn run (kept marks xs) a ≡ Ok b) × (in_turn run (kept (map not marks) xs) b ≡ Ok c)
  sifted [] [] a c passes h = (a, refl, h)
  sifted [] (x ∷ xs) a c passes h = absurd passes
  sifted (mark ∷ marks) [] a c passes h = absurd passes
  sifted (true ∷ marks) (x ∷ xs) a c passes h =
      let p = parted (run x a) (in_turn run xs) c h in
      let q = sifted marks xs p.0 c passes p.2 in
      (q.0, joined (run x a) (in_turn run (kept marks xs)) p.0 q.0 p.1 q.1, q.2)
  sifted (false ∷ marks) (x ∷ xs) a c passes h =
      let p = parted (run x a) (in_turn run xs) c h in
      let q = sifted marks xs p.0 c passes.1 p.2 in
      let r = parted (in_turn run (kept marks xs) a) (run x) q.0
      (past (run x) (kept marks xs) passes.0 a q.0 (joined (run x a) (in_turn run (kept marks xs)) p.0 q.0 p.1 q.1)) in
      (r.0, r.1, joined (run x r.0) (in_turn run (kept (map not marks) xs)) q.0 c r.2 q.2)
