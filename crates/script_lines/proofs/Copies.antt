-- A printable word that does not begin with `@` stands for its own bytes, and one of copies is cut at its colon.
use Rattle.std.proofs.Common.{◌≡◌, ◌≢◌, ◌<◌, ◌∷◌, [], ℕ, List, Option, ap, arith, lit<, refl, rules, subst, true}
use Rattle.std.specs.Borrow.{Bor}
use Rattle.std.specs.Option.{MatchOption}
use Rattle.std.proofs.lemmas.Str.Parse.{digit_at}
use Rattle.std.proofs.lemmas.Str.Pattern.{IsSplitOnceResult, split_after}
use Rattle.script_lines.specs.Copies.{AreCopies, IsContentOf, is_printable}

pub own_bytes : (word : List ℕ) → is_printable word ≡ true → ((rest : List ℕ) → word ≢ 64 ∷ rest) → IsContentOf word word
own_bytes [] printable other = search rules
own_bytes (first ∷ rest) printable other = (printable, (λ e. absurd (other rest (ap (λ x. x ∷ rest) e))), (λ _. refl))

-- what a word with `@` stands for, the rest stands for
pub copies_of : (word copies bytes : List ℕ) → word ≡ 64 ∷ copies → IsContentOf word bytes → AreCopies copies bytes
copies_of word copies bytes is content = (subst (λ w. IsContentOf w bytes) is content).1 refl

pub copies_cut : (copies bytes : List ℕ) (are : AreCopies copies bytes) (r : Option (Bor (List ℕ) × Bor (List ℕ))) → IsSplitOnceResult 58 copies r
    → MatchOption r ⊥ (λ cut. (cut.0.now ≡ are.0) × (cut.1.now ≡ are.1 ∷ []))
copies_cut copies bytes are r split =
    split_after 58 copies are.0 (are.1 ∷ []) r split (lit< tt) are.2 (λ i low colon. let digit = digit_at are.0 i are.3.0.1 low in absurd (omega (arith, digit, colon)))
