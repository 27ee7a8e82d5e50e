-- What calls, and a crash, do to the writes that count.
use Rattle.std.proofs.Common.{◌≡◌, ◌⊎◌, inl, inr, ⊎_elim, ℕ, Bool, true, false, List, [], ◌∷◌, ◌++◌, length, take, drop, filter, cond, sym, ◌∙◌, ap, subst, length-take}
use Rattle.std.proofs.lemmas.List.{take_min}
use Rattle.std.proofs.lemmas.Slice.Eq.{bytes_eq-Decides}
use Rattle.base.specs.formats.Fields.{part}
use Rattle.base.specs.disk.Disk.{Write, Moment, handed, holds, HandedSince, wrote, settled}
use Rattle.base.specs.disk.Fairness.{IsFair, HandsOnly}

pub handed_left : (t : ℕ) (xs ys : List Write) (place : ℕ) (content : List ℕ) → HandedSince t xs place content → HandedSince t (xs ++ ys) place content
handed_left t [] ys place content some = absurd some
handed_left t (w ∷ xs) ys place content (inl here) = inl here
handed_left t (w ∷ xs) ys place content (inr there) = inr (handed_left t xs ys place content there)

pub handed_right : (t : ℕ) (xs ys : List Write) (place : ℕ) (content : List ℕ) → HandedSince t ys place content → HandedSince t (xs ++ ys) place content
handed_right t [] ys place content some = some
handed_right t (w ∷ xs) ys place content some = inr (handed_right t xs ys place content some)

pub handed_cases : (t : ℕ) (xs ys : List Write) (place : ℕ) (content : List ℕ) → HandedSince t (xs ++ ys) place content → HandedSince t xs place content ⊎ HandedSince t ys place content
handed_cases t [] ys place content some = inr some
handed_cases t (w ∷ xs) ys place content (inl here) = inl (inl here)
handed_cases t (w ∷ xs) ys place content (inr there) = ⊎_elim (λ left. inl (inr left)) (λ right. inr right) (handed_cases t xs ys place content there)

-- what is filtered was there
pub handed_filter : (test : Write → Bool) (t : ℕ) (ws : List Write) (place : ℕ) (content : List ℕ) → HandedSince t (filter test ws) place content → HandedSince t ws place content
handed_filter test t [] place content some = some
handed_filter test t (w ∷ ws) place content some = by_test (λ there. handed_filter test t ws place content there) (test w) some
  where
    by_test : (HandedSince t (filter test ws) place content → HandedSince t ws place content) → (b : Bool) → HandedSince t (cond b (w ∷ filter test ws) (filter test ws)) place content → HandedSince t (w ∷ ws) place content
    by_test before true (inl here) = inl here
    by_test before true (inr there) = inr (before there)
    by_test before false there = inr (before there)

-- a crash or a good flush adds none
pub handed_settled : (t : ℕ) (image : List ℕ) (m : Moment) (place : ℕ) (content : List ℕ) → HandedSince t (handed (settled image m)) place content → HandedSince t (handed m) place content
handed_settled t image m place content some =
    ⊎_elim (λ left. handed_left t m.unflushed m.kept place content (handed_filter (holds image) t m.unflushed place content left)) (λ right. handed_right t m.unflushed m.kept place content right)
    (handed_cases t (filter (holds image) m.unflushed) m.kept place content some)

part_of_part : (place n : ℕ) (image : List ℕ) → part image place (length (part image place n)) ≡ part image place n
part_of_part place n image = ap (λ (k : ℕ). take k (drop place image)) (length-take n (drop place image)) ∙ take_min n (drop place image)

handed_held : (t : ℕ) (image : List ℕ) (ws : List Write) (place n : ℕ) → HandedSince t ws place (part image place n) → HandedSince t (filter (holds image) ws) place (part image place n)
handed_held t image [] place n some = some
handed_held t image (w ∷ ws) place n (inl here) =
    let held : part image w.place (length w.content) ≡ w.content =
    ap (λ (p : ℕ). part image p (length w.content)) here.1 ∙ ap (λ (l : List ℕ). part image place (length l)) here.2 ∙ part_of_part place n image ∙ sym here.2 in
    subst (λ (b : Bool). HandedSince t (cond b (w ∷ filter (holds image) ws) (filter (holds image) ws)) place (part image place n)) (sym ((bytes_eq-Decides (part image w.place (length w.content)) w.content).1 held)) (inl here)
handed_held t image (w ∷ ws) place n (inr there) = by_test (handed_held t image ws place n there) (holds image w)
  where
    by_test : HandedSince t (filter (holds image) ws) place (part image place n) → (b : Bool) → HandedSince t (cond b (w ∷ filter (holds image) ws) (filter (holds image) ws)) place (part image place n)
    by_test before true = inr before
    by_test before false = before

-- an image that is fair stays so once it is certain
pub fair_settled : (passes : ℕ → ℕ → List ℕ → Bool) (t : ℕ) (image : List ℕ) (m : Moment) → IsFair passes t (handed m) image → IsFair passes t (handed (settled image m)) image
fair_settled passes t image m fair place n ok =
    ⊎_elim (λ left. handed_left t (filter (holds image) m.unflushed) m.kept place (part image place n) (handed_held t image m.unflushed place n left))
    (λ right. handed_right t (filter (holds image) m.unflushed) m.kept place (part image place n) right)
    (handed_cases t m.unflushed m.kept place (part image place n) (fair place n ok))

-- an allowed write, and a flush, hand nothing else
pub hands_wrote : (t since place : ℕ) (content : List ℕ) (done : Bool) (Allowed : ℕ → List ℕ → Type 0) (base : List Write) (m : Moment) → Allowed place content → HandsOnly since Allowed base m → HandsOnly since Allowed base (wrote t place content done m)
hands_wrote t since place content done Allowed base m allowed so_far p c (inl here) = inl (subst (λ (l : List ℕ). Allowed p l) here.2 (subst (λ (q : ℕ). Allowed q content) here.1 allowed))
hands_wrote t since place content done Allowed base m allowed so_far p c (inr there) = so_far p c there

pub hands_settled : (t : ℕ) (image : List ℕ) (Allowed : ℕ → List ℕ → Type 0) (base : List Write) (m : Moment) → HandsOnly t Allowed base m → HandsOnly t Allowed base (settled image m)
hands_settled t image Allowed base m so_far p c some = so_far p c (handed_settled t image m p c some)
