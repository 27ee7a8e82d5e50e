-- What operations on single objects do to the contents.
use Rattle.std.proofs.Common.{◌≡◌, ℕ, ◌≢◌, List, Option, Some, None, Result, Ok, refl, ap, sym, ◌∙◌, inl, inr, cond, ◌⊎◌, true, false}
use Rattle.std.specs.Ordering.{nat_cmp, eq_by_cmp}
use Rattle.std.specs.Cmp.{unsigned_tied}
use Rattle.std.proofs.lemmas.Cmp.{nat_cmp_total}
use Rattle.std.proofs.lemmas.Bool.{cases_eq, eq-eqb, ne_eqb}
use Rattle.std.specs.FinMap as map
use Rattle.std.specs.FinMap.{FinMap, get-insert, get-remove, same_map, nat_cmp-IsAntisymmetric}
use Rattle.base.specs.declared.error.PoolError.{PoolError}
use Rattle.base.specs.history.Sequences.{and_then, Commute}
use Rattle.base.specs.history.Contents.{Contents, stored, with_object, at_object}
use Rattle.base.proofs.common.Sequences.{parted, joined}

tied_same : (n : ℕ) → eq_by_cmp nat_cmp n n ≡ true
tied_same n = unsigned_tied n n ∙ eq-eqb n n refl

tied_apart : (q n : ℕ) → q ≢ n → eq_by_cmp nat_cmp q n ≡ false
tied_apart q n ne = unsigned_tied q n ∙ ne_eqb q n ne

get-stored : (m : FinMap nat_cmp (List ℕ)) (n : ℕ) (o : Option (List ℕ)) (q : ℕ) → map.get (stored m n o) q ≡ cond (eq_by_cmp nat_cmp q n) o (map.get m q)
get-stored m n None q = get-remove nat_cmp_total m n q
get-stored m n (Some bytes) q = get-insert nat_cmp_total m n bytes q

pub get-stored_same : (m : FinMap nat_cmp (List ℕ)) (n : ℕ) (o : Option (List ℕ)) → map.get (stored m n o) n ≡ o
get-stored_same m n o = get-stored m n o n ∙ ap (λ b. cond b o (map.get m n)) (tied_same n)

pub get-stored_other : (m : FinMap nat_cmp (List ℕ)) (n : ℕ) (o : Option (List ℕ)) (q : ℕ) → q ≢ n → map.get (stored m n o) q ≡ map.get m q
get-stored_other m n o q ne = get-stored m n o q ∙ ap (λ b. cond b o (map.get m q)) (tied_apart q n ne)

stored_again : (m : FinMap nat_cmp (List ℕ)) (n : ℕ) (o p : Option (List ℕ)) → stored (stored m n o) n p ≡ stored m n p
stored_again m n o p = same_map nat_cmp_total nat_cmp-IsAntisymmetric _ _ (λ q. at q (cases_eq q n))
  where
    at : (q : ℕ) → (q ≡ n) ⊎ (q ≢ n) → map.get (stored (stored m n o) n p) q ≡ map.get (stored m n p) q
    at q (inl e) = rw e (get-stored_same (stored m n o) n p ∙ sym (get-stored_same m n p))
    at q (inr ne) = get-stored_other (stored m n o) n p q ne ∙ get-stored_other m n o q ne ∙ sym (get-stored_other m n p q ne)

stored_swapped : (m : FinMap nat_cmp (List ℕ)) (n k : ℕ) (o p : Option (List ℕ)) → n ≢ k → stored (stored m n o) k p ≡ stored (stored m k p) n o
stored_swapped m n k o p ne = same_map nat_cmp_total nat_cmp-IsAntisymmetric _ _ (λ q. at q (cases_eq q n) (cases_eq q k))
  where
    at : (q : ℕ) → (q ≡ n) ⊎ (q ≢ n) → (q ≡ k) ⊎ (q ≢ k) → map.get (stored (stored m n o) k p) q ≡ map.get (stored (stored m k p) n o) q
    at q (inl e) (inl f) = absurd (ne (sym e ∙ f))
    at q (inl e) (inr f) = rw e (get-stored_other (stored m n o) k p n ne ∙ get-stored_same m n o ∙ sym (get-stored_same (stored m k p) n o))
    at q (inr e) (inl f) = rw f (get-stored_same (stored m n o) k p ∙ sym (get-stored_other (stored m k p) n o k (λ w. ne (sym w)) ∙ get-stored_same m k p))
    at q (inr e) (inr f) = get-stored_other (stored m n o) k p q f ∙ get-stored_other m n o q e
        ∙ sym (get-stored_other (stored m k p) n o q e ∙ get-stored_other m k p q f)

-- what an operation on an object read and left
pub reached : (n : ℕ) (f : Option (List ℕ) → Result (Option (List ℕ)) PoolError) (c d : Contents) → at_object n f c ≡ Ok d
    → (o : Option (List ℕ)) × (f (map.get c.objects n) ≡ Ok o) × (with_object c n o ≡ d)
reached n f c d h =
    let p = parted (f (map.get c.objects n)) (λ o. Ok (with_object c n o)) d h in
    (p.0, p.1, cc (p.2))

pub reach : (n : ℕ) (f : Option (List ℕ) → Result (Option (List ℕ)) PoolError) (c : Contents) (o : Option (List ℕ)) → f (map.get c.objects n) ≡ Ok o → at_object n f c ≡ Ok (with_object c n o)
reach n f c o h = rw h

-- operations on objects commute, unless they are on one object and don't commute there
pub objects_commute : (n k : ℕ) (f g : Option (List ℕ) → Result (Option (List ℕ)) PoolError) → (n ≡ k → Commute f g) → Commute (at_object n f) (at_object k g)
objects_commute n k f g same c d h =
    let p = parted (at_object n f c) (at_object k g) d h in
    let q = reached n f c p.0 p.1 in
    let r = reached k g p.0 d p.2 in
    let e : g (map.get (stored c.objects n q.0) k) ≡ Ok r.0 = rw (ap (λ (x : Contents). g (map.get x.objects k)) q.2) r.1 in
    let is : with_object (with_object c n q.0) k r.0 ≡ d = ap (λ (x : Contents). with_object x k r.0) q.2 ∙ r.2 in
    both (cases_eq n k) q.0 r.0 q.1 e is
  where
    both : (n ≡ k) ⊎ (n ≢ k) → (o p : Option (List ℕ)) → f (map.get c.objects n) ≡ Ok o → g (map.get (stored c.objects n o) k) ≡ Ok p → with_object (with_object c n o) k p ≡ d
        → and_then (at_object k g c) (at_object n f) ≡ Ok d
    both (inl e) o p first second is =
        let at_n : g o ≡ Ok p = rw (← get-stored_same c.objects n o) (rw (ap (λ (i : ℕ). g (map.get (stored c.objects n o) i)) e) second) in
        let s = parted (g (map.get c.objects n)) f p (same e (map.get c.objects n) p (joined (f (map.get c.objects n)) g o p first at_n)) in
        joined (at_object k g c) (at_object n f) (with_object c k s.0) d (reach k g c s.0 (rw (← e) s.1)) (rw (← e) (
        reach n f (with_object c n s.0) p (rw get-stored_same s.2)
        ∙ ap (λ m. Ok (record { name = c.name; objects = m })) (stored_again c.objects n s.0 p ∙ sym (stored_again c.objects n o p))
        ∙ ap (λ (i : ℕ). Ok (with_object (with_object c n o) i p)) e ∙ ap Ok is))
    both (inr ne) o p first second is =
        joined (at_object k g c) (at_object n f) (with_object c k p) d
        (reach k g c p (sym (ap g (get-stored_other c.objects n o k (λ w. ne (sym w)))) ∙ second))
        (reach n f (with_object c k p) o (ap f (get-stored_other c.objects k p n ne) ∙ first)
        ∙ ap (λ m. Ok (record { name = c.name; objects = m })) (sym (stored_swapped c.objects n k o p ne)) ∙ ap Ok is)
