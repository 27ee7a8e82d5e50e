-- Operations and transactions that don't conflict commute.
use Rattle.std.proofs.Common.{◌≡◌, ◌<◌, true, ◌↔◌, max, ℕ, ◌≤◌, ◌≢◌, List, [], ◌∷◌, Option, Some, None, Result, Ok, refl, ap, sym, ◌∙◌, arith, inl, inr, ◌⊎◌, false}
use Rattle.std.specs.Prelude.{◌==◌, ◌&&◌, nat_lt, All, Any}
use Rattle.std.specs.List.{list_any}
use Rattle.std.proofs.lemmas.List.Folds.{Any-from_list_any, list_any-from_Any}
use Rattle.std.proofs.lemmas.Bool.{and_parts, ltb-true, eqb-true, and_cases, or_parts, and_from, lt-ltb, eq-eqb, ltb-false, both_ways}
use Rattle.std.proofs.lemmas.List.Elements.{All-head, All-tail, All-nil, All-cons}
use Rattle.base.specs.declared.operation.Op.{Op}
use Rattle.base.specs.declared.operation.Op.TheVariants.{Create, Remove, Write, SetLength, SetName}
use Rattle.base.specs.declared.error.PoolError.{PoolError}
use Rattle.base.specs.history.Sequences.{in_turn, Commute}
use Rattle.base.specs.history.Contents.{Contents, at_object, with_object, apply, created, removed, changed, resize, bytes_after_write}
use Rattle.base.specs.formats.Limits.{max_length}
use Rattle.base.specs.history.Plans.{NumberRange, IsRange, touched, whole_range, overlaps, ranges, clash, HaveCommon}
use Rattle.base.specs.history.History.{Entry, IsWithin, conflicts, run}
use Rattle.std.specs.Cmp.Derive.{one_truth}
use Rattle.base.proofs.common.Sequences.{parted, joined, past, before}
use Rattle.base.proofs.history.Writes.{overwritten_both}
use Rattle.base.proofs.history.Objects.{objects_commute, reached, reach}

-- two ranges that don't overlap are of two objects or one ends before the other begins
apart : (a b : NumberRange) → overlaps a b ≡ false → a.number ≡ b.number → (a.high ≤ b.low) ⊎ (b.high ≤ a.low)
apart a b free e = by_number (and_cases (a.number == b.number) (nat_lt a.low b.high && nat_lt b.low a.high) free)
  where
    by_range : (nat_lt a.low b.high ≡ false) ⊎ (nat_lt b.low a.high ≡ false) → (a.high ≤ b.low) ⊎ (b.high ≤ a.low)
    by_range (inl f) = inr (ltb-false a.low b.high f)
    by_range (inr f) = inl (ltb-false b.low a.high f)

    by_number : ((a.number == b.number) ≡ false) ⊎ ((nat_lt a.low b.high && nat_lt b.low a.high) ≡ false) → (a.high ≤ b.low) ⊎ (b.high ≤ a.low)
    by_number (inl f) = absurd (both_ways _ f (eq-eqb a.number b.number e))
    by_number (inr f) = by_range (and_cases (nat_lt a.low b.high) (nat_lt b.low a.high) f)

whole_first : (n : ℕ) (t : NumberRange) → IsRange t → overlaps (whole_range n) t ≡ false → n ≢ t.number
whole_first n t range free e = none (apart (whole_range n) t free e)
  where
    none : (max_length ≤ t.low) ⊎ (t.high ≤ 0) → ⊥
    none (inl l) = omega (arith, range.some, range.within)
    none (inr l) = omega (arith, range.some)

whole_second : (n : ℕ) (t : NumberRange) → IsRange t → overlaps t (whole_range n) ≡ false → t.number ≢ n
whole_second n t range free e = none (apart t (whole_range n) free e)
  where
    none : (t.high ≤ 0) ⊎ (max_length ≤ t.low) → ⊥
    none (inl l) = omega (arith, range.some)
    none (inr l) = omega (arith, range.some, range.within)

-- two changes of one object that is there
changes_commute : (f g : List ℕ → List ℕ) → ((bytes : List ℕ) → g (f bytes) ≡ f (g bytes)) → Commute (changed f) (changed g)
changes_commute f g same None o h = cc
changes_commute f g same (Some bytes) o h = ap (λ b. Ok (Some b)) (sym (same bytes)) ∙ h

-- an operation on an object and a change of the name
object_then_name : (n : ℕ) (f : Option (List ℕ) → Result (Option (List ℕ)) PoolError) (bytes : List ℕ) → Commute (at_object n f) (apply (SetName bytes))
object_then_name n f bytes c d h =
    let p = parted (at_object n f c) (apply (SetName bytes)) d h in
    let q = reached n f c p.0 p.1 in
    reach n f (record { name = bytes; objects = c.objects }) q.0 q.1 ∙ ap (λ (x : Contents). Ok (record { name = bytes; objects = x.objects })) q.2 ∙ p.2

name_then_object : (n : ℕ) (f : Option (List ℕ) → Result (Option (List ℕ)) PoolError) (bytes : List ℕ) → Commute (apply (SetName bytes)) (at_object n f)
name_then_object n f bytes c d h =
    let q = reached n f (record { name = bytes; objects = c.objects }) d h in
    joined (at_object n f c) (apply (SetName bytes)) (with_object c n q.0) d (reach n f c q.0 q.1) (ap Ok q.2)

-- an operation on a whole object, before or after one that touches no byte of it
whole_then : (n : ℕ) (f : Option (List ℕ) → Result (Option (List ℕ)) PoolError) (b : Op) → IsRange (touched b) → overlaps (whole_range n) (touched b) ≡ false → Commute (at_object n f) (apply b)
whole_then n f (Create m) r free = objects_commute n m.0 f created (λ e. absurd (whole_first n (whole_range m.0) r free e))
whole_then n f (Remove m) r free = objects_commute n m.0 f removed (λ e. absurd (whole_first n (whole_range m.0) r free e))
whole_then n f (SetLength m size) r free = objects_commute n m.0 f (changed (resize size)) (λ e. absurd (whole_first n (whole_range m.0) r free e))
whole_then n f (Write m offset bytes) r free = objects_commute n m.0 f (changed (bytes_after_write offset bytes)) (λ e. absurd (whole_first n (touched (Write m offset bytes)) r free e))
whole_then n f (SetName bytes) r free = object_then_name n f bytes

then_whole : (n : ℕ) (f : Option (List ℕ) → Result (Option (List ℕ)) PoolError) (a : Op) → IsRange (touched a) → overlaps (touched a) (whole_range n) ≡ false → Commute (apply a) (at_object n f)
then_whole n f (Create m) r free = objects_commute m.0 n created f (λ e. absurd (whole_second n (whole_range m.0) r free e))
then_whole n f (Remove m) r free = objects_commute m.0 n removed f (λ e. absurd (whole_second n (whole_range m.0) r free e))
then_whole n f (SetLength m size) r free = objects_commute m.0 n (changed (resize size)) f (λ e. absurd (whole_second n (whole_range m.0) r free e))
then_whole n f (Write m offset bytes) r free = objects_commute m.0 n (changed (bytes_after_write offset bytes)) f (λ e. absurd (whole_second n (touched (Write m offset bytes)) r free e))
then_whole n f (SetName bytes) r free = name_then_object n f bytes

pub operations_commute : (a b : Op) → IsRange (touched a) → IsRange (touched b) → overlaps (touched a) (touched b) ≡ false → Commute (apply a) (apply b)
operations_commute (Create n) b r s free = whole_then n.0 created b s free
operations_commute (Remove n) b r s free = whole_then n.0 removed b s free
operations_commute (SetLength n size) b r s free = whole_then n.0 (changed (resize size)) b s free
operations_commute (SetName x) (Create m) r s free = name_then_object m.0 created x
operations_commute (SetName x) (Remove m) r s free = name_then_object m.0 removed x
operations_commute (SetName x) (SetLength m size) r s free = name_then_object m.0 (changed (resize size)) x
operations_commute (SetName x) (Write m p y) r s free = name_then_object m.0 (changed (bytes_after_write p y)) x
operations_commute (SetName x) (SetName y) r s free = absurd (whole_first 5292 (whole_range 5292) s free refl)
operations_commute (Write n o x) (Create m) r s free = then_whole m.0 created (Write n o x) r free
operations_commute (Write n o x) (Remove m) r s free = then_whole m.0 removed (Write n o x) r free
operations_commute (Write n o x) (SetLength m size) r s free = then_whole m.0 (changed (resize size)) (Write n o x) r free
operations_commute (Write n o x) (SetName y) r s free = object_then_name n.0 (changed (bytes_after_write o x)) y
operations_commute (Write n o x) (Write m p y) r s free = objects_commute n.0 m.0 (changed (bytes_after_write o x)) (changed (bytes_after_write p y))
    (λ e. changes_commute (bytes_after_write o x) (bytes_after_write p y) (λ bytes. overwritten_both o x p y bytes (apart (touched (Write n o x)) (touched (Write m p y)) free e)))

-- an operation commutes with operations whose ranges it overlaps none of
one_apart : (a : Op) (bs : List Op) → IsRange (touched a) → All IsRange (ranges bs) → list_any (overlaps (touched a)) (ranges bs) ≡ false → All (λ b. Commute (apply a) (apply b)) bs
one_apart a [] r s none = All-nil (λ b. Commute (apply a) (apply b))
one_apart a (b ∷ bs) r s none =
    let q = or_parts (overlaps (touched a) (touched b)) (list_any (overlaps (touched a)) (ranges bs)) none in
    All-cons (λ b. Commute (apply a) (apply b)) b bs (operations_commute a b r (All-head IsRange (touched b) (ranges bs) s) q.0)
    (one_apart a bs r (All-tail IsRange (touched b) (ranges bs) s) q.1)

all_apart : (xs bs : List Op) → All IsRange (ranges xs) → All IsRange (ranges bs) → clash (ranges xs) (ranges bs) ≡ false → All (λ a. Commute (apply a) (in_turn apply bs)) xs
all_apart [] bs r s none = All-nil (λ a. Commute (apply a) (in_turn apply bs))
all_apart (a ∷ xs) bs r s none =
    let q = or_parts (list_any (overlaps (touched a)) (ranges bs)) (clash (ranges xs) (ranges bs)) none in
    All-cons (λ a. Commute (apply a) (in_turn apply bs)) a xs (past apply (apply a) bs (one_apart a bs (All-head IsRange (touched a) (ranges xs) r) s q.0))
    (all_apart xs bs (All-tail IsRange (touched a) (ranges xs) r) s q.1)

pub transactions_commute : (e f : Entry) → IsWithin e → IsWithin f → conflicts e f ≡ false → Commute (run e) (run f)
transactions_commute e f r s none = before apply (in_turn apply f.ops) e.ops (all_apart e.ops f.ops r s none)

-- ranges that overlap have the later beginning in common
pub overlaps_are_common : (a b : NumberRange) → IsRange a → IsRange b → (overlaps a b ≡ true) ↔ HaveCommon a b
overlaps_are_common a b r s = (to, from)
  where
    to : overlaps a b ≡ true → HaveCommon a b
    to h =
        let p = and_parts (a.number == b.number) (nat_lt a.low b.high && nat_lt b.low a.high) h in
        let q = and_parts (nat_lt a.low b.high) (nat_lt b.low a.high) p.1 in
        let l : a.low < b.high = ltb-true _ _ q.0 in
        let m : b.low < a.high = ltb-true _ _ q.1 in
        record { number = eqb-true _ _ p.0; k = max a.low b.low; in_a = omega (arith, r.some); in_b = omega (arith, s.some) }

    from : HaveCommon a b → overlaps a b ≡ true
    from h = and_from _ _ (eq-eqb a.number b.number h.number) (and_from _ _ (lt-ltb a.low b.high (omega arith)) (lt-ltb b.low a.high (omega arith)))

pub clashes_are_overlaps : (xs ys : List NumberRange) → (clash xs ys ≡ true) ↔ Any (λ x. Any (λ y. overlaps x y ≡ true) ys) xs
clashes_are_overlaps xs ys = (to, from)
  where
    to : clash xs ys ≡ true → Any (λ x. Any (λ y. overlaps x y ≡ true) ys) xs
    to h = let a = Any-from_list_any (λ x. list_any (overlaps x) ys) xs h in (a.0, a.1, a.2, a.3, Any-from_list_any (overlaps a.1) ys a.4)

    from : Any (λ x. Any (λ y. overlaps x y ≡ true) ys) xs → clash xs ys ≡ true
    from a = list_any-from_Any (λ x. list_any (overlaps x) ys) xs (a.0, a.1, a.2, a.3, list_any-from_Any (overlaps a.1) ys a.4)

overlaps_turned : (a b : NumberRange) → overlaps a b ≡ true → overlaps b a ≡ true
overlaps_turned a b h =
    let p = and_parts (a.number == b.number) (nat_lt a.low b.high && nat_lt b.low a.high) h in
    let q = and_parts (nat_lt a.low b.high) (nat_lt b.low a.high) p.1 in
    and_from _ _ (eq-eqb b.number a.number (sym (eqb-true a.number b.number p.0))) (and_from _ _ q.1 q.0)

clash_turned : (xs ys : List NumberRange) → clash xs ys ≡ true → clash ys xs ≡ true
clash_turned xs ys h =
    let a = (clashes_are_overlaps xs ys).0 h in
    let b = a.4 in
    (clashes_are_overlaps ys xs).1 (b.0, b.1, b.2, b.3, (a.0, a.1, a.2, a.3, overlaps_turned a.1 b.1 b.4))

pub clashes_turn : (xs ys : List NumberRange) → clash xs ys ≡ clash ys xs
clashes_turn xs ys = one_truth (clash xs ys) (clash ys xs) (clash_turned xs ys) (clash_turned ys xs)
