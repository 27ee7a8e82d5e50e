-- Ranges of a plan that each have a byte are apart and in order once they are joined: one by one, or in order with the
-- next ones.
use Rattle.std.proofs.Common.{ℕ, zero, suc, ◌≡◌, ◌≤◌, Bool, true, false, ◌&&◌, ◌||◌, List, [], ◌∷◌, nat_lt, nat_le, refl, sym, subst, ◌∙◌, arith, cond}
use Rattle.std.specs.Prelude.{◌==◌, filter, fold, insert, max, min, not}
use Rattle.std.specs.List.{AllByRecursion}
use Rattle.std.proofs.lemmas.Bool.Decides.{nat_tests}
use Rattle.std.proofs.lemmas.Bool.{or_left, or_right, not-true}
use Rattle.std.proofs.lemmas.Grind.{common_steps}
use Rattle.base.specs.declared.range.ObjectRange.{ObjectRange}
use Rattle.transactions.specs.LockRanges.{AreAfter, Rise, has_byte, hull, is_before, is_shared, joined, joined_after, placed, with_range, with_shared}
use Rattle.transactions.proofs.RangePoints.{Holds, holds_hull, holds_self}
use Rattle.transactions.proofs.RisingRanges.{count_before, filter_next, is_less, none_counted, one_counted}

-- whether the second range begins where the first one has ended, by object and then by byte
abbrev pub is_past : ObjectRange → ObjectRange → Bool
is_past x y = nat_lt x.object.0 y.object.0 || ((x.object.0 == y.object.0) && nat_le x.range.high y.range.low)

abbrev is_apart : ObjectRange → ObjectRange → Bool
is_apart x y = is_past x y || is_past y x

abbrev pub ArePast : ObjectRange → List ObjectRange → Type 0
ArePast x ys = AllByRecursion (λ y. is_past x y ≡ true) ys

-- each has a byte, and those after it begin where it has ended
abbrev pub AreApart : List ObjectRange → Type 0
AreApart [] = Unit {0}
AreApart (x ∷ xs) = (has_byte x ≡ true) × ArePast x xs × AreApart xs

-- the same of numbers: ranges of m from a to b, of n from l to h, of k from c to d
abbrev past : ℕ → ℕ → ℕ → ℕ → Bool
past m b n l = nat_lt m n || ((m == n) && nat_le b l)

unshared_apart : (m a b n l h : ℕ) → nat_lt a b ≡ true → nat_lt l h ≡ true → ((m == n) && (nat_lt a h && nat_lt l b)) ≡ false → (past m b n l || past n h m a) ≡ true
unshared_apart m a b n l h first second apart = grind (arith, common_steps)

past_all : (m a b n l h k c : ℕ) → nat_lt l h ≡ true → past m b n l ≡ true → past n h k c ≡ true → past m b k c ≡ true
past_all m a b n l h k c byte first second = grind (arith, common_steps)

past_not_before : (m a b n l : ℕ) → nat_lt a b ≡ true → past m b n l ≡ true → is_less n l m a ≡ false
past_not_before m a b n l byte first = grind (arith, common_steps)

before_past : (m a b n l h : ℕ) → nat_lt a b ≡ true → nat_lt l h ≡ true → is_less m a n l ≡ true → (past m b n l || past n h m a) ≡ true → past m b n l ≡ true
before_past m a b n l h first second less apart = grind (arith, common_steps)

later_past : (m a b n l h : ℕ) → nat_lt a b ≡ true → is_less m a n l ≡ false → (past m b n l || past n h m a) ≡ true → past n h m a ≡ true
later_past m a b n l h byte later apart = grind (arith, common_steps)

-- y of m, the whole of n, the range of k in it, and z of e from f to g
hull_apart : (m a b n l h k c d e f g : ℕ) → nat_lt a b ≡ true → n ≡ k → l ≤ c → d ≤ h → (past m b n l || past n h m a) ≡ true → (past m b e f || past e g m a) ≡ true
    → ((e == k) && (nat_lt f d && nat_lt c g)) ≡ true → (past m b n (min l f) || past n (max h g) m a) ≡ true
hull_apart m a b n l h k c d e f g byte same low high whole other shared = grind (arith, nat_tests, common_steps)

hull_byte : (l h f g : ℕ) → nat_lt l h ≡ true → nat_lt (min l f) (max h g) ≡ true
hull_byte l h f g byte = grind (arith, nat_tests, common_steps)

hull_past : (m b n l k f g : ℕ) (t : Bool) → past m b n l ≡ true → is_less k f n l ≡ false → ((k == n) && t) ≡ true → past m b n (min l f) ≡ true
hull_past m b n l k f g t first later shared = grind (arith, nat_tests, common_steps)

hull_not_before : (m a n l f : ℕ) → is_less m a n l ≡ false → is_less m a n (min l f) ≡ false
hull_not_before m a n l f later = grind (arith, nat_tests, common_steps)

past_on : (x y z : ObjectRange) → has_byte y ≡ true → is_past x y ≡ true → is_past y z ≡ true → is_past x z ≡ true
past_on x y z byte first second = past_all x.object.0 x.range.low x.range.high y.object.0 y.range.low y.range.high z.object.0 z.range.low byte first second

-- what holds of each
module _ (P Q R : ObjectRange → Type 0) where
  each_two : ((x : ObjectRange) → P x → Q x → R x) → (ys : List ObjectRange) → AllByRecursion P ys → AllByRecursion Q ys → AllByRecursion R ys
  each_two f [] ps qs = tt
  each_two f (y ∷ ys) (p, ps) (q, qs) = (f y p q, each_two f ys ps qs)

each_one : (P Q : ObjectRange → Type 0) → ((x : ObjectRange) → P x → Q x) → (ys : List ObjectRange) → AllByRecursion P ys → AllByRecursion Q ys
each_one P Q f [] ps = tt
each_one P Q f (y ∷ ys) (p, ps) = (f y p, each_one P Q f ys ps)

each_kept : (P : ObjectRange → Type 0) (p : ObjectRange → Bool) (ys : List ObjectRange) → AllByRecursion (λ y. p y ≡ true → P y) ys → AllByRecursion P (filter p ys)
each_kept P p [] ps = tt
each_kept P p (y ∷ ys) (first, rest) = filter_next p y ys (AllByRecursion P) (λ is. (first is, each_kept P p ys rest)) (λ _. each_kept P p ys rest)

each_inserted : (P : ObjectRange → Type 0) (w : ObjectRange) (ys : List ObjectRange) (n : ℕ) → P w → AllByRecursion P ys → AllByRecursion P (insert ys n w)
each_inserted P w ys zero here all = (here, all)
each_inserted P w [] (suc n) here all = (here, tt)
each_inserted P w (y ∷ ys) (suc n) here (first, rest) = (first, each_inserted P w ys n here rest)

apart_kept : (p : ObjectRange → Bool) (ys : List ObjectRange) → AreApart ys → AreApart (filter p ys)
apart_kept p [] apart = tt
apart_kept p (y ∷ ys) (byte, after, rest) =
    filter_next p y ys AreApart (λ _. (byte, each_kept (λ z. is_past y z ≡ true) p ys (each_one (λ z. is_past y z ≡ true) (λ z. p z ≡ true → is_past y z ≡ true) (λ z is _. is) ys after), apart_kept p ys rest)) (λ _. apart_kept p ys rest)

-- one that is apart from each range that is joined is apart from the whole
apart_joined : (y r whole : ObjectRange) (others : List ObjectRange) → has_byte y ≡ true → Holds whole r → is_apart y whole ≡ true → AllByRecursion (λ z. is_shared z r ≡ true → is_apart y z ≡ true) others
    → is_apart y (fold (with_shared r) whole others) ≡ true
apart_joined y r whole [] byte holds apart all = apart
apart_joined y r whole (z ∷ zs) byte holds apart (first, rest) =
    go (is_shared z r) refl (λ larger. apart_joined y r (hull whole z) zs byte (holds_hull r whole z holds) larger rest) (apart_joined y r whole zs byte holds apart rest)
  where
    go : (b : Bool) → is_shared z r ≡ b → (is_apart y (hull whole z) ≡ true → is_apart y (fold (with_shared r) (hull whole z) zs) ≡ true) → is_apart y (fold (with_shared r) whole zs) ≡ true
        → is_apart y (fold (with_shared r) (cond b (hull whole z) whole) zs) ≡ true
    go true shared larger same =
        larger (hull_apart y.object.0 y.range.low y.range.high whole.object.0 whole.range.low whole.range.high r.object.0 r.range.low r.range.high z.object.0 z.range.low z.range.high byte holds.0 holds.1 holds.2 apart (first shared) shared)
    go false none larger same = same

byte_joined : (r whole : ObjectRange) (others : List ObjectRange) → has_byte whole ≡ true → has_byte (fold (with_shared r) whole others) ≡ true
byte_joined r whole [] byte = byte
byte_joined r whole (z ∷ zs) byte = go (is_shared z r) (byte_joined r (hull whole z) zs (hull_byte whole.range.low whole.range.high z.range.low z.range.high byte)) (byte_joined r whole zs byte)
  where
    go : (b : Bool) → has_byte (fold (with_shared r) (hull whole z) zs) ≡ true → has_byte (fold (with_shared r) whole zs) ≡ true → has_byte (fold (with_shared r) (cond b (hull whole z) whole) zs) ≡ true
    go true larger same = larger
    go false larger same = same

-- each of them that doesn't overlap a range is apart from all others
abbrev StaysApart : ObjectRange → List ObjectRange → ObjectRange → Type 0
StaysApart r others y = is_shared y r ≡ false → (has_byte y ≡ true) × AllByRecursion (λ z. is_shared z r ≡ true → is_apart y z ≡ true) others

all_stay_apart : (r : ObjectRange) (others : List ObjectRange) → AreApart others → AllByRecursion (StaysApart r others) others
all_stay_apart r [] apart = tt
all_stay_apart r (x ∷ xs) (byte, after, rest) = (
  λ none. (byte, ((λ shared. absurd (let no : true ≡ false = sym shared ∙ none in cc)), each_one (λ z. is_past x z ≡ true) (λ z. is_shared z r ≡ true → is_apart x z ≡ true) (λ z is _. or_left (is_past x z) (is_past z x) is) xs after)),
  each_two (λ y. is_past x y ≡ true) (StaysApart r xs) (StaysApart r (x ∷ xs)) (λ y is stays none. ((stays none).0, ((λ _. or_right (is_past y x) (is_past x y) is), (stays none).1))) xs after (all_stay_apart r xs rest),
)

apart_from_joined : (r : ObjectRange) (others : List ObjectRange) → has_byte r ≡ true → AreApart others → AllByRecursion (λ y. is_apart y (joined r others) ≡ true) (filter (λ y. not (is_shared y r)) others)
apart_from_joined r others byte apart =
    each_kept (λ y. is_apart y (joined r others) ≡ true) (λ y. not (is_shared y r)) others
    (each_one (StaysApart r others) (λ y. not (is_shared y r) ≡ true → is_apart y (joined r others) ≡ true) (λ y stays kept.
    let none : is_shared y r ≡ false = not-true (is_shared y r) kept in
    let own = stays none in
    apart_joined y r r others own.0 (holds_self r) (unshared_apart y.object.0 y.range.low y.range.high r.object.0 r.range.low r.range.high own.0 byte none) own.1) others (all_stay_apart r others apart))

none_before : (w : ObjectRange) (ys : List ObjectRange) → has_byte w ≡ true → ArePast w ys → AreAfter w ys
none_before w [] byte after = tt
none_before w (y ∷ ys) byte (first, rest) = (past_not_before w.object.0 w.range.low w.range.high y.object.0 y.range.low byte first, none_before w ys byte rest)

-- a range that is apart from the others takes its place among them
apart_placed : (w : ObjectRange) (ys : List ObjectRange) → has_byte w ≡ true → AreApart ys → AllByRecursion (λ y. is_apart y w ≡ true) ys → AreApart (placed w ys)
apart_placed w [] byte apart all = (byte, tt, tt)
apart_placed w (y ∷ ys) byte (own, after, rest) (first, others) = go (is_before y w) refl (apart_placed w ys byte rest others)
  where
    go : (b : Bool) → is_before y w ≡ b → AreApart (placed w ys) → AreApart (placed w (y ∷ ys))
    go true is later =
        let here : is_past y w ≡ true = before_past y.object.0 y.range.low y.range.high w.object.0 w.range.low w.range.high own byte is first in
        subst (λ n. AreApart (insert (y ∷ ys) n w)) (sym (one_counted w y ys is)) (own, each_inserted (λ z. is_past y z ≡ true) w ys (count_before w ys) here after, later)
    go false is later =
        let here : is_past w y ≡ true = later_past y.object.0 y.range.low y.range.high w.object.0 w.range.low w.range.high own is first in
        let all : ArePast w (y ∷ ys) = (here, each_one (λ z. is_past y z ≡ true) (λ z. is_past w z ≡ true) (λ z next. past_on w y z own here next) ys after) in
        subst (λ n. AreApart (insert (y ∷ ys) n w)) (sym (none_counted w (y ∷ ys) (none_before w (y ∷ ys) byte all))) (byte, all, (own, after, rest))

apart_with : (ys : List ObjectRange) (r : ObjectRange) → has_byte r ≡ true → AreApart ys → AreApart (with_range ys r)
apart_with ys r byte apart = apart_placed (joined r ys) (filter (λ y. not (is_shared y r)) ys) (byte_joined r r ys byte) (apart_kept (λ y. not (is_shared y r)) ys apart) (apart_from_joined r ys byte apart)

-- one by one
pub in_turn_apart : (xs ys : List ObjectRange) → AllByRecursion (λ x. has_byte x ≡ true) xs → AreApart ys → AreApart (fold with_range ys xs)
in_turn_apart [] ys bytes apart = apart
in_turn_apart (x ∷ xs) ys (byte, bytes) apart = in_turn_apart xs (with_range ys x) bytes (apart_with ys x byte apart)

not_before_hull : (whole x : ObjectRange) (ys : List ObjectRange) → AreAfter whole ys → AreAfter (hull whole x) ys
not_before_hull whole x [] after = tt
not_before_hull whole x (y ∷ ys) (first, rest) = (hull_not_before y.object.0 y.range.low whole.object.0 whole.range.low x.range.low first, not_before_hull whole x ys rest)

next_past : (whole x : ObjectRange) → has_byte whole ≡ true → has_byte x ≡ true → is_before x whole ≡ false → is_shared x whole ≡ false → is_past whole x ≡ true
next_past whole x byte own later none =
    later_past x.object.0 x.range.low x.range.high whole.object.0 whole.range.low whole.range.high own later
    (unshared_apart x.object.0 x.range.low x.range.high whole.object.0 whole.range.low whole.range.high own byte none)

-- in order, with the next ones
neighbours_past : (p whole : ObjectRange) (xs : List ObjectRange) → is_past p whole ≡ true → has_byte whole ≡ true → AllByRecursion (λ x. has_byte x ≡ true) xs → AreAfter whole xs → Rise xs → ArePast p (joined_after whole xs)
neighbours_past p whole [] past byte bytes after rise = (past, tt)
neighbours_past p whole (x ∷ xs) past byte (own, bytes) (later, after) (next, rise) =
    go (is_shared x whole) refl
    (λ larger. neighbours_past p (hull whole x) xs larger (hull_byte whole.range.low whole.range.high x.range.low x.range.high byte) bytes (not_before_hull whole x xs after) rise)
    (λ first. neighbours_past p x xs first own bytes next rise)
  where
    go : (b : Bool) → is_shared x whole ≡ b → (is_past p (hull whole x) ≡ true → ArePast p (joined_after (hull whole x) xs)) → (is_past p x ≡ true → ArePast p (joined_after x xs))
        → ArePast p (cond b (joined_after (hull whole x) xs) (whole ∷ joined_after x xs))
    go true shared larger others =
        larger (hull_past p.object.0 p.range.high whole.object.0 whole.range.low x.object.0 x.range.low x.range.high (nat_lt x.range.low whole.range.high && nat_lt whole.range.low x.range.high) past later shared)
    go false none larger others = (past, others (past_on p whole x byte past (next_past whole x byte own later none)))

pub neighbours_apart : (whole : ObjectRange) (xs : List ObjectRange) → has_byte whole ≡ true → AllByRecursion (λ x. has_byte x ≡ true) xs → AreAfter whole xs → Rise xs → AreApart (joined_after whole xs)
neighbours_apart whole [] byte bytes after rise = (byte, tt, tt)
neighbours_apart whole (x ∷ xs) byte (own, bytes) (later, after) (next, rise) =
    go (is_shared x whole) refl
    (neighbours_apart (hull whole x) xs (hull_byte whole.range.low whole.range.high x.range.low x.range.high byte) bytes (not_before_hull whole x xs after) rise)
    (neighbours_apart x xs own bytes next rise)
    (λ first. neighbours_past whole x xs first own bytes next rise)
  where
    go : (b : Bool) → is_shared x whole ≡ b → AreApart (joined_after (hull whole x) xs) → AreApart (joined_after x xs) → (is_past whole x ≡ true → ArePast whole (joined_after x xs))
        → AreApart (cond b (joined_after (hull whole x) xs) (whole ∷ joined_after x xs))
    go true shared larger others past = larger
    go false none larger others past = (byte, past (next_past whole x byte own later none), others)
