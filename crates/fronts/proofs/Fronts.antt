-- Where groups rise with the ordinals, what a crash leaves of a run is the replay of its first entries.
use Rattle.std.proofs.Common.{◌≡◌, ℕ, zero, suc, ◌<◌, ◌≤◌, Bool, true, false, List, [], ◌∷◌, length, get_or, take, map, refl, ap, sym, ◌∙◌, arith}
use Rattle.std.specs.Prelude.{nat_le}
use Rattle.std.proofs.lemmas.Bool.{false≢true, le-leb, leb-true}
use Rattle.std.proofs.lemmas.List.{get_or-map}
use Rattle.std.proofs.lemmas.List.Elements.{All-head, All-tail}
use Rattle.base.specs.history.History.{AreRising, Entry, IsFrontMarked, kept, replay}
use Rattle.base.specs.history.Past.{Past}
use Rattle.base.specs.steps.Explains.{MountsToCut}
use Rattle.fronts.specs.Fronts.{CutsAreFronts, FrontsAreCuts, FrontsNeedRising, MarkedFrontsAreFirst, MountsToFront, RoundsLeadByFronts, SafeDisksLeaveFronts}

-- marked entries that are the first ones, so many
record AreFirst (marks : List Bool) (entries : List Entry) : Type 0 where
  count : ℕ
  within : count ≤ length entries
  kept_are : kept marks entries ≡ take count entries
  below : (k : ℕ) → get_or marks k false ≡ true → k < count

none_kept : (marks : List Bool) (es : List Entry) → ((j : ℕ) → get_or marks j false ≡ true → ⊥) → kept marks es ≡ []
none_kept [] es none = refl
none_kept (true ∷ marks) es none = absurd (none zero refl)
none_kept (false ∷ marks) [] none = refl
none_kept (false ∷ marks) (e ∷ es) none = none_kept marks es (λ j. none (suc j))

no_marks : AreFirst [] []
no_marks = record { count = 0; within = omega arith; kept_are = refl; below = λ k marked. absurd (false≢true marked) }

-- after an unmarked one none is marked
one_unmarked : (e : Entry) (marks : List Bool) (es : List Entry) → IsFrontMarked (false ∷ marks) → AreFirst (false ∷ marks) (e ∷ es)
one_unmarked e marks es front = record {
  count = 0;
  within = omega arith;
  kept_are = none_kept marks es (λ j marked. no_later j marked);
  below = λ k marked. absurd (none_at k marked);
}
  where
    no_later : (j : ℕ) → get_or marks j false ≡ true → ⊥
    no_later j marked = false≢true (front zero (suc j) (omega arith) marked)

    none_at : (k : ℕ) → get_or (false ∷ marks) k false ≡ true → ⊥
    none_at zero marked = false≢true marked
    none_at (suc j) marked = no_later j marked

one_marked : (e : Entry) (marks : List Bool) (es : List Entry) → AreFirst marks es → AreFirst (true ∷ marks) (e ∷ es)
one_marked e marks es rest = record {
  count = suc rest.count;
  within = let enough : rest.count ≤ length es = rest.within in omega (arith, enough);
  kept_are = ap (λ (ys : List Entry). e ∷ ys) rest.kept_are;
  below = below_in;
}
  where
    below_in : (k : ℕ) → get_or (true ∷ marks) k false ≡ true → k < suc rest.count
    below_in zero marked = omega arith
    below_in (suc k) marked = let low : k < rest.count = rest.below k marked in omega (arith, low)

are_first : (marks : List Bool) (entries : List Entry) → length marks ≡ length entries → IsFrontMarked marks → AreFirst marks entries
are_first [] [] same front = no_marks
are_first [] (e ∷ es) same front = absurd (omega (arith, same))
are_first (m ∷ marks) [] same front = absurd (omega (arith, same))
are_first (false ∷ marks) (e ∷ es) same front = one_unmarked e marks es front
are_first (true ∷ marks) (e ∷ es) same front = one_marked e marks es (are_first marks es (omega (arith, same)) (λ i j l. front (suc i) (suc j) (omega (arith, l))))

pub marked_fronts_are_first : MarkedFrontsAreFirst
marked_fronts_are_first marks entries same front = let f = are_first marks entries same front in (f.count, f.within, f.kept_are)

pub cuts_are_fronts : CutsAreFronts
cuts_are_fronts past contents rising left =
    let f = are_first left.marks past.entries left.cut.each (left.front rising) in
    record {
      count = f.count;
      within = f.within;
      acknowledged = λ i d l. f.below (get_or past.acknowledged i d) (left.acknowledged i d l);
      replayed = ap (λ (es : List Entry). replay es past.base) (sym f.kept_are) ∙ left.replayed;
    }

-- the marks of the first entries, so many
abbrev first_marks : ℕ → List Entry → List Bool
first_marks n [] = []
first_marks zero (e ∷ es) = false ∷ first_marks zero es
first_marks (suc n) (e ∷ es) = true ∷ first_marks n es

length-first_marks : (n : ℕ) (es : List Entry) → length (first_marks n es) ≡ length es
length-first_marks n [] = refl
length-first_marks zero (e ∷ es) = ap suc (length-first_marks zero es)
length-first_marks (suc n) (e ∷ es) = ap suc (length-first_marks n es)

kept-first_marks : (n : ℕ) (es : List Entry) → kept (first_marks n es) es ≡ take n es
kept-first_marks zero [] = refl
kept-first_marks (suc n) [] = refl
kept-first_marks zero (e ∷ es) = kept-first_marks zero es
kept-first_marks (suc n) (e ∷ es) = ap (λ (ys : List Entry). e ∷ ys) (kept-first_marks n es)

marked_below : (n : ℕ) (es : List Entry) (j : ℕ) → get_or (first_marks n es) j false ≡ true → j < n
marked_below n [] j marked = absurd (false≢true marked)
marked_below zero (e ∷ es) zero marked = absurd (false≢true marked)
marked_below zero (e ∷ es) (suc j) marked = let none : j < zero = marked_below zero es j marked in absurd (omega (arith, none))
marked_below (suc n) (e ∷ es) zero marked = omega arith
marked_below (suc n) (e ∷ es) (suc j) marked = let low : j < n = marked_below n es j marked in omega (arith, low)

marked_within : (n : ℕ) (es : List Entry) (j : ℕ) → get_or (first_marks n es) j false ≡ true → j < length es
marked_within n [] j marked = absurd (false≢true marked)
marked_within zero (e ∷ es) zero marked = absurd (false≢true marked)
marked_within zero (e ∷ es) (suc j) marked = let in' : j < length es = marked_within zero es j marked in omega (arith, in')
marked_within (suc n) (e ∷ es) zero marked = omega arith
marked_within (suc n) (e ∷ es) (suc j) marked = let in' : j < length es = marked_within n es j marked in omega (arith, in')

first_are_marked : (n : ℕ) (es : List Entry) (j : ℕ) → j < n → j < length es → get_or (first_marks n es) j false ≡ true
first_are_marked n [] j low within = absurd (omega (arith, within))
first_are_marked zero (e ∷ es) j low within = absurd (omega (arith, low))
first_are_marked (suc n) (e ∷ es) zero low within = refl
first_are_marked (suc n) (e ∷ es) (suc j) low within = first_are_marked n es j (omega (arith, low)) (omega (arith, within))

pub fronts_are_cuts : FrontsAreCuts
fronts_are_cuts past contents front = record {
  marks = first_marks front.count past.entries;
  cut = record {
    each = length-first_marks front.count past.entries;
    closed = λ i j d l m c marked.
        let low : j < front.count = marked_below front.count past.entries j marked in
        first_are_marked front.count past.entries i (omega (arith, low, l)) (omega (arith, m, l));
  };
  acknowledged = λ i d l.
      let low : get_or past.acknowledged i d < front.count = front.acknowledged i d l in
      let enough : front.count ≤ length past.entries = front.within in
      first_are_marked front.count past.entries (get_or past.acknowledged i d) low (omega (arith, low, enough));
  replayed = ap (λ (es : List Entry). replay es past.base) (kept-first_marks front.count past.entries) ∙ front.replayed;
  front = λ rising i j l marked.
      let low : j < front.count = marked_below front.count past.entries j marked in
      let in' : j < length past.entries = marked_within front.count past.entries j marked in
      first_are_marked front.count past.entries i (omega (arith, low, l)) (omega (arith, in', l));
}

-- an image that mounts a cut mounts a front
pub mounts_front : (past : Past) → AreRising past.entries → (image : List ℕ) → MountsToCut image past → MountsToFront image past
mounts_front past rising image m = record { contents = m.contents; left = cuts_are_fronts past m.contents rising m.left; mounts = m.mounts }

pub safe_disks_leave_fronts : SafeDisksLeaveFronts
safe_disks_leave_fronts disk past rising safe = record { bytes = safe.bytes; each = λ image may fair. mounts_front past rising image (safe.each image may fair) }

pub rounds_lead_by_fronts : RoundsLeadByFronts
rounds_lead_by_fronts first last [] rising leads = leads
rounds_lead_by_fronts first last (past ∷ pasts) rising (base, (left, is, rest)) = (
  base,
  (
    left,
    cuts_are_fronts past left (All-head (λ (p : Past). AreRising p.entries) past pasts rising) is,
    rounds_lead_by_fronts left last pasts (All-tail (λ (p : Past). AreRising p.entries) past pasts rising) rest,
  ),
)

pub fronts_need_rising : FrontsNeedRising
fronts_need_rising entries fronts i j d l m =
    let group : ℕ = (get_or entries j d).group in
    let at : (k : ℕ) → k < length entries → get_or (map (λ (e : Entry). nat_le e.group group) entries) k false ≡ nat_le (get_or entries k d).group group
    = λ k in'. get_or-map (λ (e : Entry). nat_le e.group group) entries k d false in' in
    let same : group ≤ group = omega arith in
    let here : get_or (map (λ (e : Entry). nat_le e.group group) entries) j false ≡ true = at j m ∙ le-leb group group same in
    let before : get_or (map (λ (e : Entry). nat_le e.group group) entries) i false ≡ true = fronts group i j l here in
    leb-true (get_or entries i d).group group (sym (at i (omega (arith, l, m))) ∙ before)
