-- Objects within the limits of a pool by rising number: their entries, and the list of their lengths.
use Rattle.std.proofs.Common.{◌≡◌, ℕ, zero, suc, ◌+◌, ◌<◌, ◌≤◌, ◌≢◌, List, [], ◌∷◌, ◌++◌, length, Option, Some, None, Greater, refl, ap, sym, ◌∙◌, inl, inr, ◌⊎◌, arith, add-one, append-nil}
use Rattle.std.specs.Prelude.{All, IfSome, map, option_map}
use Rattle.std.specs.Option.{option_map_or}
use Rattle.std.specs.Ordering.{nat_cmp}
use Rattle.std.specs.Cmp.{nat_cmp_is}
use Rattle.std.specs.FinMap as finite
use Rattle.std.specs.FinMap.{FinMap, entries-insert, get-empty, len-empty, len-entries, nat_cmp-IsAntisymmetric, put, same_map}
use Rattle.std.proofs.lemmas.Cmp.{nat_cmp_total}
use Rattle.std.proofs.lemmas.Bool.{cases_eq, cases_lt}
use Rattle.std.proofs.lemmas.List.{map-append, nil_from_length}
use Rattle.std.proofs.lemmas.List.Elements.{All-head, All-nil, All-push, All-tail, All-weaker}
use Rattle.base.specs.declared.names.ObjectId.{ObjectId}
use Rattle.base.specs.formats.Limits.{object_count, max_length}
use Rattle.base.specs.history.Contents.{stored}
use Rattle.base.proofs.history.Objects.{get-stored_same, get-stored_other}
use Rattle.tree_blocks.specs.ListedObjects.{AreWithin, listed}

-- those of some objects whose numbers lie below this one
objects_below : FinMap nat_cmp (List ℕ) → ℕ → FinMap nat_cmp (List ℕ)
objects_below objects zero = finite.empty
objects_below objects (suc n) = stored (objects_below objects n) n (finite.get objects n)

get-objects_past : (objects : FinMap nat_cmp (List ℕ)) (n q : ℕ) → n ≤ q → finite.get (objects_below objects n) q ≡ None
unfolding objects_below
get-objects_past objects zero q past = get-empty {X = List ℕ} nat_cmp q
get-objects_past objects (suc n) q past =
    let ne : q ≢ n = λ e. omega (arith, past, e) in
    get-stored_other (objects_below objects n) n (finite.get objects n) q ne ∙ get-objects_past objects n q (omega (arith, past))

get-objects_below : (objects : FinMap nat_cmp (List ℕ)) (n q : ℕ) → q < n → finite.get (objects_below objects n) q ≡ finite.get objects q
unfolding objects_below
get-objects_below objects zero q low = absurd (omega (arith, low))
get-objects_below objects (suc n) q low = go (cases_eq q n) (get-objects_below objects n q)
  where
    go : (q ≡ n) ⊎ (q ≢ n) → (q < n → finite.get (objects_below objects n) q ≡ finite.get objects q)
        → finite.get (stored (objects_below objects n) n (finite.get objects n)) q ≡ finite.get objects q
    go (inl e) lower = rw e (get-stored_same (objects_below objects n) n (finite.get objects n))
    go (inr ne) lower = get-stored_other (objects_below objects n) n (finite.get objects n) q ne ∙ lower (omega (arith, low, ne))

-- below the count of objects these are all
none_past : (objects : FinMap nat_cmp (List ℕ)) → AreWithin objects → (q : ℕ) → object_count ≤ q → finite.get objects q ≡ None
none_past objects within q past = go (finite.get objects q) (within q)
  where
    go : (o : Option (List ℕ)) → IfSome o (λ bytes. (q < object_count) × (length bytes ≤ max_length)) → o ≡ None
    go None h = refl
    go (Some bytes) h = absurd (omega (arith, h.0, past))

objects_below-all : (objects : FinMap nat_cmp (List ℕ)) → AreWithin objects → objects_below objects object_count ≡ objects
objects_below-all objects within = same_map nat_cmp_total nat_cmp-IsAntisymmetric _ _ (λ q. at q (cases_lt q object_count))
  where
    at : (q : ℕ) → (q < object_count) ⊎ (object_count ≤ q) → finite.get (objects_below objects object_count) q ≡ finite.get objects q
    at q (inl low) = get-objects_below objects object_count q low
    at q (inr past) = get-objects_past objects object_count q past ∙ sym (none_past objects within q past)

-- their entries, in order
unfoldable pub entry_at : ℕ → Option (List ℕ) → List (ℕ × List ℕ)
entry_at n o = option_map_or (λ bytes. (n, bytes) ∷ []) o []

unfoldable pub entries_below : FinMap nat_cmp (List ℕ) → ℕ → List (ℕ × List ℕ)
entries_below objects zero = []
entries_below objects (suc n) = entries_below objects n ++ entry_at n (finite.get objects n)

keys_below : (objects : FinMap nat_cmp (List ℕ)) (n : ℕ) → All (λ (e : ℕ × List ℕ). e.0 < n) (entries_below objects n)
unfolding entries_below entry_at
keys_below objects zero = All-nil (λ (e : ℕ × List ℕ). e.0 < 0)
keys_below objects (suc n) =
    go (finite.get objects n) (All-weaker (λ (e : ℕ × List ℕ). e.0 < n) (λ (e : ℕ × List ℕ). e.0 < suc n) (λ e low. omega (arith, low)) (entries_below objects n) (keys_below objects n))
  where
    go : (o : Option (List ℕ)) → All (λ (e : ℕ × List ℕ). e.0 < suc n) (entries_below objects n) → All (λ (e : ℕ × List ℕ). e.0 < suc n) (entries_below objects n ++ entry_at n o)
    go None lower = rw append-nil lower
    go (Some bytes) lower = All-push (λ (e : ℕ × List ℕ). e.0 < suc n) (entries_below objects n) (n, bytes) lower (omega arith)

nat_cmp-above : (k n : ℕ) → n < k → nat_cmp k n ≡ Greater
nat_cmp-above k n low = sym (nat_cmp_is k n Greater low)

-- an entry after those with lower keys
put-last : (n : ℕ) (bytes : List ℕ) (es : List (ℕ × List ℕ)) → All (λ (e : ℕ × List ℕ). e.0 < n) es → put nat_cmp n bytes es ≡ es ++ (n, bytes) ∷ []
put-last n bytes [] lower = refl
put-last n bytes (e ∷ es) lower =
    rw (nat_cmp-above n e.0 (All-head (λ (e : ℕ × List ℕ). e.0 < n) e es lower))
    (ap (λ (l : List (ℕ × List ℕ)). e ∷ l) (put-last n bytes es (All-tail (λ (e : ℕ × List ℕ). e.0 < n) e es lower)))

stored-absent : (m : FinMap nat_cmp (List ℕ)) (n : ℕ) → finite.get m n ≡ None → stored m n None ≡ m
stored-absent m n none = same_map nat_cmp_total nat_cmp-IsAntisymmetric _ _ (λ q. at q (cases_eq q n))
  where
    at : (q : ℕ) → (q ≡ n) ⊎ (q ≢ n) → finite.get (stored m n None) q ≡ finite.get m q
    at q (inl e) = rw e (get-stored_same m n None ∙ sym none)
    at q (inr ne) = get-stored_other m n None q ne

entries-objects_below : (objects : FinMap nat_cmp (List ℕ)) (n : ℕ) → finite.entries (objects_below objects n) ≡ entries_below objects n
unfolding objects_below entries_below entry_at
entries-objects_below objects zero = nil_from_length _ (sym (len-entries finite.empty) ∙ len-empty nat_cmp (List ℕ))
entries-objects_below objects (suc n) = go (finite.get objects n) (entries-objects_below objects n)
  where
    below : FinMap nat_cmp (List ℕ)
    below = objects_below objects n

    go : (o : Option (List ℕ)) → finite.entries below ≡ entries_below objects n → finite.entries (stored below n o) ≡ entries_below objects n ++ entry_at n o
    go None same = ap finite.entries (stored-absent below n (get-objects_past objects n n (omega arith))) ∙ same ∙ sym (append-nil (entries_below objects n))
    go (Some bytes) same = entries-insert nat_cmp_total below n bytes ∙ ap (put nat_cmp n bytes) same ∙ put-last n bytes (entries_below objects n) (keys_below objects n)

pub entries_below-all : (objects : FinMap nat_cmp (List ℕ)) → AreWithin objects → entries_below objects object_count ≡ finite.entries objects
entries_below-all objects within = sym (entries-objects_below objects object_count) ∙ ap finite.entries (objects_below-all objects within)

-- the line of an entry in the list of objects with their lengths
abbrev line_of : ℕ × List ℕ → ObjectId × ℕ
line_of e = (record { 0 = e.0 }, length e.1)

-- the lines of an object of this number and length, if it is there
abbrev pub listed_at : ℕ → Option ℕ → List (ObjectId × ℕ)
listed_at n o = option_map_or (λ (size : ℕ). (record { 0 = n }, size) ∷ []) o []

-- the list of those whose numbers lie below this one, each with its length
unfoldable pub listed_below : FinMap nat_cmp (List ℕ) → ℕ → List (ObjectId × ℕ)
listed_below objects zero = []
listed_below objects (suc n) = listed_below objects n ++ listed_at n (option_map length (finite.get objects n))

map-entries_below : (objects : FinMap nat_cmp (List ℕ)) (n : ℕ) → map line_of (entries_below objects n) ≡ listed_below objects n
unfolding entries_below listed_below entry_at
map-entries_below objects zero = refl
map-entries_below objects (suc n) =
    map-append line_of (entries_below objects n) (entry_at n (finite.get objects n))
    ∙ ap (λ (l : List (ObjectId × ℕ)). l ++ map line_of (entry_at n (finite.get objects n))) (map-entries_below objects n)
    ∙ ap (λ (l : List (ObjectId × ℕ)). listed_below objects n ++ l) (go (finite.get objects n))
  where
    go : (o : Option (List ℕ)) → map line_of (entry_at n o) ≡ listed_at n (option_map length o)
    go None = refl
    go (Some bytes) = refl

pub listed_next : (objects : FinMap nat_cmp (List ℕ)) (n : ℕ) (o : Option ℕ) → o ≡ option_map length (finite.get objects n) → listed_below objects n ++ listed_at n o ≡ listed_below objects (n + 1)
unfolding listed_below
listed_next objects n o is = rw add-one (ap (λ (p : Option ℕ). listed_below objects n ++ listed_at n p) is)

pub listed_below-all : (objects : FinMap nat_cmp (List ℕ)) → AreWithin objects → listed_below objects object_count ≡ listed objects
listed_below-all objects within = sym (map-entries_below objects object_count) ∙ ap (map line_of) (entries_below-all objects within)
