-- What held locks count to changes with one granted, and with one released, as the table of parts does.
use Rattle.std.proofs.Common.{◌≡◌, ℕ, zero, suc, ◌+◌, ◌-◌, ◌*◌, ◌<◌, ◌≤◌, ◌==◌, ◌&&◌, ◌||◌, Bool, true, false, not, cond, List, [], ◌∷◌, ◌++◌, length, filter, refl, ap, sym, subst, ◌∙◌, arith, inl, inr}
use Rattle.std.specs.Prelude.{Some, None, Option, IfSome, is_some, slice_get, sum_by, nat_lt, nat_le}
use Rattle.std.specs.List.{count_by, find, list_any}
use Rattle.std.specs.Option.{option_map, option_or}
use Rattle.range_locks.specs.Rows.{PartRows, part_in}
use Rattle.std.proofs.lemmas.Bool.{eq-eqb, ne_eqb, eqb-true, cases_eq, cases_lt, cases_order, le-leb, lt-leb, lt-ltb, le-ltb}
use Rattle.std.proofs.lemmas.List.Folds.{find-append}
use Rattle.std.proofs.lemmas.List.Sums.{sum_by-cons, sum_by_push, sum_by-le, count_by-le-length}
use Rattle.std.proofs.Math.Bool.{and-false}
use Rattle.base.specs.declared.names.LockId.{LockId}
use Rattle.base.specs.declared.range.Mode.{Mode}
use Rattle.base.specs.declared.range.Mode.TheVariants.{Reader, Writer}
use Rattle.base.specs.declared.range.Range.{Range}
use Rattle.base.specs.history.Plans.{NumberRange}
use Rattle.base.specs.steps.Locks.{Grant, is_reader}
use Rattle.base.proofs.common.KeptLists.{All-each, Some-injective}
use Rattle.range_locks.specs.declared.parts.Part.{Part}
use Rattle.range_locks.specs.Parts.{CanRecountPart, change_of_grant, change_of_release, Counts, HasCounts, IsStill, IsTable, most_counted, counts_of, ends_at, name_of, reads_at, writes_at, recounted, recounted_part, with_end, with_lock, without_end, without_lock}
use Rattle.range_locks.specs.Pieces.{covers_byte}
use Rattle.range_locks.proofs.StoredParts.{part_here}
use Rattle.range_locks.proofs.Names.{NamesRise, all_others, behind, rest_rises}

-- one where a test holds
abbrev pub one : Bool → ℕ
one b = cond b 1 0

-- a sum over the locks that are left
pub sum_without : (f : Grant → ℕ) (locks : List Grant) (i id : ℕ) (g : Grant) → NamesRise locks → slice_get locks i ≡ Some g → g.id ≡ id
    → sum_by f locks ≡ sum_by f (filter (λ (h : Grant). not (h.id == id)) locks) + f g
sum_without f [] i id g rise at named = absurd (let no_way : ◌≡◌ {A = Option Grant} None (Some g) = at in cc)
sum_without f (x ∷ xs) zero id g rise at named =
    let is : x ≡ g = Some-injective at in
    let gone : filter (λ (h : Grant). not (h.id == id)) (x ∷ xs) ≡ xs = ap (λ b. cond (not b) (x ∷ filter (λ (h : Grant). not (h.id == id)) xs) (filter (λ (h : Grant). not (h.id == id)) xs)) (eq-eqb x.id id (ap (λ (y : Grant). y.id) is ∙ named)) ∙ all_others id xs (λ j h at_j. let above : x.id < h.id = behind x xs rise j h at_j in let same : x.id ≡ id = ap (λ (y : Grant). y.id) is ∙ named in omega arith) in
    let whole : sum_by f (x ∷ xs) ≡ f x + sum_by f xs = sum_by-cons f x xs in
    let left : sum_by f (filter (λ (h : Grant). not (h.id == id)) (x ∷ xs)) ≡ sum_by f xs = ap (sum_by f) gone in
    let same : f x ≡ f g = ap f is in
    omega arith
sum_without f (x ∷ xs) (suc i) id g rise at named =
    let below : x.id < g.id = behind x xs rise i g at in
    let stays : filter (λ (h : Grant). not (h.id == id)) (x ∷ xs) ≡ x ∷ filter (λ (h : Grant). not (h.id == id)) xs = ap (λ b. cond (not b) (x ∷ filter (λ (h : Grant). not (h.id == id)) xs) (filter (λ (h : Grant). not (h.id == id)) xs)) (ne_eqb x.id id (λ same. omega arith)) in
    let whole : sum_by f (x ∷ xs) ≡ f x + sum_by f xs = sum_by-cons f x xs in
    let left : sum_by f (filter (λ (h : Grant). not (h.id == id)) (x ∷ xs)) ≡ f x + sum_by f (filter (λ (h : Grant). not (h.id == id)) xs) = ap (sum_by f) stays ∙ sum_by-cons f x (filter (λ (h : Grant). not (h.id == id)) xs) in
    let tail : sum_by f xs ≡ sum_by f (filter (λ (h : Grant). not (h.id == id)) xs) + f g = sum_without f xs i id g (rest_rises x xs rise) at named in
    omega arith

-- whether one is found
pub any-find : (p : Grant → Bool) (locks : List Grant) → is_some (option_map name_of (find p locks)) ≡ list_any p locks
any-find p [] = refl
any-find p (g ∷ locks) = by (p g) (any-find p locks)
  where
    by : (b : Bool) → is_some (option_map name_of (find p locks)) ≡ list_any p locks → is_some (option_map name_of (cond b (Some g) (find p locks))) ≡ (b || list_any p locks)
    by true rest = refl
    by false rest = rest

-- what is there is counted
pub found_counted : (p : Grant → Bool) (locks : List Grant) (i : ℕ) (g : Grant) → slice_get locks i ≡ Some g → p g ≡ true → 0 < count_by p locks
found_counted p [] i g at is = absurd (let no_way : ◌≡◌ {A = Option Grant} None (Some g) = at in cc)
found_counted p (x ∷ xs) zero g at is =
    let parts : count_by p (x ∷ xs) ≡ one (p x) + count_by p xs = sum_by-cons (λ (y : Grant). cond (p y) 1 0) x xs in
    let here : one (p x) ≡ 1 = ap (λ b. cond b 1 0) (ap p (Some-injective at) ∙ is) in
    omega arith
found_counted p (x ∷ xs) (suc i) g at is =
    let parts : count_by p (x ∷ xs) ≡ one (p x) + count_by p xs = sum_by-cons (λ (y : Grant). cond (p y) 1 0) x xs in
    let tail : 0 < count_by p xs = found_counted p xs i g at is in
    omega arith

-- the one that is released is not found
find_without : (p : Grant → Bool) (locks : List Grant) (id : ℕ) → ((j : ℕ) (h : Grant) → slice_get locks j ≡ Some h → h.id ≡ id → p h ≡ false)
    → find p (filter (λ (h : Grant). not (h.id == id)) locks) ≡ find p locks
find_without p [] id others = refl
find_without p (x ∷ xs) id others = by (find_without p xs id (λ j h at. others (suc j) h at)) (x.id == id) refl
  where
    by : find p (filter (λ (h : Grant). not (h.id == id)) xs) ≡ find p xs → (b : Bool) → (x.id == id) ≡ b → find p (cond (not b) (x ∷ filter (λ (h : Grant). not (h.id == id)) xs) (filter (λ (h : Grant). not (h.id == id)) xs)) ≡ find p (x ∷ xs)
    by rest true is = rest ∙ sym (ap (λ t. cond t (Some x) (find p xs)) (others zero x refl (eqb-true x.id id is)))
    by rest false is = ap (λ o. cond (p x) (Some x) o) rest

-- parts with the same counts
same_part : (p q : Part) → p.ends ≡ q.ends → p.readers ≡ q.readers → p.writer ≡ q.writer → p ≡ q
same_part p q e r w i = record { ends = e i; readers = r i; writer = w i }

-- an offset after a step, by its tests
module _ (p : Part) where
  more_end : (b : Bool) → (cond b (record p { ends = p.ends + 1 }) p) ≡ record p { ends = p.ends + one b }
  more_end true = refl
  more_end false = ap (λ e. record p { ends = e }) (omega arith)

  fewer_end : (b : Bool) → (cond b (record p { ends = p.ends - 1 }) p) ≡ record p { ends = p.ends - one b }
  fewer_end true = refl
  fewer_end false = ap (λ e. record p { ends = e }) (omega arith)

  more_cover : (id : LockId) (mode : Mode) (b : Bool) → (cond b (recounted_part (change_of_grant id mode) p) p)
      ≡ record p { readers = p.readers + one (is_reader mode && b); writer = cond (not (is_reader mode) && b) (Some id) p.writer }
  more_cover id Reader true = refl
  more_cover id Reader false = same_part _ _ refl (omega arith) refl
  more_cover id Writer true = same_part _ _ refl (omega arith) refl
  more_cover id Writer false = same_part _ _ refl (omega arith) refl

  fewer_cover : (mode : Mode) (b : Bool) → (cond b (recounted_part (change_of_release mode) p) p)
      ≡ record p { readers = p.readers - one (is_reader mode && b); writer = cond (not (is_reader mode) && b) None p.writer }
  fewer_cover Reader true = refl
  fewer_cover Reader false = same_part _ _ refl (omega arith) refl
  fewer_cover Writer true = same_part _ _ refl (omega arith) refl
  fewer_cover Writer false = same_part _ _ refl (omega arith) refl

-- the offsets of a range
abbrev pub span : NumberRange → Range
span r = record { low = r.low; high = r.high }

-- what one lock more and one fewer make of counts, at an offset of a number
abbrev more_of : ℕ → ℕ → Grant → Part → Part
more_of n k g p = record { ends = p.ends + ends_at n k g; readers = p.readers + one (reads_at n k g); writer = cond (writes_at n k g) (Some (name_of g)) p.writer }

abbrev fewer_of : ℕ → ℕ → Grant → Part → Part
fewer_of n k g p = record { ends = p.ends - ends_at n k g; readers = p.readers - one (reads_at n k g); writer = cond (writes_at n k g) None p.writer }

module _ (g : Grant) (k : ℕ) where
  -- at its own number
  own : (g.range.number == g.range.number) ≡ true
  own = eq-eqb g.range.number g.range.number refl

  own_cover : covers_byte g.range.number k g ≡ (nat_le g.range.low k && nat_lt k g.range.high)
  own_cover = ap (λ b. b && (nat_le g.range.low k && nat_lt k g.range.high)) own

  own_ends : ends_at g.range.number k g ≡ one (k == g.range.low) + one (k == g.range.high)
  own_ends = ap (λ b. one (b && (k == g.range.low)) + one (b && (k == g.range.high))) own

  with_lock-counts : (f : Counts) → with_lock (span g.range) (change_of_grant (name_of g) g.mode) f k ≡ more_of g.range.number k g (f k)
  with_lock-counts f =
      more_cover (with_end g.range.high (with_end g.range.low f) k) (name_of g) g.mode (nat_le g.range.low k && nat_lt k g.range.high)
      ∙ (λ i. record {
        ends = (ends_is i).ends;
        readers = (ends_is i).readers + one (is_reader g.mode && sym own_cover i);
        writer = cond (not (is_reader g.mode) && sym own_cover i) (Some (name_of g)) (ends_is i).writer;
      })
    where
      ends_is : with_end g.range.high (with_end g.range.low f) k ≡ record (f k) { ends = (f k).ends + ends_at g.range.number k g }
      ends_is = more_end (with_end g.range.low f k) (k == g.range.high)
          ∙ ap (λ (p : Part). record p { ends = p.ends + one (k == g.range.high) }) (more_end (f k) (k == g.range.low))
          ∙ ap (λ e. record (f k) { ends = e }) (omega (arith, own_ends))

  without_lock-counts : (f : Counts) → without_lock (span g.range) (change_of_release g.mode) f k ≡ fewer_of g.range.number k g (f k)
  without_lock-counts f =
      fewer_end (without_end g.range.low (recounted (span g.range) (change_of_release g.mode) f) k) (k == g.range.high)
      ∙ ap (λ (p : Part). record p { ends = p.ends - one (k == g.range.high) }) (fewer_end (recounted (span g.range) (change_of_release g.mode) f k) (k == g.range.low))
      ∙ ap (λ (p : Part). record p { ends = p.ends - one (k == g.range.low) - one (k == g.range.high) }) (fewer_cover (f k) g.mode (nat_le g.range.low k && nat_lt k g.range.high))
      ∙ same_part _ _ (omega (arith, own_ends)) (ap (λ b. (f k).readers - one (is_reader g.mode && b)) (sym own_cover)) (ap (λ b. cond (not (is_reader g.mode) && b) None (f k).writer) (sym own_cover))

  -- at another it neither ends nor covers
  module _ (n : ℕ) (other : n ≡ g.range.number → ⊥) where
    apart : (n == g.range.number) ≡ false
    apart = ne_eqb n g.range.number other

    covers_apart : covers_byte n k g ≡ false
    covers_apart = ap (λ b. b && (nat_le g.range.low k && nat_lt k g.range.high)) apart

    ends_apart : ends_at n k g ≡ 0
    ends_apart = ap (λ b. one (b && (k == g.range.low)) + one (b && (k == g.range.high))) apart

    reads_apart : reads_at n k g ≡ false
    reads_apart = ap (λ b. is_reader g.mode && b) covers_apart ∙ and-false (is_reader g.mode)

    writes_apart : writes_at n k g ≡ false
    writes_apart = ap (λ b. not (is_reader g.mode) && b) covers_apart ∙ and-false (not (is_reader g.mode))

    more_apart : (p : Part) → more_of n k g p ≡ p
    more_apart p = same_part _ _ (omega (arith, ends_apart)) (ap (λ b. p.readers + one b) reads_apart ∙ omega arith) (ap (λ b. cond b (Some (name_of g)) p.writer) writes_apart)

    fewer_apart : (p : Part) → fewer_of n k g p ≡ p
    fewer_apart p = same_part _ _ (omega (arith, ends_apart)) (ap (λ b. p.readers - one b) reads_apart ∙ omega arith) (ap (λ b. cond b None p.writer) writes_apart)

-- a lock that is granted, where no writer covers what it covers for writing
module _ (locks : List Grant) (g : Grant) (alone : (n k : ℕ) → writes_at n k g ≡ true → find (writes_at n k) locks ≡ None) where
  counts_granted : (n k : ℕ) → counts_of n (locks ++ g ∷ []) k ≡ more_of n k g (counts_of n locks k)
  counts_granted n k = same_part _ _
      (sum_by_push (ends_at n k) locks g)
      (sum_by_push (λ (h : Grant). cond (reads_at n k h) 1 0) locks g)
      (ap (option_map name_of) (find-append (writes_at n k) locks (g ∷ [])) ∙ by (writes_at n k g) refl)
    where
      by : (b : Bool) → writes_at n k g ≡ b → option_map name_of (option_or (find (writes_at n k) locks) (cond (writes_at n k g) (Some g) None)) ≡ cond (writes_at n k g) (Some (name_of g)) (option_map name_of (find (writes_at n k) locks))
      by true is = (λ i. option_map name_of (option_or (alone n k is i) (cond (is i) (Some g) None))) ∙ sym (ap (λ t. cond t (Some (name_of g)) (option_map name_of (find (writes_at n k) locks))) is)
      by false is = (λ i. option_map name_of (option_or (find (writes_at n k) locks) (cond (is i) (Some g) None))) ∙ same (find (writes_at n k) locks) ∙ sym (ap (λ t. cond t (Some (name_of g)) (option_map name_of (find (writes_at n k) locks))) is)
        where
          same : (o : Option Grant) → option_map name_of (option_or o None) ≡ option_map name_of o
          same None = refl
          same (Some h) = refl

  pub granted_here : (k : ℕ) → with_lock (span g.range) (change_of_grant (name_of g) g.mode) (counts_of g.range.number locks) k ≡ counts_of g.range.number (locks ++ g ∷ []) k
  granted_here k = with_lock-counts g k (counts_of g.range.number locks) ∙ sym (counts_granted g.range.number k)

  pub granted_elsewhere : (n : ℕ) → (n ≡ g.range.number → ⊥) → (k : ℕ) → counts_of n locks k ≡ counts_of n (locks ++ g ∷ []) k
  granted_elsewhere n other k = sym (counts_granted n k ∙ more_apart g k n other (counts_of n locks k))

module _ (locks : List Grant) (i id : ℕ) (g : Grant) (rise : NamesRise locks) (at : slice_get locks i ≡ Some g) (named : g.id ≡ id) where
  -- a name is one lock's
  pub same_name : (j : ℕ) (h : Grant) → slice_get locks j ≡ Some h → h.id ≡ id → h ≡ g
  same_name j h at_j also = elim (cases_order i j) as (λ _. h ≡ g) [
    | inl same ↦ Some-injective (sym at_j ∙ ap (slice_get locks) (sym same) ∙ at)
    | inr apart ↦ elim apart as (λ _. h ≡ g) [
      | inl before ↦ absurd (let below : g.id < h.id = rise i j g h before at at_j in omega (arith, named, also))
      | inr behind ↦ absurd (let below : h.id < g.id = rise j i h g behind at_j at in omega (arith, named, also))
    ]
  ]

  -- one that is released, where no other writer covers what it covers for writing
  module _ (alone : (n k : ℕ) → writes_at n k g ≡ true → find (writes_at n k) (filter (λ (h : Grant). not (h.id == id)) locks) ≡ None) where
    counts_let_go : (n k : ℕ) → counts_of n (filter (λ (h : Grant). not (h.id == id)) locks) k ≡ fewer_of n k g (counts_of n locks k)
    counts_let_go n k =
        let ends : sum_by (ends_at n k) locks ≡ sum_by (ends_at n k) (filter (λ (h : Grant). not (h.id == id)) locks) + ends_at n k g = sum_without (ends_at n k) locks i id g rise at named in
        let readers = sum_without (λ (h : Grant). cond (reads_at n k h) 1 0) locks i id g rise at named in
        same_part _ _
        (sym (ap (λ x. x - ends_at n k g) ends ∙ back (sum_by (ends_at n k) (filter (λ (h : Grant). not (h.id == id)) locks)) (ends_at n k g)))
        (sym (ap (λ x. x - cond (reads_at n k g) 1 0) readers ∙ back _ (cond (reads_at n k g) 1 0)))
        (by (writes_at n k g) refl)
      where
        back : (a b : ℕ) → a + b - b ≡ a
        back a b = omega arith

        by : (b : Bool) → writes_at n k g ≡ b → option_map name_of (find (writes_at n k) (filter (λ (h : Grant). not (h.id == id)) locks)) ≡ cond (writes_at n k g) None (option_map name_of (find (writes_at n k) locks))
        by true is = ap (option_map name_of) (alone n k is) ∙ sym (ap (λ t. cond t None (option_map name_of (find (writes_at n k) locks))) is)
        by false is = ap (option_map name_of) (find_without (writes_at n k) locks id (λ j h at_j also. ap (writes_at n k) (same_name j h at_j also) ∙ is)) ∙ sym (ap (λ t. cond t None (option_map name_of (find (writes_at n k) locks))) is)

    pub let_go_here : (k : ℕ) → without_lock (span g.range) (change_of_release g.mode) (counts_of g.range.number locks) k ≡ counts_of g.range.number (filter (λ (h : Grant). not (h.id == id)) locks) k
    let_go_here k = without_lock-counts g k (counts_of g.range.number locks) ∙ sym (counts_let_go g.range.number k)

    pub let_go_elsewhere : (n : ℕ) → (n ≡ g.range.number → ⊥) → (k : ℕ) → counts_of n locks k ≡ counts_of n (filter (λ (h : Grant). not (h.id == id)) locks) k
    let_go_elsewhere n other k = sym (counts_let_go n k ∙ fewer_apart g k n other (counts_of n locks k))

  -- it is counted at each offset that it covers
  pub is_counted : (table : PartRows) → IsTable table (counts_of g.range.number locks) → (k : ℕ) → g.range.low ≤ k → k < g.range.high
      → IfSome (part_in table k) (CanRecountPart (change_of_release g.mode))
  is_counted table is k from below = by (part_in table k) refl
    where
      n : ℕ
      n = g.range.number

      covers : covers_byte n k g ≡ true
      covers = ap (λ b. b && (nat_le g.range.low k && nat_lt k g.range.high)) (eq-eqb n n refl) ∙ ap (λ b. b && nat_lt k g.range.high) (le-leb g.range.low k from) ∙ lt-ltb k g.range.high below

      counted : (m : Mode) → g.mode ≡ m → CanRecountPart (change_of_release m) (counts_of n locks k)
      counted Reader is_mode =
          let one_here : one (is_reader g.mode && covers_byte n k g) ≡ 1 = ap (λ m. cond (is_reader m && covers_byte n k g) 1 0) is_mode ∙ ap (λ b. cond b 1 0) covers in
          let whole = sum_without (λ (h : Grant). cond (reads_at n k h) 1 0) locks i id g rise at named in
          omega (arith, whole, one_here)
      counted Writer is_mode = tt

      by : (o : Option Part) → part_in table k ≡ o → IfSome o (CanRecountPart (change_of_release g.mode))
      by None at_k = tt
      by (Some p) at_k = subst (λ (q : Part). CanRecountPart (change_of_release g.mode) q) (sym (part_here table (counts_of n locks) is k p at_k)) (counted g.mode refl)

-- where a lock neither begins nor ends, it covers what it covers before
no_end_at : (n k : ℕ) (g : Grant) → ends_at n k g ≡ 0 → ((n ≡ g.range.number) → (k ≡ g.range.low) → ⊥) × ((n ≡ g.range.number) → (k ≡ g.range.high) → ⊥)
no_end_at n k g none = (λ same here. by true (both g.range.low same here) none refl, λ same here. by_high true (both g.range.high same here) none refl)
  where
    both : (x : ℕ) → n ≡ g.range.number → k ≡ x → ((n == g.range.number) && (k == x)) ≡ true
    both x same here = ap (λ b. b && (k == x)) (eq-eqb n g.range.number same) ∙ eq-eqb k x here

    by : (b : Bool) → ((n == g.range.number) && (k == g.range.low)) ≡ b → ends_at n k g ≡ 0 → b ≡ true → ⊥
    by b is zero_ends holds = let counted : one ((n == g.range.number) && (k == g.range.low)) ≡ 1 = ap (λ t. cond t 1 0) (is ∙ holds) in omega arith

    by_high : (b : Bool) → ((n == g.range.number) && (k == g.range.high)) ≡ b → ends_at n k g ≡ 0 → b ≡ true → ⊥
    by_high b is zero_ends holds = let counted : one ((n == g.range.number) && (k == g.range.high)) ≡ 1 = ap (λ t. cond t 1 0) (is ∙ holds) in omega arith

covers_first : (n : ℕ) (g : Grant) → ends_at n 0 g ≡ 0 → covers_byte n 0 g ≡ false
covers_first n g none = elim (cases_eq n g.range.number) as (λ _. covers_byte n 0 g ≡ false) [
  | inr other ↦ ap (λ b. b && (nat_le g.range.low 0 && nat_lt 0 g.range.high)) (ne_eqb n g.range.number other)
  | inl same ↦
      let begins : 0 ≡ g.range.low → ⊥ = (no_end_at n 0 g none).0 same in
      ap (λ b. b && (nat_le g.range.low 0 && nat_lt 0 g.range.high)) (eq-eqb n g.range.number same) ∙ ap (λ b. b && nat_lt 0 g.range.high) (lt-leb g.range.low 0 (omega (arith, begins)))
]

covers_next : (n k : ℕ) (g : Grant) → ends_at n (k + 1) g ≡ 0 → covers_byte n (k + 1) g ≡ covers_byte n k g
covers_next n k g none = elim (cases_eq n g.range.number) as (λ _. covers_byte n (k + 1) g ≡ covers_byte n k g) [
  | inr other ↦ ap (λ b. b && (nat_le g.range.low (k + 1) && nat_lt (k + 1) g.range.high)) (ne_eqb n g.range.number other) ∙ sym (ap (λ b. b && (nat_le g.range.low k && nat_lt k g.range.high)) (ne_eqb n g.range.number other))
  | inl same ↦
      let begins : k + 1 ≡ g.range.low → ⊥ = (no_end_at n (k + 1) g none).0 same in
      let ends : k + 1 ≡ g.range.high → ⊥ = (no_end_at n (k + 1) g none).1 same in
      λ i. (n == g.range.number) && (low begins i && high ends i)
]
  where
    low : (k + 1 ≡ g.range.low → ⊥) → nat_le g.range.low (k + 1) ≡ nat_le g.range.low k
    low apart = elim (cases_lt k g.range.low) as (λ _. nat_le g.range.low (k + 1) ≡ nat_le g.range.low k) [
      | inl before ↦ lt-leb g.range.low (k + 1) (omega (arith, apart)) ∙ sym (lt-leb g.range.low k before)
      | inr after ↦ le-leb g.range.low (k + 1) (omega arith) ∙ sym (le-leb g.range.low k after)
    ]

    high : (k + 1 ≡ g.range.high → ⊥) → nat_lt (k + 1) g.range.high ≡ nat_lt k g.range.high
    high apart = elim (cases_lt k g.range.high) as (λ _. nat_lt (k + 1) g.range.high ≡ nat_lt k g.range.high) [
      | inl before ↦ lt-ltb (k + 1) g.range.high (omega (arith, apart)) ∙ sym (lt-ltb k g.range.high before)
      | inr after ↦ le-ltb (k + 1) g.range.high (omega arith) ∙ sym (le-ltb k g.range.high after)
    ]

-- sums of what is the same of each lock that has no end at an offset
sums_agree : (e f g : Grant → ℕ) → ((x : Grant) → e x ≡ 0 → f x ≡ g x) → (locks : List Grant) → sum_by e locks ≡ 0 → sum_by f locks ≡ sum_by g locks
sums_agree e f g same [] none = refl
sums_agree e f g same (x ∷ xs) none =
    let parts : sum_by e (x ∷ xs) ≡ e x + sum_by e xs = sum_by-cons e x xs in
    sum_by-cons f x xs ∙ (λ i. same x (omega arith) i + sums_agree e f g same xs (omega arith) i) ∙ sym (sum_by-cons g x xs)

zero_sum : (locks : List Grant) → sum_by (λ (x : Grant). 0) locks ≡ 0
zero_sum [] = refl
zero_sum (x ∷ xs) = sum_by-cons (λ (y : Grant). 0) x xs ∙ ap (λ n. 0 + n) (zero_sum xs)

-- and what is found
finds_agree : (e : Grant → ℕ) (p q : Grant → Bool) → ((x : Grant) → e x ≡ 0 → p x ≡ q x) → (locks : List Grant) → sum_by e locks ≡ 0 → find p locks ≡ find q locks
finds_agree e p q same [] none = refl
finds_agree e p q same (x ∷ xs) none =
    let parts : sum_by e (x ∷ xs) ≡ e x + sum_by e xs = sum_by-cons e x xs in
    λ i. cond (same x (omega arith) i) (Some x) (finds_agree e p q same xs (omega arith) i)

finds_none : (locks : List Grant) → find (λ (x : Grant). false) locks ≡ None
finds_none [] = refl
finds_none (x ∷ xs) = finds_none xs

-- what covers an offset changes only at ends
pub counts_still : (n : ℕ) (locks : List Grant) → IsStill (counts_of n locks)
counts_still n locks = record {
  first = λ none. (
    sums_agree (ends_at n 0) (λ (g : Grant). cond (reads_at n 0 g) 1 0) (λ (g : Grant). 0) (λ g free. ap (λ b. cond (is_reader g.mode && b) 1 0) (covers_first n g free) ∙ ap (λ b. cond b 1 0) (and-false (is_reader g.mode))) locks none ∙ zero_sum locks,
    ap (option_map name_of) (finds_agree (ends_at n 0) (writes_at n 0) (λ (g : Grant). false) (λ g free. ap (λ b. not (is_reader g.mode) && b) (covers_first n g free) ∙ and-false (not (is_reader g.mode))) locks none ∙ finds_none locks),
  );
  next = λ k none. (
    sums_agree (ends_at n (k + 1)) (λ (g : Grant). cond (reads_at n (k + 1) g) 1 0) (λ (g : Grant). cond (reads_at n k g) 1 0) (λ g free. ap (λ b. cond (is_reader g.mode && b) 1 0) (covers_next n k g free)) locks none,
    ap (option_map name_of) (finds_agree (ends_at n (k + 1)) (writes_at n (k + 1)) (writes_at n k) (λ g free. ap (λ b. not (is_reader g.mode) && b) (covers_next n k g free)) locks none),
  );
}

-- and no count is above twice the number of locks
pub counts_small : (table : PartRows) (n : ℕ) (locks : List Grant) → length locks ≤ 256 → IsTable table (counts_of n locks) → HasCounts most_counted table
counts_small table n locks few is = record {
  counts = counts_of n locks;
  is = is;
  still = counts_still n locks;
  small = λ k. (
    let two : sum_by (ends_at n k) locks ≤ length locks * 2 = sum_by-le (ends_at n k) 2 locks (All-each _ locks (λ i g at. two_ends n k g)) in omega arith,
    let most : count_by (reads_at n k) locks ≤ length locks = count_by-le-length (reads_at n k) locks in omega arith,
  );
}
  where
    two_ends : (n k : ℕ) (g : Grant) → ends_at n k g ≤ 2
    two_ends n k g = by ((n == g.range.number) && (k == g.range.low)) ((n == g.range.number) && (k == g.range.high))
      where
        by : (a b : Bool) → cond a 1 0 + cond b 1 0 ≤ 2
        by true true = omega arith
        by true false = omega arith
        by false true = omega arith
        by false false = omega arith
