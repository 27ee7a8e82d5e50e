-- The blocks that pointers name are taken one after another: then those are free that no pointer names.
use Rattle.std.proofs.Common.{◌≡◌, ℕ, zero, suc, ◌+◌, ◌<◌, ◌≢◌, eq-eqb, eqb-true, Bool, true, false, not, ◌&&◌, ◌||◌, List, [], ◌∷◌, length, take, get_or, nat_eq, Option, refl, sym, subst, ap, ◌∙◌, arith, ◌⊎◌, inl, inr, ◌↔◌}
use Rattle.std.specs.Prelude.{All, IfOk, IsTrue, Result, Ok, Err, nat_lt, ◌==◌, if◌then◌else◌}
use Rattle.std.specs.List.{list_any}
use Rattle.std.specs.Option.{option_map_or}
use Rattle.std.specs.Ordering.{nat_cmp}
use Rattle.std.specs.FinSet as set
use Rattle.std.specs.FinSet.{FinSet, contains-remove}
use Rattle.std.proofs.Math.ListN.{set as list_set}
use Rattle.std.proofs.lemmas.Cmp.{nat_cmp_total}
use Rattle.std.proofs.lemmas.Bool.{cases_eq, false≢true, ne_eqb}
use Rattle.std.proofs.lemmas.List.Elements.{All-head, All-tail}
use Rattle.std.proofs.lemmas.List.Folds.{list_any_more}
use Rattle.base.specs.declared.error.PoolError.{PoolError}
use Rattle.base.specs.declared.pointer.Pointer.{Pointer}
use Rattle.base.specs.formats.Fields.{no_pointer}
use Rattle.base.specs.formats.Geometry.{block_address, IsBlockAddress}
use Rattle.base.specs.formats.Limits.{object_count, one_level_length, pointer_count}
use Rattle.base.specs.tree.Places.{Place, IsPlace, object_of_indirect, strip_number, strip_of}
use Rattle.base.specs.tree.Places.Place.{Root, Directory, Top, Indirect, Data}
use Rattle.base.proofs.tree.Strips.{number-object, number-strip, strip-low, strip-object, strip-which}
use Rattle.base.proofs.stored.StoredSets.{tied}
use Rattle.tree_blocks.specs.declared.tree.ObjectEntry.{ObjectEntry}
use Rattle.tree_blocks.specs.declared.tree.Tree.{Tree}
use Rattle.tree_blocks.specs.EmptyEntries.{IsEmptyEntry}
use Rattle.trees.specs.FreeBlocks.{AreFreeBut, AreMarked, AreUnnamed, BlocksTaken, Names, ObjectNames, StripNames, TakesNamed, is_block_at, names_block}
use Rattle.tree_blocks.specs.Pointers.{ObjectPointers, no_pointers, object_pointers, pointer_of_list, pointers_by, pointers_of_entry, short_pointers}
use Rattle.tree_blocks.proofs.ToldStrips.{entry-short}
use Rattle.tree_blocks.proofs.SetEntries.{entry-set_same, entry-set_other}
use Rattle.space.specs.FreeSets.{AreBlockAddresses, FreeSpace, HasAllOf, IsIdle, after_take, is_free}

-- two takes one after another
both_taken : (a b c : Bool) → ((a && not b) && not c) ≡ (a && not (b || c))
both_taken true true c = refl
both_taken true false c = refl
both_taken false b c = refl

pub blocks_kept : (p : ℕ → Bool) (old new : FreeSpace) → BlocksTaken p old new → new.blocks ≡ old.blocks
blocks_kept p old new t = ap (λ (s : FreeSpace). s.blocks) t.rest

pub taken_twice : (p q : ℕ → Bool) (old mid new : FreeSpace) → BlocksTaken p old mid → BlocksTaken q mid new → BlocksTaken (λ k. p k || q k) old new
taken_twice p q old mid new first second = record {
  each = λ k low. second.each k (let same = blocks_kept p old mid first in omega (arith, low, same)) ∙ ap (λ (b : Bool). b && not (q k)) (first.each k low) ∙ both_taken (is_free k old) (p k) (q k);
  fewer = λ address h. first.fewer address (second.fewer address h);
  rest = second.rest ∙ ap (λ (s : FreeSpace). record s { free = new.free }) first.rest;
}

pub taken_same : (p q : ℕ → Bool) (old new : FreeSpace) → ((k : ℕ) → p k ≡ q k) → BlocksTaken p old new → BlocksTaken q old new
taken_same p q old new same t = record { each = λ k low. t.each k low ∙ ap (λ (b : Bool). is_free k old && not b) (same k); fewer = t.fewer; rest = t.rest }

-- one more of a list
pub taken_more : {A : Type 0} (p : ℕ → A → Bool) (xs : List A) (i : ℕ) (x : A) (old mid new : FreeSpace) → i < length xs → x ≡ get_or xs i x
    → BlocksTaken (λ k. list_any (p k) (take i xs)) old mid → BlocksTaken (λ k. p k x) mid new → BlocksTaken (λ k. list_any (p k) (take (i + 1) xs)) old new
taken_more p xs i x old mid new low is first second =
    taken_same _ _ old new (λ k. sym (list_any_more (p k) xs i x low ∙ ap (λ y. list_any (p k) (take i xs) || p k y) (sym is)))
    (taken_twice (λ j. list_any (p j) (take i xs)) (λ j. p j x) old mid new first second)

pub contains-without : (numbers : FinSet nat_cmp) (n q : ℕ) → set.contains (set.remove numbers n) q ≡ (not (nat_eq n q) && set.contains numbers q)
contains-without numbers n q = contains-remove nat_cmp_total numbers n q ∙ ap (λ (b : Bool). not b && set.contains numbers q) (tied q n)

swapped : (a b : Bool) → (a && b) ≡ (b && a)
swapped true true = refl
swapped true false = refl
swapped false true = refl
swapped false false = refl

and_right : (a b : Bool) → (a && b) ≡ true → b ≡ true
and_right true b h = h
and_right false b h = absurd (false≢true h)

-- the block at an address is taken
pub address_taken : (address i : ℕ) (s : FreeSpace) → block_address i ≡ address → BlocksTaken (λ k. is_block_at k address) s (after_take i s)
address_taken address i s is = record {
  each = λ k low. contains-without s.free (block_address i) (block_address k) ∙ swapped (not (nat_eq (block_address i) (block_address k))) (is_free k s) ∙ ap (λ (a : ℕ). is_free k s && not (nat_eq a (block_address k))) is;
  fewer = λ other h. and_right (not (nat_eq (block_address i) other)) (set.contains s.free other) (sym (contains-without s.free (block_address i) other) ∙ h);
  rest = refl;
}

and_true : (a : Bool) → a ≡ (a && true)
and_true true = refl
and_true false = refl

-- and none is taken at an address that no block has
pub none_taken : (address : ℕ) (s : FreeSpace) → ((k : ℕ) → address ≡ block_address k → ⊥) → BlocksTaken (λ k. is_block_at k address) s s
none_taken address s none = record {
  each = λ k low. and_true (is_free k s) ∙ ap (λ (b : Bool). is_free k s && not b) (sym (ne_eqb address (block_address k) (none k)));
  fewer = λ other h. h;
  rest = refl;
}

-- so many takes that are named, one after another
named_kept : (N : ℕ → Type 0) (old new : FreeSpace) → TakesNamed N old new → new.blocks ≡ old.blocks
named_kept N old new t = ap (λ (s : FreeSpace). s.blocks) t.rest

pub takes_none : (N : ℕ → Type 0) (s : FreeSpace) → ((k : ℕ) → N k → ⊥) → TakesNamed N s s
takes_none N s none = record { each = λ k low. (λ is. (is, none k), λ both. both.0); fewer = λ address h. h; rest = refl }

pub takes_as : (N M : ℕ → Type 0) (old new : FreeSpace) → ((k : ℕ) → N k ↔ M k) → TakesNamed N old new → TakesNamed M old new
takes_as N M old new same t = record {
  each = λ k low. (
    λ is. (((t.each k low).0 is).0, λ named. ((t.each k low).0 is).1 ((same k).1 named)),
    λ both. (t.each k low).1 (both.0, λ named. both.1 ((same k).0 named)),
  );
  fewer = t.fewer;
  rest = t.rest;
}

pub takes_twice : (N M : ℕ → Type 0) (old mid new : FreeSpace) → TakesNamed N old mid → TakesNamed M mid new → TakesNamed (λ k. N k ⊎ M k) old new
takes_twice N M old mid new first second = record {
  each = λ k low.
      let in_mid : k < mid.blocks = (let same = named_kept N old mid first in omega (arith, low, same)) in (
        λ is.
            let after = (second.each k in_mid).0 is in
            let was = (first.each k low).0 after.0 in
            (was.0, λ named. either k was.1 after.1 named),
        λ both. (second.each k in_mid).1 ((first.each k low).1 (both.0, λ named. both.1 (inl named)), λ named. both.1 (inr named)),
      );
  fewer = λ address h. first.fewer address (second.fewer address h);
  rest = second.rest ∙ ap (λ (s : FreeSpace). record s { free = new.free }) first.rest;
}
  where
    either : (k : ℕ) → (N k → ⊥) → (M k → ⊥) → N k ⊎ M k → ⊥
    either k n m (inl named) = n named
    either k n m (inr named) = m named

true_both : (a b : Bool) → IsTrue (a && not b) → IsTrue a × (IsTrue b → ⊥)
true_both true true h = absurd (false≢true h)
true_both true false h = (refl, λ e. false≢true e)
true_both false b h = absurd (false≢true h)

both_true : (a b : Bool) → IsTrue a → (IsTrue b → ⊥) → IsTrue (a && not b)
both_true true true h never = absurd (never refl)
both_true true false h never = refl
both_true false b h never = absurd (false≢true h)

-- those that a test names
pub takes_by : (p : ℕ → Bool) (N : ℕ → Type 0) (old new : FreeSpace) → ((k : ℕ) → IsTrue (p k) ↔ N k) → BlocksTaken p old new → TakesNamed N old new
takes_by p N old new same t = record {
  each = λ k low. (
    λ is. let both = true_both (is_free k old) (p k) (sym (t.each k low) ∙ is) in (both.0, λ named. both.1 ((same k).1 named)),
    λ both. t.each k low ∙ both_true (is_free k old) (p k) both.0 (λ is. both.1 ((same k).0 is)),
  );
  fewer = t.fewer;
  rest = t.rest;
}

-- the block of one pointer
pub names-by : (k : ℕ) (pointer : Pointer) → IsTrue (names_block k pointer) ↔ Names k pointer
names-by k pointer = (λ is. eqb-true pointer.address (block_address k) is, λ is. eq-eqb pointer.address (block_address k) is)

pub none-named : (k : ℕ) (pointer : Pointer) → pointer ≡ no_pointer → Names k pointer → ⊥
none-named k pointer none named = let zero_is : 0 ≡ block_address k = sym (ap (λ (p : Pointer). p.address) none) ∙ named in absurd (omega (arith, zero_is))

-- one of a list does, at a place of it
or_left : (a b : Bool) → IsTrue a → IsTrue (a || b)
or_left true b is = refl
or_left false b is = absurd (false≢true is)

or_right : (a b : Bool) → IsTrue b → IsTrue (a || b)
or_right true b is = refl
or_right false b is = is

or_cases : (a b : Bool) → IsTrue (a || b) → IsTrue a ⊎ IsTrue b
or_cases true b is = inl refl
or_cases false b is = inr is

abbrev pub AnyNames : ℕ → List Pointer → Type 0
AnyNames k xs = (r : ℕ) × (r < length xs) × Names k (pointer_of_list xs r)

any-first : (k : ℕ) (x : Pointer) (xs : List Pointer) → IsTrue (names_block k x) ⊎ AnyNames k xs → AnyNames k (x ∷ xs)
any-first k x xs (inl here) = (0, omega arith, (names-by k x).0 here)
any-first k x xs (inr (r, low, named)) = (suc r, omega (arith, low), named)

any-back : (k : ℕ) (x : Pointer) (xs : List Pointer) → (AnyNames k xs → IsTrue (list_any (names_block k) xs)) → AnyNames k (x ∷ xs) → IsTrue (list_any (names_block k) (x ∷ xs))
any-back k x xs back (zero, low, named) = or_left (names_block k x) (list_any (names_block k) xs) ((names-by k x).1 named)
any-back k x xs back (suc r, low, named) = or_right (names_block k x) (list_any (names_block k) xs) (back (r, omega (arith, low), named))

later : (k : ℕ) (xs : List Pointer) (A : Type 0) → (IsTrue (list_any (names_block k) xs) → AnyNames k xs) → A ⊎ IsTrue (list_any (names_block k) xs) → A ⊎ AnyNames k xs
later k xs A after (inl here) = inl here
later k xs A after (inr behind) = inr (after behind)

pub any-named : (k : ℕ) (xs : List Pointer) → IsTrue (list_any (names_block k) xs) ↔ AnyNames k xs
any-named k [] = (λ is. absurd (false≢true is), λ h. absurd (let low = h.1 in omega (arith, low)))
any-named k (x ∷ xs) = (
  λ is. any-first k x xs (later k xs (IsTrue (names_block k x)) (any-named k xs).0 (or_cases (names_block k x) (list_any (names_block k) xs) is)),
  λ h. any-back k x xs (any-named k xs).1 h,
)

idle_kept : (p : ℕ → Bool) (old new : FreeSpace) → BlocksTaken p old new → IsIdle old → IsIdle new
idle_kept p old new t idle = record {
  reserved = ap (λ (s : FreeSpace). s.reserved) t.rest ∙ idle.reserved;
  taken = ap (λ (s : FreeSpace). s.taken) t.rest ∙ idle.taken;
}

named_idle : (N : ℕ → Type 0) (old new : FreeSpace) → TakesNamed N old new → IsIdle old → IsIdle new
named_idle N old new t idle = record {
  reserved = ap (λ (s : FreeSpace). s.reserved) t.rest ∙ idle.reserved;
  taken = ap (λ (s : FreeSpace). s.taken) t.rest ∙ idle.taken;
}

named_placed : (N : ℕ → Type 0) (old new : FreeSpace) → TakesNamed N old new → AreBlockAddresses old → AreBlockAddresses new
named_placed N old new t placed address is = subst (λ (n : ℕ). IsBlockAddress n address) (sym (named_kept N old new t)) (placed address (t.fewer address is))

-- more is named, and those blocks are taken
pub free_but_more : (N M : ℕ → Type 0) (blocks : ℕ) (old new : FreeSpace) → AreFreeBut N blocks old → TakesNamed M old new → AreFreeBut (λ k. N k ⊎ M k) blocks new
free_but_more N M blocks old new are t = record {
  sized = named_kept M old new t ∙ are.sized;
  placed = named_placed M old new t are.placed;
  idle = named_idle M old new t are.idle;
  each = λ k low.
      let within : k < old.blocks = (let same = are.sized in omega (arith, low, same)) in (
        λ is. let after = (t.each k within).0 is in either k ((are.each k low).0 after.0) after.1,
        λ never. (t.each k within).1 ((are.each k low).1 (λ named. never (inl named)), λ named. never (inr named)),
      );
}
  where
    either : (k : ℕ) → (N k → ⊥) → (M k → ⊥) → N k ⊎ M k → ⊥
    either k n m (inl named) = n named
    either k n m (inr named) = m named

pub free_but_as : (N M : ℕ → Type 0) (blocks : ℕ) (free : FreeSpace) → ((k : ℕ) → N k ↔ M k) → AreFreeBut N blocks free → AreFreeBut M blocks free
free_but_as N M blocks free same are = record {
  sized = are.sized;
  placed = are.placed;
  idle = are.idle;
  each = λ k low. (λ is named. (are.each k low).0 is ((same k).1 named), λ never. (are.each k low).1 (λ named. never ((same k).0 named)));
}

-- no pointers name nothing
pub no_object-named : (k : ℕ) (p : ObjectPointers) → p ≡ no_pointers → ObjectNames k p → ⊥
no_object-named k p none named = go (subst (λ (q : ObjectPointers). ObjectNames k q) none named)
  where
    in_strip : StripNames k no_pointer (λ _. no_pointer) → ⊥
    in_strip (inl is) = none-named k no_pointer refl is
    in_strip (inr (r, low, is)) = none-named k no_pointer refl is

    go : ObjectNames k no_pointers → ⊥
    go (inl is) = none-named k no_pointer refl is
    go (inr (j, low, is)) = in_strip is

-- the entries of a set are those of a new one and the others
module _ (entries : List ObjectEntry) (n : ℕ) (e : ObjectEntry) (low : n < length entries) where
  pointers-set_same : object_pointers (list_set entries n e) n ≡ pointers_of_entry e
  pointers-set_same = ap (λ (o : Option ObjectEntry). option_map_or pointers_of_entry o no_pointers) (entry-set_same entries n e low)

  pointers-set_other : (k : ℕ) → k ≢ n → object_pointers (list_set entries n e) k ≡ object_pointers entries k
  pointers-set_other k other = ap (λ (o : Option ObjectEntry). option_map_or pointers_of_entry o no_pointers) (entry-set_other entries n e k other)

-- an entry is set whose object had no pointers, and its blocks are taken
pub marked_set : (entries : List ObjectEntry) (n : ℕ) (e : ObjectEntry) (blocks : ℕ) (old new : FreeSpace) → n < object_count → n < length entries → object_pointers entries n ≡ no_pointers
    → AreMarked entries blocks old → TakesNamed (λ k. ObjectNames k (pointers_of_entry e)) old new → AreMarked (list_set entries n e) blocks new
marked_set entries n e blocks old new within low none marked t =
    free_but_as (λ k. Old k ⊎ ObjectNames k (pointers_of_entry e)) New blocks new (λ k. (there k, back k)) (free_but_more Old (λ k. ObjectNames k (pointers_of_entry e)) blocks old new marked t)
  where
    Old : ℕ → Type 0
    Old k = (i : ℕ) × (i < object_count) × ObjectNames k (object_pointers entries i)

    New : ℕ → Type 0
    New k = (i : ℕ) × (i < object_count) × ObjectNames k (object_pointers (list_set entries n e) i)

    there : (k : ℕ) → Old k ⊎ ObjectNames k (pointers_of_entry e) → New k
    there k (inr named) = (n, within, subst (λ (p : ObjectPointers). ObjectNames k p) (sym (pointers-set_same entries n e low)) named)
    there k (inl (i, inside, named)) = elim (cases_eq i n) as (λ _. New k) [
      | inl same ↦ absurd (no_object-named k (object_pointers entries n) none (subst (λ (q : ℕ). ObjectNames k (object_pointers entries q)) same named))
      | inr other ↦ (i, inside, subst (λ (p : ObjectPointers). ObjectNames k p) (sym (pointers-set_other entries n e low i other)) named)
    ]

    back : (k : ℕ) → New k → Old k ⊎ ObjectNames k (pointers_of_entry e)
    back k (i, inside, named) = elim (cases_eq i n) as (λ _. Old k ⊎ ObjectNames k (pointers_of_entry e)) [
      | inl same ↦ inr (subst (λ (p : ObjectPointers). ObjectNames k p) (pointers-set_same entries n e low) (subst (λ (q : ℕ). ObjectNames k (object_pointers (list_set entries n e) q)) same named))
      | inr other ↦ inl (i, inside, subst (λ (p : ObjectPointers). ObjectNames k p) (pointers-set_other entries n e low i other) named)
    ]

-- of entries that are empty none names a block
either : (b : Bool) → (if b then no_pointer else no_pointer) ≡ no_pointer
either true = refl
either false = refl

short_none : (strips : List (ℕ × (Pointer × List Pointer))) → strips ≡ [] → short_pointers no_pointer strips ≡ no_pointers
short_none strips none = ap (λ (l : List (ℕ × (Pointer × List Pointer))). short_pointers no_pointer l) none
    ∙ (λ i. record { top = no_pointer; strip = λ j. either (j == 0) i; record_at = λ j k. either (j == 0) i })

empty_pointers : (e : ObjectEntry) → IsEmptyEntry e → pointers_of_entry e ≡ no_pointers
empty_pointers e empty =
    entry-short e (ap (λ (o : Option ℕ). option_map_or (λ (s : ℕ). nat_lt one_level_length s) o false) empty.2)
    ∙ ap (λ (p : Pointer). short_pointers p e.strips.value) empty.0 ∙ short_none e.strips.value empty.1

pub none_of_empty : (entries : List ObjectEntry) → All IsEmptyEntry entries → (n : ℕ) → object_pointers entries n ≡ no_pointers
none_of_empty [] empty n = refl
none_of_empty (e ∷ entries) empty zero = empty_pointers e (All-head IsEmptyEntry e entries empty)
none_of_empty (e ∷ entries) empty (suc n) = none_of_empty entries (All-tail IsEmptyEntry e entries empty) n

pub marked_new : (entries : List ObjectEntry) (blocks : ℕ) (free : FreeSpace) → ((n : ℕ) → object_pointers entries n ≡ no_pointers) → free.blocks ≡ blocks → HasAllOf blocks free.free → IsIdle free → AreMarked entries blocks free
marked_new entries blocks free empty sized all idle = record {
  sized = sized;
  placed = λ address is. subst (λ (n : ℕ). IsBlockAddress n address) (sym sized) ((all address).0 is);
  idle = idle;
  each = λ k low. (λ _ named. no_object-named k (object_pointers entries named.0) (empty named.0) named.2, λ _. (all (block_address k)).1 (k, low, refl));
}

-- what is free once the blocks of the root and of the directories are taken too
module _ (root : Pointer) (directories : List Pointer) (entries : List ObjectEntry) (long : length directories ≡ 84) where
  abbrev pointers : Place → Pointer
  pointers = pointers_by root directories (object_pointers entries)

  abbrev ByParts : ℕ → Type 0
  ByParts k = (((n : ℕ) × (n < object_count) × ObjectNames k (object_pointers entries n)) ⊎ Names k root)
      ⊎ ((r : ℕ) × (r < length directories) × Names k (pointer_of_list directories r))

  abbrev ByPlaces : ℕ → Type 0
  ByPlaces k = (place : Place) × IsPlace place × Names k (pointers place)

  of_strip : (k n j : ℕ) → n < object_count → j < pointer_count → StripNames k ((object_pointers entries n).strip j) ((object_pointers entries n).record_at j) → ByPlaces k
  of_strip k n j low inside (inl named) = (
    Indirect (strip_number n j),
    strip-low n j low inside,
    subst (λ (i : ℕ). Names k ((object_pointers entries i).strip (strip_of (strip_number n j)))) (sym (strip-object n j low))
        (subst (λ (i : ℕ). Names k ((object_pointers entries n).strip i)) (sym (strip-which n j low)) named),
  )
  of_strip k n j low inside (inr (r, r_low, named)) = (
    Data (strip_number n j) r,
    (strip-low n j low inside, r_low),
    subst (λ (i : ℕ). Names k ((object_pointers entries i).record_at (strip_of (strip_number n j)) r)) (sym (strip-object n j low))
        (subst (λ (i : ℕ). Names k ((object_pointers entries n).record_at i r)) (sym (strip-which n j low)) named),
  )

  of_object : (k n : ℕ) → n < object_count → ObjectNames k (object_pointers entries n) → ByPlaces k
  of_object k n low (inl named) = (Top n, low, named)
  of_object k n low (inr (j, inside, named)) = of_strip k n j low inside named

  by_places : (k : ℕ) → ByParts k → ByPlaces k
  by_places k (inl (inl (n, low, named))) = of_object k n low named
  by_places k (inl (inr named)) = (Root, tt, named)
  by_places k (inr (r, low, named)) = (Directory r, omega (arith, low, long), named)

  by_parts : (k : ℕ) (place : Place) → IsPlace place → Names k (pointers place) → ByParts k
  by_parts k Root there named = inl (inr named)
  by_parts k (Directory d) there named = inr (d, omega (arith, there, long), named)
  by_parts k (Top n) there named = inl (inl (n, there, inl named))
  by_parts k (Indirect m) there named = inl (inl (object_of_indirect m, number-object m, inr (strip_of m, number-strip m there, inl named)))
  by_parts k (Data m r) there named = inl (inl (object_of_indirect m, number-object m, inr (strip_of m, number-strip m there.0, inr (r, there.1, named))))

  pub tree_left : (blocks : ℕ) (marked rooted listed : FreeSpace) → AreMarked entries blocks marked → BlocksTaken (λ k. is_block_at k root.address) marked rooted
      → BlocksTaken (λ k. list_any (names_block k) directories) rooted listed → AreFreeBut ByPlaces blocks listed
  tree_left blocks marked rooted listed are by_root by_directories =
      free_but_as ByParts ByPlaces blocks listed (λ k. (by_places k, λ h. by_parts k h.0 h.1 h.2))
      (free_but_more (λ k. ((n : ℕ) × (n < object_count) × ObjectNames k (object_pointers entries n)) ⊎ Names k root) (λ k. (r : ℕ) × (r < length directories) × Names k (pointer_of_list directories r)) blocks rooted listed
      (free_but_more (λ k. (n : ℕ) × (n < object_count) × ObjectNames k (object_pointers entries n)) (λ k. Names k root) blocks marked rooted are
      (takes_by (λ k. is_block_at k root.address) (λ k. Names k root) marked rooted (λ k. names-by k root) by_root))
      (takes_by (λ k. list_any (names_block k) directories) (λ k. (r : ℕ) × (r < length directories) × Names k (pointer_of_list directories r)) rooted listed (λ k. any-named k directories) by_directories))

-- the block of a root at the first address is not free
not_free : (b : Bool) → (IsTrue b → ⊥) → b ≡ false
not_free true never = absurd (never refl)
not_free false never = refl

pub IfOk_root : {A : Type 0} (r : Result A PoolError) (tree : A → Tree) (free : A → FreeSpace) (blocks : ℕ) (root : Pointer) → 0 < blocks → root.address ≡ 4194304
    → IfOk r (λ a. (tree a).root ≡ root) → IfOk r (λ a. AreUnnamed blocks (tree a) (free a)) → IfOk r (λ a. is_free 0 (free a) ≡ false)
IfOk_root (Err e) tree free blocks root some at is unnamed = tt
IfOk_root (Ok a) tree free blocks root some at is unnamed =
    not_free (is_free 0 (free a)) (λ h. (unnamed.each 0 some).0 h (Root, tt, ap (λ (p : Pointer). p.address) is ∙ at))
