-- The lengths and pointers of a tree after those of some objects are set.
use Rattle.std.proofs.Common.{◌≡◌, ℕ, zero, suc, ◌<◌, ◌≤◌, ◌≢◌, List, [], ◌∷◌, Option, Some, None, refl, ap, sym, ◌∙◌, inl, inr, ◌⊎◌, length, arith, true, false, cond}
use Rattle.std.specs.Prelude.{slice_get}
use Rattle.std.specs.Option.{option_map_or}
use Rattle.std.specs.Map.{keys_of, lookup}
use Rattle.std.specs.List.{AllByRecursion}
use Rattle.std.specs.List.Sorted.{IsStrictlySortedBy}
use Rattle.std.specs.BTreeMap as tree
use Rattle.std.specs.BTreeMap.{BTreeMap, is_at}
use Rattle.std.proofs.Math.ListN.{set}
use Rattle.std.specs.Ordering.{nat_cmp, is_eq}
use Rattle.std.specs.Cmp.{nat_cmp_is}
use Rattle.std.specs.declared.cmp.Ordering.TheVariants.{Less, Equal, Greater}
use Rattle.std.proofs.lemmas.Option.{none-some}
use Rattle.std.proofs.lemmas.Map.Keys.{sorted_head, sorted_tail}
use Rattle.std.proofs.lemmas.Bool.{cases_eq, cases_lt}
use Rattle.base.specs.declared.names.ObjectId.{ObjectId}
use Rattle.base.specs.declared.pointer.Pointer.{Pointer}
use Rattle.base.specs.formats.Limits.{object_count}
use Rattle.base.specs.tree.Places.{Place, IsPlace, object_of_indirect, strip_of}
use Rattle.base.specs.tree.Places.Place.{Root, Directory, Top, Indirect, Data}
use Rattle.base.proofs.tree.Strips.{number-object}
use Rattle.tree_blocks.specs.declared.tree.ObjectEntry.{ObjectEntry}
use Rattle.tree_blocks.specs.Pointers.{ObjectPointers, entry_among, id_cmp, no_pointers, object_pointers, pointers_at, pointers_of_entry, with_entries}
use Rattle.tree_blocks.specs.Lengths.{length_in, with_lengths}
use Rattle.tree_blocks.specs.SetEntries.{set_entries}

pub entry-set_same : (maps : List ObjectEntry) (n : ℕ) (m : ObjectEntry) → n < length maps → slice_get (set maps n m) n ≡ Some m
entry-set_same [] n m low = absurd (omega arith)
entry-set_same (t ∷ maps) zero m low = refl
entry-set_same (t ∷ maps) (suc n) m low = entry-set_same maps n m (omega arith)

pub entry-set_other : (maps : List ObjectEntry) (n : ℕ) (m : ObjectEntry) (k : ℕ) → k ≢ n → slice_get (set maps n m) k ≡ slice_get maps k
entry-set_other [] n m k ne = refl
entry-set_other (t ∷ maps) zero m zero ne = absurd (ne refl)
entry-set_other (t ∷ maps) zero m (suc k) ne = refl
entry-set_other (t ∷ maps) (suc n) m zero ne = refl
entry-set_other (t ∷ maps) (suc n) m (suc k) ne = entry-set_other maps n m k (λ e. ne (ap suc e))

-- the new pointers of object n
abbrev among : List (ObjectId × ObjectEntry) → ℕ → Option ObjectEntry
among es n = lookup (is_at (id_cmp (record { 0 = n }))) es

is_here : (n k : ℕ) → k ≡ n → is_eq (nat_cmp n k) ≡ true
is_here n k e = ap is_eq (sym (nat_cmp_is n k Equal (sym e)))

is_elsewhere : (n k : ℕ) → k ≢ n → is_eq (nat_cmp n k) ≡ false
is_elsewhere n k ne = go (cases_lt n k)
  where
    go : (n < k) ⊎ (k ≤ n) → is_eq (nat_cmp n k) ≡ false
    go (inl low) = ap is_eq (sym (nat_cmp_is n k Less low))
    go (inr high) = let lt : k < n = omega arith in ap is_eq (sym (nat_cmp_is n k Greater lt))

none_behind : (n : ℕ) (es : List (ObjectId × ObjectEntry)) → AllByRecursion (λ (y : ObjectId). nat_cmp n y.0 ≡ Less) (keys_of es) → among es n ≡ None
none_behind n [] h = refl
none_behind n (e ∷ es) h = rw h.0 (none_behind n es h.1)

length-set_entries : (maps : List ObjectEntry) (n : ℕ) (m : ObjectEntry) → length (set maps n m) ≡ length maps
length-set_entries [] n m = refl
length-set_entries (t ∷ maps) zero m = refl
length-set_entries (t ∷ maps) (suc n) m = ap suc (length-set_entries maps n m)

-- an object that none of these is keeps its pointers
kept : (es : List (ObjectId × ObjectEntry)) (maps : List ObjectEntry) (n : ℕ) → among es n ≡ None → slice_get (set_entries es maps) n ≡ slice_get maps n
kept [] maps n none = refl
kept (e ∷ es) maps n none = go (cases_eq e.0.0 n) (kept es (set maps e.0.0 e.1) n)
  where
    go : (e.0.0 ≡ n) ⊎ (e.0.0 ≢ n) → (among es n ≡ None → slice_get (set_entries es (set maps e.0.0 e.1)) n ≡ slice_get (set maps e.0.0 e.1) n)
        → slice_get (set_entries es (set maps e.0.0 e.1)) n ≡ slice_get maps n
    go (inl here) more = absurd (none-some e.1 (sym none ∙ ap (λ b. cond b (Some e.1) (lookup (is_at (id_cmp (record { 0 = n }))) es)) (is_here n e.0.0 here)))
    go (inr ne) more = more (rw (is_elsewhere n e.0.0 ne) at none) ∙ entry-set_other maps e.0.0 e.1 n (λ h. ne (sym h))

-- and each of these has its new ones
found : (es : List (ObjectId × ObjectEntry)) (maps : List ObjectEntry) (n : ℕ) (m : ObjectEntry) → n < length maps → IsStrictlySortedBy id_cmp (keys_of es)
    → among es n ≡ Some m → slice_get (set_entries es maps) n ≡ Some m
found [] maps n m low sorted some = absurd (none-some m some)
found (e ∷ es) maps n m low sorted some = go (cases_eq e.0.0 n) (found es (set maps e.0.0 e.1) n m (rw (length-set_entries maps e.0.0 e.1) low) (sorted_tail id_cmp e.0 (keys_of es) sorted))
  where
    rest : List ObjectEntry
    rest = set maps e.0.0 e.1

    go : (e.0.0 ≡ n) ⊎ (e.0.0 ≢ n) → (among es n ≡ Some m → slice_get (set_entries es rest) n ≡ Some m) → slice_get (set_entries es rest) n ≡ Some m
    go (inl here) more =
        let behind : AllByRecursion (λ (y : ObjectId). nat_cmp e.0.0 y.0 ≡ Less) (keys_of es) = sorted_head id_cmp e.0 (keys_of es) sorted in
        kept es rest n (none_behind n es (rw here at behind)) ∙ rw here (entry-set_same maps n e.1 low) ∙ ap (λ (o : Option ObjectEntry). option_map_or (λ (x : ObjectEntry). Some x) o None) (rw (is_here n e.0.0 here) at some)
    go (inr ne) more = more (rw (is_elsewhere n e.0.0 ne) at some)

-- the length of each object after they are set
pub set_all-lengths : (old : List ObjectEntry) (maps : BTreeMap ObjectId ObjectEntry) → length old ≡ object_count → tree.IsOrdered id_cmp maps
    → (n : ℕ) → n < object_count → length_in (set_entries maps.entries old) n ≡ with_lengths (entry_among maps) (length_in old) n
set_all-lengths old maps long sorted n there = go (entry_among maps n) refl
  where
    go : (o : Option ObjectEntry) → entry_among maps n ≡ o → length_in (set_entries maps.entries old) n ≡ option_map_or (λ (m : ObjectEntry). m.length) o (length_in old n)
    go None e = ap (λ (p : Option ObjectEntry). option_map_or (λ (m : ObjectEntry). m.length) p None) (kept maps.entries old n e)
    go (Some m) e = ap (λ (p : Option ObjectEntry). option_map_or (λ (m : ObjectEntry). m.length) p None) (found maps.entries old n m (rw long there) sorted e)

-- the pointers of each object after they are set
pub set_all-object : (old : List ObjectEntry) (new : BTreeMap ObjectId ObjectEntry) → length old ≡ object_count → tree.IsOrdered id_cmp new
    → (n : ℕ) → n < object_count → object_pointers (set_entries new.entries old) n ≡ option_map_or pointers_of_entry (entry_among new n) (object_pointers old n)
set_all-object old new long sorted n there = go (entry_among new n) refl
  where
    go : (o : Option ObjectEntry) → entry_among new n ≡ o → object_pointers (set_entries new.entries old) n ≡ option_map_or pointers_of_entry o (object_pointers old n)
    go None e = ap (λ (p : Option ObjectEntry). option_map_or pointers_of_entry p no_pointers) (kept new.entries old n e)
    go (Some m) e = ap (λ (p : Option ObjectEntry). option_map_or pointers_of_entry p no_pointers) (found new.entries old n m (rw long there) sorted e)

-- a pointer of those of an object, where there may be a new entry
chosen : (f : ObjectPointers → Pointer) (o : Option ObjectEntry) (p : ObjectPointers) → f (option_map_or pointers_of_entry o p) ≡ option_map_or (λ (e : ObjectEntry). f (pointers_of_entry e)) o (f p)
chosen f None p = refl
chosen f (Some e) p = refl

-- the pointer at each place after they are set
pub set_all-pointers : (root : Pointer) (directories : List Pointer) (old : List ObjectEntry) (new : BTreeMap ObjectId ObjectEntry) → length old ≡ object_count → tree.IsOrdered id_cmp new
    → (place : Place) → IsPlace place → pointers_at root directories (set_entries new.entries old) place ≡ with_entries (entry_among new) (pointers_at root directories old) place
set_all-pointers root directories old new long sorted Root there = refl
set_all-pointers root directories old new long sorted (Directory d) there = refl
set_all-pointers root directories old new long sorted (Top n) there =
    ap (λ (p : ObjectPointers). p.top) (set_all-object old new long sorted n there) ∙ chosen (λ p. p.top) (entry_among new n) (object_pointers old n)
set_all-pointers root directories old new long sorted (Indirect m) there =
    ap (λ (p : ObjectPointers). p.strip (strip_of m)) (set_all-object old new long sorted (object_of_indirect m) (number-object m))
    ∙ chosen (λ p. p.strip (strip_of m)) (entry_among new (object_of_indirect m)) (object_pointers old (object_of_indirect m))
set_all-pointers root directories old new long sorted (Data m k) there =
    ap (λ (p : ObjectPointers). p.record_at (strip_of m) k) (set_all-object old new long sorted (object_of_indirect m) (number-object m))
    ∙ chosen (λ p. p.record_at (strip_of m) k) (entry_among new (object_of_indirect m)) (object_pointers old (object_of_indirect m))
