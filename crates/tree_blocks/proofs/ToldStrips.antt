-- What is told of the strips of an object: each by its index, and its pointers by those of a payload.
use Rattle.std.proofs.Common.{◌≡◌, ◌≢◌, ℕ, zero, suc, ◌+◌, ◌<◌, ◌≤◌, Bool, true, false, List, [], ◌∷◌, length, get_or, nat_eq, Some, cond, refl, ap, sym, subst, ◌∙◌, arith, eq-eqb}
use Rattle.std.specs.Prelude.{Option, map, nat_lt, unwrap_or, if◌then◌else◌}
use Rattle.std.specs.List.{range_with_len}
use Rattle.std.specs.Map.{lookup}
use Rattle.std.specs.Option.{option_map_or}
use Rattle.std.proofs.lemmas.Bool.{le-ltb, lt-ltb, ne_eqb}
use Rattle.std.proofs.lemmas.List.{get_or_default}
use Rattle.std.proofs.lemmas.List.FromFn.{length-map-range_with_len}
use Rattle.base.specs.declared.pointer.Pointer.{Pointer}
use Rattle.base.specs.formats.Fields.{no_pointer, pointer_in}
use Rattle.base.specs.formats.Limits.{object_count, one_level_length, pointer_count}
use Rattle.base.specs.tree.Places.{strip_of}
use Rattle.base.proofs.tree.Strips.{first-which}
use Rattle.tree_blocks.specs.declared.tree.ObjectEntry.{ObjectEntry}
use Rattle.tree_blocks.specs.Pointers.{TellsStrip, is_long_entry, long_pointers, payload_pointers, pointer_of_list, pointers_of_entry, short_pointers, strip_in, told_record}

-- the strip that was told last, and the others
pub strip-told : (strips : List (ℕ × (Pointer × List Pointer))) (j : ℕ) (s : Pointer × List Pointer) → strip_in ((j, s) ∷ strips) j ≡ s
strip-told strips j s = ap (λ (b : Bool). unwrap_or (cond b (Some s) (lookup (nat_eq j) strips)) (no_pointer, [])) (eq-eqb j j refl)

pub strip-is : (old new : List (ℕ × (Pointer × List Pointer))) (j : ℕ) (s : Pointer × List Pointer) → new ≡ (j, s) ∷ old → strip_in new j ≡ s
strip-is old new j s is = rw is (strip-told old j s)

-- a strip without an indirect block has no pointers to records, and one with a block those of its list
pub told-none : (s : Pointer × List Pointer) (k : ℕ) → s.0.address ≡ 0 → told_record s k ≡ no_pointer
told-none s k none = ap (λ (b : Bool). if b then no_pointer else pointer_of_list s.1 k) (eq-eqb s.0.address 0 none)

pub told-some : (s : Pointer × List Pointer) (k : ℕ) → s.0.address ≢ 0 → told_record s k ≡ pointer_of_list s.1 k
told-some s k some = ap (λ (b : Bool). if b then no_pointer else pointer_of_list s.1 k) (ne_eqb s.0.address 0 some)

-- the pointers of a payload, by their numbers
get_or-range : (f : ℕ → Pointer) (start count k : ℕ) → k < count → get_or (map f (range_with_len start count)) k no_pointer ≡ f (start + k)
get_or-range f start zero k low = absurd (omega (arith, low))
get_or-range f start (suc count) zero low = ap f (let same : start ≡ start + 0 = omega arith in same)
get_or-range f start (suc count) (suc k) low = get_or-range f (start + 1) count k (omega (arith, low)) ∙ ap f (let same : start + 1 + k ≡ start + suc k = omega arith in same)

pub payload_pointer : (payload : List ℕ) (k : ℕ) → k < pointer_count → pointer_of_list (payload_pointers payload) k ≡ pointer_in payload k
unfolding payload_pointers
payload_pointer payload k low = get_or-range (λ k. pointer_in payload k) 0 84 k low ∙ ap (λ (i : ℕ). pointer_in payload i) (let same : 0 + k ≡ k = omega arith in same)

pub length-pointers : (payload : List ℕ) → length (payload_pointers payload) ≡ pointer_count
unfolding payload_pointers
length-pointers payload = length-map-range_with_len (λ k. pointer_in payload k) 0 84

-- one of them, as it is read
pub pointer-read : (payload : List ℕ) (k : ℕ) (pointer : Pointer) → k < pointer_count → pointer ≡ pointer_in payload k → pointer ≡ get_or (payload_pointers payload) k pointer
pointer-read payload k pointer low read =
    read ∙ sym (payload_pointer payload k low) ∙ get_or_default (payload_pointers payload) k no_pointer pointer (subst (λ (n : ℕ). k < n) (sym (length-pointers payload)) low)

-- the pointers of an entry, by its length
pub entry-long : (e : ObjectEntry) → is_long_entry e ≡ true → pointers_of_entry e ≡ long_pointers e.pointer e.strips.value
entry-long e long = ap (λ (b : Bool). if b then long_pointers e.pointer e.strips.value else short_pointers e.pointer e.strips.value) long

pub entry-short : (e : ObjectEntry) → is_long_entry e ≡ false → pointers_of_entry e ≡ short_pointers e.pointer e.strips.value
entry-short e short = ap (λ (b : Bool). if b then long_pointers e.pointer e.strips.value else short_pointers e.pointer e.strips.value) short

-- the first strip of an object, as it was told by its number
pub first-told : (n : ℕ) (indirect : Pointer) (old strips : List (ℕ × (Pointer × List Pointer))) → n < object_count → TellsStrip (strip_of n) indirect old strips
    → strip_in strips (strip_of n) ≡ (indirect, (strip_in strips 0).1)
first-told n indirect old strips low tells =
    let which = first-which n low in
    let named : (strip_in strips 0).0 ≡ indirect = ap (λ (j : ℕ). (strip_in strips j).0) (sym which) ∙ tells.0 in
    ap (λ (j : ℕ). strip_in strips j) which ∙ ap (λ (p : Pointer). (p, (strip_in strips 0).1)) named

-- whether an entry is that of an object of two levels is told by its length
pub long-by_length : (m : ObjectEntry) (size : ℕ) → m.length ≡ Some size → one_level_length < size → is_long_entry m ≡ true
long-by_length m size is long = ap (λ (o : Option ℕ). option_map_or (λ (s : ℕ). nat_lt one_level_length s) o false) is ∙ lt-ltb one_level_length size long

pub short-by_length : (m : ObjectEntry) (size : ℕ) → m.length ≡ Some size → size ≤ one_level_length → is_long_entry m ≡ false
short-by_length m size is short = ap (λ (o : Option ℕ). option_map_or (λ (s : ℕ). nat_lt one_level_length s) o false) is ∙ le-ltb one_level_length size short
