-- A place is told by its index in the walk: a directory before its objects, the top of an object before its strips, an
-- indirect block before its records.
use Rattle.std.proofs.Common.{◌≡◌, ℕ, ◌+◌, ◌-◌, ◌*◌, ◌/◌, ◌%◌, ◌<◌, ◌≤◌, refl, sym, ◌∙◌, ap, arith}
use Rattle.base.specs.formats.Limits.{indirect_count, entry_count, strip_stride, object_stride, directory_stride}
use Rattle.base.specs.tree.Places.{Place, IsPlace, object_of_indirect, strip_of, strip_number, walk_index_of_object, walk_index_of_indirect, walk_index_of}
use Rattle.base.specs.tree.Places.Place.{Root, Directory, Top, Indirect, Data}
use Rattle.base.proofs.tree.Strips.{number-strip, number-back}

-- the index of a place below a directory: which directory it is, which entry, and which place of the object
abbrev index_below : ℕ → ℕ → ℕ → ℕ
index_below d e o = 2 + directory_stride * d + object_stride * e + o

one_index : (d e o f g p : ℕ) → e < entry_count → g < entry_count → o < object_stride → p < object_stride → index_below d e o ≡ index_below f g p → (d ≡ f) × (e ≡ g) × (o ≡ p)
unfolding directory_stride object_stride
one_index d e o f g p e_low g_low o_low p_low same =
    let directories : d ≡ f = omega (arith, e_low, g_low, o_low, p_low, same) in
    let entries : e ≡ g = omega (arith, directories, o_low, p_low, same) in
    (directories, entries, omega (arith, directories, entries, same))

-- of two places of objects with one index the objects and the places are the same
pub same-object : (n m o p : ℕ) → o < object_stride → p < object_stride → walk_index_of_object n + o ≡ walk_index_of_object m + p → (n ≡ m) × (o ≡ p)
same-object n m o p o_low p_low same =
    let n_low : n % entry_count < entry_count = omega arith in
    let m_low : m % entry_count < entry_count = omega arith in
    let t = one_index (n / entry_count) (n % entry_count) o (m / entry_count) (m % entry_count) p n_low m_low o_low p_low same in
    (omega (arith, t.0, t.1), t.2)

no_directory : (d n o : ℕ) → o < object_stride → 1 + directory_stride * d ≡ walk_index_of_object n + o → ⊥
unfolding directory_stride object_stride
no_directory d n o low same = let n_low : n % entry_count < entry_count = omega arith in omega (arith, n_low, low, same)

one_directory : (d e : ℕ) → 1 + directory_stride * d ≡ 1 + directory_stride * e → d ≡ e
unfolding directory_stride object_stride
one_directory d e same = omega (arith, same)

-- the objects of a directory in the walk, and the strips of an object
pub index_within : (d k : ℕ) → k < entry_count → walk_index_of_object (entry_count * d + k) ≡ 2 + directory_stride * d + object_stride * k
index_within d k low =
    let q : (entry_count * d + k) / entry_count ≡ d = omega (arith, low) in
    let m : (entry_count * d + k) % entry_count ≡ k = omega (arith, low) in
    (λ i. 2 + directory_stride * q i + object_stride * m i)

-- which place of its object an indirect block is, or one of its records
abbrev place_of_strip : ℕ → ℕ → ℕ
place_of_strip m o = 1 + strip_stride * strip_of m + o

strip_place : (m o : ℕ) → m < indirect_count → o < strip_stride → place_of_strip m o < object_stride
unfolding object_stride
strip_place m o low o_low = let strip = number-strip m low in omega (arith, strip, o_low)

some_place : 0 < object_stride
unfolding object_stride
some_place = omega arith

at_strip : (m o : ℕ) → walk_index_of_indirect m + o ≡ walk_index_of_object (object_of_indirect m) + place_of_strip m o
at_strip m o = omega arith

same_strip : (m o k l : ℕ) → m < indirect_count → o < indirect_count → k < strip_stride → l < strip_stride → walk_index_of_indirect m + k ≡ walk_index_of_indirect o + l → (m ≡ o) × (k ≡ l)
same_strip m o k l m_low o_low k_low l_low same =
    let t = same-object (object_of_indirect m) (object_of_indirect o) (place_of_strip m k) (place_of_strip o l) (strip_place m k m_low k_low) (strip_place o l o_low l_low) (sym (at_strip m k) ∙ same ∙ at_strip o l) in
    let objects = t.0 in
    let places = t.1 in
    let strips : strip_of m ≡ strip_of o = omega (arith, places, k_low, l_low) in
    (sym (number-back m) ∙ (λ i. strip_number (objects i) (strips i)) ∙ number-back o, omega (arith, places, strips))

no_strip : (n m o : ℕ) → m < indirect_count → o < strip_stride → walk_index_of_object n ≡ walk_index_of_indirect m + o → ⊥
no_strip n m o low o_low same =
    let t = same-object n (object_of_indirect m) 0 (place_of_strip m o) some_place (strip_place m o low o_low) (omega arith ∙ same ∙ at_strip m o) in
    let places = t.1 in omega (arith, places)

above_strip : (d m o : ℕ) → m < indirect_count → o < strip_stride → 1 + directory_stride * d ≡ walk_index_of_indirect m + o → ⊥
above_strip d m o low o_low same = no_directory d (object_of_indirect m) (place_of_strip m o) (strip_place m o low o_low) (same ∙ at_strip m o)

-- an index behind another one is not that of the root
no_root : (a b : ℕ) → 0 < a → 0 ≡ a + b → ⊥
no_root a b some same = omega (arith, some, same)

object_some : (n : ℕ) → 0 < walk_index_of_object n
object_some n = omega arith

indirect_some : (m : ℕ) → 0 < walk_index_of_indirect m
indirect_some m = omega arith

-- a place is told by its index in the walk
pub same_place : (a b : Place) → IsPlace a → IsPlace b → walk_index_of a ≡ walk_index_of b → a ≡ b
same_place Root Root ha hb e = refl
same_place Root (Directory d) ha hb e = absurd (omega (arith, e))
same_place Root (Top n) ha hb e = absurd (no_root (walk_index_of_object n) 0 (object_some n) (e ∙ omega arith))
same_place Root (Indirect m) ha hb e = absurd (no_root (walk_index_of_indirect m) 0 (indirect_some m) (e ∙ omega arith))
same_place Root (Data m k) ha hb e = absurd (omega (arith, e))
same_place (Directory d) Root ha hb e = absurd (omega (arith, e))
same_place (Directory d) (Directory f) ha hb e = ap (λ i. Directory i) (one_directory d f e)
same_place (Directory d) (Top n) ha hb e = absurd (no_directory d n 0 some_place (e ∙ omega arith))
same_place (Directory d) (Indirect m) ha hb e = absurd (above_strip d m 0 hb (omega arith) (e ∙ omega arith))
same_place (Directory d) (Data m k) ha hb e = absurd (above_strip d m (1 + k) hb.0 (omega (arith, hb.1)) (e ∙ omega arith))
same_place (Top n) Root ha hb e = absurd (no_root (walk_index_of_object n) 0 (object_some n) (sym e ∙ omega arith))
same_place (Top n) (Directory d) ha hb e = absurd (no_directory d n 0 some_place (sym e ∙ omega arith))
same_place (Top n) (Top m) ha hb e = ap (λ i. Top i) (same-object n m 0 0 some_place some_place (omega (arith, e))).0
same_place (Top n) (Indirect m) ha hb e = absurd (no_strip n m 0 hb (omega arith) (e ∙ omega arith))
same_place (Top n) (Data m k) ha hb e = absurd (no_strip n m (1 + k) hb.0 (omega (arith, hb.1)) (e ∙ omega arith))
same_place (Indirect m) Root ha hb e = absurd (no_root (walk_index_of_indirect m) 0 (indirect_some m) (sym e ∙ omega arith))
same_place (Indirect m) (Directory d) ha hb e = absurd (above_strip d m 0 ha (omega arith) (sym e ∙ omega arith))
same_place (Indirect m) (Top n) ha hb e = absurd (no_strip n m 0 ha (omega arith) (sym e ∙ omega arith))
same_place (Indirect m) (Indirect o) ha hb e = ap (λ i. Indirect i) (same_strip m o 0 0 ha hb (omega arith) (omega arith) (omega (arith, e))).0
same_place (Indirect m) (Data o l) ha hb e =
    let t = same_strip m o 0 (1 + l) ha hb.0 (omega arith) (omega (arith, hb.1)) (omega (arith, e)) in let records = t.1 in absurd (omega (arith, records))
same_place (Data m k) Root ha hb e = absurd (omega (arith, e))
same_place (Data m k) (Directory d) ha hb e = absurd (above_strip d m (1 + k) ha.0 (omega (arith, ha.1)) (sym e ∙ omega arith))
same_place (Data m k) (Top n) ha hb e = absurd (no_strip n m (1 + k) ha.0 (omega (arith, ha.1)) (sym e ∙ omega arith))
same_place (Data m k) (Indirect o) ha hb e =
    let t = same_strip m o (1 + k) 0 ha.0 hb (omega (arith, ha.1)) (omega arith) (omega (arith, e)) in let records = t.1 in absurd (omega (arith, records))
same_place (Data m k) (Data o l) ha hb e =
    let t = same_strip m o (1 + k) (1 + l) ha.0 hb.0 (omega (arith, ha.1)) (omega (arith, hb.1)) (omega (arith, e)) in
    let strips = t.0 in
    let rows = t.1 in
    let records : k ≡ l = omega (arith, rows) in
    (λ i. Data (strips i) (records i))

-- a place is one of an object: its top, the indirect block of a strip, or a record
abbrev pub IsOfObject : ℕ → Place → Type 0
IsOfObject n Root = ⊥
IsOfObject n (Directory d) = ⊥
IsOfObject n (Top m) = m ≡ n
IsOfObject n (Indirect m) = object_of_indirect m ≡ n
IsOfObject n (Data m k) = object_of_indirect m ≡ n

-- those are the places in the walk from the object on
by_object : (n o : ℕ) (p : Place) → IsPlace p → o < object_stride → walk_index_of p ≡ walk_index_of_object n + o → IsOfObject n p
by_object n o Root is low at = no_root (walk_index_of_object n) o (object_some n) at
by_object n o (Directory d) is low at = no_directory d n o low at
by_object n o (Top m) is low at = (same-object m n 0 o some_place low (omega (arith, at))).0
by_object n o (Indirect m) is low at =
    (same-object (object_of_indirect m) n (place_of_strip m 0) o (strip_place m 0 is (omega arith)) low (sym (at_strip m 0) ∙ omega arith ∙ at)).0
by_object n o (Data m k) is low at =
    (same-object (object_of_indirect m) n (place_of_strip m (1 + k)) o (strip_place m (1 + k) is.0 (omega (arith, is.1))) low (sym (at_strip m (1 + k)) ∙ omega arith ∙ at)).0

pub object_range : (n : ℕ) (p : Place) → IsPlace p → walk_index_of_object n ≤ walk_index_of p → walk_index_of p < walk_index_of_object n + object_stride → IsOfObject n p
object_range n p is from to = by_object n (walk_index_of p - walk_index_of_object n) p is (omega (arith, from, to)) (omega (arith, from))

-- and no others
pub of_object : (n : ℕ) (p : Place) → IsPlace p → IsOfObject n p → (walk_index_of_object n ≤ walk_index_of p) × (walk_index_of p < walk_index_of_object n + object_stride)
of_object n Root is of = absurd of
of_object n (Directory d) is of = absurd of
of_object n (Top m) is of = let here : walk_index_of_object m ≡ walk_index_of_object n = ap (λ (i : ℕ). walk_index_of_object i) of in (omega (arith, here), omega (arith, here, some_place))
of_object n (Indirect m) is of =
    let here : walk_index_of_object (object_of_indirect m) ≡ walk_index_of_object n = ap (λ (i : ℕ). walk_index_of_object i) of in
    let low = strip_place m 0 is (omega arith) in
    (omega (arith, here), omega (arith, here, low))
of_object n (Data m k) is of =
    let here : walk_index_of_object (object_of_indirect m) ≡ walk_index_of_object n = ap (λ (i : ℕ). walk_index_of_object i) of in
    let low = strip_place m (1 + k) is.0 (omega (arith, is.1)) in
    (omega (arith, here), omega (arith, here, low))

-- the places of an object, which lie in those of its directory
pub object_within : (n : ℕ) → (2 + directory_stride * (n / entry_count) ≤ walk_index_of_object n) × (walk_index_of_object n + object_stride ≤ 1 + directory_stride * (n / entry_count + 1))
unfolding directory_stride object_stride
object_within n = (omega arith, omega arith)
