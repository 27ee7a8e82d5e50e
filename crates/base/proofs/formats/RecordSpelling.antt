-- Log records have one spelling: bytes are those of one list of records at most.
use Rattle.std.proofs.Common.{◌≡◌, ℕ, ◌+◌, ◌*◌, ◌^◌, ◌<◌, ◌≤◌, ◌&&◌, true, List, [], ◌∷◌, ◌++◌, length, map, take, drop, get_or, refl, ap, sym, ◌∙◌, append_assoc, arith}
use Rattle.std.specs.Prelude.{nat_lt, nat_le, sum_by, All}
use Rattle.std.specs.List.{flat_map, list_all}
use Rattle.std.specs.Int.{from_le_bytes, to_le_bytes, w16, w32, w64}
use Rattle.std.proofs.lemmas.Bool.{and_parts, leb-true, ltb-true}
use Rattle.std.proofs.lemmas.List.{take_at, drop_at}
use Rattle.std.proofs.lemmas.List.Elements.{All-head, All-tail}
use Rattle.std.proofs.lemmas.List.Sums.{sum_by-cons}
use Rattle.std.proofs.lemmas.Nat.{from_le_bytes-to_le_bytes_2, from_le_bytes-to_le_bytes_4, from_le_bytes-to_le_bytes_8}
use Rattle.base.specs.declared.operation.Op.{Op}
use Rattle.base.specs.declared.operation.Op.TheVariants.{Create, Remove, Write, SetLength, SetName}
use Rattle.base.specs.formats.Limits.{object_count, max_length, max_name}
use Rattle.base.specs.formats.Names.{is_name_length}
use Rattle.base.specs.history.Plans.{shape_of, is_shape_allowed, size_of_shape}
use Rattle.base.specs.formats.Records.{Record, IsAllowed, op_bytes, size_of, bytes_of_record, bytes_of_records}

-- lists with fronts of the same length
pub split : (a b x y : List ℕ) → length a ≡ length b → a ++ x ≡ b ++ y → (a ≡ b) × (x ≡ y)
split a b x y long same = (
  sym (take_at a x (length a) refl) ∙ ap (λ (l : List ℕ). take (length a) l) same ∙ take_at b y (length a) (sym long),
  sym (drop_at a x (length a) refl) ∙ ap (λ (l : List ℕ). drop (length a) l) same ∙ drop_at b y (length a) (sym long),
)

-- numbers of 2, 4 and 8 bytes
one-number_2 : (m n : ℕ) (x y : List ℕ) → m < 2 ^ 16 → n < 2 ^ 16 → to_le_bytes w16 m ++ x ≡ to_le_bytes w16 n ++ y → (m ≡ n) × (x ≡ y)
one-number_2 m n x y m_in n_in same =
    let s = split (to_le_bytes w16 m) (to_le_bytes w16 n) x y refl same in
    (sym (from_le_bytes-to_le_bytes_2 m m_in) ∙ ap (λ (l : List ℕ). from_le_bytes w16 l) s.0 ∙ from_le_bytes-to_le_bytes_2 n n_in, s.1)

one-number_4 : (m n : ℕ) (x y : List ℕ) → m < 2 ^ 32 → n < 2 ^ 32 → to_le_bytes w32 m ++ x ≡ to_le_bytes w32 n ++ y → (m ≡ n) × (x ≡ y)
one-number_4 m n x y m_in n_in same =
    let s = split (to_le_bytes w32 m) (to_le_bytes w32 n) x y refl same in
    (sym (from_le_bytes-to_le_bytes_4 m m_in) ∙ ap (λ (l : List ℕ). from_le_bytes w32 l) s.0 ∙ from_le_bytes-to_le_bytes_4 n n_in, s.1)

one-number_8 : (m n : ℕ) (x y : List ℕ) → m < 2 ^ 64 → n < 2 ^ 64 → to_le_bytes w64 m ++ x ≡ to_le_bytes w64 n ++ y → (m ≡ n) × (x ≡ y)
one-number_8 m n x y m_in n_in same =
    let s = split (to_le_bytes w64 m) (to_le_bytes w64 n) x y refl same in
    (sym (from_le_bytes-to_le_bytes_8 m m_in) ∙ ap (λ (l : List ℕ). from_le_bytes w64 l) s.0 ∙ from_le_bytes-to_le_bytes_8 n n_in, s.1)

-- the number of an object, and the length of a name, have room in 4 bytes
pub below_objects : (n : ℕ) → nat_lt n object_count ≡ true → n < 2 ^ 32
below_objects n is = let below = ltb-true n object_count is in omega (arith, below)

pub name_part : (n : ℕ) → is_name_length n ≡ true → nat_le n max_name ≡ true
name_part n is = (and_parts (nat_lt 0 n) (nat_le n max_name) is).1

-- operations within their limits
one-op : (o p : Op) (x y : List ℕ) → is_shape_allowed (shape_of o) ≡ true → is_shape_allowed (shape_of p) ≡ true → op_bytes o ++ x ≡ op_bytes p ++ y → (o ≡ p) × (x ≡ y)
one-op (Create n) (Create m) x y a b same =
    let all = split (1 ∷ []) (1 ∷ []) (to_le_bytes w32 n.0 ++ x) (to_le_bytes w32 m.0 ++ y) refl same in
    let k = one-number_4 n.0 m.0 x y (below_objects n.0 a) (below_objects m.0 b) all.1 in
    (λ i. Create (record { 0 = k.0 i }), k.1)
one-op (Remove n) (Remove m) x y a b same =
    let all = split (2 ∷ []) (2 ∷ []) (to_le_bytes w32 n.0 ++ x) (to_le_bytes w32 m.0 ++ y) refl same in
    let k = one-number_4 n.0 m.0 x y (below_objects n.0 a) (below_objects m.0 b) all.1 in
    (λ i. Remove (record { 0 = k.0 i }), k.1)
one-op (Write n offset bytes) (Write m place others) x y a b same =
    let a_in = and_parts (nat_lt n.0 object_count && nat_lt 0 (length bytes)) (nat_le (offset + length bytes) max_length) a in
    let b_in = and_parts (nat_lt m.0 object_count && nat_lt 0 (length others)) (nat_le (place + length others) max_length) b in
    let a_fits = leb-true (offset + length bytes) max_length a_in.1 in
    let b_fits = leb-true (place + length others) max_length b_in.1 in
    let all = split (3 ∷ []) (3 ∷ []) (to_le_bytes w32 n.0 ++ (to_le_bytes w64 offset ++ (to_le_bytes w32 (length bytes) ++ (bytes ++ x))))
    (to_le_bytes w32 m.0 ++ (to_le_bytes w64 place ++ (to_le_bytes w32 (length others) ++ (others ++ y)))) refl same in
    let k = one-number_4 n.0 m.0 (to_le_bytes w64 offset ++ (to_le_bytes w32 (length bytes) ++ (bytes ++ x))) (to_le_bytes w64 place ++ (to_le_bytes w32 (length others) ++ (others ++ y)))
    (below_objects n.0 (and_parts (nat_lt n.0 object_count) (nat_lt 0 (length bytes)) a_in.0).0) (below_objects m.0 (and_parts (nat_lt m.0 object_count) (nat_lt 0 (length others)) b_in.0).0) all.1 in
    let o = one-number_8 offset place (to_le_bytes w32 (length bytes) ++ (bytes ++ x)) (to_le_bytes w32 (length others) ++ (others ++ y)) (omega (arith, a_fits)) (omega (arith, b_fits)) k.1 in
    let l = one-number_4 (length bytes) (length others) (bytes ++ x) (others ++ y) (omega (arith, a_fits)) (omega (arith, b_fits)) o.1 in
    let s = split bytes others x y l.0 l.1 in
    (λ i. Write (record { 0 = k.0 i }) (o.0 i) (s.0 i), s.1)
one-op (SetLength n size) (SetLength m other) x y a b same =
    let a_in = and_parts (nat_lt n.0 object_count) (nat_le size max_length) a in
    let b_in = and_parts (nat_lt m.0 object_count) (nat_le other max_length) b in
    let a_fits = leb-true size max_length a_in.1 in
    let b_fits = leb-true other max_length b_in.1 in
    let all = split (4 ∷ []) (4 ∷ []) (to_le_bytes w32 n.0 ++ (to_le_bytes w64 size ++ x)) (to_le_bytes w32 m.0 ++ (to_le_bytes w64 other ++ y)) refl same in
    let k = one-number_4 n.0 m.0 (to_le_bytes w64 size ++ x) (to_le_bytes w64 other ++ y) (below_objects n.0 a_in.0) (below_objects m.0 b_in.0) all.1 in
    let o = one-number_8 size other x y (omega (arith, a_fits)) (omega (arith, b_fits)) k.1 in
    (λ i. SetLength (record { 0 = k.0 i }) (o.0 i), o.1)
one-op (SetName bytes) (SetName others) x y a b same =
    let a_fits = leb-true (length bytes) max_name (name_part (length bytes) a) in
    let b_fits = leb-true (length others) max_name (name_part (length others) b) in
    let all = split (5 ∷ []) (5 ∷ []) (to_le_bytes w32 (length bytes) ++ (bytes ++ x)) (to_le_bytes w32 (length others) ++ (others ++ y)) refl same in
    let l = one-number_4 (length bytes) (length others) (bytes ++ x) (others ++ y) (omega (arith, a_fits)) (omega (arith, b_fits)) all.1 in
    let s = split bytes others x y l.0 l.1 in
    (λ i. SetName (s.0 i), s.1)
one-op (Create n) (Remove m) x y a b same = absurd (let first : 1 ≡ 2 = ap (λ (l : List ℕ). get_or l 0 0) same in omega (arith, first))
one-op (Create n) (Write m offset_b bytes_b) x y a b same = absurd (let first : 1 ≡ 3 = ap (λ (l : List ℕ). get_or l 0 0) same in omega (arith, first))
one-op (Create n) (SetLength m size_b) x y a b same = absurd (let first : 1 ≡ 4 = ap (λ (l : List ℕ). get_or l 0 0) same in omega (arith, first))
one-op (Create n) (SetName bytes_b) x y a b same = absurd (let first : 1 ≡ 5 = ap (λ (l : List ℕ). get_or l 0 0) same in omega (arith, first))
one-op (Remove n) (Create m) x y a b same = absurd (let first : 2 ≡ 1 = ap (λ (l : List ℕ). get_or l 0 0) same in omega (arith, first))
one-op (Remove n) (Write m offset_b bytes_b) x y a b same = absurd (let first : 2 ≡ 3 = ap (λ (l : List ℕ). get_or l 0 0) same in omega (arith, first))
one-op (Remove n) (SetLength m size_b) x y a b same = absurd (let first : 2 ≡ 4 = ap (λ (l : List ℕ). get_or l 0 0) same in omega (arith, first))
one-op (Remove n) (SetName bytes_b) x y a b same = absurd (let first : 2 ≡ 5 = ap (λ (l : List ℕ). get_or l 0 0) same in omega (arith, first))
one-op (Write n offset bytes) (Create m) x y a b same = absurd (let first : 3 ≡ 1 = ap (λ (l : List ℕ). get_or l 0 0) same in omega (arith, first))
one-op (Write n offset bytes) (Remove m) x y a b same = absurd (let first : 3 ≡ 2 = ap (λ (l : List ℕ). get_or l 0 0) same in omega (arith, first))
one-op (Write n offset bytes) (SetLength m size_b) x y a b same = absurd (let first : 3 ≡ 4 = ap (λ (l : List ℕ). get_or l 0 0) same in omega (arith, first))
one-op (Write n offset bytes) (SetName bytes_b) x y a b same = absurd (let first : 3 ≡ 5 = ap (λ (l : List ℕ). get_or l 0 0) same in omega (arith, first))
one-op (SetLength n size) (Create m) x y a b same = absurd (let first : 4 ≡ 1 = ap (λ (l : List ℕ). get_or l 0 0) same in omega (arith, first))
one-op (SetLength n size) (Remove m) x y a b same = absurd (let first : 4 ≡ 2 = ap (λ (l : List ℕ). get_or l 0 0) same in omega (arith, first))
one-op (SetLength n size) (Write m offset_b bytes_b) x y a b same = absurd (let first : 4 ≡ 3 = ap (λ (l : List ℕ). get_or l 0 0) same in omega (arith, first))
one-op (SetLength n size) (SetName bytes_b) x y a b same = absurd (let first : 4 ≡ 5 = ap (λ (l : List ℕ). get_or l 0 0) same in omega (arith, first))
one-op (SetName bytes) (Create m) x y a b same = absurd (let first : 5 ≡ 1 = ap (λ (l : List ℕ). get_or l 0 0) same in omega (arith, first))
one-op (SetName bytes) (Remove m) x y a b same = absurd (let first : 5 ≡ 2 = ap (λ (l : List ℕ). get_or l 0 0) same in omega (arith, first))
one-op (SetName bytes) (Write m offset_b bytes_b) x y a b same = absurd (let first : 5 ≡ 3 = ap (λ (l : List ℕ). get_or l 0 0) same in omega (arith, first))
one-op (SetName bytes) (SetLength m size_b) x y a b same = absurd (let first : 5 ≡ 4 = ap (λ (l : List ℕ). get_or l 0 0) same in omega (arith, first))

one-ops : (os ps : List Op) (x y : List ℕ) → length os ≡ length ps → list_all is_shape_allowed (map shape_of os) ≡ true → list_all is_shape_allowed (map shape_of ps) ≡ true
    → flat_map op_bytes os ++ x ≡ flat_map op_bytes ps ++ y → (os ≡ ps) × (x ≡ y)
one-ops [] [] x y long a b same = (refl, same)
one-ops [] (p ∷ ps) x y long a b same = absurd (omega (arith, long))
one-ops (o ∷ os) [] x y long a b same = absurd (omega (arith, long))
one-ops (o ∷ os) (p ∷ ps) x y long a b same =
    let a_in = and_parts (is_shape_allowed (shape_of o)) (list_all is_shape_allowed (map shape_of os)) a in
    let b_in = and_parts (is_shape_allowed (shape_of p)) (list_all is_shape_allowed (map shape_of ps)) b in
    let first = one-op o p (flat_map op_bytes os ++ x) (flat_map op_bytes ps ++ y) a_in.0 b_in.0
    (sym (append_assoc (op_bytes o) (flat_map op_bytes os) x) ∙ same ∙ append_assoc (op_bytes p) (flat_map op_bytes ps) y) in
    let rest = one-ops os ps x y (omega (arith, long)) a_in.1 b_in.1 first.1 in
    (λ i. first.0 i ∷ rest.0 i, rest.1)

-- an operation has 5 bytes at least, so a record has few
shape-5 : (o : Op) → 5 ≤ size_of_shape (shape_of o)
shape-5 (Create n) = omega arith
shape-5 (Remove n) = omega arith
shape-5 (Write n offset bytes) = omega arith
shape-5 (SetLength n size) = omega arith
shape-5 (SetName bytes) = omega arith

pub few-ops : (os : List Op) → 5 * length os ≤ sum_by size_of_shape (map shape_of os)
few-ops [] = omega arith
few-ops (o ∷ os) = omega (arith, few-ops os, shape-5 o, sum_by-cons size_of_shape (shape_of o) (map shape_of os))

pub few : (r : Record) → IsAllowed r → length r.ops < 2 ^ 16
few r allowed = let size = allowed.size in omega (arith, size, few-ops r.ops)

-- records within their limits
one-record : (r s : Record) (x y : List ℕ) → IsAllowed r → IsAllowed s → bytes_of_record r ++ x ≡ bytes_of_record s ++ y → (r ≡ s) × (x ≡ y)
one-record r s x y a b same =
    let group_a = a.group in
    let group_b = b.group in
    let ordinal_a = a.ordinal in
    let ordinal_b = b.ordinal in
    let shapes_a = and_parts (nat_lt 0 (length (map shape_of r.ops))) (list_all is_shape_allowed (map shape_of r.ops)) a.shapes in
    let shapes_b = and_parts (nat_lt 0 (length (map shape_of s.ops))) (list_all is_shape_allowed (map shape_of s.ops)) b.shapes in
    let all = split (to_le_bytes w32 (size_of r)) (to_le_bytes w32 (size_of s)) (to_le_bytes w64 r.group ++ (to_le_bytes w64 r.ordinal ++ (to_le_bytes w16 (length r.ops) ++ (flat_map op_bytes r.ops ++ x))))
    (to_le_bytes w64 s.group ++ (to_le_bytes w64 s.ordinal ++ (to_le_bytes w16 (length s.ops) ++ (flat_map op_bytes s.ops ++ y)))) refl same in
    let groups = one-number_8 r.group s.group (to_le_bytes w64 r.ordinal ++ (to_le_bytes w16 (length r.ops) ++ (flat_map op_bytes r.ops ++ x)))
    (to_le_bytes w64 s.ordinal ++ (to_le_bytes w16 (length s.ops) ++ (flat_map op_bytes s.ops ++ y))) (omega (arith, group_a)) (omega (arith, group_b)) all.1 in
    let ordinals = one-number_8 r.ordinal s.ordinal (to_le_bytes w16 (length r.ops) ++ (flat_map op_bytes r.ops ++ x)) (to_le_bytes w16 (length s.ops) ++ (flat_map op_bytes s.ops ++ y))
    (omega (arith, ordinal_a)) (omega (arith, ordinal_b)) groups.1 in
    let counts = one-number_2 (length r.ops) (length s.ops) (flat_map op_bytes r.ops ++ x) (flat_map op_bytes s.ops ++ y) (few r a) (few s b) ordinals.1 in
    let ops = one-ops r.ops s.ops x y counts.0 shapes_a.1 shapes_b.1 counts.1 in
    (λ i. record { group = groups.0 i; ordinal = ordinals.0 i; ops = ops.0 i }, ops.1)

-- So bytes are those of one list of records at most.
pub one-spelling : (rs ss : List Record) → All IsAllowed rs → All IsAllowed ss → bytes_of_records rs ≡ bytes_of_records ss → rs ≡ ss
one-spelling [] [] a b same = refl
one-spelling [] (s ∷ ss) a b same = absurd (let none : 0 ≡ length (bytes_of_records (s ∷ ss)) = ap (λ (l : List ℕ). length l) same in omega (arith, none))
one-spelling (r ∷ rs) [] a b same = absurd (let none : length (bytes_of_records (r ∷ rs)) ≡ 0 = ap (λ (l : List ℕ). length l) same in omega (arith, none))
one-spelling (r ∷ rs) (s ∷ ss) a b same =
    let first = one-record r s (bytes_of_records rs) (bytes_of_records ss) (All-head IsAllowed r rs a) (All-head IsAllowed s ss b) same in
    let rest = one-spelling rs ss (All-tail IsAllowed r rs a) (All-tail IsAllowed s ss b) first.1 in
    λ i. first.0 i ∷ rest i
