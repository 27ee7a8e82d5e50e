-- The two laws of reading: what is read is a record and is spelled so, and a record that is spelled is read.
use Rattle.std.proofs.Common.{◌≡◌, ℕ, ◌+◌, ◌-◌, ◌^◌, ◌<◌, ◌≤◌, ◌||◌, Bool, true, false, cond, eqb, ltb, List, [], ◌∷◌, ◌++◌, length, map, Option, Some, None, refl, sym, ap, subst, ◌∙◌, arith}
use Rattle.std.specs.Prelude.{not, nat_lt}
use Rattle.std.specs.List.{flat_map, list_all}
use Rattle.std.specs.Int.{w16, w32, w64, to_le_bytes}
use Rattle.std.proofs.lemmas.Bool.{and_parts, or_parts, eqb-true, ltb-true, ltb-false, le-ltb, lt-ltb, not-false}
use Rattle.std.proofs.lemmas.Bool.Decides.{nat_tests}
use Rattle.std.proofs.lemmas.List.{append-nil, nil_from_length, length-map}
use Rattle.base.specs.declared.operation.Op.{Op}
use Rattle.base.specs.formats.Limits.{last_number, max_log_record}
use Rattle.base.specs.formats.Records.{Record, IsAllowed, IsDecoded, HasNoRecord, op_bytes, bytes_of_record, is_content_allowed, size_of}
use Rattle.base.specs.history.Plans.{shape_of, is_shape_allowed}
use Rattle.base.proofs.formats.RecordSizes.{length-bytes_of_record}
use Rattle.base.proofs.formats.RecordSpelling.{few}
use Rattle.records.specs.Records.{is_op_allowed}
use Rattle.records.specs.Reading.{◌>>=◌, number_in, split_at, ops_in, is_body_refused, body_in, record_in}
use Rattle.records.proofs.Fields.{IsBytes, bind_some, bind-some, some_is, Takes, Takes-then, wide16, wide32, wide64, number_takes, number_again, split_takes, split_again, guard_some}
use Rattle.records.proofs.OpsRead.{ops_take, ops_again}

-- operations within their limits have shapes and contents within theirs
pub allowed_parts : (ops : List Op) → list_all is_op_allowed ops ≡ true → (list_all is_shape_allowed (map shape_of ops) ≡ true) × (list_all is_content_allowed ops ≡ true)
allowed_parts [] h = (refl, refl)
allowed_parts (op ∷ ops) h =
    let p = and_parts (is_op_allowed op) (list_all is_op_allowed ops) h in
    let q = and_parts (is_shape_allowed (shape_of op)) (is_content_allowed op) p.0 in
    let r = allowed_parts ops p.1 in
    (rw (q.0, r.0) refl, rw (q.1, r.1) refl)

pub allowed_from_parts : (ops : List Op) → list_all is_shape_allowed (map shape_of ops) ≡ true → list_all is_content_allowed ops ≡ true → list_all is_op_allowed ops ≡ true
allowed_from_parts [] h k = refl
allowed_from_parts (op ∷ ops) h k =
    let p = and_parts (is_shape_allowed (shape_of op)) (list_all is_shape_allowed (map shape_of ops)) h in
    let q = and_parts (is_content_allowed op) (list_all is_content_allowed ops) k in
    rw (p.0, q.0, allowed_from_parts ops p.1 q.1) refl

-- the bytes of a record after its length
abbrev body_bytes : Record → List ℕ
body_bytes r = to_le_bytes w64 r.group ++ (to_le_bytes w64 r.ordinal ++ (to_le_bytes w16 (length r.ops) ++ flat_map op_bytes r.ops))

length-body_bytes : (r : Record) → 4 + length (body_bytes r) ≡ size_of r
length-body_bytes r = omega (arith, length-bytes_of_record r)

-- what is read of them
record IsBody (bytes : List ℕ) (r : Record) : Type 0 where
  pub spelled : bytes ≡ body_bytes r
  pub group : r.group ≤ last_number
  pub ordinal : r.ordinal ≤ last_number
  pub some : nat_lt 0 (length r.ops) ≡ true
  pub ops : list_all is_op_allowed r.ops ≡ true

-- some operations, from a count that is not 0
some_ops : (count : ℕ) (ops : List Op) → eqb count 0 ≡ false → length ops ≡ count → nat_lt 0 (length ops) ≡ true
some_ops count [] none long = absurd (let zero_is : eqb count 0 ≡ true = rw (← long) refl in let no : true ≡ false = sym zero_is ∙ none in cc)
some_ops count (op ∷ ops) none long = lt-ltb 0 (length (op ∷ ops)) (omega arith)

body_is : (bytes : List ℕ) (r made : Record) (count : ℕ) (rest : List ℕ) → cond (is_body_refused made.group made.ordinal count rest) None (Some made) ≡ Some r
    → length made.ops ≡ count → list_all is_op_allowed made.ops ≡ true
    → Takes bytes (to_le_bytes w64 made.group ++ (to_le_bytes w64 made.ordinal ++ (to_le_bytes w16 count ++ flat_map op_bytes made.ops))) rest → IsBody bytes r
body_is bytes r made count rest e long allowed takes =
    let g = guard_some (is_body_refused made.group made.ordinal count rest) made r e in
    let ended = or_parts (nat_lt last_number made.group || nat_lt last_number made.ordinal || eqb count 0) (not (eqb (length rest) 0)) g.0 in
    let counted = or_parts (nat_lt last_number made.group || nat_lt last_number made.ordinal) (eqb count 0) ended.0 in
    let numbers = or_parts (nat_lt last_number made.group) (nat_lt last_number made.ordinal) counted.0 in
    let nothing : rest ≡ [] = nil_from_length rest (eqb-true (length rest) 0 (not-false (eqb (length rest) 0) ended.1)) in
    let whole : bytes ≡ body_bytes made =
    takes.parts
    ∙ ap (λ (l : List ℕ). (to_le_bytes w64 made.group ++ (to_le_bytes w64 made.ordinal ++ (to_le_bytes w16 count ++ flat_map op_bytes made.ops))) ++ l) nothing
    ∙ append-nil (to_le_bytes w64 made.group ++ (to_le_bytes w64 made.ordinal ++ (to_le_bytes w16 count ++ flat_map op_bytes made.ops)))
    ∙ ap (λ (k : ℕ). to_le_bytes w64 made.group ++ (to_le_bytes w64 made.ordinal ++ (to_le_bytes w16 k ++ flat_map op_bytes made.ops))) (sym long) in
    subst (λ (s : Record). IsBody bytes s) g.1 (record {
      spelled = whole;
      group = ltb-false last_number made.group numbers.0;
      ordinal = ltb-false last_number made.ordinal numbers.1;
      some = some_ops count made.ops counted.1 long;
      ops = allowed;
    })

body_takes : (bytes : List ℕ) (r : Record) → IsBytes bytes → body_in bytes ≡ Some r → IsBody bytes r
unfolding body_in
body_takes bytes r fits e =
    let a = bind_some (number_in w64 bytes) (λ group. number_in w64 group.1 >>= λ ordinal. number_in w16 ordinal.1 >>= λ count. ops_in count.0 count.1 >>= λ ops. cond (is_body_refused group.0 ordinal.0 count.0 ops.1) None (Some (record { group = group.0; ordinal = ordinal.0; ops = ops.0 }))) r e in
    let b = bind_some (number_in w64 a.0.1) (λ ordinal. number_in w16 ordinal.1 >>= λ count. ops_in count.0 count.1 >>= λ ops. cond (is_body_refused a.0.0 ordinal.0 count.0 ops.1) None (Some (record { group = a.0.0; ordinal = ordinal.0; ops = ops.0 }))) r a.2 in
    let c = bind_some (number_in w16 b.0.1) (λ count. ops_in count.0 count.1 >>= λ ops. cond (is_body_refused a.0.0 b.0.0 count.0 ops.1) None (Some (record { group = a.0.0; ordinal = b.0.0; ops = ops.0 }))) r b.2 in
    let d = bind_some (ops_in c.0.0 c.0.1) (λ ops. cond (is_body_refused a.0.0 b.0.0 c.0.0 ops.1) None (Some (record { group = a.0.0; ordinal = b.0.0; ops = ops.0 }))) r c.2 in
    let made : Record = record { group = a.0.0; ordinal = b.0.0; ops = d.0.0 } in
    let t0 = number_takes w64 (2 ^ 64) wide64 bytes a.0.0 a.0.1 fits a.1 in
    let t1 = number_takes w64 (2 ^ 64) wide64 a.0.1 b.0.0 b.0.1 t0.0.rest_fits b.1 in
    let t2 = number_takes w16 (2 ^ 16) wide16 b.0.1 c.0.0 c.0.1 t1.0.rest_fits c.1 in
    let t3 = ops_take c.0.0 c.0.1 d.0 t2.0.rest_fits d.1 in
    body_is bytes r made c.0.0 d.0.1 d.2 t3.1 t3.2
    (Takes-then bytes (to_le_bytes w64 a.0.0) a.0.1 (to_le_bytes w64 b.0.0 ++ (to_le_bytes w16 c.0.0 ++ flat_map op_bytes d.0.0)) d.0.1 t0.0
    (Takes-then a.0.1 (to_le_bytes w64 b.0.0) b.0.1 (to_le_bytes w16 c.0.0 ++ flat_map op_bytes d.0.0) d.0.1 t1.0
    (Takes-then b.0.1 (to_le_bytes w16 c.0.0) c.0.1 (flat_map op_bytes d.0.0) d.0.1 t2.0 t3.0)))

not_zero : (n : ℕ) → 0 < n → eqb n 0 ≡ false
not_zero n h = grind (arith, nat_tests)

body_passes : (r : Record) → IsAllowed r → is_body_refused r.group r.ordinal (length r.ops) [] ≡ false
body_passes r allowed =
    let shapes = and_parts (nat_lt 0 (length (map shape_of r.ops))) (list_all is_shape_allowed (map shape_of r.ops)) allowed.shapes in
    let some : 0 < length r.ops = subst (λ (n : ℕ). 0 < n) (length-map r.ops shape_of) (ltb-true 0 (length (map shape_of r.ops)) shapes.0) in
    let group = le-ltb last_number r.group allowed.group in
    let ordinal = le-ltb last_number r.ordinal allowed.ordinal in
    let counted : eqb (length r.ops) 0 ≡ false = not_zero (length r.ops) some in
    rw (group, ordinal, counted) refl

no_none : {A : Type 0} (b : Bool) (o : Option A) (y : A) → cond b None o ≡ Some y → (b ≡ false) × (o ≡ Some y)
no_none true o y e = absurd cc
no_none false o y e = (refl, e)

is_decoded : (bytes : List ℕ) (size : ℕ) (body rest : List ℕ) (r : Record) → size ≤ max_log_record → length body ≡ size - 4
    → Takes bytes (to_le_bytes w32 size ++ body) rest → IsBody body r → IsDecoded bytes r rest
is_decoded bytes size body rest r small long takes is =
    let body_is : length body ≡ length (body_bytes r) = ap (λ (l : List ℕ). length l) is.spelled in
    let size-is : size ≡ size_of r = omega (arith, length-body_bytes r, body_is, long) in
    let parts = allowed_parts r.ops is.ops in
    let some : nat_lt 0 (length (map shape_of r.ops)) ≡ true = ap (nat_lt 0) (length-map r.ops shape_of) ∙ is.some in
    record {
      allowed = record {
        group = is.group;
        ordinal = is.ordinal;
        shapes = rw (some, parts.0) refl;
        contents = parts.1;
        size = subst (λ (n : ℕ). n ≤ max_log_record) size-is small;
      };
      spelled = takes.parts ∙ (λ i. (to_le_bytes w32 (size-is i) ++ is.spelled i) ++ rest);
    }

body_again : (r : Record) → IsAllowed r → body_in (body_bytes r) ≡ Some r
unfolding body_in
body_again r allowed =
    let group = allowed.group in
    let ordinal = allowed.ordinal in
    let shapes = and_parts (nat_lt 0 (length (map shape_of r.ops))) (list_all is_shape_allowed (map shape_of r.ops)) allowed.shapes in
    let ops = ops_again r.ops [] (allowed_from_parts r.ops shapes.1 allowed.contents) in
    let written : ops_in (length r.ops) (flat_map op_bytes r.ops) ≡ Some (r.ops, []) = ap (ops_in (length r.ops)) (sym (append-nil (flat_map op_bytes r.ops))) ∙ ops in
    let counted : flat_map op_bytes r.ops ≡ flat_map op_bytes r.ops = refl in
    bind-some (number_in w64 (body_bytes r))
    (λ group. number_in w64 group.1 >>= λ ordinal. number_in w16 ordinal.1 >>= λ count. ops_in count.0 count.1 >>= λ ops. cond (is_body_refused group.0 ordinal.0 count.0 ops.1) None (Some (record { group = group.0; ordinal = ordinal.0; ops = ops.0 })))
    (r.group, to_le_bytes w64 r.ordinal ++ (to_le_bytes w16 (length r.ops) ++ flat_map op_bytes r.ops))
    (number_again w64 (2 ^ 64) wide64 r.group (to_le_bytes w64 r.ordinal ++ (to_le_bytes w16 (length r.ops) ++ flat_map op_bytes r.ops)) (omega (arith, group)))
    ∙ bind-some (number_in w64 (to_le_bytes w64 r.ordinal ++ (to_le_bytes w16 (length r.ops) ++ flat_map op_bytes r.ops)))
    (λ ordinal. number_in w16 ordinal.1 >>= λ count. ops_in count.0 count.1 >>= λ ops. cond (is_body_refused r.group ordinal.0 count.0 ops.1) None (Some (record { group = r.group; ordinal = ordinal.0; ops = ops.0 })))
    (r.ordinal, to_le_bytes w16 (length r.ops) ++ flat_map op_bytes r.ops)
    (number_again w64 (2 ^ 64) wide64 r.ordinal (to_le_bytes w16 (length r.ops) ++ flat_map op_bytes r.ops) (omega (arith, ordinal)))
    ∙ bind-some (number_in w16 (to_le_bytes w16 (length r.ops) ++ flat_map op_bytes r.ops))
    (λ count. ops_in count.0 count.1 >>= λ ops. cond (is_body_refused r.group r.ordinal count.0 ops.1) None (Some (record { group = r.group; ordinal = r.ordinal; ops = ops.0 })))
    (length r.ops, flat_map op_bytes r.ops)
    (number_again w16 (2 ^ 16) wide16 (length r.ops) (flat_map op_bytes r.ops) (few r allowed))
    ∙ bind-some (ops_in (length r.ops) (flat_map op_bytes r.ops))
    (λ ops. cond (is_body_refused r.group r.ordinal (length r.ops) ops.1) None (Some (record { group = r.group; ordinal = r.ordinal; ops = ops.0 })))
    (r.ops, []) written
    ∙ ap (λ (b : Bool). cond b None (Some r)) (body_passes r allowed)

pub record_takes : (bytes : List ℕ) (x : Record × List ℕ) → IsBytes bytes → record_in bytes ≡ Some x → IsDecoded bytes x.0 x.1
unfolding record_in
record_takes bytes x fits e =
    let a = bind_some (number_in w32 bytes) (λ size. cond (ltb max_log_record size.0) None (split_at (size.0 - 4) size.1) >>= λ parts. body_in parts.0 >>= λ body. Some (body, parts.1)) x e in
    let b = bind_some (cond (ltb max_log_record a.0.0) None (split_at (a.0.0 - 4) a.0.1)) (λ parts. body_in parts.0 >>= λ body. Some (body, parts.1)) x a.2 in
    let c = bind_some (body_in b.0.0) (λ body. Some (body, b.0.1)) x b.2 in
    let g = no_none (ltb max_log_record a.0.0) (split_at (a.0.0 - 4) a.0.1) b.0 b.1 in
    let t = number_takes w32 (2 ^ 32) wide32 bytes a.0.0 a.0.1 fits a.1 in
    let s = split_takes (a.0.0 - 4) a.0.1 b.0.0 b.0.1 t.0.rest_fits g.1 in
    let made : Record × List ℕ = (c.0, b.0.1) in
    subst (λ (y : Record × List ℕ). IsDecoded bytes y.0 y.1) (some_is made x c.2)
    (is_decoded bytes a.0.0 b.0.0 b.0.1 c.0 (ltb-false max_log_record a.0.0 g.0) s.1 (Takes-then bytes (to_le_bytes w32 a.0.0) a.0.1 b.0.0 b.0.1 t.0 s.0) (body_takes b.0.0 c.0 s.2 c.1))

pub record_again : (r : Record) (rest : List ℕ) → IsAllowed r → record_in (bytes_of_record r ++ rest) ≡ Some (r, rest)
unfolding record_in
record_again r rest allowed =
    let size = allowed.size in
    let long : length (body_bytes r) ≡ size_of r - 4 = omega (arith, length-body_bytes r) in
    bind-some (number_in w32 (to_le_bytes w32 (size_of r) ++ (body_bytes r ++ rest)))
    (λ size. cond (ltb max_log_record size.0) None (split_at (size.0 - 4) size.1) >>= λ parts. body_in parts.0 >>= λ body. Some (body, parts.1))
    (size_of r, body_bytes r ++ rest) (number_again w32 (2 ^ 32) wide32 (size_of r) (body_bytes r ++ rest) (omega (arith, size)))
    ∙ bind-some (cond (ltb max_log_record (size_of r)) None (split_at (size_of r - 4) (body_bytes r ++ rest)))
    (λ parts. body_in parts.0 >>= λ body. Some (body, parts.1)) (body_bytes r, rest)
    (ap (λ (b : Bool). cond b None (split_at (size_of r - 4) (body_bytes r ++ rest))) (le-ltb max_log_record (size_of r) size) ∙ split_again (size_of r - 4) (body_bytes r) rest long)
    ∙ bind-some (body_in (body_bytes r)) (λ body. Some (body, rest)) r (body_again r allowed)

-- bytes that are not read have no record at their front
pub none_is : (bytes : List ℕ) → record_in bytes ≡ None → HasNoRecord bytes
none_is bytes none r rest decoded = let found = sym none ∙ ap record_in decoded.spelled ∙ record_again r rest decoded.allowed in cc

-- and those that are read have no other
pub only_is : (bytes : List ℕ) (x : Record × List ℕ) → record_in bytes ≡ Some x → (r : Record) (rest : List ℕ) → IsDecoded bytes r rest → (x.0 ≡ r) × (x.1 ≡ rest)
only_is bytes x found r rest decoded =
    let same = some_is x (r, rest) (sym found ∙ ap record_in decoded.spelled ∙ record_again r rest decoded.allowed) in
    (ap (λ (y : Record × List ℕ). y.0) same, ap (λ (y : Record × List ℕ). y.1) same)

-- so two readings of the same bytes agree
pub readings_agree : (bytes : List ℕ) (r s : Record) (rest more : List ℕ) → IsDecoded bytes r rest → IsDecoded bytes s more → (r ≡ s) × (rest ≡ more)
readings_agree bytes r s rest more decoded also = only_is bytes (r, rest) (ap record_in decoded.spelled ∙ record_again r rest decoded.allowed) s more also
