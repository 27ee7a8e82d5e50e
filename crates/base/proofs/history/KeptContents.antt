-- Operations within their limits keep the contents within the limits of a pool.
use Rattle.std.proofs.Common.{◌≡◌, ℕ, zero, suc, ◌+◌, ◌-◌, ◌<◌, ◌≤◌, max, Bool, true, ◌&&◌, List, [], ◌∷◌, ◌++◌, length, map, take, drop, replicate, refl, ap, sym, subst, ◌∙◌, arith, ◌≢◌, ◌⊎◌, inl, inr}
use Rattle.std.specs.Prelude.{Option, Some, None, Result, Ok, Err, IfSome, nat_lt, nat_le}
use Rattle.std.specs.List.{list_all}
use Rattle.std.specs.FinMap as maps
use Rattle.std.proofs.lemmas.Bool.{cases_eq, and_parts, and_from, ltb-true, leb-true}
use Rattle.std.proofs.lemmas.List.Folds.{list_all-append}
use Rattle.base.specs.declared.error.PoolError.{PoolError}
use Rattle.base.specs.declared.operation.Op.{Op}
use Rattle.base.specs.declared.operation.Op.TheVariants.{Create, Remove, Write, SetLength, SetName}
use Rattle.base.specs.formats.Limits.{object_count, max_length}
use Rattle.base.specs.history.Contents.{Contents, apply, at_object, stored, with_object, created, removed, changed, resize, bytes_after_write}
use Rattle.base.specs.history.Plans.{shape_of, is_shape_allowed}
use Rattle.base.specs.history.History.{apply_all}
use Rattle.base.specs.formats.Records.{is_content_allowed}
use Rattle.base.specs.steps.Exact.{IsBounded}
use Rattle.base.proofs.common.Sequences.{parted}
use Rattle.base.proofs.history.Objects.{reached, get-stored_same, get-stored_other}
use Rattle.base.proofs.history.Writes.{length-resize, length-bytes_after_write}

-- whether each is a byte
abbrev are_bytes : List ℕ → Bool
are_bytes bytes = list_all (λ b. nat_lt b 256) bytes

abbrev IsObject : ℕ → List ℕ → Type 0
IsObject n bytes = (n < object_count) × (length bytes ≤ max_length) × (are_bytes bytes ≡ true)

bytes_take : (n : ℕ) (xs : List ℕ) → are_bytes xs ≡ true → are_bytes (take n xs) ≡ true
bytes_take zero xs all = refl
bytes_take (suc n) [] all = refl
bytes_take (suc n) (x ∷ xs) all = let both = and_parts (nat_lt x 256) (are_bytes xs) all in and_from (nat_lt x 256) (are_bytes (take n xs)) both.0 (bytes_take n xs both.1)

bytes_drop : (n : ℕ) (xs : List ℕ) → are_bytes xs ≡ true → are_bytes (drop n xs) ≡ true
bytes_drop zero xs all = all
bytes_drop (suc n) [] all = refl
bytes_drop (suc n) (x ∷ xs) all = bytes_drop n xs (and_parts (nat_lt x 256) (are_bytes xs) all).1

bytes_zeros : (n : ℕ) → are_bytes (replicate n 0) ≡ true
bytes_zeros zero = refl
bytes_zeros (suc n) = bytes_zeros n

bytes_append : (xs ys : List ℕ) → are_bytes xs ≡ true → are_bytes ys ≡ true → are_bytes (xs ++ ys) ≡ true
bytes_append xs ys all too = list_all-append (λ b. nat_lt b 256) xs ys ∙ and_from (are_bytes xs) (are_bytes ys) all too

bytes_resize : (n : ℕ) (xs : List ℕ) → are_bytes xs ≡ true → are_bytes (resize n xs) ≡ true
bytes_resize n xs all = bytes_append (take n xs) (replicate (n - length xs) 0) (bytes_take n xs all) (bytes_zeros (n - length xs))

bytes_write : (offset : ℕ) (new xs : List ℕ) → are_bytes new ≡ true → are_bytes xs ≡ true → are_bytes (bytes_after_write offset new xs) ≡ true
bytes_write offset new xs news all = bytes_append (resize offset xs ++ new) (drop (offset + length new) xs) (bytes_append (resize offset xs) new (bytes_resize offset xs all) news) (bytes_drop (offset + length new) xs all)

-- an operation on one object, which leaves it within the limits
one_object : (m : ℕ) (f : Option (List ℕ) → Result (Option (List ℕ)) PoolError) → ((o p : Option (List ℕ)) → IfSome o (IsObject m) → f o ≡ Ok p → IfSome p (IsObject m))
    → (c d : Contents) → at_object m f c ≡ Ok d → IsBounded c → IsBounded d
one_object m f keeps c d h bounded = go (reached m f c d h)
  where
    each : (o : Option (List ℕ)) → IfSome o (IsObject m) → (n : ℕ) → (n ≡ m) ⊎ (n ≢ m) → IfSome (maps.get (stored c.objects m o) n) (IsObject n)
    each o good n (inl same) = subst (λ k. IfSome (maps.get (stored c.objects m o) k) (IsObject k)) (sym same) (subst (λ q. IfSome q (IsObject m)) (sym (get-stored_same c.objects m o)) good)
    each o good n (inr other) = subst (λ q. IfSome q (IsObject n)) (sym (get-stored_other c.objects m o n other)) (bounded.objects n)

    go : (o : Option (List ℕ)) × (f (maps.get c.objects m) ≡ Ok o) × (with_object c m o ≡ d) → IsBounded d
    go (o, first, is) = subst (λ e. IsBounded e) is (record { name = bounded.name; objects = λ n. each o (keeps (maps.get c.objects m) o (bounded.objects m) first) n (cases_eq n m) })

same_ok : {A : Type 0} (x y : A) (r : Result A PoolError) → r ≡ Ok x → r ≡ Ok y → x ≡ y
same_ok {A} x y r is too = ap (λ (q : Result A PoolError). elim q as (λ _. A) [ Ok z ↦ z | Err z ↦ x ]) (sym is ∙ too)

Ok-injective : {A : Type 0} {x y : A} → ◌≡◌ {A = Result A PoolError} (Ok x) (Ok y) → x ≡ y
Ok-injective {A} {x} {y} e = same_ok x y (Ok x) refl e

changed_keeps : (m : ℕ) (f : List ℕ → List ℕ) → ((bytes : List ℕ) → IsObject m bytes → IsObject m (f bytes)) → (o p : Option (List ℕ)) → IfSome o (IsObject m) → changed f o ≡ Ok p → IfSome p (IsObject m)
changed_keeps m f good None p is h = absurd (cc)
changed_keeps m f good (Some bytes) p is h = subst (λ q. IfSome q (IsObject m)) (Ok-injective h) (good bytes is)

one_operation : (op : Op) (c d : Contents) → is_shape_allowed (shape_of op) ≡ true → is_content_allowed op ≡ true → apply op c ≡ Ok d → IsBounded c → IsBounded d
one_operation (Create n) c d shape content h bounded = one_object n.0 created keeps c d h bounded
  where
    keeps : (o p : Option (List ℕ)) → IfSome o (IsObject n.0) → created o ≡ Ok p → IfSome p (IsObject n.0)
    keeps None p is e = subst (λ q. IfSome q (IsObject n.0)) (Ok-injective e) (ltb-true n.0 object_count shape, omega arith, refl)
    keeps (Some bytes) p is e = absurd (cc)
one_operation (Remove n) c d shape content h bounded = one_object n.0 removed keeps c d h bounded
  where
    keeps : (o p : Option (List ℕ)) → IfSome o (IsObject n.0) → removed o ≡ Ok p → IfSome p (IsObject n.0)
    keeps None p is e = absurd (cc)
    keeps (Some bytes) p is e = subst (λ q. IfSome q (IsObject n.0)) (Ok-injective e) tt
one_operation (Write n offset new) c d shape content h bounded =
    let parts = and_parts (nat_lt n.0 object_count && nat_lt 0 (length new)) (nat_le (offset + length new) max_length) shape in
    let within : offset + length new ≤ max_length = leb-true (offset + length new) max_length parts.1 in
    one_object n.0 (changed (bytes_after_write offset new)) (changed_keeps n.0 (bytes_after_write offset new) (λ bytes is. (is.0, longest bytes is.1 within, bytes_write offset new bytes content is.2))) c d h bounded
  where
    longest : (bytes : List ℕ) → length bytes ≤ max_length → offset + length new ≤ max_length → length (bytes_after_write offset new bytes) ≤ max_length
    longest bytes short within = let size : length (bytes_after_write offset new bytes) ≡ max (length bytes) (offset + length new) = length-bytes_after_write offset new bytes in omega arith
one_operation (SetLength n new) c d shape content h bounded =
    let within : new ≤ max_length = leb-true new max_length (and_parts (nat_lt n.0 object_count) (nat_le new max_length) shape).1 in
    one_object n.0 (changed (resize new)) (changed_keeps n.0 (resize new) (λ bytes is. (is.0, (let size : length (resize new bytes) ≡ new = length-resize new bytes in omega arith), bytes_resize new bytes is.2))) c d h bounded
one_operation (SetName bytes) c d shape content h bounded = subst (λ e. IsBounded e) (Ok-injective h) (record { name = content; objects = bounded.objects })

pub operations_keep : (ops : List Op) (c d : Contents) → list_all is_shape_allowed (map shape_of ops) ≡ true → list_all is_content_allowed ops ≡ true → apply_all ops c ≡ Ok d → IsBounded c → IsBounded d
operations_keep [] c d shapes contents h bounded = subst (λ e. IsBounded e) (Ok-injective h) bounded
operations_keep (op ∷ ops) c d shapes contents h bounded =
    let s = and_parts (is_shape_allowed (shape_of op)) (list_all is_shape_allowed (map shape_of ops)) shapes in
    let t = and_parts (is_content_allowed op) (list_all is_content_allowed ops) contents in
    let p = parted (apply op c) (apply_all ops) d h in
    operations_keep ops p.0 d s.1 t.1 p.2 (one_operation op c p.0 s.0 t.0 p.1 bounded)

-- contents within the limits have no objects past the last number
pub bounded-no_others : (c : Contents) → IsBounded c → (n : ℕ) → object_count ≤ n → maps.get c.objects n ≡ None
bounded-no_others c bounded n above = go (maps.get c.objects n) (bounded.objects n)
  where
    go : (o : Option (List ℕ)) → IfSome o (λ bytes. (n < object_count) × (length bytes ≤ max_length) × (list_all (λ b. nat_lt b 256) bytes ≡ true)) → o ≡ None
    go None h = refl
    go (Some x) h = absurd (let below = h.0 in omega (arith, below, above))
