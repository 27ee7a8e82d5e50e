-- An object is what its own operations make of it, and where records take place, so do these.
use Rattle.std.proofs.Common.{◌≡◌, ℕ, true, false, List, [], ◌∷◌, ◌++◌, ◌⊎◌, inl, inr, Option, Some, None, Ok, refl, sym, ap, subst, ◌∙◌}
use Rattle.std.specs.Prelude.{is_some, not}
use Rattle.std.specs.FinMap as finite
use Rattle.std.proofs.lemmas.Bool.{cases_Bool, eqb-true}
use Rattle.std.proofs.lemmas.List.Sums.{fold-append}
use Rattle.base.specs.declared.operation.Op.{Op}
use Rattle.base.specs.declared.operation.Op.TheVariants.{Create, Remove, Write, SetLength, SetName}
use Rattle.base.specs.history.Contents.{Contents, apply, bytes_after_write, changed, created, object_after, removed, resize}
use Rattle.base.specs.history.History.{apply_all}
use Rattle.base.specs.tree.Mount.{apply_records}
use Rattle.base.proofs.common.Sequences.{joined, parted}
use Rattle.base.proofs.history.Objects.{reached}
use Rattle.log_replay.proofs.AppliedRecords.{object_reached}
use Rattle.object_views.specs.OwnLaws.{OwnOperationsSuffice}
use Rattle.object_views.specs.OwnRecords.{PlacedOp, TakePlace, can_take_place, is_on, object_after_all, ops_of, own_of_records, own_op, own_ops}
use Rattle.object_views.proofs.OwnRecords.{ops-append, take_place-append}

-- an operation on another object leaves this one
left : (n : ℕ) (op : Op) (object : Option (List ℕ)) → is_on n op ≡ false → object_after n op object ≡ object
left n (Create m) object not_on = rw not_on refl
left n (Remove m) object not_on = rw not_on refl
left n (Write m offset bytes) object not_on = rw not_on refl
left n (SetLength m size) object not_on = rw not_on refl
left n (SetName bytes) object not_on = refl

may_create : (o p : Option (List ℕ)) → created o ≡ Ok p → not (is_some o) ≡ true
may_create None p h = refl
may_create (Some bytes) p h = absurd cc

may_remove : (o p : Option (List ℕ)) → removed o ≡ Ok p → is_some o ≡ true
may_remove None p h = absurd cc
may_remove (Some bytes) p h = refl

may_change : (f : List ℕ → List ℕ) (o p : Option (List ℕ)) → changed f o ≡ Ok p → is_some o ≡ true
may_change f None p h = absurd cc
may_change f (Some bytes) p h = refl

-- one on it that takes place can
can : (n : ℕ) (op : Op) (c d : Contents) → is_on n op ≡ true → apply op c ≡ Ok d → can_take_place op (finite.get c.objects n) ≡ true
can n (Create m) c d on h =
    let r = reached m.0 created c d h in
    ap (λ (i : ℕ). not (is_some (finite.get c.objects i))) (eqb-true n m.0 on) ∙ may_create (finite.get c.objects m.0) r.0 r.1
can n (Remove m) c d on h =
    let r = reached m.0 removed c d h in
    ap (λ (i : ℕ). is_some (finite.get c.objects i)) (eqb-true n m.0 on) ∙ may_remove (finite.get c.objects m.0) r.0 r.1
can n (Write m offset bytes) c d on h =
    let r = reached m.0 (changed (bytes_after_write offset bytes)) c d h in
    ap (λ (i : ℕ). is_some (finite.get c.objects i)) (eqb-true n m.0 on) ∙ may_change (bytes_after_write offset bytes) (finite.get c.objects m.0) r.0 r.1
can n (SetLength m size) c d on h =
    let r = reached m.0 (changed (resize size)) c d h in
    ap (λ (i : ℕ). is_some (finite.get c.objects i)) (eqb-true n m.0 on) ∙ may_change (resize size) (finite.get c.objects m.0) r.0 r.1
can n (SetName bytes) c d on h = refl

-- what own operations make of an object, and that they take place
abbrev Own : ℕ → List PlacedOp → Contents → Contents → Type 0
Own n placed c d = (finite.get d.objects n ≡ object_after_all n (ops_of placed) (finite.get c.objects n)) × TakePlace n (ops_of placed) (finite.get c.objects n)

one : (n a : ℕ) (op : Op) (c d : Contents) → apply op c ≡ Ok d → Own n (own_op n a op) c d
one n a op c d h = go (cases_Bool (is_on n op))
  where
    step : finite.get d.objects n ≡ object_after n op (finite.get c.objects n)
    step = object_reached (op ∷ []) c d n (joined (apply op c) (apply_all []) d d h refl)

    go : (is_on n op ≡ true) ⊎ (is_on n op ≡ false) → Own n (own_op n a op) c d
    go (inl on) = rw on (step, (can n op c d on h, tt))
    go (inr not_on) = rw not_on (step ∙ left n op (finite.get c.objects n) not_on, tt)

both : (n : ℕ) (xs ys : List PlacedOp) (c m d : Contents) → Own n xs c m → Own n ys m d → Own n (xs ++ ys) c d
both n xs ys c m d first second =
    let here : Option (List ℕ) = finite.get c.objects n in
    let after : finite.get d.objects n ≡ object_after_all n (ops_of ys) (object_after_all n (ops_of xs) here) = second.0 ∙ ap (object_after_all n (ops_of ys)) first.0 in
    let place = take_place-append n (ops_of xs) (ops_of ys) here first.1 (subst (λ (o : Option (List ℕ)). TakePlace n (ops_of ys) o) first.0 second.1) in (
      after ∙ sym (fold-append (λ o op. object_after n op o) here (ops_of xs) (ops_of ys)) ∙ ap (λ (l : List Op). object_after_all n l here) (sym (ops-append xs ys)),
      subst (λ (l : List Op). TakePlace n l here) (sym (ops-append xs ys)) place,
    )

none : (n : ℕ) (c d : Contents) → c ≡ d → Own n [] c d
none n c d same = (ap (λ (x : Contents). finite.get x.objects n) (sym same), tt)

all_ops : (n a : ℕ) (ops : List Op) (c d : Contents) → apply_all ops c ≡ Ok d → Own n (own_ops n a ops) c d
all_ops n a [] c d h = none n c d cc
all_ops n a (op ∷ ops) c d h =
    let p = parted (apply op c) (apply_all ops) d h in
    both n (own_op n a op) (own_ops n a ops) c p.0 d (one n a op c p.0 p.1) (all_ops n a ops p.0 d p.2)

pub own_suffice : OwnOperationsSuffice
own_suffice n [] c d h = none n c d cc
own_suffice n (p ∷ ps) c d h =
    let q = parted (apply_all p.logged.ops c) (apply_records ps) d h in
    both n (own_ops n p.address p.logged.ops) (own_of_records n ps) c q.0 d (all_ops n p.address p.logged.ops c q.0 q.1) (own_suffice n ps q.0 d q.2)
