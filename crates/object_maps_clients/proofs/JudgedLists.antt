-- An answer on operations is what they make of the contents, and what short lists of them make.
use Rattle.std.proofs.Common.{◌≡◌, ℕ, List, [], ◌∷◌, refl, ap}
use Rattle.std.specs.Prelude.{Result, Ok, Err, Some, None}
use Rattle.std.specs.Ordering.{nat_cmp}
use Rattle.std.specs.FinMap as map
use Rattle.std.specs.FinMap.{FinMap}
use Rattle.base.specs.declared.error.PoolError.{PoolError}
use Rattle.base.specs.declared.error.PoolError.TheVariants.{Exists, NoObject}
use Rattle.base.specs.declared.operation.Op.{Op}
use Rattle.base.specs.declared.operation.Op.TheVariants.{Create, Remove, SetLength}
use Rattle.base.specs.history.Contents.{Contents, with_object}
use Rattle.base.specs.history.History.{apply_all}
use Rattle.base.proofs.history.Objects.{get-stored_same}
use Rattle.contents.specs.ContentsShown.{Judges}
use Rattle.contents.specs.Judging.{with_name}

pub judged_ok : (ops : List Op) (c after : Contents) (r : Result Unit PoolError) → Judges ops c r → apply_all ops c ≡ Ok after → r ≡ Ok tt
judged_ok ops c after (Ok done) h is = refl
judged_ok ops c after (Err e) h is = cc

pub judged_err : (ops : List Op) (c : Contents) (e : PoolError) (r : Result Unit PoolError) → Judges ops c r → apply_all ops c ≡ Err e → r ≡ Err e
judged_err ops c e (Ok done) h is = let some : apply_all ops c ≡ Ok h.0 = h.1 in cc
judged_err ops c e (Err f) h is = let same : f ≡ e = cc in ap Err same

module _ (objects : FinMap nat_cmp (List ℕ)) where
  pub create-remove : map.get objects 7 ≡ None
      → apply_all (Create (record { 0 = 7 }) ∷ Remove (record { 0 = 7 }) ∷ []) (with_name objects []) ≡ Ok (with_object (with_object (with_name objects []) 7 (Some [])) 7 None)
  create-remove none = rw (none, get-stored_same objects 7 (Some [])) refl

  pub create-again : map.get objects 7 ≡ Some [] → apply_all (Create (record { 0 = 7 }) ∷ []) (with_name objects []) ≡ Err Exists
  create-again there = rw there refl

  pub remove-set_length : map.get objects 7 ≡ Some []
      → apply_all (Remove (record { 0 = 7 }) ∷ SetLength (record { 0 = 7 }) 5 ∷ []) (with_name objects []) ≡ Err NoObject
  remove-set_length there = rw (there, get-stored_same objects 7 None) refl
