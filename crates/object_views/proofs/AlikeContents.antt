-- Records make of contents of one name and the same lengths contents of one name and the same lengths, or are refused
-- alike.
use Rattle.std.proofs.Common.{◌≡◌, ◌≢◌, ℕ, ◌+◌, ◌⊎◌, inl, inr, max, List, [], ◌∷◌, length, map, Option, Some, None, Result, Ok, Err, refl, ap, sym, subst, ◌∙◌}
use Rattle.std.specs.Prelude.{option_map}
use Rattle.std.specs.FinMap as finite
use Rattle.std.proofs.lemmas.Bool.{cases_eq}
use Rattle.base.specs.declared.error.PoolError.{PoolError}
use Rattle.base.specs.declared.operation.Op.{Op}
use Rattle.base.specs.declared.operation.Op.TheVariants.{Create, Remove, Write, SetLength, SetName}
use Rattle.base.specs.history.Contents.{Contents, apply, at_object, bytes_after_write, changed, created, length_of, removed, resize, stored, with_object}
use Rattle.base.specs.history.History.{apply_all, run}
use Rattle.base.specs.history.Sequences.{and_then, in_turn}
use Rattle.base.specs.tree.Mount.{Placed, apply_records, entry_of_record}
use Rattle.base.proofs.history.Objects.{get-stored_other, get-stored_same}
use Rattle.base.proofs.history.Writes.{length-bytes_after_write, length-resize}
use Rattle.log_replay.specs.Replays.{IsRecordRefused}

-- contents have one name, and the same lengths of objects
pub record AreAlike (c d : Contents) : Type 0 where
  pub name_is : c.name ≡ d.name
  pub lengths : (n : ℕ) → length_of c n ≡ length_of d n

abbrev SameLength : Option (List ℕ) → Option (List ℕ) → Type 0
SameLength o p = option_map length o ≡ option_map length p

-- two results that are there alike, or refused alike
abbrev BothAre : {A : Type 0} → (A → A → Type 0) → Result A PoolError → Result A PoolError → Type 0
BothAre Is (Ok x) (Ok y) = Is x y
BothAre Is (Ok x) (Err f) = ⊥
BothAre Is (Err e) (Ok y) = ⊥
BothAre Is (Err e) (Err f) = e ≡ f

both_then : {A B : Type 0} (Is : A → A → Type 0) (Then : B → B → Type 0) (r s : Result A PoolError) (f g : A → Result B PoolError) → BothAre Is r s
    → ((x y : A) → Is x y → BothAre Then (f x) (g y)) → BothAre Then (and_then r f) (and_then s g)
both_then Is Then (Ok x) (Ok y) f g is each = each x y is
both_then Is Then (Ok x) (Err e) f g is each = absurd is
both_then Is Then (Err e) (Ok y) f g is each = absurd is
both_then Is Then (Err e) (Err d) f g is each = is

both_ok : {A : Type 0} (Is : A → A → Type 0) (r s : Result A PoolError) (x : A) → BothAre Is r s → r ≡ Ok x → (y : A) × (s ≡ Ok y) × Is x y
both_ok {A} Is (Ok z) (Ok y) x is at = (y, refl, subst (λ (w : A). Is w y) (let e : z ≡ x = cc in e) is)
both_ok Is (Ok z) (Err f) x is at = absurd is
both_ok Is (Err e) (Ok y) x is at = absurd is
both_ok Is (Err e) (Err f) x is at = absurd cc

both_err : {A : Type 0} (Is : A → A → Type 0) (r s : Result A PoolError) (e : PoolError) → BothAre Is r s → r ≡ Err e → s ≡ Err e
both_err Is (Ok x) (Ok y) e is at = absurd cc
both_err Is (Ok x) (Err f) e is at = absurd is
both_err Is (Err d) (Ok y) e is at = absurd is
both_err Is (Err d) (Err f) e is at = ap Err (sym is) ∙ at

in_turn_alike : {X A : Type 0} (step : X → A → Result A PoolError) (Is : A → A → Type 0) → ((x : X) (a b : A) → Is a b → BothAre Is (step x a) (step x b))
    → (xs : List X) (a b : A) → Is a b → BothAre Is (in_turn step xs a) (in_turn step xs b)
in_turn_alike step Is each [] a b is = is
in_turn_alike step Is each (x ∷ xs) a b is = both_then Is Is (step x a) (step x b) (in_turn step xs) (in_turn step xs) (each x a b is) (in_turn_alike step Is each xs)

-- an operation on one object
module _ (n : ℕ) (does : Option (List ℕ) → Result (Option (List ℕ)) PoolError) (each : (o p : Option (List ℕ)) → SameLength o p → BothAre SameLength (does o) (does p))
    (c d : Contents) (alike : AreAlike c d) where
  left_alike : (o p : Option (List ℕ)) → SameLength o p → AreAlike (with_object c n o) (with_object d n p)
  left_alike o p is = record { name_is = alike.name_is; lengths = λ q. at q (cases_eq q n) }
    where
      at : (q : ℕ) → (q ≡ n) ⊎ (q ≢ n) → option_map length (finite.get (stored c.objects n o) q) ≡ option_map length (finite.get (stored d.objects n p) q)
      at q (inl same) = rw same (ap (option_map length) (get-stored_same c.objects n o) ∙ is ∙ sym (ap (option_map length) (get-stored_same d.objects n p)))
      at q (inr other) = ap (option_map length) (get-stored_other c.objects n o q other) ∙ alike.lengths q ∙ sym (ap (option_map length) (get-stored_other d.objects n p q other))

  one_alike : BothAre AreAlike (at_object n does c) (at_object n does d)
  one_alike =
      both_then SameLength AreAlike (does (finite.get c.objects n)) (does (finite.get d.objects n)) (λ o. Ok (with_object c n o)) (λ o. Ok (with_object d n o))
      (each (finite.get c.objects n) (finite.get d.objects n) (alike.lengths n)) left_alike

create_alike : (o p : Option (List ℕ)) → SameLength o p → BothAre SameLength (created o) (created p)
create_alike None None is = refl
create_alike None (Some y) is = absurd (let no : None ≡ Some (length y) = is in cc)
create_alike (Some x) None is = absurd (let no : Some (length x) ≡ None = is in cc)
create_alike (Some x) (Some y) is = refl

remove_alike : (o p : Option (List ℕ)) → SameLength o p → BothAre SameLength (removed o) (removed p)
remove_alike None None is = refl
remove_alike None (Some y) is = absurd (let no : None ≡ Some (length y) = is in cc)
remove_alike (Some x) None is = absurd (let no : Some (length x) ≡ None = is in cc)
remove_alike (Some x) (Some y) is = refl

change_alike : (f : List ℕ → List ℕ) → ((x y : List ℕ) → length x ≡ length y → length (f x) ≡ length (f y)) → (o p : Option (List ℕ)) → SameLength o p → BothAre SameLength (changed f o) (changed f p)
change_alike f long None None is = refl
change_alike f long None (Some y) is = absurd (let no : None ≡ Some (length y) = is in cc)
change_alike f long (Some x) None is = absurd (let no : Some (length x) ≡ None = is in cc)
change_alike f long (Some x) (Some y) is = ap (λ (k : ℕ). Some k) (long x y (let both : Some (length x) ≡ Some (length y) = is in cc))

op_alike : (op : Op) (c d : Contents) → AreAlike c d → BothAre AreAlike (apply op c) (apply op d)
op_alike (Create n) c d alike = one_alike n.0 created create_alike c d alike
op_alike (Remove n) c d alike = one_alike n.0 removed remove_alike c d alike
op_alike (Write n offset bytes) c d alike =
    one_alike n.0 (changed (bytes_after_write offset bytes)) (change_alike (bytes_after_write offset bytes) (λ x y is.
    length-bytes_after_write offset bytes x ∙ ap (λ (k : ℕ). max k (offset + length bytes)) is ∙ sym (length-bytes_after_write offset bytes y))) c d alike
op_alike (SetLength n size) c d alike = one_alike n.0 (changed (resize size)) (change_alike (resize size) (λ x y is. length-resize size x ∙ sym (length-resize size y))) c d alike
op_alike (SetName bytes) c d alike = record { name_is = refl; lengths = alike.lengths }

ops_alike : (ops : List Op) (c d : Contents) → AreAlike c d → BothAre AreAlike (apply_all ops c) (apply_all ops d)
ops_alike ops c d alike = in_turn_alike apply AreAlike op_alike ops c d alike

records_alike : (records : List Placed) (c d : Contents) → AreAlike c d → BothAre AreAlike (apply_records records c) (apply_records records d)
records_alike records c d alike = in_turn_alike run AreAlike (λ e. ops_alike e.ops) (map (λ (p : Placed). entry_of_record p.logged) records) c d alike

-- what records that take place lead to
pub alike_led : (records : List Placed) (c d e : Contents) → AreAlike c d → apply_records records c ≡ Ok e → (f : Contents) × (apply_records records d ≡ Ok f) × AreAlike e f
alike_led records c d e alike is = both_ok AreAlike (apply_records records c) (apply_records records d) e (records_alike records c d alike) is

-- and the first that can't is the same
pub alike_refused : (records : List Placed) (c d : Contents) (address : ℕ) → AreAlike c d → IsRecordRefused records c address → IsRecordRefused records d address
alike_refused records c d address alike is =
    let (reached, reaches, same) = alike_led is.before c d is.reached alike is.reaches in
    record {
      before = is.before;
      refused = is.refused;
      after = is.after;
      split = is.split;
      reached = reached;
      reaches = reaches;
      error = is.error;
      refuses = both_err AreAlike (apply_all is.refused.logged.ops is.reached) (apply_all is.refused.logged.ops reached) is.error (ops_alike is.refused.logged.ops is.reached reached same) is.refuses;
      address_is = is.address_is;
    }
