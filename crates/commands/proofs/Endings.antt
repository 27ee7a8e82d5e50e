-- How a command ended, by its status and by what came of it.
use Rattle.std.proofs.Common.{◌≡◌, ◌≢◌, ℕ, List, Ok, Err, arith, false, refl, subst, sym, true, ◌∙◌}
use Rattle.std.specs.Global.{Vec}
use Rattle.std.specs.Prelude.{Bool, IfErr, IfOk, IsErr, IsOk, Result}
use Rattle.std.proofs.lemmas.Bool.{false≢true}
use Rattle.read_commands.specs.Failures.{failure_status}
use Rattle.file_devices.specs.declared.held_file.FileRefusal.{FileRefusal}
use Rattle.read_commands.specs.declared.failure.Failure.{Failure}

module _ (end : Result (Unit {0}) Failure) (status : ℕ) (one : IfErr end (λ why. failure_status why ≡ 1)) (told : IfErr end (λ why. status ≡ failure_status why)) where
  -- what failed has status 1
  pub fails_with : IsErr end → status ≡ 1
  fails_with = by end one told
    where
      by : (r : Result (Unit {0}) Failure) → IfErr r (λ why. failure_status why ≡ 1) → IfErr r (λ why. status ≡ failure_status why) → IsErr r → status ≡ 1
      by (Ok tt) o t is = absurd (false≢true is)
      by (Err why) o t is = t ∙ o

  -- and another status is that of what did not
  pub ends_well : status ≢ 1 → end ≡ Ok tt
  ends_well other = by end one told
    where
      by : (r : Result (Unit {0}) Failure) → IfErr r (λ why. failure_status why ≡ 1) → IfErr r (λ why. status ≡ failure_status why) → r ≡ Ok tt
      by (Ok tt) o t = refl
      by (Err why) o t = absurd (other (t ∙ o))

-- a status of 1 is that of what failed
pub ends_badly : (end : Result (Unit {0}) Failure) (status : ℕ) → (IsOk end → status ≢ 1) → status ≡ 1 → (why : Failure) × (end ≡ Err why)
ends_badly (Ok tt) status done is = absurd (done refl is)
ends_badly (Err why) status done is = (why, refl)

pub zero_is : {status : ℕ} → status ≡ 0 → status ≢ 1
zero_is zero one = absurd (omega (arith, zero, one))

pub three_is : {status : ℕ} → status ≡ 3 → status ≢ 1
three_is three one = absurd (omega (arith, three, one))

pub is_err_of : (end : Result (Unit {0}) Failure) (why : Failure) → end ≡ Err why → IsErr end
is_err_of end why is = subst (λ (r : Result (Unit {0}) Failure). IsErr r) (sym is) refl

-- what is refused with status 1 if it isn't so is so if the status is 0
pub so_if_done : (so : Bool) (status : ℕ) → (so ≡ false → status ≡ 1) → status ≡ 0 → so ≡ true
so_if_done true status refused zero = refl
so_if_done false status refused zero = absurd (let one : status ≡ 1 = refused refl in omega (arith, zero, one))

module _ {E Dev : Type 0} (may : List ℕ → Bool) (input : Result (Vec ℕ) E) (opened : Result Dev FileRefusal) (status : ℕ) (zero : status ≡ 0) where
  -- so it is of a put, of the bytes that were read
  pub put_if_done : (IsErr input → status ≡ 3) → (IsErr opened → status ≡ 3) → IfOk input (λ bytes. IfOk opened (λ (device : Dev). may bytes.items ≡ false → status ≡ 1)) → (bytes : List ℕ) × (may bytes ≡ true)
  put_if_done = by input opened
    where
      by : (i : Result (Vec ℕ) E) (o : Result Dev FileRefusal) → (IsErr i → status ≡ 3) → (IsErr o → status ≡ 3) → IfOk i (λ bytes. IfOk o (λ (device : Dev). may bytes.items ≡ false → status ≡ 1)) → (bytes : List ℕ) × (may bytes ≡ true)
      by (Ok bytes) (Ok device) unread unopened refused = (bytes.items, so_if_done (may bytes.items) status refused zero)
      by (Err e) o unread unopened refused = absurd (let three : status ≡ 3 = unread refl in omega (arith, zero, three))
      by (Ok bytes) (Err e) unread unopened refused = absurd (let three : status ≡ 3 = unopened refl in omega (arith, zero, three))
