-- How a run of calls goes on, and what a crash leaves after each of them.
use Rattle.std.proofs.Common.{◌≡◌, inl, inr, ℕ, ◌+◌, ◌<◌, ◌≤◌, Bool, true, false, List, [], ◌∷◌, ◌++◌, length, Result, Ok, Err, refl, sym, ◌∙◌, ap, subst, arith, append_assoc, length-append}
use Rattle.std.specs.List.{AllByRecursion}
use Rattle.std.proofs.lemmas.List.{ext_get_or, append_cancel_right}
use Rattle.base.specs.declared.error.PoolError.{PoolError}
use Rattle.base.specs.formats.Fields.{part}
use Rattle.base.specs.disk.Disk.{Write, Moment, Disk, moments, bytes_of, IsTouched, MayLeave, wrote, settled, next, certain, certain_with, EachMoment, CrashLeaves, LeavesOnly}
use Rattle.base.specs.disk.Calls.{Writes, Flushes}
use Rattle.base.proofs.disk.Put.{part_same}

-- before the first call
pub starts : (P : Moment → Type 0) (disk : Disk) → P disk.now → EachMoment P disk disk
starts P disk here = record { later = []; joined = refl; each = tt; first = here }

-- one moment more
pub goes_on : (P : Moment → Type 0) (old disk : Disk) (m : Moment) → EachMoment P old disk → P m → EachMoment P old (next m disk)
goes_on P old disk m so_far here = record {
  later = m ∷ so_far.later;
  joined = ap (λ (l : List Moment). m ∷ l) so_far.joined;
  each = (here, so_far.each);
  first = so_far.first;
}

all_append : (P : Moment → Type 0) (xs ys : List Moment) → AllByRecursion P xs → AllByRecursion P ys → AllByRecursion P (xs ++ ys)
all_append P [] ys all_xs all_ys = all_ys
all_append P (x ∷ xs) ys all_xs all_ys = (all_xs.0, all_append P xs ys all_xs.1 all_ys)

-- one run after another
pub joins : (P : Moment → Type 0) (old mid new : Disk) → EachMoment P old mid → EachMoment P mid new → EachMoment P old new
joins P old mid new front back = record {
  later = back.later ++ front.later;
  joined = back.joined ∙ ap (λ (l : List Moment). back.later ++ l) front.joined ∙ sym (append_assoc back.later front.later (old.now ∷ old.past));
  each = all_append P back.later front.later back.each front.each;
  first = front.first;
}

all_weaker : (P Q : Moment → Type 0) → ((m : Moment) → P m → Q m) → (ms : List Moment) → AllByRecursion P ms → AllByRecursion Q ms
all_weaker P Q weaker [] each = tt
all_weaker P Q weaker (m ∷ ms) each = (weaker m each.0, all_weaker P Q weaker ms each.1)

pub weaker : (P Q : Moment → Type 0) (old new : Disk) → ((m : Moment) → P m → Q m) → EachMoment P old new → EachMoment Q old new
weaker P Q old new weak run = record {
  later = run.later;
  joined = run.joined;
  each = all_weaker P Q weak run.later run.each;
  first = weak old.now run.first;
}

-- the newest moment is one of them
pub latest : (P : Moment → Type 0) (old new : Disk) → EachMoment P old new → P new.now
latest P old new run = by_cases run.later run.joined run.each
  where
    by_cases : (later : List Moment) → new.now ∷ new.past ≡ later ++ old.now ∷ old.past → AllByRecursion P later → P new.now
    by_cases [] joined each = let same : old.now ≡ new.now = cc in subst P same run.first
    by_cases (m ∷ ms) joined each = let same : m ≡ new.now = cc in subst P same each.0

-- a run of calls only adds moments
pub moments_grow : (P : Moment → Type 0) (old new : Disk) → EachMoment P old new → moments old ≤ moments new
moments_grow P old new run =
    let long = ap (λ (l : List Moment). length l) run.joined ∙ length-append run.later (old.now ∷ old.past) in omega (arith, long)

-- a part that no unflushed write touches stands in each image
pub part_stands : (m : Moment) (image : List ℕ) (place n : ℕ) → MayLeave m image → ((i : ℕ) → place ≤ i → i < place + n → IsTouched m.unflushed i → ⊥) → part image place n ≡ part (bytes_of m) place n
part_stands m image place n left apart = part_same image (bytes_of m) place n left.size (λ i from to. left.others i (apart i from to))

-- where nothing is unflushed a crash leaves what a read gives
pub only_bytes : (m : Moment) (image : List ℕ) → m.unflushed ≡ [] → MayLeave m image → image ≡ bytes_of m
only_bytes m image none left =
    ext_get_or 0 image (bytes_of m) left.size (λ i below. left.others i (λ touched. subst (λ (ws : List Write). IsTouched ws i) none touched))

-- a read gives one of the images that a crash may leave
pub bytes_may_be_left : (m : Moment) → MayLeave m (bytes_of m)
bytes_may_be_left m = record { size = refl; others = λ i untouched. refl }

-- what is certain is one of the images
pub settled_may_leave : (m : Moment) (image other : List ℕ) → MayLeave m image → MayLeave (settled image m) other → MayLeave m other
settled_may_leave m image other left sure =
    let same : other ≡ image = only_bytes (settled image m) other refl sure in
    subst (λ (l : List ℕ). MayLeave m l) (sym same) left

-- a crash, or a flush that answers Ok
pub leaves_certain : (P : List ℕ → Type 0) (old disk : Disk) (image : List ℕ) → LeavesOnly old disk P → MayLeave disk.now image → LeavesOnly old (certain image disk) P
leaves_certain P old disk image so_far left = by_cases disk.now.unflushed
  where
    by_cases : (ws : List Write) → LeavesOnly old (certain_with image disk ws) P
    by_cases [] = so_far
    by_cases (w ∷ ws) = goes_on (CrashLeaves P) old disk (settled image disk.now) so_far (λ other sure. latest (CrashLeaves P) old disk so_far other (settled_may_leave disk.now image other left sure))

-- after a flush, whatever it answers
pub leaves_flush : (P : List ℕ → Type 0) (old disk new : Disk) (r : Result (Unit {0}) PoolError) → LeavesOnly old disk P → Flushes disk r new → LeavesOnly old new P
leaves_flush P old disk new (Ok x) so_far flushes = subst (λ (d : Disk). LeavesOnly old d P) (sym flushes) (leaves_certain P old disk (bytes_of disk.now) so_far (bytes_may_be_left disk.now))
leaves_flush P old disk new (Err e) so_far flushes = subst (λ (d : Disk). LeavesOnly old d P) (sym flushes) so_far

-- after a write, whatever it answers
pub leaves_write : (P : List ℕ → Type 0) (old disk new : Disk) (place : ℕ) (content : List ℕ) (r : Result (Unit {0}) PoolError) → LeavesOnly old disk P → Writes disk place content r new
    → ((done : Bool) → CrashLeaves P (wrote (moments disk) place content done disk.now)) → LeavesOnly old new P
leaves_write P old disk new place content (Ok x) so_far writes here = subst (λ (d : Disk). LeavesOnly old d P) (sym writes) (goes_on (CrashLeaves P) old disk (wrote (moments disk) place content true disk.now) so_far (here true))
leaves_write P old disk new place content (Err e) so_far (inl counted) here = subst (λ (d : Disk). LeavesOnly old d P) (sym counted) (goes_on (CrashLeaves P) old disk (wrote (moments disk) place content false disk.now) so_far (here false))
leaves_write P old disk new place content (Err e) so_far (inr same) here = subst (λ (d : Disk). LeavesOnly old d P) (sym same) so_far

-- What each write and each flush keeps, each moment of a run keeps.
module _ (P : Moment → Type 0) where
  pub each_write : (old disk new : Disk) (place : ℕ) (content : List ℕ) (r : Result (Unit {0}) PoolError) → EachMoment P old disk → Writes disk place content r new
      → ((done : Bool) → P disk.now → P (wrote (moments disk) place content done disk.now)) → EachMoment P old new
  each_write old disk new place content (Ok x) so_far writes keeps = subst (λ (d : Disk). EachMoment P old d) (sym writes) (goes_on P old disk _ so_far (keeps true (latest P old disk so_far)))
  each_write old disk new place content (Err e) so_far (inl counted) keeps = subst (λ (d : Disk). EachMoment P old d) (sym counted) (goes_on P old disk _ so_far (keeps false (latest P old disk so_far)))
  each_write old disk new place content (Err e) so_far (inr same) keeps = subst (λ (d : Disk). EachMoment P old d) (sym same) so_far

  each_certain : (old disk : Disk) (image : List ℕ) (ws : List Write) → EachMoment P old disk → (P disk.now → P (settled image disk.now)) → EachMoment P old (certain_with image disk ws)
  each_certain old disk image [] so_far keeps = so_far
  each_certain old disk image (w ∷ ws) so_far keeps = goes_on P old disk _ so_far (keeps (latest P old disk so_far))

  pub each_flush : (old disk new : Disk) (r : Result (Unit {0}) PoolError) → EachMoment P old disk → Flushes disk r new → (P disk.now → P (settled (bytes_of disk.now) disk.now)) → EachMoment P old new
  each_flush old disk new (Ok x) so_far flushes keeps = subst (λ (d : Disk). EachMoment P old d) (sym flushes) (each_certain old disk (bytes_of disk.now) disk.now.unflushed so_far keeps)
  each_flush old disk new (Err e) so_far flushes keeps = subst (λ (d : Disk). EachMoment P old d) (sym flushes) so_far

both_lists : (P Q : Moment → Type 0) (ms : List Moment) → AllByRecursion P ms → AllByRecursion Q ms → AllByRecursion (λ m. P m × Q m) ms
both_lists P Q [] p q = tt
both_lists P Q (m ∷ ms) p q = ((p.0, q.0), both_lists P Q ms p.1 q.1)

-- two facts about each moment
pub both : (P Q : Moment → Type 0) (old new : Disk) → EachMoment P old new → EachMoment Q old new → EachMoment (λ m. P m × Q m) old new
both P Q old new p q =
    let same : p.later ≡ q.later = append_cancel_right p.later q.later (old.now ∷ old.past) (sym p.joined ∙ q.joined) in
    record {
      later = p.later;
      joined = p.joined;
      each = both_lists P Q p.later p.each (subst (λ (ms : List Moment). AllByRecursion Q ms) (sym same) q.each);
      first = (p.first, q.first);
    }
