-- The open transactions of a pool: their admissions in order, and how one is admitted.
use Rattle.std.specs.Prelude.{ℕ, ◌≡◌, ◌<◌, ◌==◌, ◌+◌, ◌||◌, ◌++◌, ◌∷◌, [], All, Bool, true, false, not, List, length, filter, filter_map, nat_le, nat_lt, Option, is_some, option_map}
use Rattle.std.specs.List.{find, list_all, list_any}
use Rattle.std.specs.Option.{option_map_or}
use Rattle.slab.specs.Slab.{Slab, get}
use Rattle.base.specs.declared.error.PoolError.{PoolError}
use Rattle.base.specs.declared.error.PoolError.TheVariants.{Busy, TooMany}
use Rattle.base.specs.declared.operation.Shape.{Shape}
use Rattle.base.specs.formats.Limits.{last_number, max_transactions}
use Rattle.base.specs.history.Plans.{NumberRange, is_plan_allowed, lies_in, range_of}
use Rattle.base.specs.steps.Groups.{AreNamedApart, Admission}
use Rattle.base.specs.steps.Refusals.{Test, refused_if, first_refusal, is_plan_blocked}
use Rattle.transactions.specs.Ranges.{has_kept_in, kept_ranges_overlap}
use Rattle.transactions.specs.declared.«open».OpenTransaction.{OpenTransaction}

-- the admissions in order, and the name of the next one
pub record Open : Type 0 where
  pub transactions : List Admission
  pub next : ℕ

abbrev pub admission_of : OpenTransaction → Admission
admission_of t = record { tx = t.tx.0; group = t.group.0; owner = t.owner.0; plan = t.plan }

-- the admissions of the transactions at these keys
abbrev pub admissions_at : Slab OpenTransaction → List ℕ → List Admission
admissions_at slots keys = filter_map (λ key. option_map admission_of (get slots key)) keys

-- whether there is a transaction at a key that passes a test
abbrev pub passes_at : (OpenTransaction → Bool) → Slab OpenTransaction → ℕ → Bool
passes_at test slots key = option_map_or test (get slots key) false

-- tests of an open transaction: its name, its group, what its plan touches, and its owner
abbrev pub is_of_name : ℕ → OpenTransaction → Bool
is_of_name tx t = t.tx.0 == tx

abbrev pub is_of_group : ℕ → OpenTransaction → Bool
is_of_group group t = t.group.0 == group

abbrev pub overlaps_plan_of : List Shape → OpenTransaction → Bool
overlaps_plan_of plan t = kept_ranges_overlap plan t.plan

abbrev pub has_plan_in : NumberRange → OpenTransaction → Bool
has_plan_in range t = has_kept_in range t.plan

abbrev pub is_of_owner : ℕ → OpenTransaction → Bool
is_of_owner owner t = t.owner.0 == owner

-- the keys but those of transactions of this name
abbrev pub keys_without : ℕ → Slab OpenTransaction → List ℕ → List ℕ
keys_without tx slots keys = filter (λ key. not (passes_at (is_of_name tx) slots key)) keys

-- and each name comes before this one
pub record AreNamed (next : ℕ) (transactions : List Admission) : Type 0 where
  pub apart : AreNamedApart transactions
  pub before : All (λ (a : Admission). a.tx < next) transactions

-- each key has a transaction, its plan is allowed, and its name is its own and comes before the next one
pub record AreOpenAt (slots : Slab OpenTransaction) (keys : List ℕ) (next : ℕ) : Type 0 where
  pub present : list_all (λ key. is_some (get slots key)) keys ≡ true
  pub allowed : list_all (λ (a : Admission). is_plan_allowed a.plan) (admissions_at slots keys) ≡ true
  pub named : AreNamed next (admissions_at slots keys)

-- the admission of the next name, and the state after it
abbrev pub next_to_open : ℕ → ℕ → List Shape → Open → Admission
next_to_open owner group plan o = record { tx = o.next; group = group; owner = owner; plan = plan }

abbrev pub with_admission : Admission → Open → Open
with_admission a o = record { transactions = o.transactions ++ a ∷ []; next = o.next + 1 }

-- whether a range of a plan overlaps one of an open transaction, with ends that fit 64 bits
abbrev pub is_kept_blocked : List Shape → List Admission → Bool
is_kept_blocked plan transactions = list_any (λ (a : Admission). kept_ranges_overlap plan a.plan) transactions

-- whether one more is too many, if so many are open and this is the next name
abbrev pub is_too_many : ℕ → ℕ → Bool
is_too_many count next = nat_le max_transactions count || nat_lt last_number next

abbrev pub are_too_many : Open → Bool
are_too_many o = is_too_many (length o.transactions) o.next

-- why a transaction is not admitted; want of memory comes after these
abbrev pub admit_tests : List Shape → Open → List Test
admit_tests plan o =
    refused_if (is_plan_blocked plan o.transactions) Busy
    ∷ refused_if (are_too_many o) TooMany ∷ []

abbrev pub admit_refusal : List Shape → Open → Option PoolError
admit_refusal plan o = first_refusal (admit_tests plan o)

-- the open transaction of this name
abbrev pub admission_of_name : ℕ → List Admission → Option Admission
admission_of_name tx transactions = find (λ (a : Admission). a.tx == tx) transactions

-- whether a range of an open transaction lies in this one
abbrev pub is_range_in_use : NumberRange → List Admission → Bool
is_range_in_use range transactions = list_any (λ (a : Admission). list_any (λ x. lies_in (range_of x) range) a.plan) transactions

-- whether the owner has an open transaction
abbrev pub has_one_open : ℕ → List Admission → Bool
has_one_open owner transactions = list_any (λ (a : Admission). a.owner == owner) transactions
