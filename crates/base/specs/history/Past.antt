-- What happened in a run, from its import on: a value of the proofs alone, kept in no memory.
use Rattle.std.specs.Prelude.{ℕ, ◌≡◌, ◌++◌, true, List, [], map, filter, ◌==◌}
use Rattle.std.specs.List.{enumerate_from}
use Rattle.base.specs.history.Contents.{Contents}
use Rattle.base.specs.history.History.{Entry}
use Rattle.base.specs.steps.Locks.{Grant, is_in}
use Rattle.base.specs.steps.Groups.{Admission}

pub record Past : Type 0 where
  -- what the import mounted
  pub base : Contents
  -- the moment of the device at which the create of the pool began
  pub created : ℕ
  pub dirty_max : ℕ
  -- the committed transactions, in order
  pub entries : List Entry
  -- the range locks that were granted, and the names of those released
  pub grants : List Grant
  pub let_go : List ℕ
  -- the transactions that were admitted, and the names of those aborted
  pub admissions : List Admission
  pub aborted : List ℕ
  -- the ordinals of the entries that no crash may lose
  pub acknowledged : List ℕ

-- the past as an import leaves it
abbrev pub new_past : Contents → ℕ → ℕ → Past
new_past base created dirty_max =
    record { base = base; created = created; dirty_max = dirty_max; entries = []; grants = []; let_go = []; admissions = []; aborted = []; acknowledged = [] }

-- the ordinals of the entries of a group
abbrev pub ordinals_of : ℕ → List Entry → List ℕ
ordinals_of group entries = map (λ (p : ℕ × Entry). p.0) (filter (λ (p : ℕ × Entry). p.1.group == group) (enumerate_from 0 entries))

-- the later list begins with the earlier one
abbrev pub IsPrefixOf : {A : Type 0} → List A → List A → Type 0
IsPrefixOf {A} earlier later = (rest : List A) × (later ≡ earlier ++ rest)

-- from the earlier past to the later one the lists and the acknowledged entries only grow, and the rest stands
pub record Grows (earlier later : Past) : Type 0 where
  pub base : later.base ≡ earlier.base
  pub created : later.created ≡ earlier.created
  pub dirty_max : later.dirty_max ≡ earlier.dirty_max
  pub entries : IsPrefixOf earlier.entries later.entries
  pub grants : IsPrefixOf earlier.grants later.grants
  pub let_go : IsPrefixOf earlier.let_go later.let_go
  pub admissions : IsPrefixOf earlier.admissions later.admissions
  pub aborted : IsPrefixOf earlier.aborted later.aborted
  pub acknowledged : (o : ℕ) → is_in o earlier.acknowledged ≡ true → is_in o later.acknowledged ≡ true
