-- Operations that are read one after the other, as a loop does, are those that are read in all.
use Rattle.std.proofs.Common.{◌≡◌, ℕ, suc, ◌-◌, ◌+◌, ◌≤◌, ◌<◌, List, [], ◌∷◌, ◌++◌, Option, Some, None, refl, sym, ap, ◌∙◌, append_assoc, arith}
use Rattle.std.proofs.lemmas.List.{append-nil}
use Rattle.base.specs.declared.operation.Op.{Op}
use Rattle.records.specs.declared.reading.ReadError.{ReadError}
use Rattle.records.specs.declared.reading.ReadError.TheVariants.{NoMemory, NoRecord}
use Rattle.records.specs.Reading.{◌>>=◌, Fails, op_in, ops_in}

-- what was read before, and what is still read
abbrev pub with_front : List Op → Option (List Op × List ℕ) → Option (List Op × List ℕ)
with_front front read = read >>= λ x. Some (front ++ x.0, x.1)

regroup : (front : List Op) (op : Op) (read : Option (List Op × List ℕ)) → with_front front (read >>= λ x. Some (op ∷ x.0, x.1)) ≡ with_front (front ++ op ∷ []) read
regroup front op (Some x) = ap (λ (ops : List Op). Some (ops, x.1)) (simp append_assoc)
regroup front op None = refl

pub goes_on : (front : List Op) (count i : ℕ) (bytes : List ℕ) (op : Op) (after : List ℕ) (total : Option (List Op × List ℕ)) → i < count → op_in bytes ≡ Some (op, after)
    → with_front front (ops_in (count - i) bytes) ≡ total → with_front (front ++ op ∷ []) (ops_in (count - (i + 1)) after) ≡ total
unfolding ops_in
goes_on front count i bytes op after total lt h so_far =
    let k : count - i ≡ suc (count - (i + 1)) = omega arith in
    let one : with_front front (ops_in (count - i) bytes) ≡ with_front (front ++ op ∷ []) (ops_in (count - (i + 1)) after) = rw (k, h) (regroup front op (ops_in (count - (i + 1)) after)) in
    sym one ∙ so_far

pub ends : (e : ReadError) (front : List Op) (count i : ℕ) (bytes : List ℕ) (total : Option (List Op × List ℕ)) → i < count → Fails e (op_in bytes)
    → with_front front (ops_in (count - i) bytes) ≡ total → Fails e total
unfolding ops_in
ends NoMemory front count i bytes total lt h so_far = tt
ends NoRecord front count i bytes total lt h so_far =
    let k : count - i ≡ suc (count - (i + 1)) = omega arith in
    let one : with_front front (ops_in (count - i) bytes) ≡ None = rw (k, h) refl in
    sym so_far ∙ one

pub is_done : (front : List Op) (count i : ℕ) (bytes : List ℕ) (total : Option (List Op × List ℕ)) → count ≤ i → with_front front (ops_in (count - i) bytes) ≡ total → total ≡ Some (front, bytes)
unfolding ops_in
is_done front count i bytes total le so_far =
    let k : count - i ≡ 0 = omega arith in
    let one : with_front front (ops_in (count - i) bytes) ≡ Some (front, bytes) = rw k (ap (λ (ops : List Op). Some (ops, bytes)) (append-nil front)) in
    sym so_far ∙ one
