-- No two open transactions of a pool have one name.
use Rattle.std.proofs.Common.{◌≡◌, ◌≢◌, ℕ, not, ◌&&◌, List, arith}
use Rattle.std.specs.Prelude.{get_or}
use Rattle.std.proofs.lemmas.List.Kept.{AllPairs-filter}
use Rattle.std.proofs.lemmas.Option.{slice_get-get_or}
use Rattle.base.specs.history.History.{Entry}
use Rattle.base.specs.steps.Locks.{is_in}
use Rattle.base.specs.steps.Groups.{AreNamedApart, Line, Admission, AreMembers, open_transactions, is_committed}

pub open_ones_are_named_apart : (l : Line) (admissions : List Admission) (entries : List Entry) (aborted : List ℕ) → AreMembers l admissions entries aborted
    → AreNamedApart (open_transactions admissions entries aborted)
open_ones_are_named_apart l admissions entries aborted members =
    AllPairs-filter (λ (a b : Admission). a.tx ≢ b.tx) (λ (a : Admission). not (is_committed a.tx entries) && not (is_in a.tx aborted)) admissions
    (λ i j d below within same.
    let first : (get_or admissions i d).tx ≡ i = members.numbered i (get_or admissions i d) (slice_get-get_or admissions i d (omega arith)) in
    let second : (get_or admissions j d).tx ≡ j = members.numbered j (get_or admissions j d) (slice_get-get_or admissions j d within) in
    omega arith)
