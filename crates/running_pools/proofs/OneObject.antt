-- What an operation on one object leaves: what it makes of it, and each other object as it was.
use Rattle.std.proofs.Common.{◌≡◌, ◌≢◌, [], ℕ, List, Option, Some, None, Ok, ap, refl, subst, sym, ◌∙◌}
use Rattle.std.specs.Prelude.{Result}
use Rattle.std.specs.FinMap as map
use Rattle.base.specs.declared.error.PoolError.{PoolError}
use Rattle.base.specs.history.Contents.{Contents, apply, at_object, changed, created}
use Rattle.base.specs.history.Sequences.{in_turn}
use Rattle.base.proofs.history.Objects.{get-stored_other, get-stored_same, reached}

-- the object of a number
abbrev pub object : Contents → ℕ → Option (List ℕ)
object c n = map.get c.objects n

-- each other object is as it was
abbrev pub LeavesOthers : ℕ → Contents → Contents → Type 0
LeavesOthers n c d = (other : ℕ) → other ≢ n → object d other ≡ object c other

pub others_on : (n : ℕ) (a b c : Contents) → LeavesOthers n a b → LeavesOthers n b c → LeavesOthers n a c
others_on n a b c first later = λ other ne. later other ne ∙ first other ne

pub others_same : (n : ℕ) (c d : Contents) → c ≡ d → LeavesOthers n c d
others_same n c d same = λ other ne. ap (λ (x : Contents). object x other) (sym same)

-- what an operation on the object makes of it
pub one : (n : ℕ) (f : Option (List ℕ) → Result (Option (List ℕ)) PoolError) (c d : Contents) → at_object n f c ≡ Ok d
    → (o : Option (List ℕ)) × (f (object c n) ≡ Ok o) × (object d n ≡ o) × LeavesOthers n c d
one n f c d h =
    let r = reached n f c d h in (
      r.0,
      r.1,
      ap (λ (x : Contents). object x n) (sym r.2) ∙ get-stored_same c.objects n r.0,
      λ other ne. ap (λ (x : Contents). object x other) (sym r.2) ∙ get-stored_other c.objects n r.0 other ne,
    )

pub changed_there : (f : List ℕ → List ℕ) (before o : Option (List ℕ)) (old : List ℕ) → before ≡ Some old → changed f before ≡ Ok o → o ≡ Some (f old)
changed_there f before o old is h = let given : changed f (Some old) ≡ Ok o = subst (λ (b : Option (List ℕ)). changed f b ≡ Ok o) is h in cc

pub none_left : (c d : Contents) → in_turn apply [] c ≡ Ok d → c ≡ d
none_left c d h = cc

pub made : (before o : Option (List ℕ)) → created before ≡ Ok o → (before ≡ None) × (o ≡ Some [])
made None o h = (refl, cc)
made (Some old) o h = cc
