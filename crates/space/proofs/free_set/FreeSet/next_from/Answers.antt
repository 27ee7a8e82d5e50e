use Rattle.std.proofs.Common.{◌∙◌, ℕ, max, length, List, Bool, Option, Some, None, IfSome, IfNone, arith}
use Rattle.space.specs.SetFlags.{AreClear, IsFirstSet}
use Rattle.space.proofs.Flags.{contains-free_of}
use Rattle.space.proofs.FreeLists.{first_free-lowest, none_free}
use Rattle.space.proofs.SetFlags.{clear_from, first_from}
use Rattle.space.proofs.free_set.FreeSet.next_from.Goals as goal

-- what is told of the block that was found
found : (o : Option ℕ) (P : ℕ → Type 0) (first hint : ℕ) (flags : List Bool) → AreClear 0 hint flags → ((block : ℕ) → IsFirstSet first (length flags) flags block → P block)
    → IfSome o (IsFirstSet (max first hint) (length flags) flags) → IfSome o P
found None P first hint flags below told f = tt
found (Some block) P first hint flags below told f = told block (first_from first hint (length flags) block flags (λ k _ high. below k (omega arith) high) f)

none : (o : Option ℕ) (P : Type 0) (first hint : ℕ) (flags : List Bool) → AreClear 0 hint flags → (AreClear first (length flags) flags → P)
    → IfNone o (AreClear (max first hint) (length flags) flags) → IfNone o P
none None P first hint flags below told t = told (clear_from first hint (length flags) flags (λ k _ high. below k (omega arith) high) t)
none (Some block) P first hint flags below told t = tt

pub returns-clause-free : goal.returns-clause-free
returns-clause-free c =
    let flags : List Bool = c.self.inside.flags in
    rw (← c.self.view_is) (found c.first_set.result _ c.args.first c.self.inside.hint flags c.self.invariant.hint.below
    (λ block f. contains-free_of flags block ∙ f.is_set) (rw c.max.ensures at c.first_set.ensures.found))

pub returns-clause-skipped : goal.returns-clause-skipped
returns-clause-skipped c =
    let flags : List Bool = c.self.inside.flags in
    rw (← c.self.view_is) (found c.first_set.result _ c.args.first c.self.inside.hint flags c.self.invariant.hint.below
    (λ block f k low high. contains-free_of flags k ∙ f.lowest k low high) (rw c.max.ensures at c.first_set.ensures.found))

pub returns-clause-lowest : goal.returns-clause-lowest
returns-clause-lowest c =
    let flags : List Bool = c.self.inside.flags in
    rw (← c.self.view_is) (found c.first_set.result _ c.args.first c.self.inside.hint flags c.self.invariant.hint.below
    (λ block f. first_free-lowest c.args.first block flags f) (rw c.max.ensures at c.first_set.ensures.found))

pub returns-clause-none : goal.returns-clause-none
returns-clause-none c =
    let flags : List Bool = c.self.inside.flags in
    rw (← c.self.view_is) (none c.first_set.result _ c.args.first c.self.inside.hint flags c.self.invariant.hint.below
    (λ t. none_free c.args.first flags t) (rw c.max.ensures at c.first_set.ensures.none))
