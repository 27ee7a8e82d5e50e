use Rattle.std.proofs.Common.{◌≡◌, ℕ, Bool, List, Option, Some, None, IfNone, IsSome, true, false, get_or, length, sym, ◌∙◌, refl, arith}
use Rattle.space.specs.SetFlags.{AreClear}
use Rattle.space.proofs.SetFlags.{set_within}
use Rattle.space.proofs.clients.a_search_over_regions_finds_a_set_flag.Goals as goal

some_found : (o : Option ℕ) (flags : List Bool) → get_or flags 40000 false ≡ true → IfNone o (AreClear 1 (length flags) flags) → IsSome o
some_found (Some k) flags is none = refl
some_found None flags is none =
    absurd (let clear : true ≡ false = sym is ∙ none 40000 (omega arith) (set_within flags 40000 is) in cc)

pub returns-clause-found : goal.returns-clause-found
returns-clause-found c = some_found c.first_set.result c.args.flags.now c.requires c.first_set.ensures.none
