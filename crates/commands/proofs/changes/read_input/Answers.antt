use Rattle.std.proofs.Common.{◌≡◌, ◌++◌, List, [], ℕ, Option, Some, None, ap, take, subst, ◌∙◌}
use Rattle.std.specs.Prelude.{IfSome}
use Rattle.std.specs.Option.{option_map}
use Rattle.commands.proofs.changes.read_input.Goals as goal

-- what stands after no bytes, of a reader's bytes up to a limit
read_all : (limit : ℕ) (left : Option (List ℕ)) (old new : List ℕ) → old ≡ [] → IfSome (option_map (take limit) left) (λ xs. new ≡ old ++ xs) → IfSome left (λ xs. new ≡ take limit xs)
read_all limit None old new none is = tt
read_all limit (Some xs) old new none is = is ∙ ap (λ (l : List ℕ). l ++ take limit xs) none

pub returns : goal.returns
returns g c =
    let left : Option (List ℕ) = g.R.Read.remaining c.args.input in
    record {
      all = read_all 28449793 left c.new-bytes.result.items c.read_to_end.new.buf.items c.new-bytes.ensures.items
          (subst (λ (n : ℕ). IfSome (option_map (take n) left) (λ xs. c.read_to_end.new.buf.items ≡ c.new-bytes.result.items ++ xs)) c.take.ensures.limit
          (subst (λ r. IfSome (option_map (take c.take.result.limit) (g.R.Read.remaining r)) (λ xs. c.read_to_end.new.buf.items ≡ c.new-bytes.result.items ++ xs)) c.take.ensures.inner
          c.in_ok-read_to_end.ensures.bytes));
    }
