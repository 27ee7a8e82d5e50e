use Rattle.std.proofs.Common.{◌∙◌, ℕ, List, Some, ap, arith}
use Rattle.std.specs.Ordering.{nat_cmp}
use Rattle.std.specs.FinMap as finite
use Rattle.std.specs.FinMap.{FinMap}
use Rattle.base.proofs.history.Objects.{get-stored_other, get-stored_same}
use Rattle.block_clients.proofs.maps.an_object_is_told_under_its_number.Goals as goal

pub returns-clause-here : goal.returns-clause-here
returns-clause-here c =
    ap (λ (m : FinMap nat_cmp (List ℕ)). finite.get m 7) c.with_object.ensures ∙ get-stored_same c.args.objects.now.value 7 (Some c.args.bytes.now.value)

pub returns-clause-others : goal.returns-clause-others
returns-clause-others c =
    ap (λ (m : FinMap nat_cmp (List ℕ)). finite.get m 8) c.with_object.ensures
    ∙ get-stored_other c.args.objects.now.value 7 (Some c.args.bytes.now.value) 8 (λ e. omega (arith, e))
