use Rattle.std.proofs.Common.{ℕ, arith, subst}
use Rattle.std.specs.Prelude.{Contains}
use Rattle.std.proofs.lemmas.Result.{IfOk-weaker}
use Rattle.object_maps_clients.proofs.entry_lists.a_damaged_data_block_hides_no_object.Goals as goal

pub returns : goal.returns
returns g c =
    IfOk-weaker c.list_entries.result _ _ (λ l lists. subst (λ (size : ℕ). Contains l.items (record { 0 = 130 }, size)) c.requires.length (lists.all 130 (omega arith) c.requires.there))
    (c.list_entries.ensures.listed c.requires.keeps)
