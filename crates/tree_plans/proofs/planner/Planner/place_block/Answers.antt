use Rattle.std.proofs.Common.{◌≡◌, ◌<◌, length, arith, ap, ◌∙◌, refl, map, List, ◌++◌, ◌∷◌, []}
use Rattle.std.proofs.lemmas.List.Elements.{All-push}
use Rattle.base.specs.formats.Geometry.{block_count}
use Rattle.tree_plans.specs.declared.planner.PlannedBlock.{PlannedBlock}
use Rattle.tree_plans.specs.Plans.{new_block}
use Rattle.tree_plans.proofs.Progress.{new_blocks-push, goes_on, written_at}
use Rattle.tree_plans.proofs.Uses.{uses_one}
use Rattle.tree_plans.proofs.Order.{adds_one}
use Rattle.tree_plans.proofs.planner.Planner.place_block.Goals as goal

pub invariant_of-self-2 : goal.invariant_of-self-2
invariant_of-self-2 c =
    let P : PlannedBlock → Type 0 = λ b. b.index < block_count c.args.self.now.geometry in
    let within : c.in-Some.index < block_count c.args.self.now.geometry = omega (arith, c.in-Some.ensures.within, c.requires.free) in
    let W : PlannedBlock → Type 0 = λ b. length b.block ≡ 4096 in
    record {
      placed = rw (c.push_reserved.ensures.items, c.reserve.ensures.items) (All-push P c.args.self.now.blocks.items _ c.args.self.now.placed within);
      whole = rw (c.push_reserved.ensures.items, c.reserve.ensures.items) (All-push W c.args.self.now.blocks.items _ c.args.self.now.whole c.requires.size);
    }

pub returns-clause-taken : goal.returns-clause-taken
returns-clause-taken c place payload sealed =
    let b : PlannedBlock = record { index = c.in-Some.index; block = c.args.block } in
    let pushed : map new_block c.push_reserved.new.self.items ≡ map new_block c.args.self.now.blocks.items ++ new_block b ∷ [] =
    ap (λ (l : List PlannedBlock). map new_block l) (c.push_reserved.ensures.items ∙ ap (λ (l : List PlannedBlock). l ++ b ∷ []) c.reserve.ensures.items) ∙ new_blocks-push c.args.self.now.blocks.items b in
    record {
      goes = goes_on _ _ _ _ _ (new_block b) _ _ _ pushed refl c.in-Some.ensures.lowest (rw (← c.reserve-2.ensures.items) c.give_back.ensures.kept);
      written = written_at _ _ (new_block b) c.in-Some.index _ _ _ _ _ _ pushed refl (omega (arith, c.in-Some.ensures.within, c.requires.free)) c.block_address.ensures.address refl c.check.ensures
          refl refl sealed c.give_back.ensures.added;
      frees = rw (← c.reserve-2.ensures.items) c.give_back.ensures.only;
      once = rw (← c.reserve-2.ensures.items) c.give_back.ensures.once;
      uses = uses_one _ _ (new_block b) _ pushed c.block_address.ensures.address;
      adds = adds_one _ _ (new_block b) _ pushed c.block_address.ensures.address;
    }
