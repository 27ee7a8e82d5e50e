use Rattle.std.proofs.Common.{ap, sym, subst, ◌∙◌}
use Rattle.std.specs.Option.{option_copied_mut}
use Rattle.std.proofs.lemmas.Bool.{false≢true}
use Rattle.base.proofs.common.KeptLists.{Some-injective}
use Rattle.range_locks.specs.declared.parts.Parts.{Parts}
use Rattle.range_locks.specs.Parts.{HasNoParts, change_of_release, parts_of, without_lock}
use Rattle.range_locks.proofs.KeptParts.{kept_parts}
use Rattle.range_locks.proofs.NumberParts.{becomes_none, becomes_of, parts_at, taken_elsewhere, taken_here, written_elsewhere, written_here}
use Rattle.range_locks.proofs.numbers.Numbers.remove.Goals as goal

pub invariant_of-self : goal.invariant_of-self
invariant_of-self c =
    let numbers = c.args.self.now.parts in
    let n = c.args.range.now.object.0 in
    let out = c.swap_remove_index.ensures in
    record {
      none_empty = kept_parts (parts_of numbers) _ n (taken_elsewhere numbers n c.in-Some.place c.in-Some.ensures c.get_index_mut.ensures.unique c.remove.new.self c.swap_remove_index.result c.swap_remove_index.new.self out.entry out.updates) c.args.self.now.none_empty
          (λ p is none. let no_way = sym (taken_here numbers n c.in-Some.place c.in-Some.ensures c.get_index_mut.ensures.unique c.remove.new.self c.swap_remove_index.result c.swap_remove_index.new.self out.entry out.updates) ∙ is in cc);
    }

pub invariant_of-self-else-is_empty : goal.invariant_of-self-else-is_empty
invariant_of-self-else-is_empty c =
    let numbers = c.args.self.now.parts in
    let n = c.args.range.now.object.0 in
    let here = written_here numbers n c.in-Some.place c.in-Some.ensures c.get_index_mut.ensures.unique c.remove.new.self in
    record {
      none_empty = kept_parts (parts_of numbers) _ n (written_elsewhere numbers n c.in-Some.place c.in-Some.ensures c.get_index_mut.ensures.unique c.remove.new.self) c.args.self.now.none_empty
          (λ p is none. false≢true (sym c.if-is_empty.false ∙ c.is_empty.ensures.1 (subst (λ (x : Parts). HasNoParts x.table) (Some-injective (sym is ∙ here)) none)));
    }

pub returns-then-is_empty-clause-removed : goal.returns-then-is_empty-clause-removed
returns-then-is_empty-clause-removed c =
    let numbers = c.args.self.now.parts in
    let n = c.args.range.now.object.0 in
    let out = c.swap_remove_index.ensures in
    let there = parts_at numbers n c.in-Some.place c.in-Some.ensures c.unwrap-parts.result.now (sym c.get_index_mut.ensures.value ∙ ap option_copied_mut c.unwrap-parts.ensures) in
    becomes_none _ _ c.unwrap-parts.result.now c.remove.new.self (without_lock c.args.range.now.range (change_of_release c.args.mode)) there c.remove.ensures
    (taken_here numbers n c.in-Some.place c.in-Some.ensures c.get_index_mut.ensures.unique c.remove.new.self c.swap_remove_index.result c.swap_remove_index.new.self out.entry out.updates) (c.is_empty.ensures.0 c.if-is_empty.true)

pub returns-then-is_empty-clause-others : goal.returns-then-is_empty-clause-others
returns-then-is_empty-clause-others c =
    let out = c.swap_remove_index.ensures in
    taken_elsewhere c.args.self.now.parts c.args.range.now.object.0 c.in-Some.place c.in-Some.ensures c.get_index_mut.ensures.unique c.remove.new.self c.swap_remove_index.result c.swap_remove_index.new.self out.entry out.updates

pub returns-else-is_empty-clause-removed : goal.returns-else-is_empty-clause-removed
returns-else-is_empty-clause-removed c =
    let numbers = c.args.self.now.parts in
    let n = c.args.range.now.object.0 in
    let there = parts_at numbers n c.in-Some.place c.in-Some.ensures c.unwrap-parts.result.now (sym c.get_index_mut.ensures.value ∙ ap option_copied_mut c.unwrap-parts.ensures) in
    becomes_of _ _ c.unwrap-parts.result.now c.remove.new.self (without_lock c.args.range.now.range (change_of_release c.args.mode)) there c.remove.ensures
    (written_here numbers n c.in-Some.place c.in-Some.ensures c.get_index_mut.ensures.unique c.remove.new.self)

pub returns-else-is_empty-clause-others : goal.returns-else-is_empty-clause-others
returns-else-is_empty-clause-others c =
    written_elsewhere c.args.self.now.parts c.args.range.now.object.0 c.in-Some.place c.in-Some.ensures c.get_index_mut.ensures.unique c.remove.new.self
