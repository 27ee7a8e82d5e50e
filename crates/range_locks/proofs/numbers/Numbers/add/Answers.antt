use Rattle.std.proofs.Common.{ap, sym, subst, ◌∙◌}
use Rattle.std.specs.Option.{option_copied_mut}
use Rattle.std.specs.Prelude.{nat_eq, IsOk}
use Rattle.std.specs.Map.{lookup}
use Rattle.std.proofs.lemmas.Bool.{ne_eqb}
use Rattle.base.proofs.common.KeptLists.{Some-injective}
use Rattle.range_locks.specs.declared.parts.Parts.{Parts}
use Rattle.range_locks.specs.Parts.{change_of_grant, HasNoParts, IsPlaceOf, parts_of, with_lock}
use Rattle.range_locks.proofs.KeptParts.{if_answered, kept_parts, parts_there, parts_with_lock}
use Rattle.range_locks.proofs.NumberParts.{changed_err, changed_ok, nothing_counted, parts_at, written_elsewhere, written_here}
use Rattle.range_locks.proofs.numbers.Numbers.add.Goals as goal

pub returns-in-Some-clause-added : goal.returns-in-Some-clause-added
returns-in-Some-clause-added c =
    let numbers = c.args.self.now.parts in
    let n = c.args.range.now.object.0 in
    let place = subst (IsPlaceOf numbers n) c.in-Some.is c.requires.place in
    let there = parts_at numbers n c.in-Some.place place c.unwrap-parts.result.now (sym c.get_index_mut.ensures.value ∙ ap option_copied_mut c.unwrap-parts.ensures) in
    changed_ok _ _ c.unwrap-parts.result.now c.add.new.self (with_lock c.args.range.now.range (change_of_grant c.args.id c.args.mode)) (sym there)
    (written_here numbers n c.in-Some.place place c.get_index_mut.ensures.unique c.add.new.self) c.add.result c.add.ensures.added

pub returns-in-Some-clause-unchanged : goal.returns-in-Some-clause-unchanged
returns-in-Some-clause-unchanged c =
    let numbers = c.args.self.now.parts in
    let n = c.args.range.now.object.0 in
    let place = subst (IsPlaceOf numbers n) c.in-Some.is c.requires.place in
    let there = parts_at numbers n c.in-Some.place place c.unwrap-parts.result.now (sym c.get_index_mut.ensures.value ∙ ap option_copied_mut c.unwrap-parts.ensures) in
    changed_err _ _ c.unwrap-parts.result.now c.add.new.self (λ f. f) (sym there) (written_here numbers n c.in-Some.place place c.get_index_mut.ensures.unique c.add.new.self) c.add.result c.add.ensures.unchanged

pub returns-in-Some-clause-others : goal.returns-in-Some-clause-others
returns-in-Some-clause-others c =
    let numbers = c.args.self.now.parts in
    let n = c.args.range.now.object.0 in
    written_elsewhere numbers n c.in-Some.place (subst (IsPlaceOf numbers n) c.in-Some.is c.requires.place) c.get_index_mut.ensures.unique c.add.new.self

pub add-requires-2-clause-counted : goal.add-requires-2-clause-counted
add-requires-2-clause-counted c = nothing_counted c.new-parts.result.table c.new-parts.ensures

pub invariant_of-self : goal.invariant_of-self
invariant_of-self c =
    let numbers = c.args.self.now.parts in
    let n = c.args.range.now.object.0 in
    let place = subst (IsPlaceOf numbers n) c.in-Some.is c.requires.place in
    let there = parts_at numbers n c.in-Some.place place c.unwrap-parts.result.now (sym c.get_index_mut.ensures.value ∙ ap option_copied_mut c.unwrap-parts.ensures) in
    let unique = c.get_index_mut.ensures.unique in
    record {
      none_empty = kept_parts (parts_of numbers) _ n (written_elsewhere numbers n c.in-Some.place place unique c.add.new.self) c.args.self.now.none_empty
          (parts_there c.add.result _ _ c.unwrap-parts.result.now c.add.new.self c.args.range.now.range (change_of_grant c.args.id c.args.mode)
          (sym there) (written_here numbers n c.in-Some.place place unique c.add.new.self) c.requires.counted (c.args.self.now.none_empty n) c.add.ensures.added c.add.ensures.unchanged);
    }

pub invariant_of-self-2 : goal.invariant_of-self-2
invariant_of-self-2 c =
    let number = c.args.range.now.object.0 in
    let done : IsOk c.insert.result = c.insert.ensures.succeeds c.in_ok-reserve.ensures.ok in
    let there = if_answered c.insert.result _ done c.insert.ensures.updates in
    record {
      none_empty = kept_parts (parts_of c.args.self.now.parts) _ number (λ n other. there.2 n (ne_eqb number n (λ same. other (sym same))) ∙ ap (lookup (nat_eq n)) c.reserve.ensures.entries) c.args.self.now.none_empty
          (λ p is none. parts_with_lock c.new-parts.result.table c.add-2.new.self.table (nothing_counted c.new-parts.result.table c.new-parts.ensures) c.args.range.now.range (change_of_grant c.args.id c.args.mode) c.in_ok-add.ensures.added
          (subst (λ (x : Parts). HasNoParts x.table) (Some-injective (sym is ∙ there.1)) none));
    }
