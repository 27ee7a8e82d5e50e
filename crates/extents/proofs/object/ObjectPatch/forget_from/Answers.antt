use Rattle.std.proofs.Common.{rules, arith, ap, subst, sym, ◌≡◌, ◌<◌, ◌≤◌, ◌∙◌, ℕ, List, Option, Some, length, take}
use Rattle.std.specs.Prelude.{IfSome, get_or, slice_get}
use Rattle.std.proofs.lemmas.List.{take_all}
use Rattle.std.proofs.lemmas.Option.{slice_get-get_or}
use Rattle.extents.specs.Objects.{left_at_record, left_in_records, numbers_of, written_in}
use Rattle.extents.proofs.RecordCuts.{all_left, length-numbers, next_left, one_more}
use Rattle.extents.proofs.object.ObjectPatch.forget_from.Goals as goal

pub loop-place-preserved : goal.loop-place-preserved
loop-place-preserved c =
    let old = c.args.self.now in
    let numbers : List ℕ = numbers_of old in
    let place = c.loop-place.place in
    let index : ℕ = get_or numbers place 0 in
    let long : length numbers ≡ c.len-place-end.result = length-numbers old.records.entries ∙ search (rules, arith) in
    let fits : place < length numbers = omega (arith, long, c.loop-place-test.true) in
    let is : slice_get numbers place ≡ Some index = slice_get-get_or numbers place 0 fits in
    let at : slice_get (numbers_of c.loop-place.self) place ≡ Some index = ap (λ (l : List ℕ). slice_get l place) c.loop-place.invariant.numbers ∙ is in
    record {
      numbers = c.forget_at.ensures.numbers ∙ c.loop-place.invariant.numbers;
      stays = λ k had. c.forget_at.ensures.stays k (c.loop-place.invariant.stays k had);
      basis = c.forget_at.ensures.basis ∙ c.loop-place.invariant.basis;
      written = λ i.
          let left = subst (λ (o : Option ℕ). IfSome o (λ n. (j : ℕ) → written_in c.forget_at.new.self j ≡ left_at_record n c.args.offset (written_in c.loop-place.self) j)) at c.forget_at.ensures.written in
          left i ∙ next_left (take place numbers) index c.args.offset (written_in old) (written_in c.loop-place.self) c.loop-place.invariant.written i
          ∙ ap (λ (l : List ℕ). left_in_records l c.args.offset (written_in old) i) (sym (one_more numbers place index is));
    }

pub returns-clause-written : goal.returns-clause-written
returns-clause-written c =
    let old = c.args.self.now in
    let numbers : List ℕ = numbers_of old in
    let long : length numbers ≡ c.len-place-end.result = length-numbers old.records.entries ∙ search (rules, arith) in
    let done : length numbers ≤ c.loop-place.place = omega (arith, long, c.loop-place-test.false) in
    all_left old.records.entries c.args.offset (written_in c.loop-place.self)
    (λ j. c.loop-place.invariant.written j ∙ ap (λ (l : List ℕ). left_in_records l c.args.offset (written_in old) j) (take_all c.loop-place.place numbers done))
