use Rattle.std.proofs.Common.{◌≡◌, ◌*◌, ℕ, List, Option, Some, None, IfNone, length, subst, ◌∙◌, rules}
use Rattle.object_names.specs.NameTables.{AreDistinct, IsNamed}
use Rattle.object_names.proofs.NamesFound.{not_named, one_number}
use Rattle.object_names.proofs.name_table.NameTable.find.Goals as goal

if_none : {X : Type 0} (o : Option X) (P : Type 0) → P → IfNone o P
if_none (Some x) P p = tt
if_none None P p = p

none_is : {X : Type 0} (o : Option X) (P : Type 0) → o ≡ None → IfNone o P → P
none_is (Some x) P e p = cc
none_is None P e p = p

pub returns-in_err-number-clause-none : goal.returns-in_err-number-clause-none
returns-in_err-number-clause-none c =
    let same : c.as_slice-bytes.result.now ≡ c.args.self.now = c.as_slice-bytes.ensures ∙ c.self.view_is in
    let size : 256 * c.slot_count.result ≡ length c.as_slice-bytes.result.now = c.slot_count.ensures.count in
    let none = none_is c.first_with.result _ c.in_err-number.was c.first_with.ensures.none in
    if_none c.from_residual.result ((n : ℕ) → IsNamed c.args.self.now n c.args.name.now → ⊥)
    (subst (λ (bytes : List ℕ). (n : ℕ) → IsNamed bytes n c.args.name.now → ⊥) same (not_named c.as_slice-bytes.result.now c.args.name.now c.slot_count.result size none))

pub returns-clause-only : goal.returns-clause-only
returns-clause-only c = λ n is.
    let distinct = subst AreDistinct c.self.view_is c.self.invariant.distinct in
    one_number c.args.self.now n c.in_ok-number.number c.args.name.now distinct is (search rules)
