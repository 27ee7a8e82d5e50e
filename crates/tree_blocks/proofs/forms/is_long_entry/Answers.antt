use Rattle.std.proofs.Common.{◌∙◌, sym, subst, arith}
use Rattle.base.specs.declared.pointer.Pointer.{Pointer}
use Rattle.base.specs.tree.Damages.{IsPointerForm}
use Rattle.base.proofs.tree.Strips.{one_level-length}
use Rattle.tree_blocks.proofs.EntryForms.{not_true}
use Rattle.tree_blocks.proofs.forms.is_long_entry.Goals as goal

pub returns-then-entry-le-ONE_LEVEL_LENGTH : goal.returns-then-entry-le-ONE_LEVEL_LENGTH
returns-then-entry-le-ONE_LEVEL_LENGTH c =
    let size = c.read_entry-entry.ensures.length in
    (λ t. absurd (not_true t), λ form. let long = form.1 in absurd (omega (arith, long, size, one_level-length, c.if-entry-le-ONE_LEVEL_LENGTH.true)))

pub returns : goal.returns
returns c =
    let r = c.read_entry-entry.ensures in (
      λ t. (
        sym r.present ∙ c.if-entry-ne2.false,
        omega (arith, r.length, one_level-length, c.if-entry-le-ONE_LEVEL_LENGTH.false),
        omega (arith, r.length, c.if-entry-gt-MAX_LENGTH.false),
        subst (λ (p : Pointer). IsPointerForm p) r.pointer (c.has_form.ensures.0 t),
      ),
      λ form. c.has_form.ensures.1 (subst (λ (p : Pointer). IsPointerForm p) (sym r.pointer) form.3),
    )
