use Rattle.std.proofs.Common.{◌∙◌, inl, inr, ⊎_elim, sym, subst, arith}
use Rattle.std.proofs.lemmas.Bool.{eqb-true, leb-true}
use Rattle.base.specs.declared.pointer.Pointer.{Pointer}
use Rattle.base.specs.formats.Fields.{entry_in}
use Rattle.base.specs.tree.Damages.{IsPointerForm}
use Rattle.base.proofs.tree.Strips.{one_level-length}
use Rattle.tree_blocks.proofs.EntryForms.{absent-entry, absent_fields, present_fields, present_or_not, not_true}
use Rattle.tree_blocks.proofs.forms.is_short_entry.Goals as goal

pub returns-then-entry-eq0 : goal.returns-then-entry-eq0
returns-then-entry-eq0 c =
    let e = c.read_entry-entry.result in
    let r = c.read_entry-entry.ensures in (
      λ none. inl (absent-entry c.args.payload.now c.args.index e.present e.length e.pointer (omega (arith, c.requires.size, c.requires.in_range)) (λ i. let fits = c.type_inv.payload i in omega (arith, fits))
          r.present r.length r.pointer c.in-0.is c.if-entry-eq0.true (c.is_none.ensures.0 none)),
      λ form. c.is_none.ensures.1 (r.pointer ∙ (absent_fields (entry_in c.args.payload.now c.args.index) e.present form r.present (λ one. omega (arith, one, c.in-0.is))).1.1),
    )

pub returns-else-entry-eq0 : goal.returns-else-entry-eq0
returns-else-entry-eq0 c =
    let e = c.read_entry-entry.result in
    let r = c.read_entry-entry.ensures in (
      λ t. absurd (c.if-entry-eq0.false (eqb-true e.length 0 t)),
      λ form. absurd (c.if-entry-eq0.false (r.length ∙ (absent_fields (entry_in c.args.payload.now c.args.index) e.present form r.present (λ one. omega (arith, one, c.in-0.is))).1.0)),
    )

pub returns-then-entry-le-ONE_LEVEL_LENGTH : goal.returns-then-entry-le-ONE_LEVEL_LENGTH
returns-then-entry-le-ONE_LEVEL_LENGTH c =
    let e = c.read_entry-entry.result in
    let r = c.read_entry-entry.ensures in (
      λ t. inr (sym r.present ∙ c.in-1.is, omega (arith, r.length, c.if-entry-le-ONE_LEVEL_LENGTH.true, one_level-length), subst (λ (p : Pointer). IsPointerForm p) r.pointer (c.has_form.ensures.0 t)),
      λ form. c.has_form.ensures.1 (subst (λ (p : Pointer). IsPointerForm p) (sym r.pointer) (present_fields (entry_in c.args.payload.now c.args.index) e.present form r.present c.in-1.is).1),
    )

pub returns-else-entry-le-ONE_LEVEL_LENGTH : goal.returns-else-entry-le-ONE_LEVEL_LENGTH
returns-else-entry-le-ONE_LEVEL_LENGTH c =
    let e = c.read_entry-entry.result in
    let r = c.read_entry-entry.ensures in (
      λ t. absurd (let low = leb-true e.length 338688 t in omega (arith, low, c.if-entry-le-ONE_LEVEL_LENGTH.false)),
      λ form. let most = (present_fields (entry_in c.args.payload.now c.args.index) e.present form r.present c.in-1.is).0 in absurd (omega (arith, most, r.length, c.if-entry-le-ONE_LEVEL_LENGTH.false, one_level-length)),
    )

pub returns-in_default : goal.returns-in_default
returns-in_default c =
    let e = c.read_entry-entry.result in
    let r = c.read_entry-entry.ensures in
    (λ t. absurd (not_true t), λ form. let either = present_or_not (entry_in c.args.payload.now c.args.index) e.present form r.present in absurd (⊎_elim (λ zero. omega (arith, zero)) (λ one. omega (arith, one)) either))
