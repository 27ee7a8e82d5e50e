use Rattle.std.proofs.Common.{rules, ◌≡◌, ◌+◌, ◌*◌, subst, sym}
use Rattle.std.specs.Prelude.{Option, None}
use Rattle.extents.specs.declared.object.ObjectPatch.{ObjectPatch}
use Rattle.extents.specs.Objects.{LaysOver}
use Rattle.extents.specs.Tables.{entry_at, patch_in}
use Rattle.extents.proofs.SamePatches.{lays_nothing}
use Rattle.extents.proofs.extents.Extents.lay_over.Goals as goal

pub returns-in_default-clause-bytes : goal.returns-in_default-clause-bytes
returns-in_default-clause-bytes c =
    let none : entry_at c.args.self.now c.args.id.0 ≡ None = search rules in
    subst (λ (o : Option ObjectPatch). LaysOver (patch_in o) (4032 * c.args.index + c.args.start) c.args.below c.args.into.now c.args.into.now) (sym none)
    (lays_nothing (4032 * c.args.index + c.args.start) c.args.below c.args.into.now)
