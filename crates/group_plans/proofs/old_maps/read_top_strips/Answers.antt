use Rattle.std.proofs.Common.{◌∙◌, ℕ, inr, sym, subst}
use Rattle.std.proofs.lemmas.Result.{IfOk-weaker, err_from_is_err_and}
use Rattle.base.specs.declared.pointer.Pointer.{Pointer}
use Rattle.base.specs.disk.Disk.{bytes_of}
use Rattle.base.specs.tree.Places.{strip_number, strip_start}
use Rattle.base.specs.tree.Places.Place.{Indirect}
use Rattle.object_maps.specs.Cached.{IsPointerInside}
use Rattle.group_plans.proofs.OldMaps.{of_memory, strips_formed}
use Rattle.group_plans.proofs.old_maps.read_top_strips.Goals as goal

pub returns-in_err-read_top-clause-sound : goal.returns-in_err-read_top-clause-sound
returns-in_err-read_top-clause-sound g c = λ keeps pointers bytes holds long.
    let p = err_from_is_err_and c.from_residual.result c.from_residual.ensures.1 in
    rw (p.1, p.2) (inr (c.in_err-read_top.ensures.sound keeps pointers bytes holds))

pub returns-clause-exact : goal.returns-clause-exact
returns-clause-exact g c = λ keeps pointers bytes holds.
    IfOk-weaker c.strips_in.result _ _ (λ l are j low. are j low ∙ c.in_ok-read_top.ensures.exact keeps pointers bytes holds j low) c.strips_in.ensures.pointers

pub returns-clause-sound : goal.returns-clause-sound
returns-clause-sound g c = λ keeps pointers bytes holds long.
    of_memory c.strips_in.result (c.strips_in.ensures.sound (λ j low.
    subst (λ (p : Pointer). IsPointerInside c.args.frame.now.blocks c.args.size (strip_start j) p) (sym (c.in_ok-read_top.ensures.exact keeps pointers bytes holds j low))
    (subst (λ (s : ℕ). IsPointerInside c.args.frame.now.blocks s (strip_start j) (pointers (Indirect (strip_number c.args.id.0 j)))) long
    (strips_formed (bytes_of (g.B.SectorDevice.disk c.args.reader.now).now) c.args.frame.now c.args.id.0 c.args.top.now pointers bytes c.requires.number holds j low))))
