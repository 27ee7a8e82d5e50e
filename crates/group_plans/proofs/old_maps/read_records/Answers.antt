use Rattle.std.proofs.Common.{◌∙◌, ℕ, inr, sym, subst}
use Rattle.std.proofs.lemmas.Result.{IfOk-weaker, err_from_is_err_and}
use Rattle.base.specs.declared.pointer.Pointer.{Pointer}
use Rattle.base.specs.disk.Disk.{bytes_of}
use Rattle.base.specs.tree.Places.{record_start}
use Rattle.base.specs.tree.Places.Place.{Data}
use Rattle.object_maps.specs.Cached.{IsPointerInside}
use Rattle.object_maps.proofs.ObjectReads.{records_formed}
use Rattle.group_plans.proofs.OldMaps.{of_memory}
use Rattle.group_plans.proofs.old_maps.read_records.Goals as goal

pub returns-in_err-read_indirect-clause-sound : goal.returns-in_err-read_indirect-clause-sound
returns-in_err-read_indirect-clause-sound g c = λ keeps pointers bytes holds long.
    let p = err_from_is_err_and c.from_residual.result c.from_residual.ensures.1 in
    rw (p.1, p.2) (inr (c.in_err-read_indirect.ensures.sound keeps pointers bytes holds))

pub returns-clause-exact : goal.returns-clause-exact
returns-clause-exact g c = λ keeps pointers bytes holds.
    IfOk-weaker c.records_in.result _ _ (λ l are k low. are k low ∙ c.in_ok-read_indirect.ensures.exact keeps pointers bytes holds k low) c.records_in.ensures.pointers

pub returns-clause-sound : goal.returns-clause-sound
returns-clause-sound g c = λ keeps pointers bytes holds long.
    of_memory c.records_in.result (c.records_in.ensures.sound (λ k low.
    subst (λ (p : Pointer). IsPointerInside c.args.frame.now.blocks c.args.size (record_start c.args.number k) p) (sym (c.in_ok-read_indirect.ensures.exact keeps pointers bytes holds k low))
    (subst (λ (s : ℕ). IsPointerInside c.args.frame.now.blocks s (record_start c.args.number k) (pointers (Data c.args.number k))) long
    (records_formed (bytes_of (g.B.SectorDevice.disk c.args.reader.now).now) c.args.frame.now c.args.number c.args.indirect.now pointers bytes c.requires.number holds k low))))
