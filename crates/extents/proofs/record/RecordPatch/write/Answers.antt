use Rattle.std.proofs.Common.{refl}
use Rattle.extents.proofs.MaskedBytes.{put_marks, written_after_zeros, zeros_are_marks}
use Rattle.extents.proofs.record.RecordPatch.write.Goals as goal

pub invariant_of-self-clause-marked : goal.invariant_of-self-clause-marked
invariant_of-self-clause-marked c =
    rw (c.mark.ensures.marks, c.extend_to-2.ensures.bytes) (put_marks c.args.offset _ _ _ refl (zeros_are_marks _ c.args.self.now.mask.items c.args.self.now.marked))

pub returns : goal.returns
returns c = λ k. rw (c.overwrite.ensures.bytes, c.mark.ensures.marks, c.extend_to.ensures.bytes, c.extend_to-2.ensures.bytes)
    (written_after_zeros c.args.offset c.args.content.now c.args.self.now.bytes.items c.args.self.now.mask.items k)
