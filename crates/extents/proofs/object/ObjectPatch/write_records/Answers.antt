use Rattle.std.proofs.Common.{◌∙◌}
use Rattle.extents.specs.Objects.{written_in}
use Rattle.extents.proofs.RecordWrites.{next_record}
use Rattle.extents.proofs.object.ObjectPatch.write_records.Goals as goal

pub loop-index-preserved : goal.loop-index-preserved
loop-index-preserved c = record {
  room = λ k begun reached. c.write_record.ensures.stays k (c.loop-index.invariant.room k begun reached);
  stays = λ k had. c.write_record.ensures.stays k (c.loop-index.invariant.stays k had);
  basis = c.write_record.ensures.basis ∙ c.loop-index.invariant.basis;
  written = λ i. c.write_record.ensures.written i
      ∙ next_record c.loop-index.index c.args.offset c.args.content.now (written_in c.args.self.now) (written_in c.loop-index.self) c.loop-index.invariant.written i;
}
