use Rattle.frames.proofs.Appended.{listed_have_room}
use Rattle.frames.proofs.writing.write_objects.Goals as goal

pub write_listed-requires : goal.write_listed-requires
write_listed-requires c = listed_have_room c.args.listed.now c.loop-object.object-index c.loop-object-test.true c.args.out.now c.loop-object.out c.requires c.loop-object.invariant
