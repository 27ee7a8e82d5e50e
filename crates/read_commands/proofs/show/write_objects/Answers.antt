use Rattle.read_commands.proofs.PoolLines.{next_object}
use Rattle.read_commands.proofs.show.write_objects.Goals as goal

pub loop-object-preserved : goal.loop-object-preserved
loop-object-preserved g c =
    let (front, written, left) = c.loop-object.invariant in
    next_object c.args.objects.now c.loop-object.object-index (record { 0 = 0 }, 0) (g.W.Write.contents c.args.out.now) (g.W.Write.contents c.loop-object.out)
    (g.W.Write.contents c.writeln.new.self) front c.loop-object-test.true written left c.in-Ok.ensures.bytes
