use Rattle.read_commands.specs.Json.{json_next}
use Rattle.read_commands.proofs.WrittenLists.{next_text}
use Rattle.read_commands.proofs.json_reports.write_rest.Goals as goal

pub loop-object-preserved : goal.loop-object-preserved
loop-object-preserved g c =
    let (front, written, left) = c.loop-object.invariant in
    next_text json_next c.args.objects.now c.loop-object.object-index (record { 0 = 0 }, 0) (g.W.Write.contents c.args.out.now) (g.W.Write.contents c.loop-object.out)
    (g.W.Write.contents c.write.new.self) front c.loop-object-test.true written left c.in_ok-write.ensures.bytes
