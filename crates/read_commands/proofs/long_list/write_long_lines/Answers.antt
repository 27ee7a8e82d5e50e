use Rattle.read_commands.specs.ObjectBlocks.{long_line}
use Rattle.read_commands.proofs.WrittenLists.{next_text}
use Rattle.read_commands.proofs.long_list.write_long_lines.Goals as goal

pub loop-object-preserved : goal.loop-object-preserved
loop-object-preserved g c =
    let (front, written, left) = c.loop-object.invariant in
    next_text long_line c.args.objects.now c.loop-object.object-index (record { 0 = 0 }, 0) (g.W.Write.contents c.args.out.now) (g.W.Write.contents c.loop-object.out)
    (g.W.Write.contents c.writeln.new.self) front c.loop-object-test.true written left c.in_ok-writeln.ensures.bytes
