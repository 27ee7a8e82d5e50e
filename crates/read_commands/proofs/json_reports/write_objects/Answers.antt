use Rattle.std.proofs.lemmas.Result.{on_ok_weaker}
use Rattle.read_commands.proofs.WrittenLists.{objects_written}
use Rattle.read_commands.proofs.json_reports.write_objects.Goals as goal

pub returns : goal.returns
returns g c =
    on_ok_weaker c.writeln-2.result
    (λ end. objects_written c.args.objects.now c.in-Some.rest.now c.in-Some.first.now (g.W.Write.contents c.args.out.now) (g.W.Write.contents c.write.new.self)
    (g.W.Write.contents c.write_rest.new.out) (g.W.Write.contents c.writeln-2.new.self) c.in-Some.ensures.cases.0
    c.in_ok-write.ensures.bytes c.in_ok-write_rest.ensures end)
    c.writeln-2.ensures.bytes
