use Rattle.std.proofs.lemmas.Result.{on_ok_weaker}
use Rattle.std.specs.Prelude.{codes}
use Rattle.read_commands.specs.Json.{json_lost}
use Rattle.read_commands.proofs.WrittenLists.{three_written}
use Rattle.read_commands.proofs.json_checks.write_labels.Goals as goal

pub returns : goal.returns
returns g c =
    on_ok_weaker c.writeln.result
    (λ end. three_written (g.W.Write.contents c.args.out.now) (g.W.Write.contents c.write.new.self) (g.W.Write.contents c.write_lost.new.out) (g.W.Write.contents c.writeln.new.self)
    (codes ",\"labels\":[") (json_lost c.args.labels.now) (codes "]}\n")
    c.in_ok-write.ensures.bytes c.in_ok-write_lost.ensures end)
    c.writeln.ensures.bytes
