use Rattle.std.proofs.KnownBytes.{Appends-trans}
use Rattle.std.proofs.lemmas.Result.{on_ok_weaker}
use Rattle.std.specs.Prelude.{codes}
use Rattle.read_commands.specs.Json.{json_objects}
use Rattle.read_commands.proofs.json_reports.write_listed.Goals as goal

pub returns : goal.returns
returns g c =
    let before = g.W.Write.contents c.args.out.now in
    let between = g.W.Write.contents c.write.new.self in
    let after = g.W.Write.contents c.write_objects.new.out in
    on_ok_weaker c.write_objects.result
    (λ written. Appends-trans before between after (codes "{\"objects\":") (json_objects c.args.objects.now) c.in_ok-write.ensures.bytes written)
    c.write_objects.ensures
