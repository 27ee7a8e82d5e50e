use Rattle.std.proofs.Common.{◌++◌}
use Rattle.std.proofs.lemmas.Result.{on_ok_weaker}
use Rattle.std.specs.List.{flat_map}
use Rattle.std.specs.Prelude.{codes}
use Rattle.read_commands.specs.Json.{json_damage, json_more}
use Rattle.read_commands.proofs.WrittenLists.{three_written}
use Rattle.read_commands.proofs.json_checks.write_damages.Goals as goal

pub returns : goal.returns
returns g c =
    on_ok_weaker c.write-2.result
    (λ end. three_written (g.W.Write.contents c.args.out.now) (g.W.Write.contents c.write.new.self) (g.W.Write.contents c.write_more.new.out) (g.W.Write.contents c.write-2.new.self)
    (codes "{\"state\":\"damaged\",\"damages\":[" ++ json_damage c.args.first.kind c.args.first.address) (flat_map json_more c.args.rest.now) (codes "]")
    c.in_ok-write.ensures.bytes c.in_ok-write_more.ensures end)
    c.write-2.ensures.bytes
