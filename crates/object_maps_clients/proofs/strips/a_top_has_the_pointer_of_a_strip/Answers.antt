use Rattle.std.proofs.Common.{arith}
use Rattle.std.proofs.lemmas.Result.{on_ok_weaker}
use Rattle.object_maps_clients.proofs.strips.a_top_has_the_pointer_of_a_strip.Goals as goal

pub returns : goal.returns
returns g c = λ keeps pointers bytes holds. on_ok_weaker c.read_top.result (λ each. each 1 (omega arith)) (c.read_top.ensures.exact keeps pointers bytes holds)
