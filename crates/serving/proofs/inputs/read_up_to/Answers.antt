use Rattle.std.proofs.Common.{◌-◌, rules, length, subst}
use Rattle.std.specs.Io.KnownBytes.{Consumes}
use Rattle.std.proofs.KnownBytes.{Consumes-trans}
use Rattle.serving.proofs.ReadParts.{read_more}
use Rattle.serving.proofs.inputs.read_up_to.Goals as goal

pub loop-at-preserved : goal.loop-at-preserved
loop-at-preserved g c =
    let from = c.loop-at.at in
    let room = length c.loop-at.into - from in
    let more = read_more from room c.in-Ok.count c.loop-at.into c.read_some.new.into c.loop-at.invariant.1 c.in-Ok.ensures.most in
    (search rules, search rules, subst (Consumes _ _) more (Consumes-trans _ _ _ _ _ c.loop-at.invariant.2 c.in-Ok.ensures.reads))
