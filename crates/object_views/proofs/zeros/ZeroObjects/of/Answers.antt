use Rattle.std.proofs.Common.{ℕ, List, subst}
use Rattle.std.proofs.lemmas.List.{take_all}
use Rattle.base.specs.declared.names.ObjectId.{ObjectId}
use Rattle.object_views.specs.Zeros.{HasListedLengths}
use Rattle.object_views.proofs.ListedLengths.{in_range, lengths_more}
use Rattle.object_views.proofs.zeros.ZeroObjects.of.Goals as goal

pub set-requires : goal.set-requires
set-requires c = in_range c.args.objects.now c.loop-object.object-index (record { 0 = 0 }, 0) c.loop-object-test.true c.requires

pub loop-object-preserved : goal.loop-object-preserved
loop-object-preserved c =
    lengths_more c.args.objects.now c.loop-object.object-index (record { 0 = 0 }, 0) c.loop-object-test.true c.requires c.loop-object.zeros c.set.new.self c.loop-object.invariant
    c.set.ensures.length c.set.ensures.others

pub returns : goal.returns
returns c = subst (λ (l : List (ObjectId × ℕ)). HasListedLengths l c.loop-object.zeros) (take_all c.loop-object.object-index c.args.objects.now c.loop-object-test.false) c.loop-object.invariant
