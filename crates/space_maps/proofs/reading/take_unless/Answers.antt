use Rattle.std.proofs.Common.{◌≡◌, ◌&&◌, ap, sym, ◌∙◌, refl}
use Rattle.space.specs.FreeSets.{after_take, is_free}
use Rattle.space_maps.proofs.TakenBlocks.{and_true, taken_here, taken_other}
use Rattle.space_maps.proofs.reading.take_unless.Goals as goal

pub returns-then-stays-clause-here : goal.returns-then-stays-clause-here
returns-then-stays-clause-here c = rw c.if-stays.true (and_true (is_free c.args.block c.args.free.now))

pub returns-clause-here : goal.returns-clause-here
returns-clause-here c =
    let s = c.args.free.now in
    rw c.if-stays.false (ap (is_free c.args.block) c.take.ensures ∙ taken_here s c.args.block)

pub returns-clause-others : goal.returns-clause-others
returns-clause-others c = λ k ne. ap (is_free k) c.take.ensures ∙ taken_other c.args.free.now c.args.block k ne
