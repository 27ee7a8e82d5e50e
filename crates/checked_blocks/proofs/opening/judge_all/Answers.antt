use Rattle.std.proofs.Common.{◌≡◌, [], arith}
use Rattle.std.proofs.lemmas.List.{append-nil, nil_from_length}
use Rattle.checked_blocks.proofs.opening.judge_all.Goals as goal

pub returns : goal.returns
returns c =
    let none : c.loop-left.left.now ≡ [] = nil_from_length c.loop-left.left.now (omega (arith, c.in_default.len_below)) in
    rw (append-nil c.loop-left.found.items) at (c.loop-left.invariant.1 [] (rw none tt))
