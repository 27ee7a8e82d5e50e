use Rattle.std.proofs.Common.{ℕ, List, ◌∙◌, ap}
use Rattle.space.specs.FreeSets.{FreeSpace, is_free}
use Rattle.mounted.specs.GivenBlocks.{after_gives}
use Rattle.mounted.proofs.GivenBlocks.{given_free}
use Rattle.mounted.proofs.clients.a_block_that_comes_back_is_free.Goals as goal

pub returns : goal.returns
returns c =
    ap (λ (s : FreeSpace). is_free 1 s) (c.give_all.ensures ∙ ap (λ (l : List ℕ). after_gives l c.args.free.now) c.requires.addresses)
    ∙ given_free c.args.free.now 4198400
