use Rattle.std.proofs.Common.{◌∙◌, refl, sym, ap, length, take, arith}
use Rattle.base.specs.formats.Geometry.{block_address}
use Rattle.space.proofs.Counts.{one_there}
use Rattle.space.proofs.FreeLists.{free_from-0, length-rising}
use Rattle.space.proofs.free_set.FreeSet.take_lowest.Goals as goal

pub returns-in-Some-clause-lowest : goal.returns-in-Some-clause-lowest
returns-in-Some-clause-lowest c = record {
  within = c.in-Some.ensures.within;
  free = c.in-Some.ensures.free;
  below = c.in-Some.ensures.skipped;
  first = ap (take 1) (sym (free_from-0 c.args.self.now.free) ∙ c.in-Some.ensures.lowest);
}

pub returns-in-Some-clause-refused : goal.returns-in-Some-clause-refused
returns-in-Some-clause-refused c =
    (λ is. absurd (cc), λ none. absurd (let one = one_there c.args.self.now.free (block_address c.in-Some.block) c.in-Some.ensures.free in omega (arith, one, none)))

pub returns-in-None-clause-refused : goal.returns-in-None-clause-refused
returns-in-None-clause-refused c =
    (λ _. sym (length-rising c.args.self.now.free) ∙ ap length (sym (free_from-0 c.args.self.now.free) ∙ c.in-None.ensures.none), λ _. refl)
