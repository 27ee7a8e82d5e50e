use Rattle.std.proofs.Common.{◌∙◌, ap, length, arith, rules}
use Rattle.std.proofs.lemmas.List.{length-replicate}
use Rattle.space.proofs.Regions.{all_counted}
use Rattle.space.proofs.counted_flags.CountedFlags.all_set.Goals as goal

pub invariant_of-result : goal.invariant_of-result
invariant_of-result c =
    let items = c.in_ok-counts.ensures.items_if_clones_equal (search rules) in
    record {
      regions = (let count = ap length c.in_ok-flags.ensures.set ∙ length-replicate c.args.count _ in omega (arith, count, c.in_ok-counts.ensures.len));
      counts = rw items (all_counted c.args.count c.in_ok-flags.flags c.in_ok-flags.ensures.set);
      small = c.in_ok-flags.ensures.small;
    }
