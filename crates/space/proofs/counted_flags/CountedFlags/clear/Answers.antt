use Rattle.std.proofs.Common.{◌≡◌, ◌<◌, ◌/◌, ◌∙◌, ap, length, get_or, true, false, arith}
use Rattle.std.proofs.lemmas.List.{get_or_read, length-set}
use Rattle.space.proofs.Regions.{counted_cleared, has_one}
use Rattle.space.proofs.SetFlags.{set_within}
use Rattle.space.proofs.counted_flags.CountedFlags.clear.Goals as goal

pub overflow_sub-index_mut : goal.overflow_sub-index_mut
overflow_sub-index_mut c =
    let inside = c.self.inside in
    let counts = inside.counts.items in
    let is : get_or inside.flags c.args.index false ≡ true = rw (← c.self.view_is) at c.requires in
    let there : c.args.index / 32256 < length counts = omega (arith, set_within inside.flags c.args.index is, c.self.invariant.regions, inside.counts.ok.0) in
    let read : c.index_mut.result.now ≡ get_or counts (c.args.index / 32256) 0 = get_or_read counts _ _ there c.index_mut.ensures.value 0 in
    omega (arith, read, has_one counts inside.flags c.args.index c.self.invariant.counts there is)

pub invariant_of-self : goal.invariant_of-self
invariant_of-self c =
    let inside = c.self.inside in
    let counts = inside.counts.items in
    let is : get_or inside.flags c.args.index false ≡ true = rw (← c.self.view_is) at c.requires in
    let low = set_within inside.flags c.args.index is in
    let there : c.args.index / 32256 < length counts = omega (arith, low, c.self.invariant.regions, inside.counts.ok.0) in
    let read : c.index_mut.result.now ≡ get_or counts (c.args.index / 32256) 0 = get_or_read counts _ _ there c.index_mut.ensures.value 0 in
    let same = ap length c.clear.ensures ∙ length-set inside.flags c.args.index false in
    record {
      regions = omega (arith, same, c.self.invariant.regions);
      counts = rw (c.clear.ensures, read) (counted_cleared counts inside.flags c.args.index c.self.invariant.counts there low is);
      small = omega (arith, same, c.self.invariant.small);
    }
