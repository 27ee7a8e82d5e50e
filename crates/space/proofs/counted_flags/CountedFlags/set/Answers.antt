use Rattle.std.proofs.Common.{◌≡◌, ◌<◌, ◌/◌, ◌∙◌, ap, length, get_or, true, arith}
use Rattle.std.proofs.lemmas.List.{get_or_read, length-set}
use Rattle.space.proofs.Regions.{counted_set, fits_one}
use Rattle.space.proofs.counted_flags.CountedFlags.set.Goals as goal

pub overflow_add-index_mut : goal.overflow_add-index_mut
overflow_add-index_mut c =
    let inside = c.self.inside in
    let counts = inside.counts.items in
    let low : c.args.index < length inside.flags = rw (← c.self.view_is) at c.requires.within in
    let there : c.args.index / 32256 < length counts = omega (arith, low, c.self.invariant.regions, inside.counts.ok.0) in
    let read : c.index_mut.result.now ≡ get_or counts (c.args.index / 32256) 0 = get_or_read counts _ _ there c.index_mut.ensures.value 0 in
    let room = fits_one counts inside.flags c.args.index c.self.invariant.counts there low (rw (← c.self.view_is) at c.requires.clear) in
    omega (arith, read, room)

pub invariant_of-self : goal.invariant_of-self
invariant_of-self c =
    let inside = c.self.inside in
    let counts = inside.counts.items in
    let low : c.args.index < length inside.flags = rw (← c.self.view_is) at c.requires.within in
    let there : c.args.index / 32256 < length counts = omega (arith, low, c.self.invariant.regions, inside.counts.ok.0) in
    let read : c.index_mut.result.now ≡ get_or counts (c.args.index / 32256) 0 = get_or_read counts _ _ there c.index_mut.ensures.value 0 in
    let same = ap length c.set.ensures ∙ length-set inside.flags c.args.index true in
    record {
      regions = omega (arith, same, c.self.invariant.regions);
      counts = rw (c.set.ensures, read) (counted_set counts inside.flags c.args.index c.self.invariant.counts there low (rw (← c.self.view_is) at c.requires.clear));
      small = omega (arith, same, c.self.invariant.small);
    }
