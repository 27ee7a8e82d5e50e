use Rattle.std.proofs.Common.{◌≡◌, ◌*◌, ◌<◌, ◌∙◌, get_or, length, sym, arith}
use Rattle.std.proofs.lemmas.List.{get_or_read}
use Rattle.space.proofs.Regions.{region_clear}
use Rattle.space.proofs.counted_flags.CountedFlags.first_in.Goals as goal

pub returns-then-index-eq0-clause-none : goal.returns-then-index-eq0-clause-none
returns-then-index-eq0-clause-none c k low high =
    let inside = c.self.inside in
    let some : c.args.region * 32256 < length inside.flags = rw (← c.self.view_is) at c.requires in
    let there : c.args.region < length inside.counts.items = omega (arith, some, c.self.invariant.regions, inside.counts.ok.0) in
    let read : c.index.result.now ≡ get_or inside.counts.items c.args.region 0 = get_or_read inside.counts.items _ _ there c.index.ensures 0 in
    rw (← c.self.view_is)
    (region_clear inside.counts.items inside.flags c.args.region c.self.invariant.counts there (sym read ∙ c.if-index-eq0.true) k (omega (arith, low)) high)
