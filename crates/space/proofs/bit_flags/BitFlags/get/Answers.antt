use Rattle.std.proofs.Common.{◌≡◌, ◌/◌, get_or, arith}
use Rattle.std.proofs.lemmas.Bool.{le-ltb}
use Rattle.std.proofs.lemmas.List.{get_or_read}
use Rattle.space.proofs.BitFlags.{flag_read, flags_past}
use Rattle.space.proofs.bit_flags.BitFlags.get.Goals as goal

pub returns-then-index-self : goal.returns-then-index-self
returns-then-index-self c =
    let inside = c.self.inside in
    let there = c.if-index-self.true in
    let read : c.index.result.now ≡ get_or inside.words.items (c.args.index / 64) 0 =
    get_or_read inside.words.items _ _ (omega (arith, there, c.self.invariant.bits, inside.words.ok.0)) c.index.ensures 0 in
    rw (← c.self.view_is) (flag_read inside.count inside.words.items c.args.index _ there read)

pub returns-else-index-self : goal.returns-else-index-self
returns-else-index-self c =
    let past = c.if-index-self.false in
    rw (← c.self.view_is) (rw (flags_past c.self.inside.count c.self.inside.words.items c.args.index (omega (arith, past))) (le-ltb _ _ (omega (arith, past))))
