use Rattle.std.proofs.Common.{◌≡◌, ◌≤◌, ◌<◌, ◌*◌, ◌/◌, ap, length, get_or, arith}
use Rattle.std.proofs.lemmas.List.{get_or_read}
use Rattle.space.proofs.BitFlags.{flags_of-set, length-flags_of}
use Rattle.space.proofs.bit_flags.BitFlags.set.Goals as goal

pub index_mut-requires : goal.index_mut-requires
index_mut-requires c =
    omega (arith, c.requires, length-flags_of c.self.inside.count c.self.inside.words.items, ap length c.self.view_is, c.self.invariant.bits)

pub returns : goal.returns
returns c =
    let inside = c.self.inside in
    let words = inside.words.items in
    let low : c.args.index < inside.count = omega (arith, c.requires, length-flags_of inside.count words, ap length c.self.view_is) in
    let room : inside.count ≤ length words * 64 = omega (arith, c.self.invariant.bits, inside.words.ok.0) in
    let read : c.index_mut.result.now ≡ get_or words (c.args.index / 64) 0 = get_or_read words (c.args.index / 64) _ (omega (arith, low, room)) c.index_mut.ensures.value 0 in
    rw (← c.self.view_is) (flags_of-set inside.count words c.args.index _ low room read)
