use Rattle.std.proofs.Common.{◌≡◌, ◌*◌, get_or, arith}
use Rattle.std.proofs.lemmas.List.{get_or_read}
use Rattle.space.proofs.BitFlags.{clear_to, found_in_word, none_in_word, word_passed}
use Rattle.space.proofs.bit_flags.BitFlags.first_set.Goals as goal

pub returns-in-Some-clause-found : goal.returns-in-Some-clause-found
returns-in-Some-clause-found c =
    let inside = c.self.inside in
    let read : c.index.result.now ≡ get_or inside.words.items c.loop-index.index 0 =
    get_or_read inside.words.items _ _ (omega (arith, c.loop-index-test.true, c.div_ceil-index-end.ensures, c.min-end.ensures, c.self.invariant.bits, inside.words.ok.0)) c.index.ensures 0 in
    rw (← c.self.view_is)
    (found_in_word inside.count inside.words.items c.loop-index.index c.args.first c.args.last _ _ c.in-Some.bit _ c.loop-index.invariant read
    (rw c.saturating_sub.ensures at c.in-Some.ensures.found) c.min-end.ensures c.then_some.ensures)

pub returns-in-Some-clause-none : goal.returns-in-Some-clause-none
returns-in-Some-clause-none c =
    let inside = c.self.inside in
    let read : c.index.result.now ≡ get_or inside.words.items c.loop-index.index 0 =
    get_or_read inside.words.items _ _ (omega (arith, c.loop-index-test.true, c.div_ceil-index-end.ensures, c.min-end.ensures, c.self.invariant.bits, inside.words.ok.0)) c.index.ensures 0 in
    rw (← c.self.view_is)
    (none_in_word inside.count inside.words.items c.loop-index.index c.args.first c.args.last _ _ c.in-Some.bit _ c.loop-index.invariant read
    (rw c.saturating_sub.ensures at c.in-Some.ensures.found) c.min-end.ensures c.then_some.ensures)

pub loop-index-preserved : goal.loop-index-preserved
loop-index-preserved c =
    let inside = c.self.inside in
    let read : c.index.result.now ≡ get_or inside.words.items c.loop-index.index 0 =
    get_or_read inside.words.items _ _ (omega (arith, c.loop-index-test.true, c.div_ceil-index-end.ensures, c.min-end.ensures, c.self.invariant.bits, inside.words.ok.0)) c.index.ensures 0 in
    word_passed inside.count inside.words.items c.loop-index.index c.args.first _ c.loop-index.invariant read
    (rw c.saturating_sub.ensures at c.in_default.ensures.none)

pub returns-clause-none : goal.returns-clause-none
returns-clause-none c =
    rw (← c.self.view_is)
    (clear_to c.self.inside.count c.self.inside.words.items c.args.first c.args.last (c.loop-index.index * 64)
    (omega (arith, c.loop-index-test.false, c.div_ceil-index-end.ensures, c.min-end.ensures)) c.loop-index.invariant)
