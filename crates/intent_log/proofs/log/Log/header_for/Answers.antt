use Rattle.std.proofs.Common.{◌≡◌, ap, sym, subst, ◌∙◌, arith, rules, tests}
use Rattle.std.specs.Prelude.{Some, None, option_map, find}
use Rattle.std.proofs.lemmas.Iterator.Consumers.{YieldsList-from_deque}
use Rattle.std.proofs.lemmas.Iterator.Search.{find_from_yields_List}
use Rattle.base.specs.steps.Logs as logs
use Rattle.base.proofs.steps.KeptSyncs.{AreNumbered}
use Rattle.intent_log.specs.Kept.{RunLog, header_fields, log_shown}
use Rattle.intent_log.proofs.KeptBlocks.{found_low, header_found, needs_block, numbered_at}
use Rattle.intent_log.proofs.RunLogs.{header_starts}
use Rattle.intent_log.proofs.log.Log.header_for.Goals as goal

pub returns-in-Some-clause-header : goal.returns-in-Some-clause-header
returns-in-Some-clause-header c =
    let group = c.args.group.0 in
    let begun = c.self.inside.begun in
    let blocks = c.self.inside.blocks.items in
    let found : option_map (λ y. y.now) c.find.result ≡ find (needs_block group begun) blocks =
    find_from_yields_List (needs_block group begun) _ _ _ c.find.ensures.ran (YieldsList-from_deque blocks c.iter.ensures.rest) (λ x b q k. search (rules, tests)) in
    subst (λ (l : RunLog). header_fields c.in-Some.block.now.header ≡ logs.header_for group (log_shown l)) c.self.view_is
    (header_found group begun c.self.inside.flushed blocks (header_fields c.self.inside.next) (Some c.in-Some.block.now) (sym (ap (λ o. option_map (λ y. y.now) o) c.in-Some.is) ∙ found))

pub returns-in-None-clause-header : goal.returns-in-None-clause-header
returns-in-None-clause-header c =
    let group = c.args.group.0 in
    let begun = c.self.inside.begun in
    let blocks = c.self.inside.blocks.items in
    let found : option_map (λ y. y.now) c.find.result ≡ find (needs_block group begun) blocks =
    find_from_yields_List (needs_block group begun) _ _ _ c.find.ensures.ran (YieldsList-from_deque blocks c.iter.ensures.rest) (λ x b q k. search (rules, tests)) in
    subst (λ (l : RunLog). header_fields c.self.inside.next ≡ logs.header_for group (log_shown l)) c.self.view_is
    (header_found group begun c.self.inside.flushed blocks (header_fields c.self.inside.next) None (sym (ap (λ o. option_map (λ y. y.now) o) c.in-None.is) ∙ found))

pub returns-in-Some-clause-fits : goal.returns-in-Some-clause-fits
returns-in-Some-clause-fits c =
    let group = c.args.group.0 in
    let begun = c.self.inside.begun in
    let blocks = c.self.inside.blocks.items in
    let found : option_map (λ y. y.now) c.find.result ≡ find (needs_block group begun) blocks =
    find_from_yields_List (needs_block group begun) _ _ _ c.find.ensures.ran (YieldsList-from_deque blocks c.iter.ensures.rest) (λ x b q k. search (rules, tests)) in
    let low = found_low (needs_block group begun) c.self.inside.next.number blocks c.in-Some.block.now c.self.invariant.numbered (sym (ap (λ o. option_map (λ y. y.now) o) c.in-Some.is) ∙ found) in
    let fits = c.self.invariant.fits in
    omega (arith, low, fits)

pub returns-in-Some-clause-keeps : goal.returns-in-Some-clause-keeps
returns-in-Some-clause-keeps c = λ synced x.
    let numbered = subst (λ (l : RunLog). AreNumbered (log_shown l)) c.self.view_is (numbered_at c.self.inside.next.number c.self.inside.flushed c.self.inside.blocks.items c.self.invariant.numbered) in
    header_starts c.args.group.0 _ _ numbered x.balanced (returns-in-Some-clause-header c)

pub returns-in-None-clause-keeps : goal.returns-in-None-clause-keeps
returns-in-None-clause-keeps c = λ synced x.
    let numbered = subst (λ (l : RunLog). AreNumbered (log_shown l)) c.self.view_is (numbered_at c.self.inside.next.number c.self.inside.flushed c.self.inside.blocks.items c.self.invariant.numbered) in
    header_starts c.args.group.0 _ _ numbered x.balanced (returns-in-None-clause-header c)
