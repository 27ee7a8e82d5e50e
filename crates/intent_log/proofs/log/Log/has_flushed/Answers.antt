use Rattle.std.proofs.Common.{◌≡◌, ◌<◌, inl, inr, true, false, sym, subst, ◌∙◌, arith, rules, tests}
use Rattle.std.specs.List.{list_any, slice_range}
use Rattle.std.proofs.lemmas.Bool.{cases_lt}
use Rattle.std.proofs.lemmas.Iterator.Consumers.{YieldsList-from_deque}
use Rattle.std.proofs.lemmas.Iterator.Search.{any_from_yields_List}
use Rattle.base.specs.steps.Logs.{is_flushed_in}
use Rattle.intent_log.specs.Kept.{RunLog, log_shown}
use Rattle.intent_log.specs.Receipts.{committed}
use Rattle.intent_log.proofs.KeptBlocks.{flushed_has, has_receipt}
use Rattle.intent_log.proofs.Rising.{begins_before, found_from, newest_below, newest_has, newest_has_not, none_flushed_yet}
use Rattle.intent_log.proofs.log.Log.has_flushed.Goals as goal

pub returns-in_default : goal.returns-in_default
returns-in_default c =
    let receipt = c.args.receipt in
    let blocks = c.self.inside.blocks.items in
    let flushed = c.self.inside.flushed in
    let less : flushed < 1 = elim (cases_lt flushed 1) [
      | inl below ↦ below
      | inr some ↦ absurd (c.in_default.ensures some)
    ] in
    subst (λ (k : RunLog). false ≡ is_flushed_in (log_shown k) (committed receipt)) c.self.view_is
    (sym (none_flushed_yet receipt flushed blocks less) ∙ flushed_has receipt flushed blocks)

pub returns-then-newest-receipt : goal.returns-then-newest-receipt
returns-then-newest-receipt c =
    let receipt = c.args.receipt in
    let blocks = c.self.inside.blocks.items in
    let flushed = c.self.inside.flushed in
    let (some, last) = c.in-Some.ensures in
    let none =
    newest_below receipt c.in-Some.last flushed c.index-newest.result.now blocks (omega (arith, some, last)) (omega (arith, c.self.invariant.within)) c.index-newest.ensures c.self.invariant.rising
    c.if-newest-receipt.true in
    subst (λ (k : RunLog). false ≡ is_flushed_in (log_shown k) (committed receipt)) c.self.view_is
    (sym none ∙ flushed_has receipt flushed blocks)

pub returns-then-has : goal.returns-then-has
returns-then-has c =
    let receipt = c.args.receipt in
    let blocks = c.self.inside.blocks.items in
    let flushed = c.self.inside.flushed in
    let (some, last) = c.in-Some.ensures in
    let has =
    newest_has receipt c.in-Some.last flushed c.index-newest.result.now blocks (omega (arith, some, last)) (omega (arith, c.self.invariant.within)) c.index-newest.ensures (sym c.has.ensures ∙ c.if-has.true) in
    subst (λ (k : RunLog). true ≡ is_flushed_in (log_shown k) (committed receipt)) c.self.view_is
    (sym has ∙ flushed_has receipt flushed blocks)

pub range-requires-clause-start_le_end : goal.range-requires-clause-start_le_end
range-requires-clause-start_le_end c =
    let (some, last) = c.in-Some.ensures in
    let within = c.self.invariant.within in
    begins_before c.args.receipt.ordinal.0 c.first_to_reach-first.result c.in-Some.last c.index-newest.result.now c.self.inside.blocks.items (omega (arith, some, last, within))
    c.index-newest.ensures c.first_to_reach-first.ensures c.if-newest-receipt.false

pub returns : goal.returns
returns c =
    let receipt = c.args.receipt in
    let blocks = c.self.inside.blocks.items in
    let flushed = c.self.inside.flushed in
    let first = c.first_to_reach-first.result in
    let within = c.self.invariant.within in
    let (some, last) = c.in-Some.ensures in
    let le =
    begins_before receipt.ordinal.0 first c.in-Some.last c.index-newest.result.now blocks (omega (arith, some, last, within)) c.index-newest.ensures c.first_to_reach-first.ensures
    c.if-newest-receipt.false in
    let any : c.any.result ≡ list_any (has_receipt receipt) (slice_range blocks first c.in-Some.last) =
    any_from_yields_List (has_receipt receipt) _ _ _ c.any.ensures.ran (YieldsList-from_deque (slice_range blocks first c.in-Some.last) c.range.ensures.rest) (λ x b q k. search (rules, tests)) in
    let others =
    newest_has_not receipt c.in-Some.last flushed c.index-newest.result.now blocks (omega (arith, some, last)) (omega (arith, within)) c.index-newest.ensures (sym c.has.ensures ∙ c.if-has.false) in
    subst (λ (k : RunLog). c.any.result ≡ is_flushed_in (log_shown k) (committed receipt)) c.self.view_is
    (any ∙ found_from receipt first c.in-Some.last blocks le c.first_to_reach-first.ensures ∙ sym others ∙ flushed_has receipt flushed blocks)
