use Rattle.std.proofs.Common.{◌≡◌, [], ◌<◌, ◌-◌, length, refl, subst, arith}
use Rattle.base.specs.steps.Logs.{blocks_before}
use Rattle.intent_log.specs.Kept.{AreRising, IsFrontGiven, LeadUpTo, RunLog, header_fields, shown_blocks}
use Rattle.intent_log.proofs.KeptBlocks.{front_given, none_before}
use Rattle.intent_log.proofs.Rising.{rises_behind}
use Rattle.intent_log.proofs.log.Log.give_back.Goals as goal

pub returns-then-branch-header-clause-none : goal.returns-then-branch-header-clause-none
returns-then-branch-header-clause-none c =
    let header = header_fields c.args.header in
    let there = c.in_ok-front.ensures.variant.0 refl in
    let some : 0 < length c.self.inside.blocks.items = omega (arith, there) in
    subst (λ (k : RunLog). blocks_before header k.kept ≡ []) c.self.view_is
    (none_before header c.self.inside.next.number c.self.inside.flushed c.in_ok-front.field-0.now c.self.inside.blocks.items c.self.invariant.numbered some
    c.in_ok-front.ensures.lookup c.if-branch-header.true)

pub returns-clause-given : goal.returns-clause-given
returns-clause-given c =
    let less : c.saturating_sub-self-inside.result ≡ c.self.inside.flushed - 1 = c.saturating_sub-self-inside.ensures in
    let below : c.in_ok-front.field-0.now.header.number < c.args.header.number = omega (arith, c.if-branch-header.false) in
    subst (λ (k : RunLog). IsFrontGiven (header_fields c.args.header) k.kept (shown_blocks c.saturating_sub-self-inside.result c.pop_front.new.self.items) c.in_ok-block.block.header.address) c.self.view_is
    (front_given c.self.inside.flushed c.saturating_sub-self-inside.result c.in_ok-block.block c.in_ok-front.field-0.now c.self.inside.blocks.items c.pop_front.new.self.items
    c.args.header c.in_ok-block.ensures.items c.in_ok-front.ensures.lookup less below)

pub invariant_of-self-2 : goal.invariant_of-self-2
invariant_of-self-2 c =
    let old = c.self.invariant in
    let items = c.in_ok-block.ensures.items in
    let within = old.within in
    record {
      front = old.front;
      allowed = old.allowed;
      within = omega (arith, within, c.saturating_sub-self-inside.ensures, c.in_ok-block.ensures.len);
      fits = old.fits;
      numbered = (subst (LeadUpTo c.self.inside.next.number) items old.numbered).1;
      rising = rises_behind c.in_ok-block.block c.pop_front.new.self.items (subst AreRising items old.rising);
    }
