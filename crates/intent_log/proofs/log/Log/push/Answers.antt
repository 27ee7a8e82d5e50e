use Rattle.std.proofs.Common.{◌≡◌, ◌+◌, ◌<◌, ap, sym, subst, arith}
use Rattle.base.specs.formats.Limits.{last_number}
use Rattle.intent_log.specs.Kept.{AreNumberedTo, AreRising, LeadUpTo, RunLog}
use Rattle.intent_log.specs.declared.kept_block.LogHeader.{LogHeader}
use Rattle.intent_log.proofs.KeptBlocks.{lead_on, numbered_at}
use Rattle.intent_log.proofs.Rising.{rises_on}
use Rattle.intent_log.proofs.log.Log.push.Goals as goal

pub invariant_of-self : goal.invariant_of-self
invariant_of-self c =
    let old = c.self.invariant in
    let n = c.self.inside.next.number in
    let less = subst (λ (l : RunLog). l.next.number < last_number) (sym c.self.view_is) c.requires.number in
    let block : c.new-block.result.header.number ≡ n = ap (λ (h : LogHeader). h.number) c.new-block.ensures.header in
    record {
      front = old.front;
      allowed = old.allowed;
      within = omega (arith, old.within, c.in-Ok.ensures.len);
      fits = omega (arith, less);
      numbered = subst (LeadUpTo (n + 1)) (sym c.in-Ok.ensures.items) (lead_on n c.self.inside.blocks.items c.new-block.result old.numbered block);
      rising =
          subst AreRising (sym c.in-Ok.ensures.items)
          (rises_on c.reach.result.0 c.self.inside.blocks.items c.new-block.result old.rising (c.reach.ensures old.rising) c.new-block.ensures.rises);
    }

pub returns-clause-numbered : goal.returns-clause-numbered
returns-clause-numbered c = subst AreNumberedTo c.self.view_is (numbered_at c.self.inside.next.number c.self.inside.flushed c.self.inside.blocks.items c.self.invariant.numbered)
