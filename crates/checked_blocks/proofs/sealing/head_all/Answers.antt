use Rattle.std.proofs.Common.{rules, All, sym, subst}
use Rattle.std.proofs.lemmas.List.Elements.{All-cons}
use Rattle.checked_blocks.specs.Prepared.{IsPreparedBlock, headed_bytes}
use Rattle.checked_blocks.proofs.SealedBytes.{map-moved}
use Rattle.checked_blocks.proofs.sealing.head_all.Goals as goal

pub loop-block-preserved : goal.loop-block-preserved
loop-block-preserved c =
    let is = IsPreparedBlock c.args.kind c.args.guid c.args.group.0 in
    record {
      can = search rules;
      finite = search rules;
      headed = map-moved (λ h. h.bytes.value) (λ p. headed_bytes c.args.kind c.args.guid c.args.group.0 p.number p.bytes.value) _ _ _ _ _ _ _
          c.in_ok-push.ensures.items c.in-Some.ensures.steps.0 c.head.ensures.headed c.loop-block.invariant.headed;
      block = λ others. c.loop-block.invariant.block (subst (All is) (sym c.in-Some.ensures.steps.0) (All-cons is c.in-Some.block _ c.head.ensures.block others));
    }
