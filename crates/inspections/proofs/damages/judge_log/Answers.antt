use Rattle.std.proofs.Common.{◌≡◌, ◌∙◌, ◌++◌, ◌∷◌, ℕ, List, [], ap, subst}
use Rattle.base.specs.declared.error.PoolError.{PoolError}
use Rattle.base.specs.declared.error.PoolError.TheVariants.{Damaged}
use Rattle.base.specs.tree.Mount.{IsChainDamaged}
use Rattle.log_replay.specs.Replays.{IsReplayCause}
use Rattle.trees.specs.declared.damages.BlockDamage.{BlockDamage}
use Rattle.inspections.proofs.PoolDamages.{log_damage}
use Rattle.inspections.proofs.damages.judge_log.Goals as goal

pub returns-in_ok-push-in-Err-Damaged-clause-found : goal.returns-in_ok-push-in-Err-Damaged-clause-found
returns-in_ok-push-in-Err-Damaged-clause-found c = λ image read.
    let arm = c.in-Err-Damaged in
    let damage : BlockDamage = record { kind = arm.kind; address = arm.address } in
    log_damage image arm.kind arm.address c.push.new.self.items (subst IsReplayCause arm.field-0-is arm.ensures.cause)
    (subst (λ (e : PoolError). (a : ℕ) → e ≡ Damaged 6 a → IsChainDamaged image a) arm.field-0-is (arm.ensures.damaged image read))
    (c.in_ok-push-in-Err-Damaged.ensures.items ∙ ap (λ (l : List BlockDamage). l ++ damage ∷ []) c.new-damages.ensures.items)
