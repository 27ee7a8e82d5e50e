use Rattle.std.proofs.Common.{◌≡◌, Option, Some, true, false, subst, sym, ◌∙◌, ap, arith}
use Rattle.std.specs.Prelude.{slice_get}
use Rattle.std.specs.Option.{option_copied}
use Rattle.std.proofs.lemmas.Option.{slice_get_read}
use Rattle.base.specs.declared.error.PoolError.TheVariants.{NoPool}
use Rattle.base.specs.formats.Labels.{Config, IsCandidate}
use Rattle.labels.proofs.BestConfigs.{BestAmong-keeps, BestAmong-takes, IsNotHigher, held, held-none, higher-copied, not_higher, chosen, none_chosen}
use Rattle.labels.proofs.choice.choose.Goals as goal
use Rattle.labels.proofs.choice.choose.Goals.{in-Some+then-is_candidate+then-is_higher, in-Some+else-is_candidate, else-is_candidate-via-then-is_candidate+else-is_higher, else-is_candidate-via-else-is_candidate, in_default}

pub loop-config-init : goal.loop-config-init
loop-config-init c = λ k d below x. absurd (omega arith)

pub loop-config-preserved : goal.loop-config-preserved
loop-config-preserved c =
    let configs = c.args.configs.now in
    let i = c.loop-config.config-index in
    let best = option_copied c.loop-config.best in
    let at : slice_get c.args.configs.now c.loop-config.config-index ≡ Some c.config-item.result = slice_get_read configs 4 i c.config-item.result (sym c.type_inv.configs) c.loop-config-test.true c.config-item.is in
    elim c.match-config.branch [
      | in-Some+then-is_candidate+then-is_higher w ↦
          let fits = w.is_candidate.ensures.0 w.if-is_candidate.true in
          rw w.best-is (BestAmong-takes configs c.args.guid c.args.group.0 i best w.in-Some.config c.loop-config.invariant
          (at ∙ ap (λ (o : Option Config). Some o) (c.config-item.is ∙ w.in-Some.is), fits.0, fits.1)
          (higher-copied c.loop-config.best w.in-Some.config (w.is_higher.ensures.0 w.if-is_higher.true)))
      | in-Some+else-is_candidate w ↦ rw w.best-is (BestAmong-keeps configs c.args.guid c.args.group.0 i best c.loop-config.invariant
          (λ d candidate.
          let same : d ≡ w.in-Some.config = held configs c.args.guid c.args.group.0 i c.config-item.result d w.in-Some.config at (c.config-item.is ∙ w.in-Some.is) candidate in
          elim w.else-is_candidate.branch [
            | else-is_candidate-via-then-is_candidate+else-is_higher v ↦
                let P : Config → Type 0 = IsNotHigher best in
                subst P (sym same) (not_higher c.loop-config.best w.in-Some.config v.is_higher.result v.is_higher.ensures.1 v.if-is_higher.false)
            | else-is_candidate-via-else-is_candidate v ↦
                let there : IsCandidate configs c.args.guid c.args.group.0 i w.in-Some.config = let P : Config → Type 0 = IsCandidate configs c.args.guid c.args.group.0 i in subst P same candidate in
                let yes : w.is_candidate.result ≡ true = w.is_candidate.ensures.1 (there.1, there.2) in
                absurd (let e : true ≡ false = sym yes ∙ v.if-is_candidate.false in cc)
          ]))
      | in_default w ↦ rw w.best-is (BestAmong-keeps configs c.args.guid c.args.group.0 i best c.loop-config.invariant
          (λ d candidate. absurd (held-none configs c.args.guid c.args.group.0 i c.config-item.result d at (c.config-item.is ∙ w.in_default.is) candidate)))
    ]

pub returns-clause-chosen : goal.returns-clause-chosen
returns-clause-chosen c =
    rw c.ok_or.ensures.value (chosen c.args.configs.now c.args.guid c.args.group.0 c.loop-config.config-index (omega arith) NoPool c.loop-config.best c.loop-config.invariant)

pub returns-clause-none : goal.returns-clause-none
returns-clause-none c =
    rw c.ok_or.ensures.value (none_chosen c.args.configs.now c.args.guid c.args.group.0 c.loop-config.config-index (omega arith) NoPool c.loop-config.best c.loop-config.invariant)
