-- A sync with a new name: if the old view has its config in label 1, the even labels may be written first. No config
-- above the synced group counts, except for the one that it writes.
use Rattle.std.proofs.Common.{◌≡◌, ◌⊎◌, inl, inr, ℕ, zero, suc, ◌<◌, ◌≤◌, List, Some, None, sym, ◌∙◌, ap, subst, arith}
use Rattle.std.specs.Prelude.{◌≢◌, slice_get}
use Rattle.base.specs.formats.Geometry.{IsGeometry, config_place}
use Rattle.base.specs.disk.Disk.{Moment, Write, handed}
use Rattle.base.specs.disk.Fairness.{HandsOnly}
use Rattle.base.specs.kept.Views.{AreConfigsKnown, AreConfigsUpTo, IsConfigContent, View}
use Rattle.labels.specs.declared.stage.Stage.TheVariants.{Even}
use Rattle.labels.specs.Stages.{labels_of}
use Rattle.sync.specs.declared.run.LabelStages.{LabelStages}
use Rattle.sync.specs.declared.run.SyncRun.{SyncRun}
use Rattle.sync.specs.Phases.{HasConfigOf, IsWrittenNext, SyncViews}
use Rattle.sync.proofs.ConfigWrites.{configs_staged}

-- no even label is label 1
even-other : (k label : ℕ) → slice_get (labels_of Even) k ≡ Some label → label ≢ 1
even-other zero label at same = let is : 0 ≡ label = cc in omega (arith, is, same)
even-other (suc zero) label at same = let is : 2 ≡ label = cc in omega (arith, is, same)
even-other (suc (suc k)) label at same = absurd (let no_way : None ≡ Some label = at in cc)

-- the even labels come first where the old view has its config in label 1
pub even_first : (v : SyncViews) (config : List ℕ) → v.fixed.config ≡ 1 → config ≡ v.new.config → v.old.u.group < v.new.config_group → HasConfigOf (Some (record { config = config; first = Even })) v
even_first v config odd is above = (is, above, λ k label at same. even-other k label at (same ∙ odd))

-- where no config above a group counts, a config of a later group is the only one that may be chosen for it
pub known_anew : (size t : ℕ) (ws : List Write) (top : ℕ) (new : View) → top < new.config_group → AreConfigsUpTo size t ws new.u.guid top (λ group content. ⊥) → AreConfigsKnown size t ws new
known_anew size t ws top new above known label group name content below some is within = elim (known label group name content below some is) as (λ _. (group < new.config_group) ⊎ (content ≡ new.config)) [
  | inl low ↦ inl (omega (arith, low, above))
  | inr no_way ↦ absurd no_way
]

-- while its calls are made no config above the group counts but its own
pub configs_while : (run : SyncRun) (stages : LabelStages) (t guid top : ℕ) (IsOther : ℕ → List ℕ → Type 0) (before m : Moment) → IsGeometry run.geometry → run.stages ≡ Some stages
    → ((group : ℕ) (name : List ℕ) → IsConfigContent stages.config run.geometry guid group name → IsOther group stages.config) → AreConfigsUpTo run.geometry t (handed before) guid top IsOther
    → HandsOnly t (IsWrittenNext run) (handed before) m → AreConfigsUpTo run.geometry t (handed m) guid top IsOther
configs_while run stages t guid top IsOther before m sized staged own known hands label group name content below some is =
    elim (hands (config_place run.geometry label) content some) as (λ _. (group ≤ top) ⊎ IsOther group content) [
      | inl written ↦
          let made = configs_staged run sized label content below written in
          let both : Some stages ≡ Some made.0 = sym staged ∙ made.1 in
          let same : stages ≡ made.0 = cc in
          let bytes : content ≡ stages.config = made.2 ∙ ap (λ (s : LabelStages). s.config) (sym same) in
          inr (subst (λ (c : List ℕ). IsOther group c) (sym bytes) (own group name (subst (λ (c : List ℕ). IsConfigContent c run.geometry guid group name) bytes is)))
      | inr was ↦ known label group name content below was is
    ]
