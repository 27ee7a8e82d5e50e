-- While a sync with a new name writes its config, label by label, the old config is chosen for each group below the new
-- one's. The new config is chosen from its group on, once label 0 has it.
use Rattle.std.proofs.Common.{◌≡◌, ℕ, zero, suc, ◌+◌, ◌<◌, ◌≤◌, List, length, ap, refl, sym, subst, ◌∙◌, arith, ◌⊎◌, inl, inr}
use Rattle.std.specs.Prelude.{◌≢◌}
use Rattle.std.proofs.lemmas.Bool.{cases_lt, cases_order}
use Rattle.base.specs.formats.Fields.{part}
use Rattle.base.specs.formats.Geometry.{block_size, config_place, IsGeometry}
use Rattle.base.specs.formats.Blocks.{IsBlock}
use Rattle.base.specs.formats.Labels.{IsConfig, IsChosen}
use Rattle.base.specs.kept.Views.{IsConfigContent}
use Rattle.base.specs.disk.Disk.{put, Apart}
use Rattle.base.specs.kept.LabelConfigs.{HaveConfigs, stage_place}
use Rattle.base.proofs.disk.Put.{length-put, part-put_same, part-put_apart}
use Rattle.base.proofs.disk.WrittenLabels.{SameConfigs, config-along, config-fits}
use Rattle.base.proofs.formats.Geometry.{labels-apart}

-- the order of the stages is its own inverse
stage-twice : (label : ℕ) → label < 4 → (stage_place label < 4) × (stage_place (stage_place label) ≡ label)
stage-twice zero below = (omega arith, refl)
stage-twice (suc zero) below = (omega arith, refl)
stage-twice (suc (suc zero)) below = (omega arith, refl)
stage-twice (suc (suc (suc zero))) below = (omega arith, refl)
stage-twice (suc (suc (suc (suc k)))) below = absurd (omega (arith, below))

pub stage-within : (label : ℕ) → label < 4 → stage_place label < 4
stage-within label below = (stage-twice label below).0

-- one label has a config of one group
one-group : (image : List ℕ) (label guid g h : ℕ) (x y : List ℕ) → IsConfig image label guid g x → IsConfig image label guid h y → h ≡ g
one-group image label guid g h x y is other = sym other.block.group_is ∙ is.block.group_is

module _ (image : List ℕ) (guid low count : ℕ) (name new : List ℕ) (have : HaveConfigs image guid low name new count) where
  -- while no label has the new config, the old one is chosen for each group from its own on
  pub unstaged-chosen : count ≡ 0 → (bound : ℕ) → low ≤ bound → IsChosen image guid bound low name
  unstaged-chosen none bound within = record {
    label = 0;
    in_range = omega arith;
    stands = have.left 0 (omega arith) (omega (arith, none));
    not_above = within;
    highest = λ k g other below not_above is. let same = one-group image k guid low g name other (have.left k below (omega (arith, none))) is in omega (arith, same);
    lowest = λ k other before is. omega (arith, before);
  }

  module _ (high : ℕ) (named : List ℕ) (content : IsConfigContent new (length image) guid high named) (above : low < high) where
    -- a label that is written has the new config
    pub staged-config : (label : ℕ) → label < 4 → stage_place label < count → IsConfig image label guid high named
    staged-config label below less = record {
      payload = content.payload;
      block = subst (λ (bytes : List ℕ). IsBlock bytes 1 guid high 0 content.payload) (sym (have.written label below less)) content.block;
      fields = content.fields;
    }

    -- so a config in a label is of one of the two groups
    two-groups : (label g : ℕ) (other : List ℕ) → label < 4 → IsConfig image label guid g other → (g ≡ low) ⊎ (g ≡ high)
    two-groups label g other below is = elim (cases_lt (stage_place label) count) as (λ _. (g ≡ low) ⊎ (g ≡ high)) [
      | inl less ↦ inr (one-group image label guid high g named other (staged-config label below less) is)
      | inr more ↦ inl (one-group image label guid low g name other (have.left label below more) is)
    ]

    -- In the first stage label 1 has the old config: it is chosen for each group below the new one's.
    pub staged-chosen_before : count ≤ 2 → (bound : ℕ) → low ≤ bound → bound < high → IsChosen image guid bound low name
    staged-chosen_before first_stage bound within below_new = elim (cases_lt 0 count) as (λ _. IsChosen image guid bound low name) [
      | inr none ↦ unstaged-chosen (omega (arith, none)) bound within
      | inl some ↦ record {
        label = 1;
        in_range = omega arith;
        stands = have.left 1 (omega arith) first_stage;
        not_above = within;
        highest = λ k g other below not_above is. elim (two-groups k g other below is) as (λ _. g ≤ low) [
          | inl same ↦ omega (arith, same)
          | inr same ↦ absurd (omega (arith, same, not_above, below_new))
        ];
        lowest = λ k other before is.
            let is_first : 0 ≡ k = omega (arith, before) in
            let first : stage_place k < count = subst (λ (l : ℕ). stage_place l < count) is_first some in
            let same = one-group image k guid high low named other (staged-config k (omega (arith, before)) first) is in
            omega (arith, same, above);
      }
    ]

    -- Once label 0 has the new config, that one is chosen from its group on.
    pub staged-chosen : 0 < count → (bound : ℕ) → high ≤ bound → IsChosen image guid bound high named
    staged-chosen some bound within = record {
      label = 0;
      in_range = omega arith;
      stands = staged-config 0 (omega arith) some;
      not_above = within;
      highest = λ k g other below not_above is. elim (two-groups k g other below is) as (λ _. g ≤ high) [
        | inl same ↦ omega (arith, same, above)
        | inr same ↦ omega (arith, same)
      ];
      lowest = λ k other before is. omega (arith, before);
    }

-- where each config is the same, the labels have what they had
pub configs-along : (now later : List ℕ) (guid group count : ℕ) (name new : List ℕ) → length later ≡ length now → SameConfigs now later → HaveConfigs now guid group name new count → HaveConfigs later guid group name new count
configs-along now later guid group count name new size same have = record {
  written = λ label below less. ap (λ (n : ℕ). part later (config_place n label) block_size) size ∙ same label below ∙ have.written label below less;
  left = λ label below more. config-along now later label guid group name size (same label below) (have.left label below more);
}

-- two configs have no byte in common
configs-apart : (size k l : ℕ) → IsGeometry size → k < 4 → l < 4 → k ≢ l → Apart (config_place size k) block_size (config_place size l) block_size
configs-apart size k l geometry k_in l_in differ = by_label (cases_order k l)
  where
    by_label : (k ≡ l) ⊎ ((k < l) ⊎ (l < k)) → Apart (config_place size k) block_size (config_place size l) block_size
    by_label (inl same) = absurd (differ same)
    by_label (inr (inl less)) = let f = labels-apart size k l geometry less l_in in inl (omega (arith, f))
    by_label (inr (inr more)) = let f = labels-apart size l k geometry more k_in in inr (omega (arith, f))

-- The next label of the stages gets the new config.
module _ (now : List ℕ) (guid group count : ℕ) (name new : List ℕ) (geometry : IsGeometry (length now)) (long : length new ≡ block_size) (more : count < 4) (have : HaveConfigs now guid group name new count) where
  abbrev next_label : ℕ
  next_label = stage_place count

  abbrev later : List ℕ
  later = put (config_place (length now) next_label) new now

  fits : config_place (length now) next_label + length new ≤ length now
  fits = config-fits now new next_label geometry (stage-twice count more).0 long

  size : length later ≡ length now
  size = length-put (config_place (length now) next_label) new now fits

  -- it has it then
  here : part later (config_place (length now) next_label) block_size ≡ new
  here = ap (λ (n : ℕ). part later (config_place (length now) next_label) n) (sym long) ∙ part-put_same (config_place (length now) next_label) new now fits

  -- and each other label has what it had
  elsewhere : (label : ℕ) → label < 4 → stage_place label ≢ count → part later (config_place (length now) label) block_size ≡ part now (config_place (length now) label) block_size
  elsewhere label below differ = part-put_apart (config_place (length now) next_label) new now (config_place (length now) label) block_size fits
      (subst (λ (n : ℕ). Apart (config_place (length now) next_label) n (config_place (length now) label) block_size) (sym long)
      (configs-apart (length now) next_label label geometry (stage-twice count more).0 below (λ same. differ (ap stage_place (sym same) ∙ (stage-twice count more).1))))

  has_it : (label : ℕ) → label < 4 → (stage_place label ≡ count) ⊎ ((stage_place label < count) ⊎ (count < stage_place label)) → stage_place label < count + 1 → part later (config_place (length now) label) block_size ≡ new
  has_it label below (inl same) less =
      let is : next_label ≡ label = ap stage_place (sym same) ∙ (stage-twice label below).1 in
      ap (λ (l : ℕ). part later (config_place (length now) l) block_size) (sym is) ∙ here
  has_it label below (inr (inl before)) less = elsewhere label below (λ same. omega (arith, same, before)) ∙ have.written label below before
  has_it label below (inr (inr behind)) less = absurd (omega (arith, behind, less))

  pub staged-once : HaveConfigs later guid group name new (count + 1)
  staged-once = record {
    written = λ label below less. ap (λ (n : ℕ). part later (config_place n label) block_size) size ∙ has_it label below (cases_order (stage_place label) count) less;
    left = λ label below behind. config-along now later label guid group name size (elsewhere label below (λ same. omega (arith, same, behind))) (have.left label below (omega (arith, behind)));
  }
