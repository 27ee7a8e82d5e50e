-- Which configs the labels of a pool hold while its sync goes on. Each config call gives one more label the new config.
-- After the first label stage that one is chosen for the group of the sync.
use Rattle.std.proofs.Common.{◌≡◌, ℕ, ◌+◌, ◌-◌, ◌<◌, ◌≤◌, true, false, List, [], length, take, refl, ap, sym, subst, ◌∙◌, arith, ◌⊎◌, inl, inr}
use Rattle.std.specs.Prelude.{Option, Some, None, is_some, slice_get, unwrap_or}
use Rattle.std.specs.List.{count_by}
use Rattle.std.proofs.lemmas.Bool.{cases_lt, false≢true}
use Rattle.std.proofs.lemmas.List.Sums.{count_by_more_no, count_by_more_yes}
use Rattle.std.proofs.lemmas.Option.{get_or_from_slice_get, slice_get_within}
use Rattle.base.specs.history.History.{Entry, replay, entries_up_to}
use Rattle.base.specs.history.Past.{Past}
use Rattle.base.specs.formats.Labels.{IsConfig, IsChosen, even_labels, odd_labels}
use Rattle.base.specs.kept.Views.{IsConfigContent}
use Rattle.base.specs.kept.SyncCalls.{NewTree, order_of_tree, stage_calls, staged_labels, total_calls}
use Rattle.base.specs.disk.SyncOrder.{DeviceCall, calls_even_first, is_config}
use Rattle.base.specs.disk.SyncOrder.DeviceCall.{Block, Config, Uberblock, Flush}
use Rattle.base.specs.steps.Shown.{Shown}
use Rattle.base.specs.kept.LabelConfigs.{HaveConfigs, HoldConfigs, WritesName, stage_place, written_config, written_labels}
use Rattle.base.proofs.common.KeptLists.{Some-injective}
use Rattle.base.proofs.disk.StagedLabels.{configs-along, stage-within, staged-chosen, staged-config, unstaged-chosen}
use Rattle.base.proofs.disk.SyncOrder.{EachAt, block_stands, call_at, count-configs, length-calls, others_stand}
use Rattle.base.proofs.disk.WrittenLabels.{SameConfigs}

-- from the first uberblock on some label has the new config of label stages
abbrev pub IsStaged : Option (List ℕ) → (count : ℕ) → Type 0
IsStaged None count = count ≡ 0
IsStaged (Some config) count = 0 < count

-- What a call is, by its place, after so many blocks, if so many labels have the config. A config goes into the next
-- label of the stages, and two configs come before the uberblocks. A flush comes before them or after them.
abbrev pub IsTurn : (stages : Option (List ℕ)) (blocks place count : ℕ) → DeviceCall → Type 0
IsTurn stages blocks place count (Block k) = (k ≡ place) × (place < blocks)
IsTurn stages blocks place count (Config label) =
    (is_some stages ≡ true) × (blocks ≤ place) × (count < 4) × (label ≡ stage_place count)
    × (((place ≤ blocks + stage_calls stages) × (count < 2)) ⊎ (blocks + 1 + stage_calls stages < place))
IsTurn stages blocks place count (Uberblock label) = (label < 4) × (place ≡ blocks + 1 + stage_calls stages + label) × IsStaged stages count
IsTurn stages blocks place count Flush = (blocks ≤ place) × ((place ≤ blocks + stage_calls stages) ⊎ (blocks + 1 + stage_calls stages < place))

-- the calls after the blocks, and how many labels have the config before one of them
abbrev others : Option (List ℕ) → List DeviceCall
others stages = calls_even_first 0 (is_some stages)

abbrev staged_among : Option (List ℕ) → ℕ → ℕ
staged_among stages offset = count_by is_config (take offset (others stages))

other_turns : (stages : Option (List ℕ)) → EachAt (λ offset call. IsTurn stages 0 offset (staged_among stages offset) call) 0 (others stages)
other_turns None = (
  (omega arith, inl (omega arith)),
  ((omega arith, refl, refl), ((omega arith, refl, refl), ((omega arith, refl, refl), ((omega arith, refl, refl), ((omega arith, inr (omega arith)), tt))))),
)
other_turns (Some config) = (
  (omega arith, inl (omega arith)),
  (
    (refl, omega arith, omega arith, refl, inl (omega arith, omega arith)),
    (
      (refl, omega arith, omega arith, refl, inl (omega arith, omega arith)),
      (
        (omega arith, inl (omega arith)),
        (
          (omega arith, refl, omega arith),
          (
            (omega arith, refl, omega arith),
            (
              (omega arith, refl, omega arith),
              (
                (omega arith, refl, omega arith),
                (
                  (omega arith, inr (omega arith)),
                  ((refl, omega arith, omega arith, refl, inr (omega arith)), ((refl, omega arith, omega arith, refl, inr (omega arith)), ((omega arith, inr (omega arith)), tt))),
                ),
              ),
            ),
          ),
        ),
      ),
    ),
  ),
)

-- the same after so many blocks
moved_turn : (stages : Option (List ℕ)) (blocks place offset count : ℕ) (call : DeviceCall) → place ≡ blocks + offset → IsTurn stages 0 offset count call → IsTurn stages blocks place count call
moved_turn stages blocks place offset count (Block k) at (is, none) = absurd (omega (arith, none))
moved_turn stages blocks place offset count (Config label) at (some, from, below, is, inl (early, few)) = (some, omega (arith, at), below, is, inl (omega (arith, at, early), few))
moved_turn stages blocks place offset count (Config label) at (some, from, below, is, inr late) = (some, omega (arith, at), below, is, inr (omega (arith, at, late)))
moved_turn stages blocks place offset count (Uberblock label) at (below, is, staged) = (below, omega (arith, at, is), staged)
moved_turn stages blocks place offset count Flush at (from, inl early) = (omega (arith, at), inl (omega (arith, at, early)))
moved_turn stages blocks place offset count Flush at (from, inr late) = (omega (arith, at), inr (omega (arith, at, late)))

-- the labels with the config are those after the blocks
staged-behind : (new : NewTree) → staged_labels new ≡ staged_among new.stages (new.done - length new.blocks)
staged-behind new = count-configs (length new.blocks) (is_some new.stages) even_labels odd_labels new.done

-- the next call of a sync
pub next-turn : (new : NewTree) (call : DeviceCall) → slice_get (order_of_tree new) new.done ≡ Some call → IsTurn new.stages (length new.blocks) new.done (staged_labels new) call
next-turn new call at = elim (cases_lt new.done (length new.blocks)) as (λ _. IsTurn new.stages (length new.blocks) new.done (staged_labels new) call) [
  | inl before ↦
      let same : Block new.done ≡ call = Some-injective (sym (block_stands (length new.blocks) (is_some new.stages) even_labels odd_labels new.done before) ∙ at) in
      subst (IsTurn new.stages (length new.blocks) new.done (staged_labels new)) same (refl, before)
  | inr behind ↦
      let offset : ℕ = new.done - length new.blocks in
      let there : slice_get (others new.stages) offset ≡ Some call =
      sym (others_stand (length new.blocks) (is_some new.stages) even_labels odd_labels new.done offset (omega (arith, behind))) ∙ at in
      let zero_behind : 0 + offset ≡ offset = omega arith in
      let turn : IsTurn new.stages 0 offset (staged_among new.stages offset) call =
      subst (λ (n : ℕ). IsTurn new.stages 0 n (staged_among new.stages n) call) zero_behind
      (call_at (λ n c. IsTurn new.stages 0 n (staged_among new.stages n) c) 0 (others new.stages) offset call (other_turns new.stages) there) in
      moved_turn new.stages (length new.blocks) new.done offset (staged_labels new) call (omega (arith, behind)) (subst (λ (n : ℕ). IsTurn new.stages 0 offset n call) (sym (staged-behind new)) turn)
]

-- a config gives one more label the config, and any other call none
module _ (new : NewTree) (call : DeviceCall) (at : slice_get (order_of_tree new) new.done ≡ Some call) where
  pub next-within : new.done + 1 ≤ total_calls new
  next-within = let within = slice_get_within (order_of_tree new) new.done call at in omega (arith, within)

  pub staged-more : is_config call ≡ true → staged_labels (record new { done = new.done + 1 }) ≡ staged_labels new + 1
  staged-more is = count_by_more_yes is_config (order_of_tree new) new.done Flush (slice_get_within (order_of_tree new) new.done call at)
      (ap is_config (get_or_from_slice_get (order_of_tree new) new.done call Flush at) ∙ is)

  pub staged-still : is_config call ≡ false → staged_labels (record new { done = new.done + 1 }) ≡ staged_labels new
  staged-still is = count_by_more_no is_config (order_of_tree new) new.done Flush (slice_get_within (order_of_tree new) new.done call at)
      (ap is_config (get_or_from_slice_get (order_of_tree new) new.done call Flush at) ∙ is)

-- so many calls there are
pub all-calls : (new : NewTree) → total_calls new ≡ length new.blocks + 6 + stage_calls new.stages + stage_calls new.stages
all-calls new = let long = length-calls (length new.blocks) (is_some new.stages) even_labels odd_labels in let count = by_stages new.stages in omega (arith, long, count)
  where
    by_stages : (stages : Option (List ℕ)) → length (others stages) ≡ 6 + stage_calls stages + stage_calls stages
    by_stages None = refl
    by_stages (Some config) = refl

-- after all of them each label has the config of label stages
abbrev pub all_labels : Option (List ℕ) → ℕ
all_labels None = 0
all_labels (Some config) = 4

pub staged-all : (new : NewTree) → new.done ≡ total_calls new → staged_labels new ≡ all_labels new.stages
staged-all new all = staged-behind new ∙ by_stages new.stages (new.done - length new.blocks) (let count = all-calls new in omega (arith, all, count))
  where
    by_stages : (stages : Option (List ℕ)) (offset : ℕ) → offset ≡ 6 + stage_calls stages + stage_calls stages → staged_among stages offset ≡ all_labels stages
    by_stages None offset at = ap (staged_among None) at
    by_stages (Some config) offset at = ap (staged_among (Some config)) at

-- the config of label stages is one with the new name
pub config-named : (stages : Option (List ℕ)) (size guid group : ℕ) (before after : List ℕ) → is_some stages ≡ true → WritesName stages size guid group before after → IsConfigContent (unwrap_or stages []) size guid group after
config-named None size guid group before after some named = absurd (false≢true some)
config-named (Some config) size guid group before after some named = named

module _ (guid low group : ℕ) (before after : List ℕ) (above : low < group) (now : List ℕ) where
  -- from the first uberblock on the config with the name of the sync is chosen for its group
  pub chosen-behind : (stages : Option (List ℕ)) (count : ℕ) → IsStaged stages count → HaveConfigs now guid low before (unwrap_or stages []) count → WritesName stages (length now) guid group before after
      → (found : ℕ) × IsChosen now guid group found after
  chosen-behind None count staged have named = (low, subst (λ (name : List ℕ). IsChosen now guid group low name) (sym named) (unstaged-chosen now guid low count before [] have staged group (omega (arith, above))))
  chosen-behind (Some config) count staged have named = (group, staged-chosen now guid low count before config have group after named above staged group (omega arith))

  -- at its end each label has that one
  pub staged-end : (stages : Option (List ℕ)) (count : ℕ) → count ≡ all_labels stages → HaveConfigs now guid low before (unwrap_or stages []) count → WritesName stages (length now) guid group before after
      → (found : ℕ) × (found ≤ group) × HaveConfigs now guid found after [] 0
  staged-end None count all have named = (
    low,
    omega (arith, above),
    record {
      written = λ label below none. absurd (omega (arith, none));
      left = λ label below more. subst (λ (name : List ℕ). IsConfig now label guid low name) (sym named) (have.left label below (omega (arith, all)));
    },
  )
  staged-end (Some config) count all have named = (
    group,
    omega arith,
    record {
      written = λ label below none. absurd (omega (arith, none));
      left = λ label below more. staged-config now guid low count before config have group after named above label below (let within = stage-within label below in omega (arith, all, within));
    },
  )

-- The labels hold what they held over other bytes with the same configs, in a state with the same synced group, while
-- as many of them have the new config.
pub configs-hold : (now later : List ℕ) (s t : Shown) (p q : Past) (old new : Option NewTree) → length later ≡ length now → SameConfigs now later → entries_up_to s.line.synced q.entries ≡ entries_up_to s.line.synced p.entries
    → written_config new ≡ written_config old → written_labels new ≡ written_labels old → HoldConfigs now s old p
    → HoldConfigs later (record t { guid = s.guid; line = record t.line { synced = s.line.synced } }) new (record q { base = p.base })
configs-hold now later s t p q old new size same entries config_is count_is x = record {
  synced = x.synced;
  replayed = ap (λ (es : List Entry). replay es p.base) entries ∙ x.replayed;
  group = x.group;
  within = x.within;
  have = subst (λ (c : List ℕ). HaveConfigs later s.guid x.group x.synced.name c (written_labels new)) (sym config_is)
      (subst (λ (n : ℕ). HaveConfigs later s.guid x.group x.synced.name (written_config old) n) (sym count_is)
      (configs-along now later s.guid x.group (written_labels old) x.synced.name (written_config old) size same x.have));
}

-- in another state over the same bytes
pub configs-state : (now : List ℕ) (s t : Shown) (p q : Past) (running : Option NewTree) → entries_up_to s.line.synced q.entries ≡ entries_up_to s.line.synced p.entries → HoldConfigs now s running p
    → HoldConfigs now (record t { guid = s.guid; line = record t.line { synced = s.line.synced } }) running (record q { base = p.base })
configs-state now s t p q running entries x = configs-hold now now s t p q running running refl (λ k below. refl) entries refl refl x

-- a sync starts that has made no call
pub configs-start : (now : List ℕ) (s t : Shown) (p q : Past) (new : NewTree) → entries_up_to s.line.synced q.entries ≡ entries_up_to s.line.synced p.entries → new.done ≡ 0 → HoldConfigs now s None p
    → HoldConfigs now (record t { guid = s.guid; line = record t.line { synced = s.line.synced } }) (Some new) (record q { base = p.base })
configs-start now s t p q new entries none x = record {
  synced = x.synced;
  replayed = ap (λ (es : List Entry). replay es p.base) entries ∙ x.replayed;
  group = x.group;
  within = x.within;
  have = record {
    written = λ label below less. absurd (let count : staged_labels new ≡ 0 = ap (λ (n : ℕ). count_by is_config (take n (order_of_tree new))) none in omega (arith, count, less));
    left = λ label below more. x.have.left label below (omega arith);
  };
}
