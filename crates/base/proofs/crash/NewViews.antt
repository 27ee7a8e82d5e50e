-- Once a flush has answered Ok after the blocks and the first configs of a sync, its new view is laid: what it needs
-- stands, and what counts could pass for no other config or log block.
use Rattle.std.proofs.Common.{◌≡◌, ◌⊎◌, inl, inr, ⊎_elim, ℕ, zero, suc, ◌+◌, ◌-◌, ◌<◌, ◌≤◌, List, [], ◌∷◌, length, drop, sym, ◌∙◌, ap, subst, arith, length-drop}
use Rattle.std.specs.Prelude.{slice_get, Some, None}
use Rattle.std.proofs.lemmas.Bool.{cases_lt}
use Rattle.base.specs.formats.Fields.{part}
use Rattle.base.specs.formats.Geometry.{block_count, block_address, config_place}
use Rattle.base.specs.tree.Mount.{header_of}
use Rattle.base.specs.kept.PlacedTrees.{HoldsTree}
use Rattle.base.specs.disk.Disk.{Write, Moment, IsTouched, bytes_of, handed}
use Rattle.base.specs.kept.Views.{View, Logged, IsView, IsConfigContent, IsLogContent, IsSettled, AreConfigsKnown, AreConfigsUpTo, AreLogBlocksKnown, view_frame}
use Rattle.base.specs.kept.CallStages.{IsLaidAt}
use Rattle.base.proofs.crash.FoundViews.{linked_number}

-- where nothing is unflushed every place is settled
nothing_touched : (m : Moment) → m.unflushed ≡ [] → (place n : ℕ) → IsSettled m place n
nothing_touched m none place n i from to touched = subst (λ (ws : List Write). IsTouched ws i) none touched

-- a view is laid where its config, its tree and its flushed log blocks stand and nothing is unflushed
pub view_laid : (size t flushed config : ℕ) (v : View) (m : Moment) → m.unflushed ≡ [] → length (bytes_of m) ≡ size → IsView size v → config < 4
    → part (bytes_of m) (config_place size config) (length v.config) ≡ v.config → HoldsTree (bytes_of m) (view_frame size v) v.pointers v.synced.objects → flushed ≤ length v.logged
    → ((i : ℕ) (l : Logged) → i < flushed → slice_get v.logged i ≡ Some l → part (bytes_of m) l.block.address (length l.content) ≡ l.content)
    → AreConfigsKnown size t (handed m) v → AreLogBlocksKnown size t (handed m) v → IsLaidAt size t flushed config v m
view_laid size t flushed config v m none size_is view below stands tree short log_stands configs logs = record {
  laid = record {
    view = view;
    firm = record {
      size_is = size_is;
      config = record { label = config; in_range = below; fixed = record { settled = nothing_touched m none (config_place size config) (length v.config); stands = stands } };
      tree = record { holds = tree; settled = λ place in_range some. nothing_touched m none (v.pointers place).address 4096 };
      log = (short, λ i l within at. record { settled = nothing_touched m none l.block.address (length l.content); stands = log_stands i l within at });
    };
    configs = configs;
    logs = logs;
  };
  below = below;
  fixed = record { settled = nothing_touched m none (config_place size config) (length v.config); stands = stands };
}

-- the new view has a config of its own, above all others that count
pub configs_of_stage : (size t : ℕ) (ws : List Write) (v : View) (top : ℕ) (IsOther : ℕ → List ℕ → Type 0) → ((group : ℕ) (content : List ℕ) → IsOther group content → content ≡ v.config)
    → top < v.config_group → AreConfigsUpTo size t ws v.u.guid top IsOther → AreConfigsKnown size t ws v
configs_of_stage size t ws v top IsOther own above known label group name content below some is not_above =
    ⊎_elim (λ low. inl (omega (arith, low, above))) (λ other. inr (own group content other)) (known label group name content below some is)

-- or it has the old one's, and none above the old group counts
pub configs_of_old : (size t : ℕ) (ws : List Write) (old new : View) → new.u.guid ≡ old.u.guid → new.config ≡ old.config → new.config_group ≡ old.config_group
    → AreConfigsUpTo size t ws old.u.guid old.u.group (λ group content. ⊥) → AreConfigsKnown size t ws old → AreConfigsKnown size t ws new
configs_of_old size t ws old new same_guid same_config same_group low known label group name content below some is not_above =
    let is_old : IsConfigContent content size old.u.guid group name = subst (λ (guid : ℕ). IsConfigContent content size guid group name) same_guid is in
    elim (low label group name content below some is_old) as (λ _. (group < new.config_group) ⊎ (content ≡ new.config)) [
      | inl not_higher ↦ elim (known label group name content below some is_old not_higher) as (λ _. (group < new.config_group) ⊎ (content ≡ new.config)) [
        | inl lower ↦ inl (omega (arith, lower, same_group))
        | inr top ↦ inr (top ∙ sym same_config)
      ]
      | inr none ↦ absurd none
    ]

at_drop : (d i : ℕ) (ls : List Logged) (l : Logged) → d ≤ i → slice_get ls i ≡ Some l → slice_get (drop d ls) (i - d) ≡ Some l
at_drop zero i ls l behind at = let same : i - 0 ≡ i = omega arith in ap (λ (k : ℕ). slice_get ls k) same ∙ at
at_drop (suc d) i [] l behind at = absurd (let no_way : None ≡ Some l = at in cc)
at_drop (suc d) zero (x ∷ xs) l behind at = absurd (omega (arith, behind))
at_drop (suc d) (suc i) (x ∷ xs) l behind at =
    let same : suc i - suc d ≡ i - d = omega arith in
    ap (λ (k : ℕ). slice_get (drop d xs) k) same ∙ at_drop d i xs l (omega (arith, behind)) at

-- the new view of a group goes on in the same chain, from a later block of the log on
pub logs_of_group : (size t d : ℕ) (ws : List Write) (old new : View) → IsView size old → new.u.guid ≡ old.u.guid → new.u.import_number ≡ old.u.import_number → new.u.log_number ≡ old.u.log_number + d
    → d ≤ length old.logged → new.logged ≡ drop d old.logged → AreLogBlocksKnown size t ws old → AreLogBlocksKnown size t ws new
logs_of_group size t d ws old new view same_guid same_chain number_is short rest known k chain number content block below some is =
    go (known k chain number content block below some (subst (λ (guid : ℕ). IsLogContent content guid chain number block) same_guid is))
  where
    long : length new.logged ≡ length old.logged - d
    long = ap (λ (ls : List Logged). length ls) rest ∙ length-drop d old.logged

    go : (chain < old.u.import_number) ⊎ ((chain ≡ old.u.import_number) × ((number < old.u.log_number) ⊎ ((old.u.log_number + length old.logged < number)
        ⊎ ((i : ℕ) × (l : Logged) × (slice_get old.logged i ≡ Some l) × (l.number ≡ number) × (l.block.address ≡ block_address k) × (l.content ≡ content)))))
        → (chain < new.u.import_number) ⊎ ((chain ≡ new.u.import_number) × ((number < new.u.log_number) ⊎ ((new.u.log_number + length new.logged < number)
        ⊎ ((i : ℕ) × (l : Logged) × (slice_get new.logged i ≡ Some l) × (l.number ≡ number) × (l.block.address ≡ block_address k) × (l.content ≡ content)))))
    go (inl older) = inl (omega (arith, older, same_chain))
    go (inr (same, inl before)) = inr (same ∙ sym same_chain, inl (omega (arith, before, number_is)))
    go (inr (same, inr (inl behind))) = inr (same ∙ sym same_chain, inr (inl (omega (arith, behind, number_is, long, short))))
    go (inr (same, inr (inr (i, l, at, numbered, there, bytes)))) =
        let n : l.number ≡ old.u.log_number + i = linked_number old.u.guid (block_count size) old.u.import_number (header_of old.u) old.logged view.linked i l at in
        inr (
          same ∙ sym same_chain,
          elim (cases_lt i d) as (λ _. (number < new.u.log_number) ⊎ ((new.u.log_number + length new.logged < number)
              ⊎ ((i : ℕ) × (l : Logged) × (slice_get new.logged i ≡ Some l) × (l.number ≡ number) × (l.block.address ≡ block_address k) × (l.content ≡ content)))) [
                | inl left ↦ inl (omega (arith, left, n, numbered, number_is))
                | inr from ↦ inr (inr (i - d, l, ap (λ (ls : List Logged). slice_get ls (i - d)) rest ∙ at_drop d i old.logged l from at, numbered, there, bytes))
              ],
        )

-- the new view of an import begins a chain that none counts of
pub logs_of_import : (size t : ℕ) (ws : List Write) (old new : View) → new.u.guid ≡ old.u.guid → old.u.import_number < new.u.import_number → AreLogBlocksKnown size t ws old → AreLogBlocksKnown size t ws new
logs_of_import size t ws old new same_guid later known k chain number content block below some is =
    ⊎_elim (λ older. inl (omega (arith, older, later))) (λ same. let here : chain ≡ old.u.import_number = same.0 in inl (omega (arith, here, later)))
    (known k chain number content block below some (subst (λ (guid : ℕ). IsLogContent content guid chain number block) same_guid is))
