-- A device on which no pool is found has none, no label of it has a config, and a pool is named after its file.
use Rattle.std.proofs.Common.{◌≡◌, ◌≢◌, ◌≤◌, ◌∷◌, [], ℕ, zero, suc, List, Err, Ok, ap, arith, false, inl, inr, length, map, refl, subst, sym, take, true, ◌∙◌}
use Rattle.std.specs.Int.{from_le_bytes, w64}
use Rattle.std.specs.Prelude.{Bool, IfErr, IfNone, IfOk, None, Option, Result, Some, codes, is_some}
use Rattle.std.specs.Path.{path_file_name, path_file_stem, rsplit_once, split_last_component, trim_trailing}
use Rattle.std.specs.Io.KnownBytes.{Appends}
use Rattle.std.proofs.lemmas.Bool.{or_parts, true≢false}
use Rattle.std.proofs.lemmas.List.{drop-drop}
use Rattle.base.specs.declared.error.PoolError.{PoolError}
use Rattle.base.specs.declared.error.PoolError.TheVariants.{BadGeometry, NoMemory, Read}
use Rattle.base.specs.formats.Fields.{number_at}
use Rattle.base.specs.formats.Geometry.{IsGeometry, block_count}
use Rattle.base.specs.formats.Labels.{Config, HasNoConfig}
use Rattle.base.specs.formats.Uberblocks.{Uberblock}
use Rattle.base.specs.history.Contents.{Contents}
use Rattle.base.specs.tree.Mount.{HasNoPool, HasPool, IsTreeDamaged, MountsTo}
use Rattle.base.proofs.crash.OneMount.{one-active}
use Rattle.labels.specs.Configs.{IsConfigBlock}
use Rattle.read_commands.specs.Checks.{IsCheckRefusal, IsFoundIn}
use Rattle.read_commands.specs.Failures.{sector_bytes}
use Rattle.read_commands.specs.FoundLabels.{AreLabelStates, HasConfig, IsStateAt, IsStateOf, config_bytes_at}
use Rattle.read_commands.specs.PoolLines.{created_line}
use Rattle.read_commands.specs.declared.checks.Finding.{Finding}
use Rattle.read_commands.specs.declared.checks.Finding.TheVariants.{NoPool}
use Rattle.read_commands.specs.declared.label_states.ConfigState.{ConfigState}
use Rattle.read_commands.specs.declared.label_states.ConfigState.TheVariants.{OtherSize, Unchecked, Whole, Zeroed}
use Rattle.read_commands.specs.declared.label_states.LabelState.{LabelState}
use Rattle.read_commands.proofs.PoolLines.{tank_created}
use Rattle.commands.specs.Replaced.{HasNoConfigs, IsLookRefusal, is_config, name_of_file, some_config}

-- an image that has a pool is none without one
no_pool_there : (image : List ℕ) (u : Uberblock) (name : List ℕ) → HasPool image u name → HasNoPool image → ⊥
no_pool_there image u name there (inl none) = none there.active.label u there.active.in_range there.active.stands
no_pool_there image u name there (inr (v, active, none)) =
    let same : v ≡ u = one-active image v u active there.active in
    subst (λ (w : Uberblock). HasNoConfig image w.guid w.group) same none there.chosen.label there.config_group name there.chosen.in_range there.chosen.not_above there.chosen.stands

pub whole_there : (image : List ℕ) (contents : Contents) → MountsTo image contents → HasNoPool image → ⊥
whole_there image contents (u, chain, mounts) = no_pool_there image u mounts.synced.name mounts.found.pool

pub damaged_there : (image : List ℕ) (kind address : ℕ) → IsTreeDamaged image kind address → HasNoPool image → ⊥
damaged_there image kind address damaged = no_pool_there image damaged.u damaged.name damaged.pool

-- if a check finds none, the image has none
pub no_pool_found : (image : List ℕ) (r : Result Finding PoolError) → r ≡ Ok NoPool → IfOk r (IsFoundIn image) → HasNoPool image
no_pool_found image r is found = subst (λ (x : Result Finding PoolError). IfOk x (IsFoundIn image)) is found

-- a label whose state is none of a config has none
without_config : (block : List ℕ) (size : ℕ) (config : ConfigState) → is_config config ≡ false → IsStateOf block size config → (c : Config) → IsConfigBlock block size c → ⊥
without_config block size Whole none state c is = absurd (true≢false none)
without_config block size (OtherSize other) none state c is = absurd (true≢false none)
without_config block size Zeroed none state c is = state.0 c is
without_config block size Unchecked none state c is = state.0 c is

none_at_label : (image : List ℕ) (s : LabelState) (label : ℕ) → s.label ≡ label → is_config s.config ≡ false → IsStateAt image s → HasConfig image label → ⊥
none_at_label image s label is none state has =
    let (c, block) = subst (HasConfig image) (sym is) has in
    without_config (config_bytes_at image s.label) (length image) s.config none state c block

none_of_four : (image : List ℕ) (a b c d : LabelState) → AreLabelStates image (a ∷ b ∷ c ∷ d ∷ []) → some_config (a ∷ b ∷ c ∷ d ∷ []) ≡ false → HasNoConfigs image
none_of_four image a b c d are none = by
  where
    rest_b : Bool
    rest_b = some_config (b ∷ c ∷ d ∷ [])

    rest_c : Bool
    rest_c = some_config (c ∷ d ∷ [])

    first : (is_config a.config ≡ false) × (rest_b ≡ false)
    first = or_parts (is_config a.config) rest_b none

    second : (is_config b.config ≡ false) × (rest_c ≡ false)
    second = or_parts (is_config b.config) rest_c first.1

    third : (is_config c.config ≡ false) × (some_config (d ∷ []) ≡ false)
    third = or_parts (is_config c.config) (some_config (d ∷ [])) second.1

    fourth : (is_config d.config ≡ false) × (false ≡ false)
    fourth = or_parts (is_config d.config) false third.1

    labels : map (λ (s : LabelState). s.label) (a ∷ b ∷ c ∷ d ∷ []) ≡ 0 ∷ 1 ∷ 2 ∷ 3 ∷ []
    labels = are.labels

    by : HasNoConfigs image
    by zero low = none_at_label image a 0 (cc) first.0 (are.each 0 a refl)
    by (suc zero) low = none_at_label image b 1 (cc) second.0 (are.each 1 b refl)
    by (suc (suc zero)) low = none_at_label image c 2 (cc) third.0 (are.each 2 c refl)
    by (suc (suc (suc zero))) low = none_at_label image d 3 (cc) fourth.0 (are.each 3 d refl)
    by (suc (suc (suc (suc k)))) low = absurd (omega (arith, low))

pub no_configs : (image : List ℕ) (states : List LabelState) → AreLabelStates image states → some_config states ≡ false → HasNoConfigs image
no_configs image (a ∷ b ∷ c ∷ d ∷ []) are none = none_of_four image a b c d are none
no_configs image [] are none = absurd (let no : 0 ≡ 4 = ap length are.labels in omega (arith, no))
no_configs image (a ∷ []) are none = absurd (let no : 1 ≡ 4 = ap length are.labels in omega (arith, no))
no_configs image (a ∷ b ∷ []) are none = absurd (let no : 2 ≡ 4 = ap length are.labels in omega (arith, no))
no_configs image (a ∷ b ∷ c ∷ []) are none = absurd (let no : 3 ≡ 4 = ap length are.labels in omega (arith, no))
no_configs image (a ∷ b ∷ c ∷ d ∷ e ∷ more) are none = absurd (let no : suc (suc (suc (suc (suc (length (map (λ (s : LabelState). s.label) more)))))) ≡ 4 = ap length are.labels in omega (arith, no))

-- a config names the size of its device in its block
size_named : (block : List ℕ) (size : ℕ) (c : Config) → IsConfigBlock block size c → size ≡ number_at block 72
unfolding number_at
size_named block size c is = sym is.fields.size_is ∙ ap (λ (l : List ℕ). from_le_bytes w64 (take 8 l)) (drop-drop 8 64 block)

-- so a block is none if it is none of that size
pub not_config : {A : Type 0} (block : List ℕ) (o : Option A) (named : ℕ) (found : Bool) → named ≡ number_at block 72 → found ≡ is_some o → IfNone o ((c : Config) → IsConfigBlock block named c → ⊥) → found ≡ false
    → (size : ℕ) (c : Config) → IsConfigBlock block size c → ⊥
not_config block None named found is told none off size c config = none c (subst (λ (s : ℕ). IsConfigBlock block s c) (size_named block size c config ∙ sym is) config)
not_config block (Some x) named found is told none off size c config = absurd (true≢false (sym told ∙ off))

-- a device of 8 MiB and a sector is none of a pool, and has a first config
pub no_geometry : (size : ℕ) → size ≡ 8389120 → (IsGeometry size → ⊥) × (20480 ≤ size)
no_geometry size is = (
  λ geometry. true≢false (sym (subst IsGeometry is geometry)),
  (let within : 20480 ≤ size = omega (arith, is) in within),
)

-- what is false if it is so that something is none, is true if that is there
pub found_if_there : (found : Result Bool PoolError) (There Free : Type 0) → (found ≡ Ok false → Free) → (There → Free → ⊥) → There → IfOk found (λ f. f ≡ true)
found_if_there (Ok true) There Free free not_free there = refl
found_if_there (Ok false) There Free free not_free there = absurd (not_free there (free refl))
found_if_there (Err e) There Free free not_free there = tt

-- a check of a device that a pool may have is refused for memory or a read
pub look_refusal : (size : ℕ) (e : PoolError) → e ≢ BadGeometry → IsCheckRefusal size e → IsLookRefusal e
look_refusal size BadGeometry other is = absurd (other refl)
look_refusal size NoMemory other is = inl refl
look_refusal size Read other is = inr refl
look_refusal size e other is = absurd is

pub states_refused : {A : Type 0} (size : ℕ) (read : Result A PoolError) (e : PoolError) → read ≡ Err e → IsGeometry size → IfErr read (IsCheckRefusal size) → IsLookRefusal e
states_refused {A = A} size read e is geometry refused = by e (subst (λ (r : Result A PoolError). IfErr r (IsCheckRefusal size)) is refused)
  where
    by : (f : PoolError) → IsCheckRefusal size f → IsLookRefusal f
    by BadGeometry why = absurd (why geometry)
    by NoMemory why = inl refl
    by Read why = inr refl
    by f why = absurd why

pub found_refused : (size : ℕ) (found : Result Bool PoolError) → IsGeometry size → IfErr found (IsCheckRefusal size) → IfErr found IsLookRefusal
found_refused size (Ok there) geometry refused = tt
found_refused size (Err e) geometry refused = states_refused {A = Bool} size (Err e) e refl geometry refused

-- a pool in this file is named after it
tank_named : name_of_file (codes "pools/tank.pool") ≡ codes "tank"
unfolding path_file_name path_file_stem rsplit_once split_last_component trim_trailing
tank_named = refl

pub tank_of_file : (before after : Option (List ℕ)) → before ≡ Some [] → Appends before after (created_line (name_of_file (codes "pools/tank.pool")) (block_count (sector_bytes 8388608)))
    → after ≡ Some (codes "created tank 896 blocks\n")
tank_of_file before after empty writes =
    tank_created before after empty (subst (λ (name : List ℕ). Appends before after (created_line name (block_count (sector_bytes 8388608)))) tank_named writes)
