-- What each write and each good flush of a create leaves of what counts and of what was handed whole.
use Rattle.std.proofs.Common.{◌≡◌, ◌⊎◌, inl, inr, ℕ, ◌+◌, ◌<◌, ◌≤◌, Bool, true, List, length, replicate, Ok, Err, OnOk, Result, refl, sym, ◌∙◌, ap, subst, arith}
use Rattle.std.specs.Prelude.{◌==◌, ◌&&◌}
use Rattle.std.proofs.lemmas.Bool.{and_from, and_parts, cases_lt, eq-eqb, eqb-true}
use Rattle.base.specs.kept.Views.{View}
use Rattle.base.specs.declared.error.PoolError.{PoolError}
use Rattle.base.specs.disk.Calls.{Flushes}
use Rattle.base.specs.disk.Disk.{Apart, Disk, HandedSince, HasEarlierWrites, Moment, bytes_of, handed, moments, put, settled, written}
use Rattle.base.specs.disk.Fairness.{IsCheckedPlace, IsFair}
use Rattle.base.specs.formats.Fields.{number_at, part}
use Rattle.base.specs.formats.Geometry.{IsGeometry, block_size, config_place, slot_of, slot_place}
use Rattle.base.specs.formats.Labels.{Config}
use Rattle.base.specs.formats.Limits.{first_group}
use Rattle.base.specs.formats.Uberblocks.{slot_size}
use Rattle.base.proofs.disk.FairBytes.{same_or_apart}
use Rattle.base.proofs.disk.Fairness.{fair_settled, handed_settled}
use Rattle.base.proofs.disk.Put.{part-put_apart, part-put_same}
use Rattle.base.proofs.formats.Geometry.{label-on_device}
use Rattle.labels.specs.Configs.{config_block}
use Rattle.import_replay.specs.Cleared.{zeros}
use Rattle.import_replay.specs.Creations.{first_config}
use Rattle.import_replay.proofs.NewLabels.{zeros_number}
use Rattle.import_replay.proofs.Flushes.{flushed_later}
use Rattle.import_replay.specs.OwnCreations.{AreConfigsHanded, AreSlotsHanded, HasFirstWrites, IsFirstDisk, IsHandedAt}
use Rattle.sync.proofs.SlotSteps.{flushed_now}

-- before the first write of a create nothing counts
pub none_written : (disk : Disk) (v : View) → HasEarlierWrites disk → HasFirstWrites (moments disk) v disk
none_written disk v earlier = record { began = omega arith; first = λ place content some. absurd (earlier place content some) }

-- one write more
pub first_written : (old new : Disk) (place t : ℕ) (content : List ℕ) (v : View) → new ≡ written place content true old → (number_at content 0 ≡ 0) ⊎ ((content ≡ v.config) ⊎ (content ≡ v.slot))
    → HasFirstWrites t v old → HasFirstWrites t v new
first_written old new place t content v is first so_far = subst (λ (d : Disk). HasFirstWrites t v d) (sym is) (record {
  began = (let began : t ≤ moments old = so_far.began in omega (arith, began));
  first = λ p c some. go p c some;
})
  where
    go : (p : ℕ) (c : List ℕ) → HandedSince t (handed (written place content true old).now) p c → (number_at c 0 ≡ 0) ⊎ ((c ≡ v.config) ⊎ (c ≡ v.slot))
    go p c (inl here) = subst (λ (l : List ℕ). (number_at l 0 ≡ 0) ⊎ ((l ≡ v.config) ⊎ (l ≡ v.slot))) here.2 first
    go p c (inr before) = so_far.first p c before

-- zeros
pub zeros_written : (old new : Disk) (place n t : ℕ) (v : View) → 8 ≤ n → new ≡ written place (replicate n 0) true old → HasFirstWrites t v old → HasFirstWrites t v new
zeros_written old new place n t v whole is so_far = first_written old new place t (replicate n 0) v is (inl (zeros_number n whole)) so_far

pub tail_written : (old new : Disk) (place n t : ℕ) (content : List ℕ) (v : View) → 8 ≤ n → content ≡ zeros n → new ≡ written place content true old → HasFirstWrites t v old → HasFirstWrites t v new
unfolding zeros
tail_written old new place n t content v whole same is so_far = zeros_written old new place n t v whole (is ∙ ap (λ (l : List ℕ). written place l true old) same) so_far

pub written_later : (old new : Disk) (place t : ℕ) (content : List ℕ) → new ≡ written place content true old → t ≤ moments old → t ≤ moments new
written_later old new place t content is began = subst (λ (d : Disk). t ≤ moments d) (sym is) (omega (arith, began))

-- one flush more
pub first_flushed : (old new : Disk) (t : ℕ) (v : View) → Flushes old (Ok tt) new → HasFirstWrites t v old → HasFirstWrites t v new
first_flushed old new t v flushes so_far = record {
  began = (let began : t ≤ moments old = so_far.began in omega (arith, began, flushed_later old new flushes));
  first = λ place content some.
      so_far.first place content
      (handed_settled t (bytes_of old.now) old.now place content (subst (λ (m : Moment). HandedSince t (handed m) place content) (flushed_now old new flushes) some));
}

-- a good flush keeps what was handed and stands
pub handed_flushed : (old new : Disk) (t place n : ℕ) (content : List ℕ) → Flushes old (Ok tt) new → IsHandedAt t place n content old → IsHandedAt t place n content new
handed_flushed old new t place n content flushes at = record {
  since = subst (λ (m : Moment). HandedSince t (handed m) place content) (sym (flushed_now old new flushes))
      (subst (λ (l : List ℕ). HandedSince t (handed (settled image old.now)) place l) at.stands
      (fair_settled passes t image old.now only place n (and_from (place == place) (n == n) (eq-eqb place place refl) (eq-eqb n n refl))));
  long = at.long;
  stands = ap (λ (m : Moment). part (bytes_of m) place n) (flushed_now old new flushes) ∙ at.stands;
}
  where
    image : List ℕ
    image = bytes_of old.now

    passes : ℕ → ℕ → List ℕ → Bool
    passes p k bytes = (p == place) && (k == n)

    only : IsFair passes t (handed old.now) image
    only p k here =
        let parts = and_parts (p == place) (k == n) here in
        let there : part image place n ≡ part image p k = ap (λ (q : ℕ). part image q n) (sym (eqb-true p place parts.0)) ∙ ap (λ (j : ℕ). part image p j) (sym (eqb-true k n parts.1)) in
        subst (λ (q : ℕ). HandedSince t (handed old.now) q (part image p k)) (sym (eqb-true p place parts.0))
        (subst (λ (l : List ℕ). HandedSince t (handed old.now) place l) (sym at.stands ∙ there) at.since)

module _ (size : ℕ) (g : IsGeometry size) (old new : Disk) (long : length (bytes_of old.now) ≡ size) (place n : ℕ) (content : List ℕ) (is : new ≡ written place content true old) (as_long : length content ≡ n)
    (whole : IsCheckedPlace size place n) (within : place + n ≤ size) where
  fits : place + length content ≤ length (bytes_of old.now)
  fits = omega (arith, within, long, as_long)

  put_there : part (put place content (bytes_of old.now)) place n ≡ content
  put_there = ap (λ (k : ℕ). part (put place content (bytes_of old.now)) place k) (sym as_long) ∙ part-put_same place content (bytes_of old.now) fits

  -- what a write hands stands
  pub handed_written : (t : ℕ) → t ≤ moments old → IsHandedAt t place n content new
  handed_written t began = subst (λ (d : Disk). IsHandedAt t place n content d) (sym is) (record { since = inl (began, refl, refl); long = as_long; stands = put_there })

  -- and what stands at other places does still, as does the same at its own
  pub handed_before : (t other m : ℕ) (bytes : List ℕ) → IsCheckedPlace size other m → (n ≡ m → content ≡ bytes) → IsHandedAt t other m bytes old → IsHandedAt t other m bytes new
  handed_before t other m bytes checked same at =
      subst (λ (d : Disk). IsHandedAt t other m bytes d) (sym is) (record { since = inr at.since; long = at.long; stands = stands (same_or_apart size g place n other m whole checked) })
    where
      stands : ((place ≡ other) × (n ≡ m)) ⊎ Apart place n other m → part (put place content (bytes_of old.now)) other m ≡ bytes
      stands (inl (here, equal)) =
          ap (λ (k : ℕ). part (put place content (bytes_of old.now)) k m) (sym here) ∙ ap (λ (k : ℕ). part (put place content (bytes_of old.now)) place k) (sym equal) ∙ put_there ∙ same equal
      stands (inr apart) =
          part-put_apart place content (bytes_of old.now) other m fits (subst (λ (k : ℕ). Apart place k other m) (sym as_long) apart) ∙ at.stands

-- One label more has the same bytes, handed whole for the place of its own.
module _ (size : ℕ) (g : IsGeometry size) (t n m : ℕ) (old new : Disk) (long : length (bytes_of old.now) ≡ size) (place : ℕ) (content bytes : List ℕ) (is : new ≡ written place content true old) (same : content ≡ bytes)
    (as_long : length content ≡ m) (below_4 : n < 4) (began : t ≤ moments old) where
  each_handed : (place_of : ℕ → ℕ) → ((label : ℕ) → label < 4 → IsCheckedPlace size (place_of label) m × (place_of label + m ≤ size)) → place ≡ place_of n
      → ((label : ℕ) → label < n → IsHandedAt t (place_of label) m bytes old) → (label : ℕ) → label < n + 1 → IsHandedAt t (place_of label) m bytes new
  each_handed place_of sound there each label below = by_place (cases_lt label n)
    where
      here : new ≡ written (place_of n) content true old
      here = is ∙ ap (λ (p : ℕ). written p content true old) there

      by_place : (label < n) ⊎ (n ≤ label) → IsHandedAt t (place_of label) m bytes new
      by_place (inl less) =
          handed_before size g old new long (place_of n) m content here as_long (sound n below_4).0 (sound n below_4).1 t (place_of label) m bytes (sound label (omega (arith, less, below_4))).0 (λ equal. same) (each label less)
      by_place (inr more) =
          let last : n ≡ label = omega (arith, more, below) in
          subst (λ (k : ℕ). IsHandedAt t (place_of k) m bytes new) last
          (subst (λ (l : List ℕ). IsHandedAt t (place_of n) m l new) same (handed_written size g old new long (place_of n) m content here as_long (sound n below_4).0 (sound n below_4).1 t began))

config_sound : (size label : ℕ) → IsGeometry size → label < 4 → IsCheckedPlace size (config_place size label) block_size × (config_place size label + block_size ≤ size)
config_sound size label g below = (inl (refl, inr (label, below, refl)), omega (arith, (label-on_device size label g below).within))

slot_sound : (size label : ℕ) → IsGeometry size → label < 4 → IsCheckedPlace size (slot_place size label (slot_of first_group)) slot_size × (slot_place size label (slot_of first_group) + slot_size ≤ size)
slot_sound size label g below = (inr (refl, (label, 4, below, omega arith, refl)), omega (arith, (label-on_device size label g below).within))

module _ (size : ℕ) (g : IsGeometry size) (t n : ℕ) (old new : Disk) (long : length (bytes_of old.now) ≡ size) (place : ℕ) (content bytes : List ℕ) (is : new ≡ written place content true old) (same : content ≡ bytes)
    (below_4 : n < 4) (began : t ≤ moments old) where
  pub config_handed : length content ≡ block_size → place ≡ config_place size n → AreConfigsHanded size n t bytes old → AreConfigsHanded size (n + 1) t bytes new
  config_handed whole there each =
      each_handed size g t n block_size old new long place content bytes is same whole below_4 began (config_place size) (λ label below. config_sound size label g below) there each

  pub slot_handed : length content ≡ slot_size → place ≡ slot_place size n (slot_of first_group) → AreSlotsHanded size n t bytes old → AreSlotsHanded size (n + 1) t bytes new
  slot_handed whole there each =
      each_handed size g t n slot_size old new long place content bytes is same whole below_4 began (λ label. slot_place size label (slot_of first_group)) (λ label below. slot_sound size label g below) there each

-- a write of a slot leaves the configs that were handed
pub configs_behind : (size t n : ℕ) (old new : Disk) (place : ℕ) (content config : List ℕ) → IsGeometry size → length (bytes_of old.now) ≡ size → new ≡ written place content true old → length content ≡ slot_size
    → n < 4 → place ≡ slot_place size n (slot_of first_group) → AreConfigsHanded size 4 t config old → AreConfigsHanded size 4 t config new
configs_behind size t n old new place content config g long is short below_4 there each label below =
    handed_before size g old new long (slot_place size n (slot_of first_group)) slot_size content (is ∙ ap (λ (p : ℕ). written p content true old) there) short (slot_sound size n g below_4).0
    (slot_sound size n g below_4).1 t (config_place size label) block_size config (config_sound size label g below).0 (λ equal. absurd (omega (arith, equal))) (each label below)

-- the last flush of a create
pub first_disk : (size t : ℕ) (v : View) (old new : Disk) (r : Result (Unit {0}) PoolError) → Flushes old r new → IsFirstDisk size t v old → OnOk r (IsFirstDisk size t v new)
first_disk size t v old new (Ok x) flushes is = record {
  writes = first_flushed old new t v flushes is.writes;
  configs = λ label below. handed_flushed old new t (config_place size label) block_size v.config flushes (is.configs label below);
  slots = λ label below. handed_flushed old new t (slot_place size label (slot_of first_group)) slot_size v.slot flushes (is.slots label below);
}
first_disk size t v old new (Err e) flushes is = tt

-- the bytes of the first config, as they are written
pub config_bytes_are : (block seen name : List ℕ) (config : Config) (guid n size : ℕ) → seen ≡ block → block ≡ config_block config → config ≡ first_config name guid n → n ≡ size → seen ≡ config_block (first_config name guid size)
config_bytes_are block seen name config guid n size shown made same whole = shown ∙ made ∙ ap (λ (c : Config). config_block c) same ∙ ap (λ (k : ℕ). config_block (first_config name guid k)) whole
