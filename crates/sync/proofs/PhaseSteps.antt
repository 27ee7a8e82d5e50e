-- What one call makes of the phase of a disk: a quiet write, a flush, or a write of the new uberblock, whatever the
-- device answers.
use Rattle.std.proofs.Common.{◌≡◌, ◌⊎◌, inl, inr, ℕ, ◌+◌, ◌-◌, ◌<◌, Bool, List, [], length, Result, Ok, Err, sym, ◌∙◌, ap, subst, arith}
use Rattle.std.proofs.lemmas.Bool.{cases_lt, cases_order}
use Rattle.base.specs.declared.error.PoolError.{PoolError}
use Rattle.base.specs.formats.Fields.{part, number_at}
use Rattle.base.specs.formats.Geometry.{block_address, config_place, slot_place, slot_of}
use Rattle.base.specs.formats.Uberblocks.{slot_size}
use Rattle.base.specs.disk.Disk.{Moment, Disk, EachMoment, bytes_of, handed, settled, wrote, moments}
use Rattle.base.specs.disk.Calls.{Writes, Flushes}
use Rattle.base.specs.kept.Views.{View, AreConfigsKnown, AreLogBlocksKnown}
use Rattle.base.specs.kept.Own.{IsPhase}
use Rattle.base.specs.kept.Spares.{IsTreeContent}
use Rattle.base.specs.disk.DiskCalls.DiskCall.{Put, Settle}
use Rattle.base.specs.kept.CallStages.{FixedLabels, IsSwitching, IsQuiet, IsLaidAt}
use Rattle.base.proofs.disk.Fairness.{handed_settled}
use Rattle.base.proofs.disk.Moments.{starts, weaker, latest, each_write, each_flush}
use Rattle.base.proofs.disk.Regions.{flushed_clean}
use Rattle.base.proofs.crash.CallStages.{quiet_call}
use Rattle.sync.proofs.KeptWrites.{done_after}
use Rattle.sync.specs.declared.run.SyncRun.{SyncRun}
use Rattle.sync.specs.Phases.{SyncViews, HasPhase, HasPhaseOf, IsBefore, IsBehind, IsBetweenOrSwitched, IsSyncPhase, calls_before_slots}

-- a write that could pass for no other config or log block of the new view than its own: of a block of a tree, or of
-- its config
abbrev pub IsNewContent : ℕ → List ℕ → View → Type 0
IsNewContent size content v = IsTreeContent content ⊎ ((content ≡ v.config) × (number_at content 0 ≡ 1))

module _ (v : SyncViews) (size : ℕ) where
  configs_wrote : (place moment : ℕ) (content : List ℕ) (done : Bool) (m : Moment) → IsNewContent size content v.new → AreConfigsKnown size v.created (handed m) v.new
      → AreConfigsKnown size v.created (handed (wrote moment place content done m)) v.new
  configs_wrote place moment content done m (inl tree) known label group name c below (inl here) is not_above =
      absurd (tree.not_config (ap (λ (l : List ℕ). number_at l 0) here.2 ∙ is.block.kind_is))
  configs_wrote place moment content done m (inr own) known label group name c below (inl here) is not_above = inr (sym here.2 ∙ own.0)
  configs_wrote place moment content done m new known label group name c below (inr there) is not_above = known label group name c below there is not_above

  logs_wrote : (place moment : ℕ) (content : List ℕ) (done : Bool) (m : Moment) → IsNewContent size content v.new → AreLogBlocksKnown size v.created (handed m) v.new
      → AreLogBlocksKnown size v.created (handed (wrote moment place content done m)) v.new
  logs_wrote place moment content done m (inl tree) known k chain number c block below (inl here) is =
      absurd (tree.not_log (ap (λ (l : List ℕ). number_at l 0) here.2 ∙ is.sealed.kind_is))
  logs_wrote place moment content done m (inr own) known k chain number c block below (inl here) is =
      let six : number_at content 0 ≡ 6 = ap (λ (l : List ℕ). number_at l 0) here.2 ∙ is.sealed.kind_is in
      absurd (omega (arith, six, own.1))
  logs_wrote place moment content done m new known k chain number c block below (inr there) is = known k chain number c block below there is

  -- a quiet write, and a flush, before the uberblocks
  before_wrote : (place moment : ℕ) (content : List ℕ) (done : Bool) (m : Moment) → IsQuiet size v.flushed v.fixed v.old (Put place content) → IsNewContent size content v.new → IsBefore v size m
      → IsBefore v size (wrote moment place content done m)
  before_wrote place moment content done m quiet new b = record {
    rest = quiet_call size v.created v.flushed v.fixed v.old (Put place content) quiet moment done m b.rest;
    configs = configs_wrote place moment content done m new b.configs;
    logs = logs_wrote place moment content done m new b.logs;
  }

  pub before_settled : (m : Moment) → IsBefore v size m → IsBefore v size (settled (bytes_of m) m)
  before_settled m b = record {
    rest = quiet_call size v.created v.flushed v.fixed v.old Settle tt m b.rest;
    configs = λ label group name c below some. b.configs label group name c below (handed_settled v.created (bytes_of m) m (config_place size label) c some);
    logs = λ k chain number c block below some. b.logs k chain number c block below (handed_settled v.created (bytes_of m) m (block_address k) c some);
  }

  behind_wrote : (config place moment : ℕ) (content : List ℕ) (done : Bool) (m : Moment) → ((labels : FixedLabels) → labels.config ≡ config → IsQuiet size v.new_flushed labels v.new (Put place content)) → IsBehind v size config m
      → IsBehind v size config (wrote moment place content done m)
  behind_wrote config place moment content done m quiet b = record {
    labels = b.labels;
    config_is = b.config_is;
    rest = quiet_call size v.created v.new_flushed b.labels v.new (Put place content) (quiet b.labels b.config_is) moment done m b.rest;
  }

  pub behind_settled : (config : ℕ) (m : Moment) → IsBehind v size config m → IsBehind v size config (settled (bytes_of m) m)
  behind_settled config m b =
      record { labels = b.labels; config_is = b.config_is; rest = quiet_call size v.created v.new_flushed b.labels v.new Settle tt m b.rest }

  module _ (before config : ℕ) where
    abbrev pub Phase : Moment → Type 0
    Phase m = IsPhase size v.created v.flushed v.new_flushed m v.old v.new

    -- each moment of a call is of a phase, and so is what it leaves, by the calls that are made then
    abbrev pub Keeps : ℕ → Result (Unit {0}) PoolError → Disk → Disk → Type 0
    Keeps done r old new = EachMoment Phase old new × HasPhase v size before config (done_after done r) new.now

    pub of_first : (done : ℕ) (m : Moment) → done < before → IsBefore v size m → HasPhase v size before config done m
    of_first done m below b = record {
      first = λ here. b;
      switching = λ here. absurd (omega (arith, here, below));
      between = λ from to. absurd (omega (arith, from, below));
      stands = λ here. absurd (omega (arith, here, below));
      behind = λ from. absurd (omega (arith, from, below));
    }

    pub of_behind : (done : ℕ) (m : Moment) → before + 4 < done → IsBehind v size config m → HasPhase v size before config done m
    of_behind done m above b = record {
      first = λ here. absurd (omega (arith, here, above));
      switching = λ here. absurd (omega (arith, here, above));
      between = λ from to. absurd (omega (arith, to, above));
      stands = λ here. absurd (omega (arith, here, above));
      behind = λ from. b;
    }

    pub of_switching : (m : Moment) → IsSwitching size v.created v.flushed v.new_flushed config v.fixed v.old v.new m → HasPhase v size before config before m
    of_switching m s = record {
      first = λ here. absurd (omega (arith, here));
      switching = λ here. s;
      between = λ from to. absurd (omega (arith, from));
      stands = λ here. absurd (omega (arith, here));
      behind = λ from. absurd (omega (arith, from));
    }

    pub of_between : (done : ℕ) (m : Moment) → before < done → done < before + 5 → (done ≡ before + 4 → part (bytes_of m) (slot_place size 3 (slot_of v.new.u.group)) slot_size ≡ v.new.slot)
        → IsBetweenOrSwitched v size config (done - before) m → HasPhase v size before config done m
    of_between done m from to stands b = record {
      first = λ here. absurd (omega (arith, here, from));
      switching = λ here. absurd (omega (arith, here, from));
      between = λ above below. b;
      stands = stands;
      behind = λ above. absurd (omega (arith, above, to));
    }

    first_after : (done : ℕ) (r : Result (Unit {0}) PoolError) (m : Moment) → done + 1 < before → IsBefore v size m → HasPhase v size before config (done_after done r) m
    first_after done (Ok x) m below b = of_first (done + 1) m below b
    first_after done (Err e) m below b = of_first done m (omega (arith, below)) b

    behind_after : (done : ℕ) (r : Result (Unit {0}) PoolError) (m : Moment) → before + 4 < done → IsBehind v size config m → HasPhase v size before config (done_after done r) m
    behind_after done (Ok x) m above b = of_behind (done + 1) m (omega (arith, above)) b
    behind_after done (Err e) m above b = of_behind done m above b

    module _ (done : ℕ) (r : Result (Unit {0}) PoolError) (old new : Disk) (has : HasPhase v size before config done old.now) where
      -- a quiet write before the uberblocks
      pub first_write : (place : ℕ) (content : List ℕ) → done + 1 < before → IsQuiet size v.flushed v.fixed v.old (Put place content) → IsNewContent size content v.new → Writes old place content r new → Keeps done r old new
      first_write place content below quiet is writes =
          let each : EachMoment (IsBefore v size) old new = each_write (IsBefore v size) old old new place content r (starts (IsBefore v size) old (has.first (omega (arith, below)))) writes
          (λ d b. before_wrote place (moments old) content d old.now quiet is b) in
          (weaker (IsBefore v size) Phase old new (λ m b. inl b.rest.rest) each, first_after done r new.now below (latest (IsBefore v size) old new each))

      each_first_flush : done < before → Flushes old r new → EachMoment (IsBefore v size) old new
      each_first_flush below flushes = each_flush (IsBefore v size) old old new r (starts (IsBefore v size) old (has.first below)) flushes (λ b. before_settled old.now b)

      -- a flush before the last one in front of the uberblocks
      pub first_flush : done + 1 < before → Flushes old r new → Keeps done r old new
      first_flush below flushes =
          let each = each_first_flush (omega (arith, below)) flushes in
          (weaker (IsBefore v size) Phase old new (λ m b. inl b.rest.rest) each, first_after done r new.now below (latest (IsBefore v size) old new each))

      -- that one: after it the new view is laid
      pub last_flush : done + 1 ≡ before → Flushes old r new → (new.now.unflushed ≡ [] → bytes_of new.now ≡ bytes_of old.now → IsBefore v size new.now → IsLaidAt size v.created v.new_flushed config v.new new.now)
          → Keeps done r old new
      last_flush at flushes laid =
          let each = each_first_flush (omega (arith, at)) flushes in
          (weaker (IsBefore v size) Phase old new (λ m b. inl b.rest.rest) each, by_answer r flushes laid (latest (IsBefore v size) old new each))
        where
          by_answer : (s : Result (Unit {0}) PoolError) → Flushes old s new → (new.now.unflushed ≡ [] → bytes_of new.now ≡ bytes_of old.now → IsBefore v size new.now → IsLaidAt size v.created v.new_flushed config v.new new.now)
              → IsBefore v size new.now → HasPhase v size before config (done_after done s) new.now
          by_answer (Ok x) flushed lies b =
              let clean = flushed_clean old new flushed in
              subst (λ (n : ℕ). HasPhase v size before config n new.now) (sym at) (of_switching new.now (inl (b.rest, lies clean.0 clean.1 b)))
          by_answer (Err e) refused lies b = of_first done new.now (omega (arith, at)) b

      -- quiet calls after the uberblocks
      pub behind_write : (place : ℕ) (content : List ℕ) → before + 4 < done → ((labels : FixedLabels) → labels.config ≡ config → IsQuiet size v.new_flushed labels v.new (Put place content)) → Writes old place content r new → Keeps done r old new
      behind_write place content above quiet writes =
          let each : EachMoment (IsBehind v size config) old new = each_write (IsBehind v size config) old old new place content r (starts (IsBehind v size config) old (has.behind above)) writes
          (λ d b. behind_wrote config place (moments old) content d old.now quiet b) in
          (weaker (IsBehind v size config) Phase old new (λ m b. inr (inr b.rest.rest)) each, behind_after done r new.now above (latest (IsBehind v size config) old new each))

      pub behind_flush : before + 4 < done → Flushes old r new → Keeps done r old new
      behind_flush above flushes =
          let each : EachMoment (IsBehind v size config) old new = each_flush (IsBehind v size config) old old new r (starts (IsBehind v size config) old (has.behind above)) flushes (λ b. behind_settled config old.now b) in
          (weaker (IsBehind v size config) Phase old new (λ m b. inr (inr b.rest.rest)) each, behind_after done r new.now above (latest (IsBehind v size config) old new each))

-- each phase by the calls that are made is one of the three
pub phase_now : (v : SyncViews) (run : SyncRun) (m : Moment) → HasPhaseOf run v m → IsSyncPhase run v m
phase_now v run m has = elim (cases_order run.done (calls_before_slots run)) as (λ _. IsSyncPhase run v m) [
  | inl same ↦ elim (has.switching same) as (λ _. IsSyncPhase run v m) [
    | inl rest ↦ inl rest.0.rest
    | inr b ↦ inr (inl b.between)
  ]
  | inr (inl below) ↦ inl (has.first below).rest.rest
  | inr (inr above) ↦ elim (cases_lt run.done (calls_before_slots run + 5)) as (λ _. IsSyncPhase run v m) [
    | inl low ↦ elim (has.between above low) as (λ _. IsSyncPhase run v m) [
      | inl b ↦ inr (inl b.between)
      | inr s ↦ inr (inr s.rest.rest)
    ]
    | inr high ↦ inr (inr (has.behind (omega (arith, high))).rest.rest)
  ]
]

-- in each of them the disk has its size
pub sized_now : (v : SyncViews) (run : SyncRun) (m : Moment) → HasPhaseOf run v m → length (bytes_of m) ≡ run.geometry
sized_now v run m has = elim (phase_now v run m has) as (λ _. length (bytes_of m) ≡ run.geometry) [
  | inl rest ↦ rest.laid.firm.size_is
  | inr (inl b) ↦ b.old_laid.firm.size_is
  | inr (inr rest) ↦ rest.laid.firm.size_is
]
