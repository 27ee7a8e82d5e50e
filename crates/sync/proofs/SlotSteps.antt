-- What a write of the new uberblock, and the flush after the four, make of the phase of a disk, whatever the device
-- answers.
use Rattle.std.proofs.Common.{◌≡◌, inl, inr, ℕ, ◌+◌, ◌-◌, ◌<◌, ◌≤◌, Bool, true, false, List, [], ◌∷◌, length, Result, Ok, Err, refl, sym, ◌∙◌, ap, subst, arith}
use Rattle.std.specs.Prelude.{◌≢◌}
use Rattle.std.proofs.lemmas.Bool.{cases_lt}
use Rattle.base.specs.declared.error.PoolError.{PoolError}
use Rattle.base.specs.formats.Fields.{part}
use Rattle.base.specs.formats.Geometry.{config_place, slot_place, slot_of}
use Rattle.base.specs.formats.Uberblocks.{slot_size}
use Rattle.base.specs.disk.Disk.{Write, Moment, Disk, bytes_of, settled, wrote, written, moments, certain_with}
use Rattle.base.specs.disk.Calls.{Writes, Flushes}
use Rattle.base.specs.kept.CallStages.{FixedLabels, IsBetweenAt, IsSwitching, IsSlotCall, SparesAt}
use Rattle.base.proofs.disk.Moments.{starts, weaker, each_write, each_flush, bytes_may_be_left}
use Rattle.base.proofs.disk.Put.{part-put_same}
use Rattle.base.proofs.crash.CallStages.{slot_call}
use Rattle.base.proofs.crash.KeptViews.{between_new, fixed_settled}
use Rattle.base.proofs.crash.LogStages.{own_slot_rest_at}
use Rattle.sync.specs.Phases.{SyncViews, HasPhase, IsBehind, IsBetweenOrSwitched, IsSwitched}
use Rattle.sync.proofs.KeptWrites.{done_after}
use Rattle.sync.proofs.PhaseSteps.{Keeps, Phase, behind_settled, of_switching, of_between, of_behind}

settled_none : (flushed : List ℕ) (ws kept : List Write) → ws ≡ []
    → settled (bytes_of (record { flushed = flushed; unflushed = ws; kept = kept })) (record { flushed = flushed; unflushed = ws; kept = kept }) ≡ record { flushed = flushed; unflushed = ws; kept = kept }
settled_none flushed [] kept none = refl
settled_none flushed (w ∷ ws) kept none = absurd (let no_way : w ∷ ws ≡ [] = none in cc)

-- a good flush makes what a read gives certain, also where nothing was unflushed
pub flushed_now : (old new : Disk) → Flushes old (Ok tt) new → new.now ≡ settled (bytes_of old.now) old.now
flushed_now old new flushes = go old.now.unflushed refl flushes
  where
    go : (ws : List Write) → old.now.unflushed ≡ ws → new ≡ certain_with (bytes_of old.now) old ws → new.now ≡ settled (bytes_of old.now) old.now
    go [] none same = ap (λ (d : Disk). d.now) same ∙ sym (settled_none old.now.flushed old.now.unflushed old.now.kept none)
    go (w ∷ ws) some same = ap (λ (d : Disk). d.now) same

module _ (v : SyncViews) (size before config : ℕ) (above : v.old.u.group < v.new.u.group) (other_slot : slot_of v.old.u.group ≢ slot_of v.new.u.group) where
  abbrev Switching : Moment → Type 0
  Switching m = IsSwitching size v.created v.flushed v.new_flushed config v.fixed v.old v.new m

  abbrev Between : Moment → Type 0
  Between m = IsBetweenAt size v.created v.flushed v.new_flushed config v.fixed v.old v.new m

  switching_phase : (m : Moment) → Switching m → Phase v size before config m
  switching_phase m (inl rest) = inl rest.0.rest
  switching_phase m (inr b) = inr (inl b.between)

  size_of : (m : Moment) → Switching m → length (bytes_of m) ≡ size
  size_of m (inl rest) = rest.0.rest.laid.firm.size_is
  size_of m (inr b) = b.between.old_laid.firm.size_is

  -- what a slot's label has after a good write of it
  slot_stands : (place : ℕ) (content : List ℕ) (m : Moment) (moment label : ℕ) → content ≡ v.new.slot → length (bytes_of m) ≡ size → place + length content ≤ size → length content ≡ slot_size
      → place ≡ slot_place size label (slot_of v.new.u.group) → label ≡ 3 → part (bytes_of (wrote moment place content true m)) (slot_place size 3 (slot_of v.new.u.group)) slot_size ≡ v.new.slot
  slot_stands place content m moment label is long within short there last =
      let fits : place + length content ≤ length (bytes_of m) = omega (arith, long, within) in
      let stands : part (bytes_of (wrote moment place content true m)) place (length content) ≡ content = part-put_same place content (bytes_of m) fits in
      let at : place ≡ slot_place size 3 (slot_of v.new.u.group) = there ∙ ap (λ (l : ℕ). slot_place size l (slot_of v.new.u.group)) last in
      ap (λ (p : ℕ). part (bytes_of (wrote moment place content true m)) p slot_size) (sym at) ∙ ap (λ (n : ℕ). part (bytes_of (wrote moment place content true m)) place n) (sym short) ∙ stands ∙ is

  -- A write of the new uberblock into a label.
  module _ (place : ℕ) (content : List ℕ) (done label : ℕ) (r : Result (Unit {0}) PoolError) (old new : Disk) (has : HasPhase v size before config done old.now) (below : label < 4) (at : done ≡ before + label)
      (there : place ≡ slot_place size label (slot_of v.new.u.group)) (short : length content ≡ slot_size) (writes : Writes old place content r new) where
    -- between the two views
    pub slot_write : Switching old.now → IsSlotCall size v.flushed v.new_flushed config v.fixed v.old v.new place content → Keeps v size before config done r old new
    slot_write here is = (
      weaker Switching (Phase v size before config) old new switching_phase
          (each_write Switching old old new place content r (starts Switching old here) writes (λ d s. inr (between_then d))),
      by_answer r writes,
    )
      where
        between_then : (d : Bool) → Between (wrote (moments old) place content d old.now)
        between_then d = slot_call size v.created v.flushed v.new_flushed config v.fixed v.old v.new above other_slot place content is (moments old) d old.now here

        refused_phase : (m : Moment) → Between m → HasPhase v size before config done m
        refused_phase m b = elim (cases_lt before done) as (λ _. HasPhase v size before config done m) [
          | inl later ↦ of_between v size before config done m later (omega (arith, at, below)) (λ all. absurd (omega (arith, all, at, below))) (inl b)
          | inr first ↦ let same : before ≡ done = omega (arith, at, first) in subst (λ (n : ℕ). HasPhase v size before config n m) same (of_switching v size before config m (inr b))
        ]

        by_answer : (s : Result (Unit {0}) PoolError) → Writes old place content s new → HasPhase v size before config (done_after done s) new.now
        by_answer (Ok x) made =
            subst (λ (d : Disk). HasPhase v size before config (done + 1) d.now) (sym made)
            (of_between v size before config (done + 1) (written place content true old).now (omega (arith, at)) (omega (arith, at, below))
            (λ all. slot_stands place content old.now (moments old) label is.content_is (size_of old.now here) is.old_spared.fits short there (omega (arith, all, at))) (inl (between_then true)))
        by_answer (Err e) (inl noted) = subst (λ (d : Disk). HasPhase v size before config done d.now) (sym noted) (refused_phase (written place content false old).now (between_then false))
        by_answer (Err e) (inr same) = subst (λ (d : Disk). HasPhase v size before config done d.now) (sym same) has

    -- after a flush of the log between two of the four
    pub switched_write : before < done → IsSwitched v size config (done - before) old.now → content ≡ v.new.slot
        → ((labels : FixedLabels) → labels.slot < label → SparesAt size v.new_flushed labels v.new place (length content)) → Keeps v size before config done r old new
    switched_write later s is spares = (
      weaker Now (Phase v size before config) old new (λ m n. inr (inr n.rest.rest)) (each_write Now old old new place content r (starts Now old s) writes (λ d n. now_then d)),
      by_answer r writes,
    )
      where
        Now : Moment → Type 0
        Now m = IsSwitched v size config (done - before) m

        spared : SparesAt size v.new_flushed s.labels v.new place (length content)
        spared = let first : s.labels.slot < done - before = s.slot_below in spares s.labels (omega (arith, first, at))

        long : length (bytes_of old.now) ≡ size
        long = s.rest.rest.laid.firm.size_is

        now_then : (d : Bool) → Now (wrote (moments old) place content d old.now)
        now_then d = record {
          labels = s.labels;
          config_is = s.config_is;
          slot_below = s.slot_below;
          rest = own_slot_rest_at (moments old) place content d old.now (let within : place + length content ≤ size = spared.fits in omega (arith, long, within)) size v.created v.new_flushed s.labels v.new is spared s.rest;
        }

        more : (m : Moment) → Now m → IsSwitched v size config (done + 1 - before) m
        more m n = let first : n.labels.slot < done - before = n.slot_below in record { labels = n.labels; config_is = n.config_is; slot_below = omega (arith, first); rest = n.rest }

        by_answer : (s : Result (Unit {0}) PoolError) → Writes old place content s new → HasPhase v size before config (done_after done s) new.now
        by_answer (Ok x) made =
            subst (λ (d : Disk). HasPhase v size before config (done + 1) d.now) (sym made)
            (of_between v size before config (done + 1) (written place content true old).now (omega (arith, later)) (omega (arith, at, below))
            (λ all. slot_stands place content old.now (moments old) label is long spared.fits short there (omega (arith, all, at))) (inr (more (written place content true old).now (now_then true))))
        by_answer (Err e) (inl noted) = subst (λ (d : Disk). HasPhase v size before config done d.now) (sym noted)
            (of_between v size before config done (written place content false old).now later (omega (arith, at, below)) (λ all. absurd (omega (arith, all, at, below))) (inr (now_then false)))
        by_answer (Err e) (inr same) = subst (λ (d : Disk). HasPhase v size before config done d.now) (sym same) has

  -- the flush after the four
  pub slot_flush : (done : ℕ) (r : Result (Unit {0}) PoolError) (old new : Disk) → HasPhase v size before config done old.now → done ≡ before + 4 → Flushes old r new → Keeps v size before config done r old new
  slot_flush done r old new has at flushes = by_case (has.between (omega (arith, at)) (omega (arith, at)))
    where
      ends : Phase v size before config old.now → IsBehind v size config (settled (bytes_of old.now) old.now) → Keeps v size before config done r old new
      ends phase behind =
          (each_flush (Phase v size before config) old old new r (starts (Phase v size before config) old phase) flushes (λ p. inr (inr behind.rest.rest)), by_answer r flushes)
        where
          by_answer : (s : Result (Unit {0}) PoolError) → Flushes old s new → HasPhase v size before config (done_after done s) new.now
          by_answer (Ok x) made = of_behind v size before config (done + 1) new.now (omega (arith, at)) (subst (λ (m : Moment). IsBehind v size config m) (sym (flushed_now old new made)) behind)
          by_answer (Err e) refused = subst (λ (d : Disk). HasPhase v size before config done d.now) (sym refused) has

      stands : part (bytes_of old.now) (slot_place size 3 (slot_of v.new.u.group)) slot_size ≡ v.new.slot
      stands = has.stands at

      by_case : IsBetweenOrSwitched v size config (done - before) old.now → Keeps v size before config done r old new
      by_case (inl b) = ends (inr (inl b.between)) (record {
        labels = record { config = config; config_below = b.below; slot = 3; slot_below = omega arith };
        config_is = refl;
        rest = record {
          rest = between_new old.now (bytes_of old.now) (bytes_may_be_left old.now) size v.created v.flushed v.new_flushed v.old v.new b.between 3 (omega arith) stands;
          config = fixed_settled old.now (bytes_of old.now) (bytes_may_be_left old.now) (config_place size config) v.new.config b.new_fixed;
          slot = record {
            settled = λ i from to touched. touched;
            stands = ap (λ (n : ℕ). part (bytes_of old.now) (slot_place size 3 (slot_of v.new.u.group)) n) b.between.new_laid.view.uberblock.size ∙ stands;
          };
        };
      })
      by_case (inr s) = ends (inr (inr s.rest.rest)) (behind_settled v size config old.now (record { labels = s.labels; config_is = s.config_is; rest = s.rest }))
