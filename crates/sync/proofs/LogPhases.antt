-- A log block is written between two calls of a sync: each phase of the sync goes on, with the block in both views,
-- also if the write was refused and counts for a crash, or for nothing.
use Rattle.std.proofs.Common.{◌≡◌, inl, inr, ℕ, ◌+◌, ◌-◌, ◌<◌, ◌≤◌, Bool, List, length, refl, sym, ◌∙◌, ap, subst, arith}
use Rattle.base.specs.kept.CallStages.{FixedLabels, IsAtRestAt, IsBetweenAt, IsLaidAt, IsSwitching, SparesAt}
use Rattle.base.specs.kept.LogRule.{AreLogBlocksBelow}
use Rattle.base.specs.kept.LogSteps.{IsSpareOf}
use Rattle.base.specs.kept.Views.{AreConfigsKnown, IsLaid, Logged, View}
use Rattle.base.specs.disk.Disk.{Apart, Moment, bytes_of, handed, wrote}
use Rattle.base.specs.formats.Fields.{number_at}
use Rattle.base.specs.formats.Geometry.{IsBlockAddress, IsGeometry, block_address, block_count, block_size, config_place, slot_of, slot_place}
use Rattle.base.specs.formats.Uberblocks.{slot_size}
use Rattle.base.proofs.crash.CallStages.{slot_of_label, spares_of}
use Rattle.base.proofs.crash.KeptViews.{fixed_wrote, part_wrote}
use Rattle.base.proofs.crash.LogCalls.{logged_between}
use Rattle.base.proofs.crash.LogSpares.{block_fits}
use Rattle.base.proofs.crash.LogStages.{laid_at_logged, rest_at_logged}
use Rattle.base.proofs.crash.LogUnwritten.{known_logged, known_more, laid_more, rest_more}
use Rattle.base.proofs.crash.LogViews.{with_block}
use Rattle.base.proofs.formats.Geometry.{slot-below}
use Rattle.base.proofs.formats.LabelPlaces.{block-label_apart}
use Rattle.base.proofs.tree.PlacedTrees.{holds-placed}
use Rattle.sync.specs.LogCalls.{IsNextLogBlock, with_log_block}
use Rattle.sync.specs.Phases.{HasPhase, IsBefore, IsBetweenOrSwitched, SyncViews}
use Rattle.sync.proofs.SparedPlaces.{block_spares}

module _ (v : SyncViews) (size before config : ℕ) (g : IsGeometry size) (l : Logged) (m : Moment) (old_next : IsNextLogBlock size v.old l) (new_next : IsNextLogBlock size v.new l)
    (old_below : AreLogBlocksBelow size v.created (handed m) v.old (length v.old.logged)) (new_below : AreLogBlocksBelow size v.created (handed m) v.new (length v.new.logged)) where
  abbrev with : SyncViews
  with = with_log_block l v

  abbrev place : ℕ
  place = l.block.address

  in_area : IsBlockAddress (block_count size) place
  in_area = subst (λ (a : ℕ). IsBlockAddress (block_count size) a) (sym old_next.linked.0.0) old_next.linked.0.2

  whole : length l.content ≡ block_size
  whole = old_next.linked.0.3.sealed.size

  -- it spares what a view fixes
  spares : (flushed : ℕ) (at : FixedLabels) (w : View) → IsSpareOf w place → IsLaid size v.created flushed m w → SparesAt size flushed at w place (length l.content)
  spares flushed at w spare laid =
      let k : ℕ = in_area.0 in
      let there : place ≡ block_address k = in_area.2 in
      subst (λ (n : ℕ). SparesAt size flushed at w place n) (sym whole)
      (subst (λ (a : ℕ). SparesAt size flushed at w a block_size) (sym there)
      (block_spares size g flushed at w laid.view (holds-placed (bytes_of m) _ w.pointers w.synced.objects laid.firm.tree.holds) k in_area.1 (block_fits size g (block_address k) (k, in_area.1, refl))
      (λ p in_range some same. spare.not_in_tree p in_range some (sym (there ∙ same))) (λ i x below at_x same. spare.not_logged i x at_x (sym (there ∙ same)))))

  slot_apart : (label slot : ℕ) → label < 4 → slot < 128 → Apart place (length l.content) (slot_place size label slot) slot_size
  slot_apart label slot below in_array =
      subst (λ (n : ℕ). Apart place n (slot_place size label slot) slot_size) (sym whole) (block-label_apart size label (slot_place size label slot) slot_size place g below (omega arith) (omega (arith, in_array)) in_area)

  -- the write counts
  module _ (moment : ℕ) (done : Bool) (fits : place + length l.content ≤ length (bytes_of m)) where
    abbrev after : Moment
    after = wrote moment place l.content done m

    rest_logged : (flushed : ℕ) (at : FixedLabels) (w : View) → IsNextLogBlock size w l → AreLogBlocksBelow size v.created (handed m) w (length w.logged) → IsAtRestAt size v.created flushed at w m → IsAtRestAt size v.created flushed at (with_block l w) after
    rest_logged flushed at w next below rest = rest_at_logged moment place done m l fits size v.created refl flushed at w (next.linked, next.cut, below) (spares flushed at w next.spare rest.rest.laid) rest

    laid_logged : IsLaidAt size v.created v.new_flushed config v.new m → IsLaidAt size v.created v.new_flushed config with.new after
    laid_logged laid =
        let s = spares v.new_flushed (record { config = config; config_below = laid.below; slot = 0; slot_below = omega arith }) v.new new_next.spare laid.laid in
        laid_at_logged moment place done m l fits size v.created refl v.new_flushed config v.new (new_next.linked, new_next.cut, new_below) (record { not_config = s.not_config; not_tree = s.not_tree; not_log = s.not_log }) laid

    between_logged : IsBetweenAt size v.created v.flushed v.new_flushed config v.fixed v.old v.new m → IsBetweenAt size v.created v.flushed v.new_flushed config v.fixed with.old with.new after
    between_logged b =
        let o = spares v.flushed v.fixed v.old old_next.spare b.between.old_laid in
        let n = spares v.new_flushed (record { config = config; config_below = b.below; slot = 0; slot_below = omega arith }) v.new new_next.spare b.between.new_laid in
        record {
          between = logged_between moment place done m l fits size v.created v.flushed v.new_flushed v.old v.new refl old_next.linked old_next.cut old_below new_next.linked new_next.cut new_below
              (spares_of size v.created v.flushed v.fixed v.old m place (length l.content) b.config o) (slot_of_label size v.created v.flushed v.fixed v.old m place (length l.content) b.slot o)
              (record { config = record { label = config; in_range = b.below; fixed = b.new_fixed }; not_config = n.not_config; not_tree = n.not_tree; not_log = n.not_log }) b.between;
          config = fixed_wrote moment place l.content done m fits (config_place size v.fixed.config) v.old.config o.not_config b.config;
          slot = fixed_wrote moment place l.content done m fits (slot_place size v.fixed.slot (slot_of v.old.u.group)) v.old.slot o.not_slot b.slot;
          below = b.below;
          new_fixed = fixed_wrote moment place l.content done m fits (config_place size config) v.new.config n.not_config b.new_fixed;
        }

    -- a log block is no config
    configs_logged : AreConfigsKnown size v.created (handed m) v.new → AreConfigsKnown size v.created (handed after) with.new
    configs_logged known label group name c below (inl here) is not_above =
        let six : number_at l.content 0 ≡ 6 = new_next.linked.0.3.sealed.kind_is in
        let one : number_at c 0 ≡ 1 = is.block.kind_is in
        let same : number_at l.content 0 ≡ number_at c 0 = ap (λ (x : List ℕ). number_at x 0) here.2 in
        absurd (omega (arith, six, one, same))
    configs_logged known label group name c below (inr there) is not_above = known label group name c below there is not_above

    before_logged : IsBefore v size m → IsBefore with size after
    before_logged b = record {
      rest = rest_logged v.flushed v.fixed v.old old_next old_below b.rest;
      configs = configs_logged b.configs;
      logs = known_logged size v.created m v.new l new_below moment place done refl new_next.linked b.logs;
    }

    switching_with : IsSwitching size v.created v.flushed v.new_flushed config v.fixed v.old v.new m → IsSwitching size v.created v.flushed v.new_flushed config v.fixed with.old with.new after
    switching_with (inl (rest, laid)) = inl (rest_logged v.flushed v.fixed v.old old_next old_below rest, laid_logged laid)
    switching_with (inr b) = inr (between_logged b)

    later_with : (written : ℕ) → IsBetweenOrSwitched v size config written m → IsBetweenOrSwitched with size config written after
    later_with written (inl b) = inl (between_logged b)
    later_with written (inr s) = inr (record { labels = s.labels; config_is = s.config_is; slot_below = s.slot_below; rest = rest_logged v.new_flushed s.labels v.new new_next new_below s.rest })

    pub phase_logged : (count : ℕ) → HasPhase v size before config count m → HasPhase with size before config count after
    phase_logged count has = record {
      first = λ below. before_logged (has.first below);
      switching = λ same. switching_with (has.switching same);
      between = λ from to. later_with (count - before) (has.between from to);
      stands = λ all.
          part_wrote moment place l.content done m fits (slot_place size 3 (slot_of v.new.u.group)) slot_size (slot_apart 3 (slot_of v.new.u.group) (omega arith) (slot-below v.new.u.group)) ∙ has.stands all;
      behind = λ from. let b = has.behind from in record { labels = b.labels; config_is = b.config_is; rest = rest_logged v.new_flushed b.labels v.new new_next new_below b.rest };
    }

  -- the write was refused, and counts for nothing
  rest_with : (flushed : ℕ) (at : FixedLabels) (w : View) → IsNextLogBlock size w l → AreLogBlocksBelow size v.created (handed m) w (length w.logged) → IsAtRestAt size v.created flushed at w m → IsAtRestAt size v.created flushed at (with_block l w) m
  rest_with flushed at w next below rest = record { rest = rest_more size v.created m w l below next.linked next.cut flushed rest.rest; config = rest.config; slot = rest.slot }

  between_with : IsBetweenAt size v.created v.flushed v.new_flushed config v.fixed v.old v.new m → IsBetweenAt size v.created v.flushed v.new_flushed config v.fixed with.old with.new m
  between_with b = record {
    between = record {
      old_laid = laid_more size v.created m v.old l old_below old_next.linked old_next.cut v.flushed b.between.old_laid;
      new_laid = laid_more size v.created m v.new l new_below new_next.linked new_next.cut v.new_flushed b.between.new_laid;
      slot = record { label = b.between.slot.label; in_range = b.between.slot.in_range; fixed = b.between.slot.fixed };
      above = b.between.above;
      other_slot = b.between.other_slot;
      slots = b.between.slots;
      kept_slots = b.between.kept_slots;
    };
    config = b.config;
    slot = b.slot;
    below = b.below;
    new_fixed = b.new_fixed;
  }

  switching_more : IsSwitching size v.created v.flushed v.new_flushed config v.fixed v.old v.new m → IsSwitching size v.created v.flushed v.new_flushed config v.fixed with.old with.new m
  switching_more (inl (rest, laid)) = inl (
    rest_with v.flushed v.fixed v.old old_next old_below rest,
    record { laid = laid_more size v.created m v.new l new_below new_next.linked new_next.cut v.new_flushed laid.laid; below = laid.below; fixed = laid.fixed },
  )
  switching_more (inr b) = inr (between_with b)

  later_more : (written : ℕ) → IsBetweenOrSwitched v size config written m → IsBetweenOrSwitched with size config written m
  later_more written (inl b) = inl (between_with b)
  later_more written (inr s) = inr (record { labels = s.labels; config_is = s.config_is; slot_below = s.slot_below; rest = rest_with v.new_flushed s.labels v.new new_next new_below s.rest })

  pub phase_more : (count : ℕ) → HasPhase v size before config count m → HasPhase with size before config count m
  phase_more count has = record {
    first = λ below. let b = has.first below in record { rest = rest_with v.flushed v.fixed v.old old_next old_below b.rest; configs = b.configs; logs = known_more size v.created m v.new l new_below b.logs };
    switching = λ same. switching_more (has.switching same);
    between = λ from to. later_more (count - before) (has.between from to);
    stands = has.stands;
    behind = λ from. let b = has.behind from in record { labels = b.labels; config_is = b.config_is; rest = rest_with v.new_flushed b.labels v.new new_next new_below b.rest };
  }
