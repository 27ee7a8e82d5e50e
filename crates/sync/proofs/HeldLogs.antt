-- No call of a sync writes a log block, or over one. So the logs of both views are held as before, and once a flush is
-- answered Ok all their blocks are fixed.
use Rattle.std.proofs.Common.{◌≡◌, ℕ, ◌+◌, ◌≤◌, false, List, length, Option, Some, None, Result, sym, ◌∙◌, ap, subst, arith}
use Rattle.std.specs.Prelude.{◌≢◌, All, slice_get}
use Rattle.base.specs.declared.error.PoolError.{PoolError}
use Rattle.base.specs.tree.Mount.{header_of}
use Rattle.base.specs.kept.Views.{Logged}
use Rattle.base.specs.disk.Calls.{Writes}
use Rattle.base.specs.disk.Disk.{Apart, Disk, EachMoment, Moment, bytes_of, moments, settled}
use Rattle.base.specs.disk.SyncOrder.{DeviceCall}
use Rattle.base.specs.disk.SyncOrder.DeviceCall.{Block, Config, Uberblock, Flush}
use Rattle.base.specs.formats.Fields.{number_at}
use Rattle.base.specs.formats.Geometry.{block_count, block_size}
use Rattle.base.specs.formats.Uberblocks.{slot_size}
use Rattle.base.proofs.common.KeptLists.{All-at, mapped, Some-injective}
use Rattle.base.proofs.crash.LogCalls.{held_settled, held_wrote}
use Rattle.base.proofs.disk.Moments.{each_write, starts}
use Rattle.base.proofs.disk.Put.{apart_turned}
use Rattle.sync.specs.declared.run.LabelStages.{LabelStages}
use Rattle.sync.specs.declared.run.SyncRun.{SyncRun}
use Rattle.sync.specs.Calls.{Target, block_target, config_target, target_of}
use Rattle.sync.specs.Phases.{HasConfigOf, HoldsLogs, IsApartFromLog, IsSpareBlock, LeadsViews, SyncViews, all_flushed}
use Rattle.sync.proofs.SparedPlaces.{linked_placed}
use Rattle.sync.proofs.SpareBlocks.{call_apart}
use Rattle.sync.proofs.Targets.{InLabels, IsSound}

-- a flush fixes both logs
pub logs_settled : (run : SyncRun) (v : SyncViews) (m : Moment) → HoldsLogs run v false m → HoldsLogs run (all_flushed v) false (settled (bytes_of m) m)
logs_settled run v m h = record { apart = h.apart; old = held_settled run.geometry v.created v.flushed m v.old h.old; new = held_settled run.geometry v.created v.new_flushed m v.new h.new }

module _ (base : List ℕ) (run : SyncRun) (sound : IsSound run) (v : SyncViews) (leads : LeadsViews base run v) where
  -- what a call writes is a block of a tree, a config or an uberblock
  not_six : (call : DeviceCall) (t : Target) → target_of run call ≡ Some t → length t.content ≡ block_size → number_at t.content 0 ≢ 6
  not_six (Block k) t is long six =
      let (b, at, same) = mapped block_target (slice_get run.blocks.items k) t is in
      let spare : IsSpareBlock v b = All-at (IsSpareBlock v) run.blocks.items k b leads.blocks at in
      spare.not_log (ap (λ (u : Target). number_at u.content 0) same ∙ six)
  not_six (Config label) t is long six =
      let (stages, at, same) = mapped (config_target run.geometry label) run.stages t is in
      let config : HasConfigOf (Some stages) v = subst (λ (o : Option LabelStages). HasConfigOf o v) at leads.config in
      let one : number_at v.new.config 0 ≡ 1 = leads.view.config.block.kind_is in
      let there : number_at v.new.config 0 ≡ 6 = ap (λ (l : List ℕ). number_at l 0) (sym config.0) ∙ ap (λ (u : Target). number_at u.content 0) same ∙ six in
      omega (arith, one, there)
  not_six (Uberblock label) t is long six =
      let short : length t.content ≡ slot_size = ap (λ (u : Target). length u.content) (sym (Some-injective is)) ∙ ap (λ (l : List ℕ). length l) leads.uberblock ∙ leads.view.uberblock.size in
      omega (arith, short, long)
  not_six Flush t is long six = absurd (let no_way : None ≡ Some t = is in cc)

  module _ (call : DeviceCall) (t : Target) (within : InLabels call) (is : target_of run call ≡ Some t) (long : length t.content ≡ t.size) where
    old_apart : All (IsApartFromLog v.old) run.blocks.items → (i : ℕ) (l : Logged) → slice_get v.old.logged i ≡ Some l → Apart t.place (length t.content) l.block.address (length l.content)
    old_apart free i l at =
        let here = linked_placed v.old.u.guid (block_count run.geometry) v.old.u.import_number (header_of v.old.u) v.old.logged leads.old_view.linked i l at in
        let apart : Apart l.block.address block_size t.place t.size =
        call_apart run sound l.block.address here.1 (λ k b at_b. All-at (IsApartFromLog v.old) run.blocks.items k b free at_b i l at) call t within is in
        subst (λ (n : ℕ). Apart t.place n l.block.address (length l.content)) (sym long)
        (subst (λ (n : ℕ). Apart t.place t.size l.block.address n) (sym here.0) (apart_turned l.block.address block_size t.place t.size apart))

    new_apart : All (IsApartFromLog v.old) run.blocks.items → (i : ℕ) (l : Logged) → slice_get v.new.logged i ≡ Some l → Apart t.place (length t.content) l.block.address (length l.content)
    new_apart free i l at = let old = leads.log.1 i l at in old_apart free old.0 l old.1

    -- the logs are held at each moment of a write of the sync
    pub write_holds : (before after : Disk) (r : Result (Unit {0}) PoolError) → t.place + length t.content ≤ length (bytes_of before.now) → HoldsLogs run v false before.now → Writes before t.place t.content r after
        → EachMoment (HoldsLogs run v false) before after
    write_holds before after r fits holds writes = each_write (HoldsLogs run v false) before before after t.place t.content r (starts (HoldsLogs run v false) before holds) writes (λ done h. record {
      apart = h.apart;
      old = held_wrote (moments before) t.place t.content done before.now fits run.geometry v.created v.flushed false v.old (λ chain number block log. not_six call t is log.sealed.size log.sealed.kind_is) (old_apart h.apart) h.old;
      new = held_wrote (moments before) t.place t.content done before.now fits run.geometry v.created v.new_flushed false v.new (λ chain number block log. not_six call t is log.sealed.size log.sealed.kind_is) (new_apart h.apart) h.new;
    })
