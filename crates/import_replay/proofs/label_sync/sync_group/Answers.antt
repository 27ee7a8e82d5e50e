use Rattle.std.proofs.Common.{rules, ◌≡◌, ◌∙◌, List, take, ap, refl, sym}
use Rattle.base.specs.disk.DiskCalls.{DiskCall, IsStoppedIn, after_disk_calls}
use Rattle.base.specs.declared.error.PoolError.{PoolError}
use Rattle.base.specs.disk.Disk.{bytes_of}
use Rattle.sync.specs.Runs.{call_count}
use Rattle.sync.proofs.Blocks.{nothing_made}
use Rattle.import_replay.specs.ImportRefusals.{IsSyncRefusal}
use Rattle.import_replay.specs.LabelSyncs.{ImportWrites, calls_of_import, import_writes, is_even}
use Rattle.import_replay.proofs.LabelCalls.{after_next, distinct_blocks, stopped_at, whole}
use Rattle.import_replay.proofs.LabelViews.{import_begins, moments_next, rest_next, since_next}
use Rattle.import_replay.proofs.LabelSyncs.{begun, sync_begins, sync_goes_on, sync_left, sync_refused}
use Rattle.import_replay.proofs.Reasons.{passed_on}
use Rattle.import_replay.proofs.SyncedLabels.{all_blocks_written, hold_labels, other_slots}
use Rattle.import_replay.proofs.label_sync.sync_group.Goals as goal

pub returns-in_err-next-clause-calls : goal.returns-in_err-next-clause-calls
returns-in_err-next-clause-calls g c =
    let x = c.in_err-next.field-0.0 in
    let call = c.in_err-next.ensures.called in
    record {
      size = c.next.ensures.size ∙ c.loop-run.invariant.sized ∙ sym c.requires.sized.size;
      count = search rules;
      refused = passed_on c.from_residual.result x IsSyncRefusal c.from_residual.ensures.1 (sync_refused call.call x call.refusal);
    }

pub returns-in_err-next-clause-stopped : goal.returns-in_err-next-clause-stopped
returns-in_err-next-clause-stopped g c = λ keeps.
    let i = c.loop-run.invariant in
    let x = c.in_err-next.field-0.0 in
    let call = c.in_err-next.ensures.called in
    let w : ImportWrites = import_writes c.args.geometry c.args.name.now c.args.uberblock.now c.args.blocks in
    let start = g.D.SectorDevice.disk c.args.device.now in
    let old = g.D.SectorDevice.disk c.loop-run.device in
    let new = g.D.SectorDevice.disk c.next.new.device in
    passed_on c.from_residual.result x (λ (e : PoolError). IsStoppedIn (calls_of_import w (is_even c.args.first)) e start new) c.from_residual.ensures.1
    (stopped_at w c.args.first c.loop-run.run i.run start old new call.call x call.next (i.called keeps) (call.made keeps) call.refusal)

pub loop-run-init : goal.loop-run-init
loop-run-init g c =
    let w : ImportWrites = import_writes c.args.geometry c.args.name.now c.args.uberblock.now c.args.blocks in
    let run = c.new-run.result in
    let told = c.new-run.ensures in
    let sync = begun c.args.geometry c.args.name.now c.args.uberblock.now c.args.blocks c.args.first run c.requires.blocks told.geometry told.blocks told.bytes told.uberblock told.stages told.config in
    let start = g.D.SectorDevice.disk c.args.device.now in
    record {
      sized = c.requires.sized.size;
      run = sync;
      left = sync_begins w c.args.first run sync told.done;
      count = refl;
      called = λ keeps. ap (λ k. after_disk_calls (take k (calls_of_import w (is_even c.args.first))) start) (sym told.done);
      views = λ keeps created flushed at v tree may. import_begins w c.args.first created flushed at v tree start may run sync told.done;
      made = λ keeps. nothing_made (bytes_of start.now) run told.done;
    }

pub returns-in_err-next-clause-views : goal.returns-in_err-next-clause-views
returns-in_err-next-clause-views g c = λ keeps created flushed at v tree may.
    let i = c.loop-run.invariant in
    let w : ImportWrites = import_writes c.args.geometry c.args.name.now c.args.uberblock.now c.args.blocks in
    moments_next w c.args.first c.loop-run.run i.run created flushed at v tree (g.D.SectorDevice.disk c.args.device.now) may c.requires.sized.geometry (g.D.SectorDevice.disk c.loop-run.device)
    (g.D.SectorDevice.disk c.next.new.device) c.next.new.self c.next.ensures.counts.same (c.next.ensures.written keeps) (c.next.ensures.phases keeps) (i.views keeps created flushed at v tree may)

pub loop-run-preserved : goal.loop-run-preserved
loop-run-preserved g c =
    let i = c.loop-run.invariant in
    let call = c.in_ok-next.ensures.called in
    let w : ImportWrites = import_writes c.args.geometry c.args.name.now c.args.uberblock.now c.args.blocks in
    let first = c.args.first in
    let start = g.D.SectorDevice.disk c.args.device.now in
    let old = g.D.SectorDevice.disk c.loop-run.device in
    let new = g.D.SectorDevice.disk c.next.new.device in
    record {
      sized = c.next.ensures.size ∙ i.sized;
      run = sync_goes_on w first c.loop-run.run c.next.new.self c.next.ensures.counts.same i.run;
      left = sync_left c.loop-run.run c.next.new.self c.next.ensures.counts.same i.left c.in_ok-next.ensures.counts.done (λ at_end. let other = sym c.in-More.is ∙ c.in_ok-next.ensures.counts.last.1 at_end in cc);
      count = c.in_ok-next.ensures.count ∙ i.count;
      called = λ keeps. after_next w first c.loop-run.run i.run start old new call.call call.next (i.called keeps) (call.made keeps) c.next.new.self.done c.in_ok-next.ensures.counts.done;
      views = λ keeps created flushed at v tree may.
          since_next w first c.loop-run.run i.run created flushed at v tree start may c.requires.sized.geometry old new c.next.new.self c.next.ensures.counts.same
          (c.next.ensures.written keeps) (c.next.ensures.phases keeps) (i.views keeps created flushed at v tree may);
      made = λ keeps. (c.next.ensures.written keeps).made (distinct_blocks w first c.loop-run.run i.run) (bytes_of start.now) (i.made keeps);
    }

pub returns-clause-written : goal.returns-clause-written
returns-clause-written g c = λ keeps.
    let i = c.loop-run.invariant in
    let call = c.in_ok-next.ensures.called in
    let w : ImportWrites = import_writes c.args.geometry c.args.name.now c.args.uberblock.now c.args.blocks in
    let first = c.args.first in
    let start = g.D.SectorDevice.disk c.args.device.now in
    let old = g.D.SectorDevice.disk c.loop-run.device in
    let new = g.D.SectorDevice.disk c.next.new.device in
    let base = bytes_of start.now in
    let all : c.next.new.self.done ≡ call_count c.next.new.self = c.in_ok-next.ensures.counts.last.0 c.in_default.is in
    let run = sync_goes_on w first c.loop-run.run c.next.new.self c.next.ensures.counts.same i.run in
    let made = (c.next.ensures.written keeps).made (distinct_blocks w first c.loop-run.run i.run) base (i.made keeps) in
    record {
      synced = after_next w first c.loop-run.run i.run start old new call.call call.next (i.called keeps) (call.made keeps) c.next.new.self.done c.in_ok-next.ensures.counts.done
          ∙ ap (λ (l : List DiskCall). after_disk_calls l start) (whole w first c.next.new.self run all);
      labelled = hold_labels w first c.next.new.self run base (bytes_of new.now) made all;
      other_slots = other_slots w first c.next.new.self run base (bytes_of new.now) made all c.requires.sized.geometry;
      length_is = made.size;
      blocks_written = all_blocks_written w first c.next.new.self run base (bytes_of new.now) made all c.requires.sized.geometry;
      settled = (c.next.ensures.written keeps).settled all;
    }

pub returns-clause-views : goal.returns-clause-views
returns-clause-views g c = λ keeps created flushed at v tree may.
    let i = c.loop-run.invariant in
    let w : ImportWrites = import_writes c.args.geometry c.args.name.now c.args.uberblock.now c.args.blocks in
    moments_next w c.args.first c.loop-run.run i.run created flushed at v tree (g.D.SectorDevice.disk c.args.device.now) may c.requires.sized.geometry (g.D.SectorDevice.disk c.loop-run.device)
    (g.D.SectorDevice.disk c.next.new.device) c.next.new.self c.next.ensures.counts.same (c.next.ensures.written keeps) (c.next.ensures.phases keeps) (i.views keeps created flushed at v tree may)

pub returns-clause-behind : goal.returns-clause-behind
returns-clause-behind g c = λ keeps created flushed at v tree may.
    let i = c.loop-run.invariant in
    let w : ImportWrites = import_writes c.args.geometry c.args.name.now c.args.uberblock.now c.args.blocks in
    rest_next w c.args.first c.loop-run.run i.run created flushed at v tree (g.D.SectorDevice.disk c.args.device.now) may c.requires.sized.geometry (g.D.SectorDevice.disk c.loop-run.device)
    (g.D.SectorDevice.disk c.next.new.device) c.next.new.self c.next.ensures.counts.same (c.next.ensures.written keeps) (c.next.ensures.phases keeps) (i.views keeps created flushed at v tree may)
    (c.in_ok-next.ensures.counts.last.0 c.in_default.is)
