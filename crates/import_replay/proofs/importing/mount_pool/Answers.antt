use Rattle.std.proofs.Common.{◌≡◌, ℕ, Bool, List, ap, refl, sym, subst, ◌∙◌}
use Rattle.base.specs.declared.error.PoolError.TheVariants.{TooMany}
use Rattle.base.specs.disk.Disk.{Disk, bytes_of}
use Rattle.base.specs.formats.Chain.{LogPiece}
use Rattle.base.specs.formats.Uberblocks.{Uberblock}
use Rattle.tree_blocks.specs.declared.tree.Tree.{Tree}
use Rattle.uberblocks.specs.Slots.{fields_of}
use Rattle.import_replay.specs.Found.{HasFirstStage}
use Rattle.import_replay.specs.LabelSyncs.{is_even}
use Rattle.import_replay.specs.Mounts.{IsMountedAnew}
use Rattle.import_replay.specs.NextPools.{HoldsLoaded, pool_parts}
use Rattle.import_replay.specs.declared.next_pool.NextPool.{NextPool}
use Rattle.import_replay.specs.declared.next_pool.ReplayedPool.{ReplayedPool}
use Rattle.import_replay.proofs.Configs.{err_weaker, ok_weaker, ok_both}
use Rattle.import_replay.proofs.MountedPools.{mounted_anew}
use Rattle.import_replay.proofs.NextPools.{IsPrepared, chain_allowed, is_import, lacks_room, last_numbers, loaded_held, loaded_placed, prepared_over, prepared_ready, prepared_within, reason_of_replay}
use Rattle.import_replay.proofs.OwnImports.{kept_before, kept_unwritten}
use Rattle.import_replay.proofs.OwnMounts.{own_kept, run_started}
use Rattle.import_replay.proofs.ReadPools.{same_flushed, read_behind_flush}
use Rattle.import_replay.proofs.Reasons.{passed_on}
use Rattle.import_replay.proofs.Refused.{flush_refused, next_refused, numbers_refused, open_refused, reading_refused, replay_refused}
use Rattle.import_replay.proofs.ReplayedPools.{changes_are}
use Rattle.import_replay.proofs.StoppedImports.{stopped_import}
use Rattle.import_replay.proofs.WrittenImports.{ok_written}
use Rattle.import_replay.proofs.importing.mount_pool.Goals as goal

pub replay_pool-requires-clause-allowed : goal.replay_pool-requires-clause-allowed
replay_pool-requires-clause-allowed g c = chain_allowed c.args.geometry c.in_ok-found.logged.items c.in_ok-found.ensures.loaded.sound

pub plan_pool-requires-clause-sized : goal.plan_pool-requires-clause-sized
plan_pool-requires-clause-sized g c = c.in_ok-replayed.ensures.replayed.sized

pub plan_pool-requires-clause-placed : goal.plan_pool-requires-clause-placed
plan_pool-requires-clause-placed g c =
    loaded_placed c.args.geometry (fields_of c.in_ok-found.found.uberblock) c.in_ok-found.found.name c.in_ok-found.loaded.tree c.in_ok-found.logged.items
    c.in_ok-replayed.replayed c.in_ok-found.ensures.loaded c.in_ok-replayed.ensures.replayed

pub plan_pool-requires-clause-changes : goal.plan_pool-requires-clause-changes
plan_pool-requires-clause-changes g c =
    changes_are c.args.geometry (fields_of c.in_ok-found.found.uberblock) c.in_ok-found.found.name c.in_ok-found.loaded.tree c.in_ok-found.logged.items
    c.in_ok-replayed.replayed c.in_ok-found.found.named c.in_ok-found.ensures.loaded c.in_ok-replayed.ensures.replayed

pub returns-clause-mounted : goal.returns-clause-mounted
returns-clause-mounted g c =
    let u : Uberblock = fields_of c.in_ok-found.found.uberblock in
    let name : List ℕ = c.in_ok-found.found.name in
    let tree : Tree = c.in_ok-found.loaded.tree in
    let chain : List LogPiece = c.in_ok-found.logged.items in
    let pool : ReplayedPool = c.in_ok-replayed.replayed in
    let next : NextPool = c.in_ok-next.next in
    let size : ℕ = c.args.geometry in
    let is : IsPrepared (HoldsLoaded g.B.SectorDevice c.read_pool.new.device size u pool) size u name tree chain pool next =
    record { named = c.in_ok-found.found.named; loaded = c.in_ok-found.ensures.loaded; replayed = c.in_ok-replayed.ensures.replayed; planned = c.in_ok-next.ensures.planned } in
    ok_weaker c.open_pool.result _ (IsMountedAnew size c.args.dirty_max)
    (λ m h. mounted_anew size u (pool_parts next) c.args.dirty_max m h (prepared_within _ size u name tree chain pool next is) c.requires.can.allowed) c.open_pool.ensures.mounted

pub returns-clause-imported : goal.returns-clause-imported
returns-clause-imported g c = λ keeps.
    let old = g.B.SectorDevice.disk c.args.device.now in
    let mid = g.B.SectorDevice.disk c.flush.new.self in
    let before = g.B.SectorDevice.disk c.plan_pool.new.reader in
    let after = g.B.SectorDevice.disk c.open_pool.new.device in
    let u : Uberblock = fields_of c.in_ok-found.found.uberblock in
    let name : List ℕ = c.in_ok-found.found.name in
    let tree : Tree = c.in_ok-found.loaded.tree in
    let chain : List LogPiece = c.in_ok-found.logged.items in
    let pool : ReplayedPool = c.in_ok-replayed.replayed in
    let next : NextPool = c.in_ok-next.next in
    let size : ℕ = c.args.geometry in
    let is : IsPrepared (HoldsLoaded g.B.SectorDevice c.read_pool.new.device size u pool) size u name tree chain pool next =
    record { named = c.in_ok-found.found.named; loaded = c.in_ok-found.ensures.loaded; replayed = c.in_ok-replayed.ensures.replayed; planned = c.in_ok-next.ensures.planned } in
    let flushes = c.in_ok-flush.ensures.disk keeps in
    let read = read_behind_flush old mid size u name tree chain flushes (c.in_ok-found.ensures.pool keeps) in
    let still = c.read_pool.ensures.reads.disk keeps in
    let bytes : bytes_of before.now ≡ bytes_of old.now = ap (λ (d : Disk). bytes_of d.now) (c.plan_pool.ensures.reads.disk keeps ∙ still) ∙ same_flushed old mid flushes in
    let held = loaded_held size u name tree chain pool is.replayed mid _ still (c.in_ok-found.ensures.pool keeps) in
    ok_weaker c.open_pool.result _ _
    (λ m h. is_import _ size u name tree chain pool next is (bytes_of old.now) read (keeps, held) c.args.dirty_max c.args.moment m h.0 c.requires.can.allowed.1 _ before after bytes h.1)
    (ok_both c.open_pool.result _ _ c.open_pool.ensures.mounted (c.open_pool.ensures.written keeps))

pub returns-clause-written : goal.returns-clause-written
returns-clause-written g c = λ keeps.
    let old = g.B.SectorDevice.disk c.args.device.now in
    let mid = g.B.SectorDevice.disk c.flush.new.self in
    let u : Uberblock = fields_of c.in_ok-found.found.uberblock in
    let name : List ℕ = c.in_ok-found.found.name in
    let tree : Tree = c.in_ok-found.loaded.tree in
    let chain : List LogPiece = c.in_ok-found.logged.items in
    let pool : ReplayedPool = c.in_ok-replayed.replayed in
    let next : NextPool = c.in_ok-next.next in
    let size : ℕ = c.args.geometry in
    let is : IsPrepared (HoldsLoaded g.B.SectorDevice c.read_pool.new.device size u pool) size u name tree chain pool next =
    record { named = c.in_ok-found.found.named; loaded = c.in_ok-found.ensures.loaded; replayed = c.in_ok-replayed.ensures.replayed; planned = c.in_ok-next.ensures.planned } in
    let even : Bool = is_even c.in_ok-found.found.first in
    let flushes = c.in_ok-flush.ensures.disk keeps in
    let read = read_behind_flush old mid size u name tree chain flushes (c.in_ok-found.ensures.pool keeps) in
    let same_long = g.met.B.SectorDevice.sized keeps c.open_pool.new.device ∙ c.open_pool.ensures.device.size ∙ c.plan_pool.ensures.reads.size ∙ c.read_pool.ensures.reads.size ∙ c.flush.ensures.size ∙ c.requires.can.size in
    let first = subst (λ (b : List ℕ). HasFirstStage b u.guid u.group name even) (same_flushed old mid flushes) (c.in_ok-found.ensures.first keeps) in
    let still = c.read_pool.ensures.reads.disk keeps in
    let held = loaded_held size u name tree chain pool is.replayed mid _ still (c.in_ok-found.ensures.pool keeps) in
    ok_written old _ mid _ size u name chain next c.args.dirty_max c.args.moment even c.open_pool.result (c.plan_pool.ensures.reads.disk keeps ∙ still) flushes read.long same_long
    read.pool.active first read.chain_is (prepared_over _ size u name tree chain pool next is (bytes_of old.now) read (keeps, held))
    c.open_pool.ensures.mounted (c.open_pool.ensures.written keeps)

pub returns-in_err-flush-clause-refused : goal.returns-in_err-flush-clause-refused
returns-in_err-flush-clause-refused g c =
    let x = c.in_err-flush.field-0.0 in
    let old = g.B.SectorDevice.disk c.args.device.now in
    let new = g.B.SectorDevice.disk c.flush.new.self in
    passed_on c.from_residual.result x _ c.from_residual.ensures.1
    (flush_refused g.B.SectorDevice.keeps_model c.args.moment old new new x c.in_err-flush.ensures.refusal c.in_err-flush.ensures.disk)

pub returns-in_err-found-clause-refused : goal.returns-in_err-found-clause-refused
returns-in_err-found-clause-refused g c =
    let x = c.in_err-found.field-0.0 in
    let old = g.B.SectorDevice.disk c.args.device.now in
    let mid = g.B.SectorDevice.disk c.flush.new.self in
    let new = g.B.SectorDevice.disk c.read_pool.new.device in
    passed_on c.from_residual-in_err-found.result x _ c.from_residual-in_err-found.ensures.1
    (reading_refused g.B.SectorDevice.keeps_model c.args.moment old mid new x c.in_ok-flush.ensures.disk c.in_err-found.ensures.refused c.in_err-found.ensures.reason c.read_pool.ensures.reads.disk)

pub returns-in_err-replayed-clause-refused : goal.returns-in_err-replayed-clause-refused
returns-in_err-replayed-clause-refused g c =
    let x = c.in_err-replayed.field-0.0 in
    let old = g.B.SectorDevice.disk c.args.device.now in
    let mid = g.B.SectorDevice.disk c.flush.new.self in
    let new = g.B.SectorDevice.disk c.read_pool.new.device in
    let image : List ℕ = bytes_of old.now in
    let u : Uberblock = fields_of c.in_ok-found.found.uberblock in
    let name : List ℕ = c.in_ok-found.found.name in
    let tree : Tree = c.in_ok-found.loaded.tree in
    let chain : List LogPiece = c.in_ok-found.logged.items in
    passed_on c.from_residual-in_err-replayed.result x _ c.from_residual-in_err-replayed.ensures.1
    (replay_refused g.B.SectorDevice.keeps_model c.args.moment old mid new x c.in_ok-flush.ensures.disk c.in_err-replayed.ensures.cause
    (λ keeps.
    reason_of_replay image c.args.geometry u name tree chain (read_behind_flush old mid c.args.geometry u name tree chain (c.in_ok-flush.ensures.disk keeps) (c.in_ok-found.ensures.pool keeps)) x
    c.in_err-replayed.ensures.cause c.in_err-replayed.ensures.refused)
    c.read_pool.ensures.reads.disk)

pub returns-then-is_past_last-clause-refused : goal.returns-then-is_past_last-clause-refused
returns-then-is_past_last-clause-refused g c =
    let old = g.B.SectorDevice.disk c.args.device.now in
    let mid = g.B.SectorDevice.disk c.flush.new.self in
    let new = g.B.SectorDevice.disk c.read_pool.new.device in
    let image : List ℕ = bytes_of old.now in
    let u : Uberblock = fields_of c.in_ok-found.found.uberblock in
    let name : List ℕ = c.in_ok-found.found.name in
    let tree : Tree = c.in_ok-found.loaded.tree in
    let chain : List LogPiece = c.in_ok-found.logged.items in
    numbers_refused g.B.SectorDevice.keeps_model c.args.moment old mid new TooMany c.in_ok-flush.ensures.disk refl
    (λ keeps.
    let read = read_behind_flush old mid c.args.geometry u name tree chain (c.in_ok-flush.ensures.disk keeps) (c.in_ok-found.ensures.pool keeps) in
    last_numbers c.args.geometry u name tree chain c.in_ok-replayed.replayed c.in_ok-found.found.named c.in_ok-found.ensures.loaded c.in_ok-replayed.ensures.replayed image read (sym c.if-is_past_last.ensures))
    c.read_pool.ensures.reads.disk

pub returns-in_err-next-clause-refused : goal.returns-in_err-next-clause-refused
returns-in_err-next-clause-refused g c =
    let x = c.in_err-next.field-0.0 in
    let old = g.B.SectorDevice.disk c.args.device.now in
    let mid = g.B.SectorDevice.disk c.flush.new.self in
    let new = g.B.SectorDevice.disk c.plan_pool.new.reader in
    let image : List ℕ = bytes_of old.now in
    let u : Uberblock = fields_of c.in_ok-found.found.uberblock in
    let name : List ℕ = c.in_ok-found.found.name in
    let tree : Tree = c.in_ok-found.loaded.tree in
    let chain : List LogPiece = c.in_ok-found.logged.items in
    let pool : ReplayedPool = c.in_ok-replayed.replayed in
    let size : ℕ = c.args.geometry in
    let refused = c.in_err-next.ensures.refused in
    let replayed = c.in_ok-replayed.ensures.replayed in
    passed_on c.from_residual-in_err-next.result x _ c.from_residual-in_err-next.ensures.1
    (next_refused g.B.SectorDevice.keeps_model c.args.moment old mid new x c.in_ok-flush.ensures.disk refused.kind
    (λ keeps. refused.sound (keeps, loaded_held size u name tree chain pool replayed mid _ (c.read_pool.ensures.reads.disk keeps) (c.in_ok-found.ensures.pool keeps)))
    (λ keeps is.
    let read = read_behind_flush old mid size u name tree chain (c.in_ok-flush.ensures.disk keeps) (c.in_ok-found.ensures.pool keeps) in
    lacks_room size u name tree chain pool c.in_ok-found.found.named c.in_ok-found.ensures.loaded replayed image read (sym c.if-is_past_last.ensures) (refused.full is)
    (refused.lacks (keeps, loaded_held size u name tree chain pool replayed mid _ (c.read_pool.ensures.reads.disk keeps) (c.in_ok-found.ensures.pool keeps)) is))
    (λ keeps. c.plan_pool.ensures.reads.disk keeps ∙ c.read_pool.ensures.reads.disk keeps))

pub returns-clause-refused : goal.returns-clause-refused
returns-clause-refused g c =
    let keeps_model = g.B.SectorDevice.keeps_model in
    let old = g.B.SectorDevice.disk c.args.device.now in
    let mid = g.B.SectorDevice.disk c.flush.new.self in
    let before = g.B.SectorDevice.disk c.plan_pool.new.reader in
    let new = g.B.SectorDevice.disk c.open_pool.new.device in
    let u : Uberblock = fields_of c.in_ok-found.found.uberblock in
    let name : List ℕ = c.in_ok-found.found.name in
    let tree : Tree = c.in_ok-found.loaded.tree in
    let chain : List LogPiece = c.in_ok-found.logged.items in
    let pool : ReplayedPool = c.in_ok-replayed.replayed in
    let next : NextPool = c.in_ok-next.next in
    let size : ℕ = c.args.geometry in
    let is : IsPrepared (HoldsLoaded g.B.SectorDevice c.read_pool.new.device size u pool) size u name tree chain pool next =
    record { named = c.in_ok-found.found.named; loaded = c.in_ok-found.ensures.loaded; replayed = c.in_ok-replayed.ensures.replayed; planned = c.in_ok-next.ensures.planned } in
    let even : Bool = is_even c.in_ok-found.found.first in
    err_weaker c.open_pool.result _ _
    (λ e refused. open_refused keeps_model c.args.moment old mid new e refused.kind (λ keeps.
    let flushes = c.in_ok-flush.ensures.disk keeps in
    let read = read_behind_flush old mid size u name tree chain flushes (c.in_ok-found.ensures.pool keeps) in
    let first = subst (λ (b : List ℕ). HasFirstStage b u.guid u.group name even) (same_flushed old mid flushes) (c.in_ok-found.ensures.first keeps) in
    let still = c.read_pool.ensures.reads.disk keeps in
    let held = loaded_held size u name tree chain pool is.replayed mid _ still (c.in_ok-found.ensures.pool keeps) in
    stopped_import _ size old mid before new u name tree chain pool next c.args.moment even e flushes (c.plan_pool.ensures.reads.disk keeps ∙ still) read first is (keeps, held)
    (sym c.if-is_past_last.ensures) (refused.stopped keeps)))
    c.open_pool.ensures.refused

pub returns-in_err-flush-clause-own : goal.returns-in_err-flush-clause-own
returns-in_err-flush-clause-own g c = λ keeps. kept_before (g.B.SectorDevice.disk c.args.device.now) (g.B.SectorDevice.disk c.flush.new.self) (c.in_err-flush.ensures.disk keeps)

pub returns-in_err-found-clause-own : goal.returns-in_err-found-clause-own
returns-in_err-found-clause-own g c = λ keeps.
    kept_unwritten (g.B.SectorDevice.disk c.args.device.now) (g.B.SectorDevice.disk c.flush.new.self) (c.in_ok-flush.ensures.disk keeps) (g.B.SectorDevice.disk c.read_pool.new.device) (c.read_pool.ensures.reads.disk keeps)

pub returns-in_err-replayed-clause-own : goal.returns-in_err-replayed-clause-own
returns-in_err-replayed-clause-own g c = λ keeps.
    kept_unwritten (g.B.SectorDevice.disk c.args.device.now) (g.B.SectorDevice.disk c.flush.new.self) (c.in_ok-flush.ensures.disk keeps) (g.B.SectorDevice.disk c.read_pool.new.device) (c.read_pool.ensures.reads.disk keeps)

pub returns-then-is_past_last-clause-own : goal.returns-then-is_past_last-clause-own
returns-then-is_past_last-clause-own g c = λ keeps.
    kept_unwritten (g.B.SectorDevice.disk c.args.device.now) (g.B.SectorDevice.disk c.flush.new.self) (c.in_ok-flush.ensures.disk keeps) (g.B.SectorDevice.disk c.read_pool.new.device) (c.read_pool.ensures.reads.disk keeps)

pub returns-in_err-next-clause-own : goal.returns-in_err-next-clause-own
returns-in_err-next-clause-own g c = λ keeps.
    kept_unwritten (g.B.SectorDevice.disk c.args.device.now) (g.B.SectorDevice.disk c.flush.new.self) (c.in_ok-flush.ensures.disk keeps) (g.B.SectorDevice.disk c.plan_pool.new.reader)
    (c.plan_pool.ensures.reads.disk keeps ∙ c.read_pool.ensures.reads.disk keeps)

pub returns-clause-own : goal.returns-clause-own
returns-clause-own g c = λ keeps.
    let u : Uberblock = fields_of c.in_ok-found.found.uberblock in
    let name : List ℕ = c.in_ok-found.found.name in
    let tree : Tree = c.in_ok-found.loaded.tree in
    let chain : List LogPiece = c.in_ok-found.logged.items in
    let pool : ReplayedPool = c.in_ok-replayed.replayed in
    let next : NextPool = c.in_ok-next.next in
    let size : ℕ = c.args.geometry in
    let is : IsPrepared (HoldsLoaded g.B.SectorDevice c.read_pool.new.device size u pool) size u name tree chain pool next =
    record { named = c.in_ok-found.found.named; loaded = c.in_ok-found.ensures.loaded; replayed = c.in_ok-replayed.ensures.replayed; planned = c.in_ok-next.ensures.planned } in
    let mid = g.B.SectorDevice.disk c.flush.new.self in
    let read = c.in_ok-found.ensures.pool keeps in
    let still = c.read_pool.ensures.reads.disk keeps in
    own_kept _ size u name c.in_ok-found.found.first tree chain pool next is (keeps, loaded_held size u name tree chain pool is.replayed mid _ still read) c.args.moment
    (g.B.SectorDevice.disk c.args.device.now) mid _ (g.B.SectorDevice.disk c.open_pool.new.device) (c.in_ok-flush.ensures.disk keeps) read (c.in_ok-found.ensures.first keeps)
    (c.plan_pool.ensures.reads.disk keeps ∙ still) (c.open_pool.ensures.views keeps)

pub returns-clause-starts : goal.returns-clause-starts
returns-clause-starts g c = λ keeps.
    let u : Uberblock = fields_of c.in_ok-found.found.uberblock in
    let name : List ℕ = c.in_ok-found.found.name in
    let tree : Tree = c.in_ok-found.loaded.tree in
    let chain : List LogPiece = c.in_ok-found.logged.items in
    let pool : ReplayedPool = c.in_ok-replayed.replayed in
    let next : NextPool = c.in_ok-next.next in
    let size : ℕ = c.args.geometry in
    let is : IsPrepared (HoldsLoaded g.B.SectorDevice c.read_pool.new.device size u pool) size u name tree chain pool next =
    record { named = c.in_ok-found.found.named; loaded = c.in_ok-found.ensures.loaded; replayed = c.in_ok-replayed.ensures.replayed; planned = c.in_ok-next.ensures.planned } in
    let mid = g.B.SectorDevice.disk c.flush.new.self in
    let read = c.in_ok-found.ensures.pool keeps in
    let still = c.read_pool.ensures.reads.disk keeps in
    ok_weaker c.open_pool.result _ _
    (λ m h. run_started _ size u name c.in_ok-found.found.first tree chain pool next is (keeps, loaded_held size u name tree chain pool is.replayed mid _ still read) c.args.moment
    (g.B.SectorDevice.disk c.args.device.now) mid _ (g.B.SectorDevice.disk c.open_pool.new.device) (c.in_ok-flush.ensures.disk keeps) read (c.in_ok-found.ensures.first keeps)
    (c.plan_pool.ensures.reads.disk keeps ∙ still) (c.open_pool.ensures.views keeps) c.args.dirty_max m h.0 h.1.0 h.1.1.settled)
    (ok_both c.open_pool.result _ _ c.open_pool.ensures.mounted (ok_both c.open_pool.result _ _ (c.open_pool.ensures.behind keeps) (c.open_pool.ensures.written keeps)))

pub open_pool-requires-clause-next : goal.open_pool-requires-clause-next
open_pool-requires-clause-next g c =
    prepared_ready _ c.args.geometry (fields_of c.in_ok-found.found.uberblock) c.in_ok-found.found.name c.in_ok-found.loaded.tree c.in_ok-found.logged.items
    c.in_ok-replayed.replayed c.in_ok-next.next
    (record { named = c.in_ok-found.found.named; loaded = c.in_ok-found.ensures.loaded; replayed = c.in_ok-replayed.ensures.replayed; planned = c.in_ok-next.ensures.planned })
