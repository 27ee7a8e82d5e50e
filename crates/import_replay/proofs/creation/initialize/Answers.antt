use Rattle.std.proofs.Common.{ℕ, ◌<◌, Err, refl}
use Rattle.base.specs.kept.Views.{View}
use Rattle.base.specs.disk.Disk.{moments}
use Rattle.import_replay.specs.Creations.{first_config}
use Rattle.import_replay.specs.Cleared.{IsCleared}
use Rattle.import_replay.specs.Labelled.{HoldConfig, IsLabelled}
use Rattle.import_replay.specs.OwnCreations.{first_view}
use Rattle.import_replay.proofs.CreateCalls.{flush_in_order}
use Rattle.import_replay.proofs.CreateStages.{blocks_made, configs_made, first_flush_made, last_flush_made, second_flush_made, stops_in_blocks, stops_in_configs, stops_in_first_flush, stops_in_second_flush, stops_in_tails, stops_in_uberblocks, uberblocks_made}
use Rattle.import_replay.proofs.FirstWrites.{first_disk, first_flushed, handed_flushed, none_written}
use Rattle.import_replay.proofs.LabelWrites.{after_flush, after_last_flush, settles}
use Rattle.import_replay.proofs.OutsideWrites.{flushes_on}
use Rattle.import_replay.proofs.creation.initialize.Goals as goal

pub returns-clause-labels : goal.returns-clause-labels
returns-clause-labels g c = λ keeps.
    let disk = g.D.SectorDevice.disk in
    let cleared = c.in_ok-clear_blocks.ensures.cleared keeps (c.in_ok-clear_labels.ensures.cleared keeps) in
    let flushed = after_flush (IsCleared c.args.geometry) (disk c.clear_blocks.new.device) (disk c.flush.new.self) (c.in_ok-flush.ensures.disk keeps) cleared in
    let beside = after_flush (IsCleared c.args.geometry) (disk c.write_configs.new.device) (disk c.flush-2.new.self) (c.in_ok-flush-2.ensures.disk keeps) (c.in_ok-write_configs.ensures.cleared keeps flushed) in
    let configs = after_flush (HoldConfig c.args.geometry 4 (first_config c.args.name c.args.guid c.args.geometry)) (disk c.write_configs.new.device) (disk c.flush-2.new.self) (c.in_ok-flush-2.ensures.disk keeps) (c.in_ok-write_configs.ensures.configs keeps) in
    after_last_flush (IsLabelled c.args.geometry c.args.name c.args.guid c.args.moment) (disk c.write_uberblocks.new.device) (disk c.flush-3.new.self) c.flush-3.result (c.flush-3.ensures.disk keeps)
    (c.in_ok-write_uberblocks.ensures.labels keeps beside c.args.name configs)

pub returns-clause-settled : goal.returns-clause-settled
returns-clause-settled g c = λ keeps.
    settles (g.D.SectorDevice.disk c.write_uberblocks.new.device) (g.D.SectorDevice.disk c.flush-3.new.self) c.flush-3.result (c.flush-3.ensures.disk keeps)

pub returns-in_err-write_configs-clause-outside : goal.returns-in_err-write_configs-clause-outside
returns-in_err-write_configs-clause-outside g c = λ keeps start so_far.
    let cleared = c.clear_blocks.ensures.outside keeps start (c.clear_labels.ensures.outside keeps start so_far) in
    c.write_configs.ensures.outside keeps start (flushes_on c.args.geometry start _ _ c.flush.result cleared (c.flush.ensures.disk keeps))

pub returns-in_err-flush-2-clause-outside : goal.returns-in_err-flush-2-clause-outside
returns-in_err-flush-2-clause-outside g c = λ keeps start so_far.
    let cleared = c.clear_blocks.ensures.outside keeps start (c.clear_labels.ensures.outside keeps start so_far) in
    let configs = c.write_configs.ensures.outside keeps start (flushes_on c.args.geometry start _ _ c.flush.result cleared (c.flush.ensures.disk keeps)) in
    flushes_on c.args.geometry start _ _ c.flush-2.result configs (c.flush-2.ensures.disk keeps)

pub returns-in_err-write_uberblocks-clause-outside : goal.returns-in_err-write_uberblocks-clause-outside
returns-in_err-write_uberblocks-clause-outside g c = λ keeps start so_far.
    let cleared = c.clear_blocks.ensures.outside keeps start (c.clear_labels.ensures.outside keeps start so_far) in
    let configs = c.write_configs.ensures.outside keeps start (flushes_on c.args.geometry start _ _ c.flush.result cleared (c.flush.ensures.disk keeps)) in
    c.write_uberblocks.ensures.outside keeps start (flushes_on c.args.geometry start _ _ c.flush-2.result configs (c.flush-2.ensures.disk keeps))

pub returns-clause-outside : goal.returns-clause-outside
returns-clause-outside g c = λ keeps start so_far.
    let cleared = c.clear_blocks.ensures.outside keeps start (c.clear_labels.ensures.outside keeps start so_far) in
    let configs = c.write_configs.ensures.outside keeps start (flushes_on c.args.geometry start _ _ c.flush.result cleared (c.flush.ensures.disk keeps)) in
    let uberblocks = c.write_uberblocks.ensures.outside keeps start (flushes_on c.args.geometry start _ _ c.flush-2.result configs (c.flush-2.ensures.disk keeps)) in
    flushes_on c.args.geometry start _ _ c.flush-3.result uberblocks (c.flush-3.ensures.disk keeps)

pub returns-clause-handed : goal.returns-clause-handed
returns-clause-handed g c = λ keeps.
    let disk = g.D.SectorDevice.disk in
    let start = disk c.args.device.now in
    let t : ℕ = moments start in
    let v : View = first_view c.args.name c.args.guid c.args.moment c.args.geometry in
    let cleared = c.in_ok-clear_blocks.ensures.first keeps t v (c.in_ok-clear_labels.ensures.first keeps t v (none_written start v (c.requires.earlier keeps))) in
    let flushed = first_flushed (disk c.clear_blocks.new.device) (disk c.flush.new.self) t v (c.in_ok-flush.ensures.disk keeps) cleared in
    let configs = first_flushed (disk c.write_configs.new.device) (disk c.flush-2.new.self) t v (c.in_ok-flush-2.ensures.disk keeps) (c.in_ok-write_configs.ensures.first keeps t v refl flushed) in
    let handed = c.in_ok-write_configs.ensures.handed keeps t flushed.began in
    let certain = λ (label : ℕ) (below : label < 4). handed_flushed (disk c.write_configs.new.device) (disk c.flush-2.new.self) t _ _ v.config (c.in_ok-flush-2.ensures.disk keeps) (handed label below) in
    first_disk c.args.geometry t v (disk c.write_uberblocks.new.device) (disk c.flush-3.new.self) c.flush-3.result (c.flush-3.ensures.disk keeps) (record {
      writes = c.in_ok-write_uberblocks.ensures.first keeps t v refl configs;
      configs = c.in_ok-write_uberblocks.ensures.configs keeps t v.config certain;
      slots = c.in_ok-write_uberblocks.ensures.handed keeps t configs.began;
    })

pub returns-in_err-clear_labels-clause-ordered : goal.returns-in_err-clear_labels-clause-ordered
returns-in_err-clear_labels-clause-ordered g c = λ keeps.
    let disk = g.D.SectorDevice.disk in
    let start = disk c.args.device.now in
    stops_in_tails c.args.geometry c.args.name c.args.guid c.args.moment start start (disk c.clear_labels.new.device) c.from_residual.result c.in_err-clear_labels.field-0.0 c.from_residual.ensures.1
    (c.in_err-clear_labels.ensures.ordered keeps)

pub returns-in_err-clear_blocks-clause-ordered : goal.returns-in_err-clear_blocks-clause-ordered
returns-in_err-clear_blocks-clause-ordered g c = λ keeps.
    let disk = g.D.SectorDevice.disk in
    let start = disk c.args.device.now in
    let labels = c.in_ok-clear_labels.ensures.ordered keeps in
    stops_in_blocks c.args.geometry c.args.name c.args.guid c.args.moment start (disk c.clear_labels.new.device) (disk c.clear_blocks.new.device) c.from_residual-in_err-clear_blocks.result c.in_err-clear_blocks.field-0.0 c.from_residual-in_err-clear_blocks.ensures.1 labels
    (c.in_err-clear_blocks.ensures.ordered keeps)

pub returns-in_err-flush-clause-ordered : goal.returns-in_err-flush-clause-ordered
returns-in_err-flush-clause-ordered g c = λ keeps.
    let disk = g.D.SectorDevice.disk in
    let start = disk c.args.device.now in
    let labels = c.in_ok-clear_labels.ensures.ordered keeps in
    let cleared = blocks_made c.args.geometry c.args.name c.args.guid c.args.moment start (disk c.clear_labels.new.device) (disk c.clear_blocks.new.device) labels (c.in_ok-clear_blocks.ensures.ordered keeps) in
    stops_in_first_flush c.args.geometry c.args.name c.args.guid c.args.moment start (disk c.clear_blocks.new.device) (disk c.flush.new.self) c.from_residual-in_err-flush.result c.in_err-flush.field-0.0 c.from_residual-in_err-flush.ensures.1 cleared
    (flush_in_order (Err c.in_err-flush.field-0.0) (disk c.clear_blocks.new.device) (disk c.flush.new.self) c.in_err-flush.ensures.refusal (c.in_err-flush.ensures.disk keeps))

pub returns-in_err-write_configs-clause-ordered : goal.returns-in_err-write_configs-clause-ordered
returns-in_err-write_configs-clause-ordered g c = λ keeps.
    let disk = g.D.SectorDevice.disk in
    let start = disk c.args.device.now in
    let labels = c.in_ok-clear_labels.ensures.ordered keeps in
    let cleared = blocks_made c.args.geometry c.args.name c.args.guid c.args.moment start (disk c.clear_labels.new.device) (disk c.clear_blocks.new.device) labels (c.in_ok-clear_blocks.ensures.ordered keeps) in
    let certain = first_flush_made c.args.geometry c.args.name c.args.guid c.args.moment start (disk c.clear_blocks.new.device) (disk c.flush.new.self) cleared (c.in_ok-flush.ensures.disk keeps) in
    stops_in_configs c.args.geometry c.args.name c.args.guid c.args.moment start (disk c.flush.new.self) (disk c.write_configs.new.device) c.from_residual-in_err-write_configs.result c.in_err-write_configs.field-0.0 c.from_residual-in_err-write_configs.ensures.1 certain
    (c.in_err-write_configs.ensures.ordered keeps)

pub returns-in_err-flush-2-clause-ordered : goal.returns-in_err-flush-2-clause-ordered
returns-in_err-flush-2-clause-ordered g c = λ keeps.
    let disk = g.D.SectorDevice.disk in
    let start = disk c.args.device.now in
    let labels = c.in_ok-clear_labels.ensures.ordered keeps in
    let cleared = blocks_made c.args.geometry c.args.name c.args.guid c.args.moment start (disk c.clear_labels.new.device) (disk c.clear_blocks.new.device) labels (c.in_ok-clear_blocks.ensures.ordered keeps) in
    let certain = first_flush_made c.args.geometry c.args.name c.args.guid c.args.moment start (disk c.clear_blocks.new.device) (disk c.flush.new.self) cleared (c.in_ok-flush.ensures.disk keeps) in
    let with_configs = configs_made c.args.geometry c.args.name c.args.guid c.args.moment start (disk c.flush.new.self) (disk c.write_configs.new.device) certain (c.in_ok-write_configs.ensures.ordered keeps) in
    stops_in_second_flush c.args.geometry c.args.name c.args.guid c.args.moment start (disk c.write_configs.new.device) (disk c.flush-2.new.self) c.from_residual-in_err-flush-2.result c.in_err-flush-2.field-0.0 c.from_residual-in_err-flush-2.ensures.1 with_configs
    (flush_in_order (Err c.in_err-flush-2.field-0.0) (disk c.write_configs.new.device) (disk c.flush-2.new.self) c.in_err-flush-2.ensures.refusal (c.in_err-flush-2.ensures.disk keeps))

pub returns-in_err-write_uberblocks-clause-ordered : goal.returns-in_err-write_uberblocks-clause-ordered
returns-in_err-write_uberblocks-clause-ordered g c = λ keeps.
    let disk = g.D.SectorDevice.disk in
    let start = disk c.args.device.now in
    let labels = c.in_ok-clear_labels.ensures.ordered keeps in
    let cleared = blocks_made c.args.geometry c.args.name c.args.guid c.args.moment start (disk c.clear_labels.new.device) (disk c.clear_blocks.new.device) labels (c.in_ok-clear_blocks.ensures.ordered keeps) in
    let certain = first_flush_made c.args.geometry c.args.name c.args.guid c.args.moment start (disk c.clear_blocks.new.device) (disk c.flush.new.self) cleared (c.in_ok-flush.ensures.disk keeps) in
    let with_configs = configs_made c.args.geometry c.args.name c.args.guid c.args.moment start (disk c.flush.new.self) (disk c.write_configs.new.device) certain (c.in_ok-write_configs.ensures.ordered keeps) in
    let certain_configs = second_flush_made c.args.geometry c.args.name c.args.guid c.args.moment start (disk c.write_configs.new.device) (disk c.flush-2.new.self) with_configs (c.in_ok-flush-2.ensures.disk keeps) in
    stops_in_uberblocks c.args.geometry c.args.name c.args.guid c.args.moment start (disk c.flush-2.new.self) (disk c.write_uberblocks.new.device) c.from_residual-in_err-write_uberblocks.result c.in_err-write_uberblocks.field-0.0 c.from_residual-in_err-write_uberblocks.ensures.1 certain_configs
    (c.in_err-write_uberblocks.ensures.ordered keeps)

pub returns-clause-ordered : goal.returns-clause-ordered
returns-clause-ordered g c = λ keeps.
    let disk = g.D.SectorDevice.disk in
    let start = disk c.args.device.now in
    let labels = c.in_ok-clear_labels.ensures.ordered keeps in
    let cleared = blocks_made c.args.geometry c.args.name c.args.guid c.args.moment start (disk c.clear_labels.new.device) (disk c.clear_blocks.new.device) labels (c.in_ok-clear_blocks.ensures.ordered keeps) in
    let certain = first_flush_made c.args.geometry c.args.name c.args.guid c.args.moment start (disk c.clear_blocks.new.device) (disk c.flush.new.self) cleared (c.in_ok-flush.ensures.disk keeps) in
    let with_configs = configs_made c.args.geometry c.args.name c.args.guid c.args.moment start (disk c.flush.new.self) (disk c.write_configs.new.device) certain (c.in_ok-write_configs.ensures.ordered keeps) in
    let certain_configs = second_flush_made c.args.geometry c.args.name c.args.guid c.args.moment start (disk c.write_configs.new.device) (disk c.flush-2.new.self) with_configs (c.in_ok-flush-2.ensures.disk keeps) in
    let with_uberblocks = uberblocks_made c.args.geometry c.args.name c.args.guid c.args.moment start (disk c.flush-2.new.self) (disk c.write_uberblocks.new.device) certain_configs (c.in_ok-write_uberblocks.ensures.ordered keeps) in
    last_flush_made c.args.geometry c.args.name c.args.guid c.args.moment start (disk c.write_uberblocks.new.device) (disk c.flush-3.new.self) c.flush-3.result with_uberblocks
    (flush_in_order c.flush-3.result (disk c.write_uberblocks.new.device) (disk c.flush-3.new.self) c.flush-3.ensures.refusal (c.flush-3.ensures.disk keeps))
