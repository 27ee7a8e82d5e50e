use Rattle.std.proofs.Common.{◌≡◌, false, true, refl, subst, sym, ◌∙◌}
use Rattle.std.proofs.lemmas.Result.{err_from_is_err_and}
use Rattle.base.specs.declared.error.PoolError.TheVariants.{NoMemory}
use Rattle.base.specs.disk.Disk.{bytes_of}
use Rattle.base.specs.formats.Geometry.{IsGeometry}
use Rattle.uberblocks.specs.Slots.{fields_of}
use Rattle.import_replay.proofs.NextPools.{reason_of_replay}
use Rattle.import_replay.proofs.Reasons.{passed_on}
use Rattle.inspections.proofs.Refused.{cause_walks, memory_refused, size_refused, walk_refused}
use Rattle.inspections.proofs.Views.{fits, is_view}
use Rattle.inspections.proofs.viewing.view_pool.Goals as goal

pub returns-in_err-geometry-clause-refused : goal.returns-in_err-geometry-clause-refused
returns-in_err-geometry-clause-refused g c =
    let x = c.in_err-geometry.field-0.0 in
    passed_on c.from_residual.result x _ c.from_residual.ensures.1
    (size_refused g.D.SectorDevice c.args.device.now x c.in_err-geometry.ensures.refused
    (λ sized. let no : false ≡ true = c.in_err-geometry.ensures.ok.1 (subst IsGeometry (sym c.sectors.ensures.size) sized) in cc))

pub returns-in_err-found-clause-refused : goal.returns-in_err-found-clause-refused
returns-in_err-found-clause-refused g c =
    let x = c.in_err-found.field-0.0 in
    let sized : IsGeometry (g.D.SectorDevice.size c.args.device.now) = subst IsGeometry c.sectors.ensures.size (c.in_ok-geometry.ensures.ok.0 refl) in
    passed_on c.from_residual-in_err-found.result x _ c.from_residual-in_err-found.ensures.1
    (walk_refused g.D.SectorDevice c.args.device.now _ x sized c.in_err-found.ensures.refused c.in_err-found.ensures.reason)

pub returns-in_err-pool-clause-refused : goal.returns-in_err-pool-clause-refused
returns-in_err-pool-clause-refused g c =
    let x = c.in_err-pool.field-0.0 in
    let found = c.in_ok-found.found in
    let loaded = c.in_ok-found.loaded in
    let sized : IsGeometry (g.D.SectorDevice.size c.args.device.now) = subst IsGeometry c.sectors.ensures.size (c.in_ok-geometry.ensures.ok.0 refl) in
    passed_on c.from_residual-in_err-pool.result x _ c.from_residual-in_err-pool.ensures.1
    (walk_refused g.D.SectorDevice c.args.device.now _ x sized (cause_walks x c.in_err-pool.ensures.cause) (λ keeps.
    reason_of_replay (bytes_of (g.D.SectorDevice.disk c.args.device.now).now) c.in_ok-geometry.geometry (fields_of found.uberblock) found.name loaded.tree c.in_ok-found.logged.items
    (c.in_ok-found.ensures.pool keeps) x c.in_err-pool.ensures.cause c.in_err-pool.ensures.refused))

pub returns-in_err-view-clause-reads : goal.returns-in_err-view-clause-reads
returns-in_err-view-clause-reads g c =
    let p = err_from_is_err_and c.from_residual-in_err-view.result c.from_residual-in_err-view.ensures.1 in
    let reads = c.in_ok-found.ensures.reads in
    record { size = reads.size; disk = reads.disk; count = rw (p.1, p.2) reads.count }

pub returns-in_err-view-clause-refused : goal.returns-in_err-view-clause-refused
returns-in_err-view-clause-refused g c =
    let sized : IsGeometry (g.D.SectorDevice.size c.args.device.now) = subst IsGeometry c.sectors.ensures.size (c.in_ok-geometry.ensures.ok.0 refl) in
    passed_on c.from_residual-in_err-view.result NoMemory _ c.from_residual-in_err-view.ensures.1
    (memory_refused g.D.SectorDevice c.args.device.now _ NoMemory sized refl)

pub returns-clause-mounted : goal.returns-clause-mounted
returns-clause-mounted g c = λ keeps.
    let found = c.in_ok-found.found in
    let loaded = c.in_ok-found.loaded in
    let made = c.in_ok-view.ensures in
    is_view c.in_ok-geometry.geometry (fields_of found.uberblock) found.name loaded.tree c.in_ok-found.logged.items c.in_ok-pool.pool c.in_ok-pool.ensures.replayed _ (made.frame ∙ c.frame_of-frame.ensures)
    (g.D.SectorDevice.disk c.args.device.now) (c.in_ok-found.ensures.pool keeps) made.synced made.changes

pub returns-clause-fits : goal.returns-clause-fits
returns-clause-fits g c =
    let size = c.in_ok-geometry.ensures.size in
    fits c.in_ok-geometry.geometry _ (fields_of c.in_ok-found.found.uberblock) c.in_ok-view.view (subst IsGeometry (sym size) (c.in_ok-geometry.ensures.ok.0 refl)) (sym c.sectors.ensures.size ∙ sym size) (c.in_ok-view.ensures.frame ∙ c.frame_of-frame.ensures)
