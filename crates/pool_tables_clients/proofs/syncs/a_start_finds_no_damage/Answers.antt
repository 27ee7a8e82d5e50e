use Rattle.std.proofs.Common.{◌≡◌, None, refl}
use Rattle.base.specs.disk.Disk.{bytes_of}
use Rattle.base.specs.steps.Refusals.{start_refusal}
use Rattle.pool_tables.specs.Shows.{pool_shown}
use Rattle.pool_tables.specs.Told.{pool_told}
use Rattle.pool_tables_clients.proofs.Passed.{started_over}
use Rattle.pool_tables_clients.proofs.syncs.a_start_finds_no_damage.Goals as goal

pub returns : goal.returns
returns g c =
    let now = bytes_of (g.B.SectorDevice.disk c.args.reader.now).now in
    let passes : start_refusal (pool_shown c.args.pool.now) ≡ None = rw (c.requires.running, c.requires.quiesced, c.requires.none) refl in
    started_over (pool_told c.args.pool.now now) (pool_told c.start_sync.new.self now) c.args.moment c.start_sync.result passes c.requires.held.0 c.requires.held.1 (c.start_sync.ensures.start.held c.requires.keeps)
