use Rattle.base.specs.disk.Disk.{bytes_of}
use Rattle.pool_tables.specs.Told.{pool_told}
use Rattle.pool_tables_clients.proofs.Callers.{read_bytes}
use Rattle.pool_tables_clients.proofs.reads.a_read_gives_the_bytes_of_its_range.Goals as goal

pub returns : goal.returns
returns g c =
    let t = pool_told c.args.pool.now (bytes_of (g.B.SectorDevice.disk c.args.reader.now).now) in
    read_bytes t c.requires.held.0 c.requires.held.1 c.args.owner (record { 0 = 7 }) (record { low = 1; high = 3 }) _ c.read.result c.requires.object (c.read.ensures.held c.requires.keeps)
