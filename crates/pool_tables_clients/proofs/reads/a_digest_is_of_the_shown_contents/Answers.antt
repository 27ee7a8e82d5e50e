use Rattle.base.specs.disk.Disk.{bytes_of}
use Rattle.pool_tables.specs.Told.{pool_told}
use Rattle.pool_tables_clients.proofs.Callers.{told_digest}
use Rattle.pool_tables_clients.proofs.reads.a_digest_is_of_the_shown_contents.Goals as goal

pub returns : goal.returns
returns g c =
    let t = pool_told c.args.pool.now (bytes_of (g.B.SectorDevice.disk c.args.reader.now).now) in
    told_digest t c.requires.held.0 c.requires.held.1 c.digest.result (c.digest.ensures.held c.requires.keeps)
