use Rattle.base.specs.disk.Disk.{bytes_of}
use Rattle.read_commands.specs.Undone.{IsGetRefused}
use Rattle.read_commands.specs.NamedTables.{table_range}
use Rattle.read_commands.proofs.TableReads.{table_checked, table_in, table_reads, table_refused}
use Rattle.read_commands.proofs.name_tables.read_table.Goals as goal

pub returns-clause-reads : goal.returns-clause-reads
returns-clause-reads g c =
    table_reads g.D.SectorDevice c.read_object-read.result.0 c.table_of.result c.args.device c.read_object-read.result.1 c.table_of.ensures c.read_object-read.ensures.reads

pub returns-clause-table : goal.returns-clause-table
returns-clause-table g c = λ assured.
    table_in (bytes_of (g.D.SectorDevice.disk c.args.device).now) c.read_object-read.result.0 c.table_of.result c.table_of.ensures
    (c.read_object-read.ensures.absent assured) (c.read_object-read.ensures.bytes assured)

pub returns-clause-checked : goal.returns-clause-checked
returns-clause-checked g c = λ path keeps.
    table_checked (bytes_of (g.D.SectorDevice.disk c.args.device).now) c.read_object-read.result.0 c.table_of.result c.table_of.ensures
    (c.read_object-read.ensures.unseen path keeps) (c.read_object-read.ensures.checked path keeps)

pub returns-clause-refused : goal.returns-clause-refused
returns-clause-refused g c =
    table_refused (IsGetRefused g.D.SectorDevice c.args.scope 0 table_range c.args.device c.read_object-read.result.1) c.read_object-read.result.0 c.table_of.result c.table_of.ensures c.read_object-read.ensures.refused
