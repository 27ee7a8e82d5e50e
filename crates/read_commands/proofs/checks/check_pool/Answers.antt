use Rattle.std.proofs.Common.{Result, subst, sym}
use Rattle.std.specs.Prelude.{IfErr, IfOk, OnOk}
use Rattle.base.specs.declared.error.PoolError.{PoolError}
use Rattle.base.specs.disk.Disk.{bytes_of}
use Rattle.base.specs.formats.Geometry.{IsGeometry}
use Rattle.device_model.specs.Reading.{OnlyReads}
use Rattle.read_commands.specs.Checks.{IsCheckRefusal, IsFoundIn}
use Rattle.read_commands.specs.declared.checks.Finding.{Finding}
use Rattle.read_commands.proofs.Findings.{check_refused, is_found, is_sized, reads_alone}
use Rattle.read_commands.proofs.checks.check_pool.Goals as goal

pub returns-clause-reads : goal.returns-clause-reads
returns-clause-reads g c =
    let old = c.args.device.now in
    let new = c.inspect.new.device in
    subst (λ (r : Result Finding PoolError). OnlyReads g.D.SectorDevice r old new) (sym c.finding_of.ensures)
    (reads_alone g.D.SectorDevice c.inspect.result old new c.inspect.ensures.reads)

pub returns-clause-found : goal.returns-clause-found
returns-clause-found g c = λ keeps.
    let old = c.args.device.now in
    let new = c.inspect.new.device in
    subst (λ (r : Result Finding PoolError). IfOk r (IsFoundIn (bytes_of (g.D.SectorDevice.disk old).now))) (sym c.finding_of.ensures)
    (is_found g.D.SectorDevice c.inspect.result old new keeps (c.inspect.ensures.mounted keeps) c.inspect.ensures.refused)

pub returns-clause-sized : goal.returns-clause-sized
returns-clause-sized g c =
    let old = c.args.device.now in
    let new = c.inspect.new.device in
    subst (λ (r : Result Finding PoolError). OnOk r (IsGeometry (g.D.SectorDevice.size old))) (sym c.finding_of.ensures)
    (is_sized g.D.SectorDevice c.inspect.result old new c.inspect.ensures.made c.inspect.ensures.refused)

pub returns-clause-refused : goal.returns-clause-refused
returns-clause-refused g c =
    let old = c.args.device.now in
    let new = c.inspect.new.device in
    subst (λ (r : Result Finding PoolError). IfErr r (IsCheckRefusal (g.D.SectorDevice.size old))) (sym c.finding_of.ensures)
    (check_refused g.D.SectorDevice c.inspect.result old new c.inspect.ensures.refused)
