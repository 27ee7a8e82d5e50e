use Rattle.std.proofs.Common.{◌≡◌, Ok, rules, subst, sym}
use Rattle.base.specs.disk.Disk.{Disk, bytes_of}
use Rattle.base.specs.formats.Geometry.{IsGeometry}
use Rattle.read_commands.specs.declared.checks.Finding.TheVariants.{NoPool}
use Rattle.commands.specs.Replaced.{HasNoConfigs}
use Rattle.commands.proofs.Replaced.{found_refused, no_pool_found}
use Rattle.commands.proofs.replacing.has_pool.Goals as goal

pub returns-in-Ok-NoPool-clause-free : goal.returns-in-Ok-NoPool-clause-free
returns-in-Ok-NoPool-clause-free g c = λ none keeps sized.
    let is : c.check_pool.result ≡ Ok NoPool = search rules in (
      no_pool_found (bytes_of (g.D.SectorDevice.disk c.args.device.now).now) c.check_pool.result is (c.check_pool.ensures.found keeps),
      subst (λ (d : Disk). HasNoConfigs (bytes_of d.now)) (c.check_pool.ensures.reads.disk keeps) (c.has_config.ensures.none none keeps),
    )

pub returns-in-Ok-NoPool-clause-refused : goal.returns-in-Ok-NoPool-clause-refused
returns-in-Ok-NoPool-clause-refused g c =
    let D = g.D.SectorDevice in
    let same = c.check_pool.ensures.reads.size in
    let sized : IsGeometry (D.size c.args.device.now) = search rules in
    found_refused (D.size c.check_pool.new.device) c.has_config.result (subst IsGeometry (sym same) sized) c.has_config.ensures.refused
