use Rattle.read_commands.proofs.CheckedAll.{all_found, all_read, all_refused, all_sized}
use Rattle.read_commands.proofs.check_all.check_to_end.Goals as goal

pub returns-clause-reads : goal.returns-clause-reads
returns-clause-reads g c =
    all_read g.D.SectorDevice c.args.device.now c.find_damages.new.device c.find_damages.result c.list_findings.result c.list_findings.ensures c.find_damages.ensures.reads

pub returns-clause-found : goal.returns-clause-found
returns-clause-found g c = λ keeps.
    all_found g.D.SectorDevice c.args.device.now c.find_damages.new.device c.find_damages.result c.list_findings.result c.list_findings.ensures keeps
    (c.find_damages.ensures.found keeps) c.find_damages.ensures.refused

pub returns-clause-sized : goal.returns-clause-sized
returns-clause-sized g c =
    all_sized g.D.SectorDevice c.args.device.now c.find_damages.new.device c.find_damages.result c.list_findings.result c.list_findings.ensures
    c.find_damages.ensures.made c.find_damages.ensures.refused

pub returns-clause-refused : goal.returns-clause-refused
returns-clause-refused g c =
    all_refused g.D.SectorDevice c.args.device.now c.find_damages.new.device c.find_damages.result c.list_findings.result c.list_findings.ensures
    c.find_damages.ensures.made c.find_damages.ensures.refused c.find_damages.ensures.undamaged
