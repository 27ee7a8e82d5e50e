use Rattle.std.proofs.Common.{ℕ, List}
use Rattle.base.specs.disk.Disk.{bytes_of}
use Rattle.import_replay.proofs.Configs.{ok_weaker, err_weaker, named, first_named, lacks}
use Rattle.import_replay.specs.LabelSyncs.{is_even}
use Rattle.import_replay.proofs.finding.read_name.Goals as goal

pub returns-clause-name : goal.returns-clause-name
returns-clause-name g c = λ keeps.
    let image : List ℕ = bytes_of (g.D.SectorDevice.disk c.args.device.now).now in
    let u = c.args.uberblock.now in
    ok_weaker c.choose_name.result _ _ (λ a h. named image c.in_ok-configs.configs u.guid u.group.0 a.0 (c.in_ok-configs.ensures.configs keeps) h) c.choose_name.ensures.name

pub returns-clause-none : goal.returns-clause-none
returns-clause-none g c = λ keeps.
    let image : List ℕ = bytes_of (g.D.SectorDevice.disk c.args.device.now).now in
    let u = c.args.uberblock.now in
    err_weaker c.choose_name.result _ _ (λ e h. lacks image c.in_ok-configs.configs u.guid u.group.0 e (c.in_ok-configs.ensures.configs keeps) h) c.choose_name.ensures.none

pub returns-clause-first : goal.returns-clause-first
returns-clause-first g c = λ keeps.
    let image : List ℕ = bytes_of (g.D.SectorDevice.disk c.args.device.now).now in
    let u = c.args.uberblock.now in
    ok_weaker c.choose_name.result _ _ (λ a h. first_named image c.in_ok-configs.configs u.guid u.group.0 a.0 (is_even a.1) (c.in_ok-configs.ensures.configs keeps) h) c.choose_name.ensures.first
