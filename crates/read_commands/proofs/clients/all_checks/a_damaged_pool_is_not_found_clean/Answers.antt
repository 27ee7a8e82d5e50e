use Rattle.read_commands.proofs.CheckedAll.{all_mounted}
use Rattle.import_replay.proofs.OwnRefusals.{is_sound}
use Rattle.read_commands.proofs.clients.all_checks.a_damaged_pool_is_not_found_clean.Goals as goal

pub returns : goal.returns
returns g c = λ keeps kind address damaged zero.
    let (list, status, writes) = c.run_check_all.ensures.clean zero in
    let (contents, (u, chain, mounts)) = all_mounted _ list (writes.found keeps) status in
    is_sound _ u chain contents mounts kind address damaged
