use Rattle.read_commands.proofs.Findings.{is_whole}
use Rattle.import_replay.proofs.OwnRefusals.{is_sound}
use Rattle.read_commands.proofs.clients.a_damaged_pool_is_not_clean.Goals as goal

pub returns : goal.returns
returns g c = λ keeps kind address damaged zero.
    let (found, status, writes) = c.run_check.ensures.clean zero in
    let (contents, (u, chain, mounts)) = is_whole _ found (writes.found keeps) status in
    is_sound _ u chain contents mounts kind address damaged
