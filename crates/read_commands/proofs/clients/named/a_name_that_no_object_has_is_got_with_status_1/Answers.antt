use Rattle.read_commands.proofs.ScopedReads.{assured}
use Rattle.read_commands.proofs.GotNames.{name_there}
use Rattle.read_commands.proofs.NamedUndone.{unknown_status}
use Rattle.read_commands.proofs.clients.named.a_name_that_no_object_has_is_got_with_status_1.Goals as goal

pub returns : goal.returns
returns g c = λ keeps contents mounts none.
    let get = c.run_get_named-status in
    let all = assured c.args.scope _ _ keeps (contents, mounts) in
    unknown_status g.D.SectorDevice c.args.scope c.args.device c.args.device _ _ get.result.1 get.result.0
    (get.ensures.undone (λ zero. let w = get.ensures.written zero in none w.object (name_there _ _ w.object contents mounts (w.mounted all))))
    (λ n found. none n (name_there _ _ n contents mounts (found.mounted all)))
