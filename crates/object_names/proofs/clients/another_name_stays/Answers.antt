use Rattle.std.proofs.Common.{arith}
use Rattle.object_names.proofs.NameClients.{renamed_7}
use Rattle.object_names.proofs.clients.another_name_stays.Goals as goal

pub returns : goal.returns
returns c =
    (renamed_7 c.slots_change_one_name.ensures c.args.before.now c.args.after.now c.args.name.now c.requires.table c.requires.name c.requires.unused c.requires.written).others 8 (omega arith) (λ e. omega (arith, e))
