use Rattle.std.proofs.Common.{Result, Ok, Err, IfErr, IsOk, refl}
use Rattle.object_names.proofs.NameClients.{renamed_7}
use Rattle.object_names.proofs.clients.a_written_slot_leaves_a_table.Goals as goal

ok_by : {X Y : Type 0} (r : Result X Y) (P : Type 0) → IfErr r (λ _. P → ⊥) → P → IsOk r
ok_by (Ok x) P refused is = refl
ok_by (Err e) P refused is = absurd (refused is)

pub returns : goal.returns
returns c =
    ok_by c.read.result _ c.read.ensures.refused
    (renamed_7 c.slots_change_one_name.ensures c.args.before.now c.args.after c.args.name.now c.requires.table c.requires.name c.requires.unused c.requires.written).table
