use Rattle.std.proofs.Common.{◌≡◌, arith}
use Rattle.std.specs.Prelude.{None}
use Rattle.commands.specs.declared.changes.Start.TheVariants.{Empties, Keeps}
use Rattle.commands.proofs.clients.objects.a_put_without_an_offset_leaves_only_its_bytes.Goals as goal

pub returns : goal.returns
returns c = λ bytes before after run.
    let put = c.puts_leave_bytes.ensures Empties (record { 0 = 7 }) None bytes before after (λ same. absurd (let no_way : Empties ≡ Keeps = same in cc)) (λ same. absurd (let no_way : Empties ≡ Keeps = same in cc)) run in
    (put.0, put.1 8 (λ same. omega (arith, same)))
