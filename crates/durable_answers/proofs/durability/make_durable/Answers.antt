use Rattle.std.proofs.Common.{inr, rules}
use Rattle.durable_answers.specs.Durability.{AwaitsFlush}
use Rattle.durable_answers.proofs.durability.make_durable.Goals as goal

pub returns-in-Err : goal.returns-in-Err
returns-in-Err g c =
    let awaits : AwaitsFlush c.args.made.items = search rules in
    inr (awaits, inr (c.in-Err.error, c.fsync_all.new.self, (c.in-Err.ensures.made, tt), c.ask_all.ensures))
