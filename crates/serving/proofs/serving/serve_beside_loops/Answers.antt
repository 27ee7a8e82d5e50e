use Rattle.std.proofs.Common.{rules}
use Rattle.serving.specs.Inputs.{Streams}
use Rattle.frames.specs.Openings.{bytes_of_opening}
use Rattle.pool_threads.specs.Handles.{opened_in, shared_of}
use Rattle.serving.specs.Serving.{ServesAndLeaves, opening_of}
use Rattle.serving.proofs.ServedPools.{leaves_less}
use Rattle.serving.proofs.serving.serve_beside_loops.Goals as goal

pub returns-in-Ok-clause-served : goal.returns-in-Ok-clause-served
returns-in-Ok-clause-served g c =
    let first : Streams = record { input = g.I.Read.remaining c.args.input; output = g.O.Write.contents c.args.output } in
    let last : Streams = record { input = g.I.Read.remaining c.in-Ok.input; output = g.O.Write.contents c.in-Ok.output } in
    let opened = bytes_of_opening (opening_of (opened_in c.args.pool.now)) in
    let worked : ServesAndLeaves (shared_of c.args.pool.now) opened c.in-Ok.served first last c.in-Ok.left = search rules in
    leaves_less (shared_of c.args.pool.now) opened first last c.first_refusal.result c.in-Ok.served c.first_refusal.ensures c.in-Ok.left worked
