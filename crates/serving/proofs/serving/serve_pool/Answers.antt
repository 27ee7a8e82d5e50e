use Rattle.std.proofs.Common.{subst}
use Rattle.std.specs.Prelude.{IfSome, IsSome}
use Rattle.serving.specs.Inputs.{Streams}
use Rattle.frames.specs.Openings.{bytes_of_opening}
use Rattle.pool_threads.specs.Handles.{opened_in, shared_of}
use Rattle.serving.specs.Serving.{ServesAndLeaves, opening_of}
use Rattle.serving.proofs.ServedDevices.{served_was_of}
use Rattle.serving.proofs.ServedPools.{closes_less, kept_if, some_closes}
use Rattle.serving.proofs.serving.serve_pool.Goals as goal

pub close_after-device-requires : goal.close_after-device-requires
close_after-device-requires g c =
    let s = c.serve_beside_loops-served in
    let pool = shared_of c.args.pool in
    let first : Streams = record { input = g.I.Read.remaining c.args.input; output = g.O.Write.contents c.args.output } in
    served_was_of pool (bytes_of_opening (opening_of (opened_in c.args.pool))) s.result.0 first _ c.in-Some.left
    (subst (λ k. IfSome k (λ kept. ServesAndLeaves pool (bytes_of_opening (opening_of (opened_in c.args.pool))) s.result.0 first (record { input = g.I.Read.remaining kept.0; output = g.O.Write.contents kept.1 }) kept.2)) c.in-Some.is s.ensures.served)

pub returns-in-Some-clause-served : goal.returns-in-Some-clause-served
returns-in-Some-clause-served g c =
    let s = c.serve_beside_loops-served in
    let pool = shared_of c.args.pool in
    let first : Streams = record { input = g.I.Read.remaining c.args.input; output = g.O.Write.contents c.args.output } in
    closes_less pool (bytes_of_opening (opening_of (opened_in c.args.pool))) first _ c.ended.result s.result.0 c.ended.ensures.ended c.in-Some.left c.close_after-device.result
    (subst (λ k. IfSome k (λ kept. ServesAndLeaves pool (bytes_of_opening (opening_of (opened_in c.args.pool))) s.result.0 first (record { input = g.I.Read.remaining kept.0; output = g.O.Write.contents kept.1 }) kept.2)) c.in-Some.is s.ensures.served)
    c.close_after-device.ensures

pub returns-in-Some-clause-closed : goal.returns-in-Some-clause-closed
returns-in-Some-clause-closed g c = some_closes (shared_of c.args.pool) c.in-Some.left c.close_after-device.result c.close_after-device.ensures

pub returns-in-None-clause-kept : goal.returns-in-None-clause-kept
returns-in-None-clause-kept g c = λ ok. subst (λ k. IsSome k) c.in-None.is (kept_if c.ended-in-None.result _ _ c.ended-in-None.ensures.ended c.serve_beside_loops-served.ensures.kept ok)
