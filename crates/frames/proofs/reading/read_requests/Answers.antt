use Rattle.std.proofs.lemmas.Result.{err_from_is_err_and}
use Rattle.frames.specs.Reading.{requests_in}
use Rattle.frames.proofs.Loop.{goes_on, ends, is_done}
use Rattle.frames.proofs.reading.read_requests.Goals as goal

pub returns-in_err-request : goal.returns-in_err-request
returns-in_err-request c =
    let p = err_from_is_err_and c.from_residual.result c.from_residual.ensures.1 in
    rw (p.1, p.2) (ends c.in_err-request.field-0.0 c.loop.requests.items c.args.count c.loop.counter c.loop.rest.now (requests_in c.args.count c.args.bytes.now) c.loop-test.true c.in_err-request.ensures c.loop.invariant)

pub loop-preserved : goal.loop-preserved
loop-preserved c = rw c.in_ok-push.ensures.items (goes_on c.loop.requests.items c.args.count c.loop.counter c.loop.rest.now c.in_ok-request.request c.in_ok-request.after.now (requests_in c.args.count c.args.bytes.now) c.loop-test.true c.in_ok-request.ensures c.loop.invariant)

pub returns : goal.returns
returns c = is_done c.loop.requests.items c.args.count c.loop.counter c.loop.rest.now (requests_in c.args.count c.args.bytes.now) c.loop-test.false c.loop.invariant
