use Rattle.std.proofs.lemmas.List.Elements.{All-more}
use Rattle.frames.specs.Requests.{IsRequestAllowed, bytes_of_request}
use Rattle.frames.proofs.Appended.{one_more}
use Rattle.frames.proofs.encode.append_requests.Goals as goal

pub loop-request-preserved : goal.loop-request-preserved
loop-request-preserved c = (
  one_more bytes_of_request c.args.requests.now c.loop-request.request-index c.request-item.result c.loop-request-test.true c.request-item.is c.args.out.now.items c.loop-request.out.items c.append_request.new.out.items c.loop-request.invariant.0 c.in_ok-append_request.ensures.bytes,
  All-more IsRequestAllowed c.args.requests.now c.loop-request.request-index c.request-item.result c.loop-request-test.true c.loop-request.invariant.1 (rw (← c.request-item.is) c.in_ok-append_request.ensures.allowed),
)
