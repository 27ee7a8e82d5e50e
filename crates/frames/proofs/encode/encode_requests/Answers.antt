use Rattle.std.proofs.Common.{ℕ, List, ◌++◌, length, ap, ◌∙◌, arith}
use Rattle.frames.specs.Requests.{bytes_of_all}
use Rattle.frames.proofs.FramesRead.{few_requests}
use Rattle.frames.proofs.encode.encode_requests.Goals as goal

pub overflow_cast-requests : goal.overflow_cast-requests
overflow_cast-requests c =
    let whole = c.in_ok-append_requests.ensures.bytes ∙ ap (λ (l : List ℕ). l ++ bytes_of_all c.args.requests.now) c.new-body.ensures.items in
    let long = ap (λ (l : List ℕ). length l) whole in
    omega (arith, few_requests c.args.requests.now, long, c.append_requests.new.out.ok, c.len.ensures, c.if-len.false)
