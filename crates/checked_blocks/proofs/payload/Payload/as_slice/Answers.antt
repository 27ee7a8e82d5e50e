use Rattle.std.proofs.Common.{◌≡◌, drop, length, ap, sym, ◌∙◌, arith}
use Rattle.std.proofs.lemmas.List.{take_rest, length-drop}
use Rattle.checked_blocks.specs.Payloads.{Opened}
use Rattle.checked_blocks.proofs.payload.Payload.as_slice.Goals as goal

pub returns-clause-bytes : goal.returns-clause-bytes
returns-clause-bytes c = rw c.self.invariant at (take_rest c.self.inside.block.now 64) ∙ ap (λ (o : Opened). o.bytes) c.self.view_is

pub returns-clause-length : goal.returns-clause-length
returns-clause-length c =
    let block = c.self.inside.block.now in
    let size : length block ≡ 4096 = c.self.invariant in
    let long : length (drop 64 block) ≡ 4032 = length-drop 64 block ∙ omega (arith, size) in
    ap (λ (o : Opened). length o.bytes) (sym c.self.view_is) ∙ long
