use Rattle.std.proofs.Common.{◌∙◌, slice_index_or, ap, refl}
use Rattle.device_model.proofs.Tracks.{tracked-set}
use Rattle.device_model.proofs.notes.forget.Goals as goal

pub loop-i-preserved : goal.loop-i-preserved
loop-i-preserved c =
    let notes = c.loop-i.notes in
    let n = slice_index_or notes c.loop-i.i c.index-notes-i.result in
    λ t. tracked-set t notes c.loop-i.i n (record n { old = c.none.result }) (ap (λ d. slice_index_or notes c.loop-i.i d) c.index-notes-i.is) (λ u. refl) ∙ c.loop-i.invariant t
