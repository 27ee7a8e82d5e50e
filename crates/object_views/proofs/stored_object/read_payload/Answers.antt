use Rattle.std.proofs.Common.{rules, ◌≡◌, ◌<◌, ℕ, length, get_or, refl, inl, arith}
use Rattle.std.proofs.lemmas.Result.{err_from_is_err_and}
use Rattle.object_maps.proofs.ObjectReads.{all_zero, zero_pointer}
use Rattle.object_views.proofs.stored_object.read_payload.Goals as goal

pub returns-then-is_none-clause-read : goal.returns-then-is_none-clause-read
returns-then-is_none-clause-read g c = λ keeps image shows.
    let long : length c.fill.new.self ≡ 4032 = search (rules, arith) in
    let zeros : (j : ℕ) → j < length c.fill.new.self → get_or c.fill.new.self j 0 ≡ 0 = search (rules, arith) in
    inl (c.if-is_none.ensures.0 refl, λ k inside. zero_pointer (length c.fill.new.self) c.fill.new.self k long inside (all_zero (length c.fill.new.self) c.fill.new.self refl zeros))

pub returns-in_err-read_block-clause-missing : goal.returns-in_err-read_block-clause-missing
returns-in_err-read_block-clause-missing g c = λ keeps image shows.
    let p = err_from_is_err_and c.from_residual.result c.from_residual.ensures.1 in
    rw (p.1, p.2) ((λ none. let no = c.if-is_none.ensures.1 none in cc), c.in_err-read_block.ensures.refused keeps image shows)
