use Rattle.std.proofs.Common.{rules, ◌≡◌, ◌<◌, ℕ, length, get_or, refl, arith}
use Rattle.object_maps.proofs.ObjectReads.{all_zero, zero_pointer}
use Rattle.object_maps.proofs.block_reader.read_pointers.Goals as goal

pub returns-then-is_none-clause-none : goal.returns-then-is_none-clause-none
returns-then-is_none-clause-none g c = λ none k inside.
    let long : length c.fill.new.self ≡ 4032 = search (rules, arith) in
    let zeros : (j : ℕ) → j < length c.fill.new.self → get_or c.fill.new.self j 0 ≡ 0 = search (rules, arith) in
    zero_pointer (length c.fill.new.self) c.fill.new.self k long inside (all_zero (length c.fill.new.self) c.fill.new.self refl zeros)

pub returns-clause-sound : goal.returns-clause-sound
returns-clause-sound g c = λ keeps some held opens. c.read_payload.ensures.sound keeps held opens
