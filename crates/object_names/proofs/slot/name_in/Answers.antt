use Rattle.std.proofs.Common.{◌≡◌, ℕ, ◌+◌, ◌-◌, List, drop, get_or, length, min, take, ap, ◌∙◌, arith, rules, length-drop}
use Rattle.std.proofs.lemmas.List.{take_min}
use Rattle.object_names.specs.Slots.{name_in}
use Rattle.object_names.proofs.slot.name_in.Goals as goal

within : (slot : List ℕ) (count : ℕ) → length slot ≡ 256 → count ≡ min (get_or slot 0 0) 254 → take (2 + count - 2) (drop 2 slot) ≡ name_in slot
unfolding name_in
within slot count size is =
    let long : length (drop 2 slot) ≡ 254 = length-drop 2 slot ∙ omega arith in
    let all : 2 + count - 2 ≡ min (get_or slot 0 0) (length (drop 2 slot)) = omega (arith, is, long) in
    ap (λ (k : ℕ). take k (drop 2 slot)) all ∙ take_min (get_or slot 0 0) (drop 2 slot)

pub returns-clause-name : goal.returns-clause-name
returns-clause-name c = within c.args.slot.now c.min-count.result c.requires (search rules)
