use Rattle.std.proofs.Common.{ℕ, List, [], ◌∷◌, refl, arith}
use Rattle.std.specs.Prelude.{Result, Ok, Err, OnOk}
use Rattle.base.specs.declared.error.PoolError.{PoolError}
use Rattle.base.proofs.tree.Strips.{first-low}
use Rattle.object_maps_clients.proofs.cached.a_part_of_a_record_ends_with_zeros.Goals as goal

then : {P Q : Type 0} (answer : Result (Unit {0}) PoolError) → (P → Q) → OnOk answer P → OnOk answer Q
then (Ok u) f p = f p
then (Err e) f p = tt

abbrev three : List ℕ
three = 1 ∷ 2 ∷ 3 ∷ []

pub returns-clause-second : goal.returns-clause-second
returns-clause-second g c = then c.read_part.result (λ each. each 0 (omega (arith, c.read_part.ensures.size, c.requires.size))) (c.read_part.ensures.exact c.requires.keeps three c.requires.record)

pub returns-clause-third : goal.returns-clause-third
returns-clause-third g c = then c.read_part.result (λ each. each 1 (omega (arith, c.read_part.ensures.size, c.requires.size))) (c.read_part.ensures.exact c.requires.keeps three c.requires.record)

pub returns-clause-after : goal.returns-clause-after
returns-clause-after g c = then c.read_part.result (λ each. each 2 (omega (arith, c.read_part.ensures.size, c.requires.size))) (c.read_part.ensures.exact c.requires.keeps three c.requires.record)

pub returns-clause-refused : goal.returns-clause-refused
returns-clause-refused g c = c.read_part.ensures.sound c.requires.keeps three refl c.requires.record

pub read_part-requires-clause-number : goal.read_part-requires-clause-number
read_part-requires-clause-number g c = first-low 7 (omega arith)
