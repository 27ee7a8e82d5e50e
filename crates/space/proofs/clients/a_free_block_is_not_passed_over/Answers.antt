use Rattle.std.proofs.Common.{ℕ, ◌≤◌, IsTrue, inl, inr, arith}
use Rattle.std.proofs.lemmas.Bool.{cases_lt}
use Rattle.std.proofs.lemmas.Option.{IfSome_then}
use Rattle.space.specs.FreeSets.{FreeSpace, AreNotFree, is_free}
use Rattle.space.proofs.clients.a_free_block_is_not_passed_over.Goals as goal

up_to : (s : FreeSpace) (block : ℕ) → IsTrue (is_free 3 s) → AreNotFree 1 block s → block ≤ 3
up_to s block is none = elim (cases_lt 3 block) [ inl past ↦ absurd (let not : _ = none 3 (omega arith) past in cc) | inr low ↦ low ]

pub returns : goal.returns
returns c = IfSome_then c.next_from.result c.next_from.ensures.skipped (λ block none. up_to c.args.free.now block c.requires none)
