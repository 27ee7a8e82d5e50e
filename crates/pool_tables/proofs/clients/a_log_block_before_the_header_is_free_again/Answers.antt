use Rattle.std.proofs.Common.{◌≡◌, ◌∙◌, ◌∷◌, [], ℕ, List, refl, ap}
use Rattle.std.specs.FinSet as set
use Rattle.std.proofs.lemmas.Bool.{lt-leb, lt-ltb}
use Rattle.base.specs.steps.Logs.{Log}
use Rattle.intent_log.specs.Kept.{header_fields}
use Rattle.space.specs.FreeSets.{FreeSpace}
use Rattle.mounted.specs.GivenBlocks.{after_gives}
use Rattle.mounted.proofs.GivenBlocks.{given_free}
use Rattle.pool_tables.specs.Areas.{addresses_before, blocks_from}
use Rattle.pool_tables.proofs.clients.a_log_block_before_the_header_is_free_again.Goals as goal

pub returns-clause-free : goal.returns-clause-free
returns-clause-free c =
    let header = header_fields c.args.header in
    let free = c.args.free.now in
    let before : addresses_before header c.args.log.now.kept ≡ 4202496 ∷ [] = rw (c.requires.kept, lt-ltb 3 header.number c.requires.before) refl in
    let given = ap (λ (s : FreeSpace). set.contains s.free 4202496) (c.give_log.ensures.free ∙ ap (λ (l : List ℕ). after_gives l free) before) in
    given ∙ given_free free 4202496

pub returns-clause-gone : goal.returns-clause-gone
returns-clause-gone c =
    let header = header_fields c.args.header in
    let none : blocks_from header c.args.log.now.kept ≡ [] = rw (c.requires.kept, lt-leb header.number 3 c.requires.before) refl in
    ap (λ (l : Log). l.kept) c.give_log.ensures.kept ∙ none
