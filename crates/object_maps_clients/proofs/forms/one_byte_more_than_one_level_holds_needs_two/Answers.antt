use Rattle.std.proofs.Common.{◌∙◌, arith}
use Rattle.std.proofs.lemmas.Bool.{le-ltb, lt-ltb}
use Rattle.base.specs.formats.Limits.{one_level_length}
use Rattle.base.proofs.tree.Strips.{one_level-length}
use Rattle.object_maps_clients.proofs.forms.one_byte_more_than_one_level_holds_needs_two.Goals as goal

pub returns-clause-held : goal.returns-clause-held
returns-clause-held c = c.is_long.ensures ∙ le-ltb one_level_length 338688 (omega (arith, one_level-length))

pub returns-clause-more : goal.returns-clause-more
returns-clause-more c = c.is_long-2.ensures ∙ lt-ltb one_level_length 338689 (omega (arith, one_level-length))
