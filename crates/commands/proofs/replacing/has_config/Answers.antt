use Rattle.std.proofs.Common.{◌≡◌, false, sym, ◌∙◌}
use Rattle.commands.proofs.Replaced.{no_configs}
use Rattle.commands.proofs.replacing.has_config.Goals as goal

pub returns-in-Ok-clause-none : goal.returns-in-Ok-clause-none
returns-in-Ok-clause-none g c = λ none keeps.
    let off : c.is_some_config.result ≡ false = cc in
    no_configs _ c.in-Ok.states (c.in-Ok.ensures.states keeps) (sym c.is_some_config.ensures ∙ off)
