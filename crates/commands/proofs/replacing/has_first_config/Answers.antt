use Rattle.std.proofs.Common.{◌≡◌, List, ℕ, false, subst, sym}
use Rattle.labels.specs.Configs.{IsConfigBlock}
use Rattle.commands.proofs.replacing.has_first_config.Goals as goal

pub returns-in-Ok-clause-none : goal.returns-in-Ok-clause-none
returns-in-Ok-clause-none g c = λ none keeps wide (size, config, is).
    let off : c.is_config_block.result ≡ false = cc in
    c.is_config_block.ensures off size config (subst (λ (l : List ℕ). IsConfigBlock l size config) (sym (c.in-Ok.ensures.bytes keeps)) is)
