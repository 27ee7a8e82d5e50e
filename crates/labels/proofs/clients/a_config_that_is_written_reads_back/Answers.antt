use Rattle.std.proofs.Common.{◌≡◌, List, ℕ, Option, Some, None, IfSome, IfNone, sym, ap, subst}
use Rattle.base.specs.formats.Labels.{Config}
use Rattle.labels.specs.Configs.{IsConfigBlock}
use Rattle.labels.specs.Laws.{ConfigsAreToldApart}
use Rattle.labels.proofs.clients.a_config_that_is_written_reads_back.Goals as goal

there : (block shown : List ℕ) (written : Config) → shown ≡ block → written.size ≡ 6291456 → IsConfigBlock block written.size written → IsConfigBlock shown 6291456 written
there block shown written same size is =
    subst (λ (bytes : List ℕ). IsConfigBlock bytes 6291456 written) (sym same) (subst (λ (n : ℕ). IsConfigBlock block n written) size is)

read : (shown : List ℕ) (written : Config) (found : Option Config) → ConfigsAreToldApart → IsConfigBlock shown 6291456 written
    → IfSome found (λ config. IsConfigBlock shown 6291456 config) → IfNone found ((config : Config) → IsConfigBlock shown 6291456 config → ⊥) → found ≡ Some written
read shown written (Some config) apart is some none = ap Some (apart shown 6291456 config written some is)
read shown written None apart is some none = absurd (none written is)

pub returns : goal.returns
returns c =
    let shown = c.as_bytes.result.now in
    let is = there c.encode-block.result shown c.args.config.now c.as_bytes.ensures.bytes c.requires c.encode-block.ensures.config in
    read shown c.args.config.now c.decode.result c.configs_are_told_apart.ensures is c.decode.ensures.config c.decode.ensures.none
