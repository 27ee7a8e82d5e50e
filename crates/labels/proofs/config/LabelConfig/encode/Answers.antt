use Rattle.std.proofs.Common.{◌≡◌, ◌<◌, ◌^◌, ℕ, ◌+◌, List, length, take, ap, subst, ◌∙◌, Result, Ok}
use Rattle.std.specs.Prelude.{IfOk}
use Rattle.base.specs.declared.error.PoolError.{PoolError}
use Rattle.base.specs.formats.Names.{IsName}
use Rattle.base.specs.formats.Blocks.{IsBlock, sealed_block}
use Rattle.base.specs.formats.Labels.{Config}
use Rattle.checked_blocks.specs.Sealing.{padded}
use Rattle.labels.specs.ConfigBytes.{config_bytes}
use Rattle.labels.specs.Configs.{IsConfigBlock, config_block}
use Rattle.labels.proofs.ConfigBlocks.{IsConfigBlock-by}
use Rattle.labels.proofs.config.LabelConfig.encode.Goals as goal

-- what holds of an answer that is Ok holds of the value
unwrapped : (P : List ℕ → Type 0) (answer : Result (List ℕ) PoolError) (block : List ℕ) → answer ≡ Ok block → IfOk answer P → P block
unwrapped P answer block is holds = rw is at holds

-- the block of these fields is that of the config
bytes-are : (config : Config) (guid group size : ℕ) (name shown front block : List ℕ) → record { guid = guid; group = group; size = size; name = name } ≡ config → shown ≡ name
    → front ≡ config_bytes size shown → block ≡ sealed_block 1 guid group 0 (padded front) → block ≡ config_block config
bytes-are config guid group size name shown front block is same written sealed =
    sealed ∙ ap (λ (l : List ℕ). sealed_block 1 guid group 0 (padded l)) (written ∙ ap (λ (l : List ℕ). config_bytes size l) same)
    ∙ ap (λ (c : Config). config_block c) is

config-is : (config : Config) (guid group size : ℕ) (name shown front block : List ℕ) → record { guid = guid; group = group; size = size; name = name } ≡ config → shown ≡ name
    → front ≡ config_bytes size shown → IsBlock block 1 guid group 0 (padded front) → size < 2 ^ 64 → IsName name → IsConfigBlock block config.size config
config-is config guid group size name shown front block is same written sealed small is_name =
    let P : List ℕ → Type 0 = λ l. IsBlock block 1 guid group 0 (padded l) in
    let Q : Config → Type 0 = λ c. IsConfigBlock block c.size c in
    subst Q is (IsConfigBlock-by block (record { guid = guid; group = group; size = size; name = name }) small is_name
    (subst P (written ∙ ap (λ (l : List ℕ). config_bytes size l) same) sealed))

pub returns-clause-bytes : goal.returns-clause-bytes
returns-clause-bytes c =
    let s = c.self.inside in
    let shown = c.as_slice-name.result.now in
    let front : List ℕ = take (24 + length c.as_slice-name.result.now) c.payload_of-payload.result in
    bytes-are c.args.self.now s.guid s.group.0 s.size s.name shown front c.unwrap.result c.self.view_is c.as_slice-name.ensures.bytes c.payload_of-payload.ensures.payload
    (unwrapped (λ block. block ≡ sealed_block 1 s.guid s.group.0 0 (padded front)) c.seal.result c.unwrap.result c.unwrap.ensures c.seal.ensures.sealed)

pub returns-clause-config : goal.returns-clause-config
returns-clause-config c =
    let s = c.self.inside in
    let shown = c.as_slice-name.result.now in
    let front : List ℕ = take (24 + length c.as_slice-name.result.now) c.payload_of-payload.result in
    config-is c.args.self.now s.guid s.group.0 s.size s.name shown front c.unwrap.result c.self.view_is c.as_slice-name.ensures.bytes c.payload_of-payload.ensures.payload
    (unwrapped (λ block. IsBlock block 1 s.guid s.group.0 0 (padded front)) c.seal.result c.unwrap.result c.unwrap.ensures c.seal.ensures.block)
    c.payload_of-payload.ensures.size_fits c.as_slice-name.ensures.name
