-- What a line asks a pool for is what its command asks for.
use Rattle.std.proofs.Common.{rules}
use Rattle.std.specs.Prelude.{Ok}
use Rattle.base.specs.declared.step.Step.{Step}
use Rattle.script_lines.specs.Commands.{ReadsEnding, ReadsLogging, ReadsPool, ReadsStep, ReadsTelling}
use Rattle.script_lines.specs.Words.{Words}
use Rattle.script_lines.specs.declared.command.Command.TheVariants.{Pool}
use Rattle.script_lines.specs.declared.command.PoolCommand.{PoolCommand}
use Rattle.script_lines.specs.declared.command.PoolCommand.TheVariants as pool

module _ (words : Words) (asked : PoolCommand) where
  logging : ReadsLogging (λ s. pool.Step s) words (Ok asked) → ReadsLogging (λ s. Pool (pool.Step s)) words (Ok (Pool asked))
  logging reads = search rules

  telling : ReadsTelling (λ s. pool.Step s) words (Ok asked) → ReadsTelling (λ s. Pool (pool.Step s)) words (Ok (Pool asked))
  telling reads = record { append = search rules; length_of = search rules; digest = search rules; name = search rules; status = search rules; logging = logging reads.logging }

  ending : ReadsEnding (λ s. pool.Step s) words (Ok asked) → ReadsEnding (λ s. Pool (pool.Step s)) words (Ok (Pool asked))
  ending reads = record { unlock = search rules; abort = search rules; telling = telling reads.telling }

  step : ReadsStep (λ s. pool.Step s) words (Ok asked) → ReadsStep (λ s. Pool (pool.Step s)) words (Ok (Pool asked))
  step reads = record { lock = search rules; begin = search rules; begin_refused = search rules; read = search rules; close = search rules; quiesce = search rules; sync_step = search rules; ending = ending reads.ending }

  -- a line that is read as this asks its pool for it
  pub asks_its_pool : ReadsPool (λ a. a) words (Ok asked) → ReadsPool Pool words (Ok (Pool asked))
  asks_its_pool reads = record { commit = search rules; commit_read = search rules; start = search rules; finish = search rules; sync = search rules; step = step reads.step }
