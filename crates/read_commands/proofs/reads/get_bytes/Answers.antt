use Rattle.std.proofs.Common.{◌≡◌, ℕ, List, Result, subst}
use Rattle.std.specs.Prelude.{IfErr, IfOk, IsTrue}
use Rattle.base.specs.declared.error.PoolError.{PoolError}
use Rattle.base.specs.declared.range.Range.{Range}
use Rattle.base.specs.disk.Disk.{bytes_of}
use Rattle.command_arguments.specs.declared.reports.Scope.TheVariants.{Path}
use Rattle.device_model.specs.Reading.{OnlyReads}
use Rattle.read_commands.specs.PathReads.{IsCheckedRange}
use Rattle.read_commands.specs.Reads.{IsMountedRange, asked_range}
use Rattle.read_commands.specs.Scopes.{IsAssured}
use Rattle.read_commands.specs.Undone.{IsGetRefused}
use Rattle.read_commands.proofs.OnlyRead.{of_opened, stays_opened}
use Rattle.read_commands.proofs.ScopedReads.{get_readers}
use Rattle.read_commands.proofs.Undone.{look_refused}
use Rattle.read_commands.proofs.reads.get_bytes.Goals as goal

pub returns-in-Ok-read-clause-bytes : goal.returns-in-Ok-read-clause-bytes
returns-in-Ok-read-clause-bytes g c =
    let D = g.D.SectorDevice in
    let image : List ℕ = bytes_of (D.disk c.in-Ok.device).now in
    let object : ℕ = c.args.arguments.object in
    of_opened c.args.opened c.in-Ok.device c.in-Ok.is
    (λ device. IsAssured c.args.scope (IsTrue D.keeps_model) (bytes_of (D.disk device).now) → IsMountedRange (bytes_of (D.disk device).now) object (asked_range c.args.arguments) c.in-Ok-read.bytes)
    (λ assured. subst (λ (range : Range). IsMountedRange image object range c.in-Ok-read.bytes) c.range_of.ensures
    (subst (λ (r : Result (List ℕ) PoolError). IfOk r (IsMountedRange image object c.range_of.result)) c.in-Ok-read.is (c.read_object-read.ensures.bytes assured)))

pub returns-in-Ok-read-clause-checked : goal.returns-in-Ok-read-clause-checked
returns-in-Ok-read-clause-checked g c =
    let D = g.D.SectorDevice in
    let image : List ℕ = bytes_of (D.disk c.in-Ok.device).now in
    let object : ℕ = c.args.arguments.object in
    of_opened c.args.opened c.in-Ok.device c.in-Ok.is
    (λ device. c.args.scope ≡ Path → IsTrue D.keeps_model → IsCheckedRange (bytes_of (D.disk device).now) object (asked_range c.args.arguments) c.in-Ok-read.bytes)
    (λ path keeps. subst (λ (range : Range). IsCheckedRange image object range c.in-Ok-read.bytes) c.range_of.ensures
    (subst (λ (r : Result (List ℕ) PoolError). IfOk r (IsCheckedRange image object c.range_of.result)) c.in-Ok-read.is (c.read_object-read.ensures.checked path keeps)))

pub returns-in-Err-read-clause-only_read : goal.returns-in-Err-read-clause-only_read
returns-in-Err-read-clause-only_read g c =
    let D = g.D.SectorDevice in
    let look = c.read_object-read in
    let reads = subst (λ (r : Result (List ℕ) PoolError). OnlyReads D r c.in-Ok.device look.result.1) c.in-Err-read.is look.ensures.reads in
    let refused = subst (λ (r : Result (List ℕ) PoolError). IfErr r (IsGetRefused D c.args.scope c.args.arguments.object c.range_of.result c.in-Ok.device look.result.1)) c.in-Err-read.is look.ensures.refused in
    let readers = get_readers D c.args.scope c.args.arguments.object c.range_of.result c.in-Ok.device look.result.1 c.in-Err-read.refusal refused in
    stays_opened D c.args.opened c.in-Ok.device c.in-Ok.is look.result.1 c.in-Err-read.refusal readers reads.size reads.disk reads.count

pub returns-in-Err-read-clause-failed : goal.returns-in-Err-read-clause-failed
returns-in-Err-read-clause-failed g c =
    let D = g.D.SectorDevice in
    let look = c.read_object-read in
    let object : ℕ = c.args.arguments.object in
    let refused = subst (λ (r : Result (List ℕ) PoolError). IfErr r (IsGetRefused D c.args.scope object c.range_of.result c.in-Ok.device look.result.1)) c.in-Err-read.is look.ensures.refused in
    look_refused (IsGetRefused D c.args.scope object (asked_range c.args.arguments)) c.args.opened c.in-Ok.device look.result.1 c.in-Err-read.refusal c.for_number-failure.result c.in-Ok.is
    (subst (λ (range : Range). IsGetRefused D c.args.scope object range c.in-Ok.device look.result.1 c.in-Err-read.refusal) c.range_of.ensures refused)
    (c.for_number-failure.ensures.cause c.in-Err-read.refusal c.of_pool.ensures.cause)
