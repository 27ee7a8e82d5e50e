use Rattle.std.proofs.Common.{inl, inr, ap, ◌∙◌}
use Rattle.read_commands.specs.PoolLines.{fast_lines}
use Rattle.read_commands.proofs.PoolLines.{listing_written}
use Rattle.read_commands.specs.Failures.{failure_status}
use Rattle.read_commands.proofs.Undone.{listing_found}
use Rattle.read_commands.proofs.show.run_show_fast.Goals as goal

pub returns-in-Ok-write_listing-clause-shown : goal.returns-in-Ok-write_listing-clause-shown
returns-in-Ok-write_listing-clause-shown g c = λ zero.
    listing_written g.D.SectorDevice fast_lines c.in-Ok.listed _ _ c.in-Ok-write_listing.ensures.written c.args.opened.now c.in-Ok.ensures.listed c.in-Ok.ensures.mounted

pub returns-in-Err-clause-undone : goal.returns-in-Err-clause-undone
returns-in-Err-clause-undone g c = λ some. inl (c.in-Err.failure, c.in-Err.ensures.failed, c.report_failure.ensures.status)

pub returns-clause-undone : goal.returns-clause-undone
returns-clause-undone g c = λ some.
    inr (c.report_failure-in-Err-write_listing.ensures.status ∙ ap failure_status c.in-Err-write_listing.ensures.failed, listing_found g.D.SectorDevice c.args.opened.now c.in-Ok.listed c.in-Ok.ensures.listed)
