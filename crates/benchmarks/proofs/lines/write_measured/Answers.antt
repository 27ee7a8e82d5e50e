use Rattle.benchmarks.proofs.Written.{measured_written}
use Rattle.benchmarks.proofs.lines.write_measured.Goals as goal

pub returns : goal.returns
returns g c =
    measured_written c.write_times.result _ _ _ _ c.args.measured.now c.commits_per_second-commits.result c.bytes_per_second-bytes.result c.flushes_per_second-flushes.result
    c.commits_per_second-commits.ensures c.bytes_per_second-bytes.ensures c.flushes_per_second-flushes.ensures
    c.in_ok-write_counts.ensures c.in_ok-write_rates.ensures c.write_times.ensures
