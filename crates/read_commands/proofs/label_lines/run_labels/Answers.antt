use Rattle.std.proofs.Common.{inl, inr}
use Rattle.std.specs.Prelude.{IsTrue}
use Rattle.base.specs.disk.Disk.{bytes_of}
use Rattle.read_commands.specs.LabelTexts.{WritesRead}
use Rattle.read_commands.specs.ReadLabels.{AreLabelsOf}
use Rattle.read_commands.proofs.ReadLabels.{labels_found, of_opened}
use Rattle.read_commands.proofs.label_lines.run_labels.Goals as goal

pub returns-in-Ok-write_labels-clause-printed : goal.returns-in-Ok-write_labels-clause-printed
returns-in-Ok-write_labels-clause-printed g c = λ zero.
    let D = g.D.SectorDevice in
    let w : WritesRead c.in-Ok.labels (g.W.Write.contents c.args.out.now) (g.W.Write.contents c.write_labels.new.out) = c.in-Ok-write_labels.ensures in
    of_opened (IsTrue D.keeps_model) (λ d labels. AreLabelsOf (bytes_of (D.disk d).now) labels) _ c.args.opened.now c.in-Ok.labels c.in-Ok.ensures.found (λ d of. record {
      zeroth = w.zeroth;
      first = w.first;
      second = w.second;
      third = w.third;
      active = w.active;
      found = λ keeps. labels_found _ c.in-Ok.labels w.zeroth w.first w.second w.third w.active (of keeps) w.read;
      writes = w.writes;
    })

pub returns-in-Err-clause-undone : goal.returns-in-Err-clause-undone
returns-in-Err-clause-undone g c = λ some. inl (c.in-Err.failure, c.in-Err.ensures.failed, c.report_failure.ensures.status)

pub returns-clause-undone : goal.returns-clause-undone
returns-clause-undone g c = λ some. inr (c.report_failure-in-Err-write_labels.ensures.status, c.in-Ok.ensures.sized)
