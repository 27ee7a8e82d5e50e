use Rattle.std.proofs.Common.{rules, ℕ, ◌≡◌, ◌+◌, ◌-◌, ◌<◌, min, Some, ap, sym, ◌∙◌, arith}
use Rattle.std.specs.Prelude.{is_some}
use Rattle.extents.specs.Records.{record_at}
use Rattle.extents.specs.declared.record.RecordPatch.{RecordPatch}
use Rattle.extents.specs.Objects.{written_in}
use Rattle.extents.proofs.RecordWrites.{record_byte}
use Rattle.extents.proofs.ReadRecords.{hides_below, written_where_hidden}
use Rattle.extents.proofs.object.ObjectPatch.hides.Goals as goal

pub returns-in-Some-clause-hidden : goal.returns-in-Some-clause-hidden
returns-in-Some-clause-hidden c =
    let records = c.args.self.now.records.entries in
    let r : RecordPatch = c.in-Some.record.now in
    let start = c.args.start in
    let within = c.requires.within in
    let at : record_at records c.args.index ≡ Some r = search rules in
    let count : c.min-count.result ≡ min (c.shown_in.result - start) c.args.count = search (rules, arith) in
    let byte = λ (k : ℕ) (inside : k < c.min-count.result). record_byte records r c.args.index (start + k) (omega (arith, within, inside, count)) at in (
      λ is. hides_below c.args.self.now.basis (written_in c.args.self.now) c.args.index start c.shown_in.result c.min-count.result c.args.count c.shown_in.ensures.shown count within
          (λ k inside. ap is_some (sym (byte k inside)) ∙ c.covers.ensures.written.0 is k inside),
      λ hides. c.covers.ensures.written.1 (λ k inside. ap is_some (byte k inside)
          ∙ written_where_hidden c.args.self.now.basis (written_in c.args.self.now) c.args.index start c.shown_in.result c.min-count.result c.args.count c.shown_in.ensures.shown count within hides k inside),
    )
