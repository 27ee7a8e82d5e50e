use Rattle.std.proofs.Common.{rules, arith, refl, ◌≡◌, ◌≤◌, Some}
use Rattle.extents.specs.declared.record.RecordPatch.{RecordPatch}
use Rattle.extents.specs.Records.{record_at}
use Rattle.extents.proofs.RecordWrites.{write_to_record}
use Rattle.extents.proofs.object.ObjectPatch.write_record.Goals as goal

pub returns-in-Some-clause-written : goal.returns-in-Some-clause-written
returns-in-Some-clause-written c =
    let was = c.args.self.now.records.entries in
    let old : RecordPatch = c.in-Some.record.now in
    let at : record_at was c.args.index ≡ Some old = search rules in
    let order : c.max-low.result ≤ c.min-high.result = search (rules, arith) in
    write_to_record was _ c.args.index c.args.offset c.args.content.now _ c.max-low.result c.min-high.result old c.write.new.self
    at (λ q. search rules) c.max-low.ensures c.min-high.ensures order refl c.write.ensures
