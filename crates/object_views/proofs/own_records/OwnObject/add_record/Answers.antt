use Rattle.std.proofs.lemmas.Bool.{le-ltb, lt-ltb}
use Rattle.log_replay.proofs.ChainWalks.{record_ops}
use Rattle.records.specs.Records.{record_fields}
use Rattle.object_views.proofs.OwnRecords.{record_added, record_passed}
use Rattle.object_views.proofs.own_records.OwnObject.add_record.Goals as goal

pub returns-then-logged-group : goal.returns-then-logged-group
returns-then-logged-group c =
    record_passed c.args.self.now.id.0 c.args.self.now.size c.args.group.0 c.args.address c.args.logged.now c.args.changes.now (le-ltb c.args.group.0 c.args.logged.now.group.0 c.if-logged-group.true)

pub add_ops-requires : goal.add_ops-requires
add_ops-requires c = rw c.as_slice.ensures (record_ops (record_fields c.args.logged.now) c.requires)

pub returns : goal.returns
returns c =
    record_added c.args.self.now.id.0 c.args.self.now.size c.args.group.0 c.args.address c.args.logged.now c.args.changes.now c.add_ops.new.changes c.add_ops.result
    (lt-ltb c.args.group.0 c.args.logged.now.group.0 c.if-logged-group.false) (rw c.as_slice.ensures at c.add_ops.ensures)
