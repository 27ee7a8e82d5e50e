use Rattle.group_plans.proofs.RecordsBefore.{map_held}
use Rattle.group_plans.proofs.preparing.prepare_changed.Goals as goal

pub returns-clause-exact : goal.returns-clause-exact
returns-clause-exact g c = λ keeps holds.
    c.prepare_object.ensures.exact keeps (map_held c.args.source.now _ _ _ holds c.args.id.0 c.if-id-ge-OBJECT_COUNT.false c.old_map.result.now c.old_map.ensures _ c.args.changes.now (c.requires.map c.if-id-ge-OBJECT_COUNT.false))

pub returns-clause-sound : goal.returns-clause-sound
returns-clause-sound g c = λ keeps holds.
    c.prepare_object.ensures.sound keeps (map_held c.args.source.now _ _ _ holds c.args.id.0 c.if-id-ge-OBJECT_COUNT.false c.old_map.result.now c.old_map.ensures _ c.args.changes.now (c.requires.map c.if-id-ge-OBJECT_COUNT.false))
