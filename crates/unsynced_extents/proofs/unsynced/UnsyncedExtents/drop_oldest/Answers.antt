use Rattle.std.proofs.Common.{rules}
use Rattle.unsynced_extents.proofs.UnsyncedGroups.{moves_up, room_moves_up}
use Rattle.unsynced_extents.proofs.unsynced.UnsyncedExtents.drop_oldest.Goals as goal

pub returns-clause-changes : goal.returns-clause-changes
returns-clause-changes c = moves_up c.args.self.now _ (search rules) (search rules) (search rules) (search rules)

pub returns-clause-room : goal.returns-clause-room
returns-clause-room c = room_moves_up c.args.self.now _ (search rules) (search rules)
