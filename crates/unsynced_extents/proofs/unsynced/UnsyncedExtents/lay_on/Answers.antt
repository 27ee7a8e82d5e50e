use Rattle.std.proofs.Common.{◌∙◌, ◌+◌, ◌*◌}
use Rattle.extents.specs.Tables.{patches_of}
use Rattle.unsynced_extents.proofs.LaidReads.{lays_on_all}
use Rattle.unsynced_extents.proofs.unsynced.UnsyncedExtents.lay_on.Goals as goal

pub returns-clause-bytes : goal.returns-clause-bytes
returns-clause-bytes c =
    let e = c.args.self.now in
    lays_on_all (patches_of e.oldest) (patches_of e.second) (patches_of e.third) c.args.id.0 (4032 * c.args.index + c.args.start)
    c.args.into.now c.lay_on.new.into c.lay_on-2.new.into c.lay_on-3.new.into c.lay_on.ensures.size (c.lay_on-2.ensures.size ∙ c.lay_on.ensures.size)
    c.lay_on.ensures.bytes c.lay_on-2.ensures.bytes c.lay_on-3.ensures.bytes
