use Rattle.std.proofs.Common.{◌∙◌, ap}
use Rattle.extents.specs.Patches.{laid_over}
use Rattle.unsynced_extents.specs.Unsynced.{changes_at}
use Rattle.unsynced_extents.proofs.unsynced.UnsyncedExtents.over.Goals as goal

pub returns : goal.returns
returns g c =
    let e = c.args.self.now in
    c.new.ensures ∙ ap (laid_over (changes_at e 2)) (c.new-second.ensures ∙ ap (laid_over (changes_at e 1)) c.new-oldest.ensures)
