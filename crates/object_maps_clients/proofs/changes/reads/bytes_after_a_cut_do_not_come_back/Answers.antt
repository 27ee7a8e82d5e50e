use Rattle.std.proofs.Common.{◌∙◌, ap, arith}
use Rattle.std.specs.FinMap as finite
use Rattle.base.specs.history.Contents.{Contents}
use Rattle.contents.specs.ContentsShown.{contents_of}
use Rattle.extents.specs.Tables.{patches_of}
use Rattle.extents.proofs.LaidObjects.{get-laid_over}
use Rattle.object_maps_clients.proofs.SmallObjects.{cut-three}
use Rattle.object_maps_clients.proofs.changes.reads.bytes_after_a_cut_do_not_come_back.Goals as goal

pub returns : goal.returns
returns c =
    ap (λ (x : Contents). finite.get x.objects 7) c.lay_into.ensures.contents
    ∙ get-laid_over (patches_of c.args.extents.now) (contents_of c.args.synced.now).objects 7 (omega arith)
    ∙ cut-three (patches_of c.args.extents.now 7) (finite.get (contents_of c.args.synced.now).objects 7) c.requires.basis c.requires.written c.requires.object
