use Rattle.std.proofs.Common.{subst}
use Rattle.base.specs.disk.Disk.{Disk, bytes_of}
use Rattle.base.specs.formats.Blocks.{Opens}
use Rattle.base.specs.tree.Places.{kind_of, number_of_place}
use Rattle.tree_blocks.specs.BlockPlaces.{place_of}
use Rattle.object_maps_clients.proofs.cached.a_block_that_was_written_is_read_anew.Goals as goal

pub returns : goal.returns
returns g c = λ keeps payload opens.
    c.read_payload-2.ensures.exact keeps payload
    (subst (λ (d : Disk). Opens (bytes_of d.now) c.args.frame.now (kind_of (place_of c.args.place)) (number_of_place (place_of c.args.place)) c.args.pointer.now payload) (c.read_payload-2.ensures.reads.disk keeps) opens)
