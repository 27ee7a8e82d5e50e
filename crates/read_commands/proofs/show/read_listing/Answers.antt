use Rattle.std.specs.Prelude.{IsTrue}
use Rattle.base.specs.disk.Disk.{bytes_of}
use Rattle.base.specs.tree.Mount.{IsMounted, Mount}
use Rattle.object_views.specs.Listings.{IsListingOfMount}
use Rattle.read_commands.proofs.OnlyRead.{of_opened}
use Rattle.read_commands.proofs.show.read_listing.Goals as goal

pub returns-in-Ok-list_pool-clause-mounted : goal.returns-in-Ok-list_pool-clause-mounted
returns-in-Ok-list_pool-clause-mounted g c =
    let D = g.D.SectorDevice in
    let l = c.in-Ok-list_pool.listed in
    of_opened c.args.opened.now c.in-Ok.device c.in-Ok.is (λ device. IsTrue D.keeps_model → (m : Mount) → IsMounted (bytes_of (D.disk device).now) m → IsListingOfMount m l)
    (λ keeps m mounted. c.in-Ok-list_pool.ensures.mounted keeps m mounted)
