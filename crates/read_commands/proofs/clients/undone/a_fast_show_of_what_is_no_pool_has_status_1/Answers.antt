use Rattle.object_views.specs.Listings.{IsListingRefused}
use Rattle.read_commands.specs.Undone.{HasListing}
use Rattle.read_commands.proofs.Undone.{refused_if_not}
use Rattle.read_commands.proofs.clients.undone.a_fast_show_of_what_is_no_pool_has_status_1.Goals as goal

pub returns : goal.returns
returns g c = λ keeps none.
    let D = g.D.SectorDevice in
    refused_if_not (IsListingRefused D) (HasListing D) c.args.device _ c.run_show_fast.result c.run_show_fast.ensures.undone
    (λ zero. let w = c.run_show_fast.ensures.shown zero in none w.listing (w.listed keeps))
    (λ there. let (l, is) = there keeps in none l is)
