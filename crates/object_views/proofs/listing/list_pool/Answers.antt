use Rattle.std.proofs.Common.{subst, sym}
use Rattle.std.specs.Prelude.{IfOk}
use Rattle.std.proofs.lemmas.Result.{IfErr-weaker}
use Rattle.base.specs.disk.Disk.{Disk, bytes_of}
use Rattle.base.specs.tree.Mount.{IsMounted, MountsTo}
use Rattle.import_replay.proofs.Reasons.{passed_on}
use Rattle.object_views.specs.Listings.{IsListingOf}
use Rattle.object_views.specs.PoolPaths.{ArePathsOf}
use Rattle.object_views.proofs.Listings.{list_refused_at_paths, list_refused_by_paths}
use Rattle.object_views.proofs.listing.list_pool.Goals as goal

pub returns-in_err-paths-clause-refused : goal.returns-in_err-paths-clause-refused
returns-in_err-paths-clause-refused g c =
    let x = c.in_err-paths.field-0.0 in
    passed_on c.from_residual.result x _ c.from_residual.ensures.1 (list_refused_at_paths g.D.SectorDevice c.args.device.now _ x c.in_err-paths.ensures.refused)

pub returns-in_err-paths-clause-sound : goal.returns-in_err-paths-clause-sound
returns-in_err-paths-clause-sound g c = λ keeps contents mounts.
    passed_on c.from_residual.result c.in_err-paths.field-0.0 _ c.from_residual.ensures.1 c.in_err-paths.ensures.refused.undamaged

pub returns-clause-refused : goal.returns-clause-refused
returns-clause-refused g c =
    let p = c.in_ok-paths.paths in
    IfErr-weaker c.list.result _ _ (λ e refused.
    list_refused_by_paths g.D.SectorDevice c.args.device.now _ e p _ c.in_ok-paths.ensures.fits.geometry c.in_ok-paths.ensures.reads.disk c.in_ok-paths.ensures.paths refused) c.list.ensures.refused

pub returns-clause-listed : goal.returns-clause-listed
returns-clause-listed g c = λ keeps.
    let same = c.in_ok-paths.ensures.reads.disk keeps in
    subst (λ (d : Disk). IfOk c.list.result (IsListingOf (bytes_of d.now))) same
    (c.list.ensures.listed keeps (subst (λ (d : Disk). ArePathsOf (bytes_of d.now) c.in_ok-paths.paths) (sym same) (c.in_ok-paths.ensures.paths keeps)))

pub returns-clause-mounted : goal.returns-clause-mounted
returns-clause-mounted g c = λ keeps m mounted.
    let same = c.in_ok-paths.ensures.reads.disk keeps in
    c.list.ensures.mounted keeps (subst (λ (d : Disk). ArePathsOf (bytes_of d.now) c.in_ok-paths.paths) (sym same) (c.in_ok-paths.ensures.paths keeps))
    m (subst (λ (d : Disk). IsMounted (bytes_of d.now) m) (sym same) mounted)

pub returns-clause-exact : goal.returns-clause-exact
returns-clause-exact g c = λ keeps contents mounts.
    let same = c.in_ok-paths.ensures.reads.disk keeps in
    c.list.ensures.exact keeps (subst (λ (d : Disk). ArePathsOf (bytes_of d.now) c.in_ok-paths.paths) (sym same) (c.in_ok-paths.ensures.paths keeps))
    contents (subst (λ (d : Disk). MountsTo (bytes_of d.now) contents) (sym same) mounts)

pub returns-clause-sound : goal.returns-clause-sound
returns-clause-sound g c = λ keeps contents mounts.
    let same = c.in_ok-paths.ensures.reads.disk keeps in
    c.list.ensures.sound keeps (subst (λ (d : Disk). ArePathsOf (bytes_of d.now) c.in_ok-paths.paths) (sym same) (c.in_ok-paths.ensures.paths keeps))
    contents (subst (λ (d : Disk). MountsTo (bytes_of d.now) contents) (sym same) mounts)
