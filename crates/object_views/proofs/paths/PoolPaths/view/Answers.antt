use Rattle.std.proofs.Common.{ℕ, List, inl, subst}
use Rattle.base.specs.disk.Disk.{bytes_of}
use Rattle.base.specs.formats.Blocks.{Frame}
use Rattle.trees.specs.ObjectPaths.{IsSoundAbove, TellsAbove}
use Rattle.import_replay.proofs.Reasons.{passed_on}
use Rattle.object_views.specs.PoolPaths.{uberblock_of}
use Rattle.object_views.proofs.FoundViews.{fits_on, framed_on, refused_at_own, refused_at_tree, sound_refused}
use Rattle.object_views.proofs.paths.PoolPaths.view.Goals as goal

pub find_stored-requires : goal.find_stored-requires
find_stored-requires g c = record { fits = fits_on _ c.args.self.now c.frame_of-frame.result c.requires.fits c.frame_of-frame.ensures }

pub replay-requires : goal.replay-requires
replay-requires g c = rw c.deref.ensures.value c.requires.fits.allowed

pub returns-in_err-stored-clause-refused : goal.returns-in_err-stored-clause-refused
returns-in_err-stored-clause-refused g c =
    let x = c.in_err-stored.field-0.0 in
    let n : ℕ = c.args.object.0 in
    let p = c.args.self.now in
    let u = uberblock_of p in
    passed_on c.from_residual.result x _ c.from_residual.ensures.1
    (refused_at_tree g.D.SectorDevice p n c.args.device.now x c.in_err-stored.ensures.cause (λ keeps paths kind address is.
    let image : List ℕ = bytes_of (g.D.SectorDevice.disk c.args.device.now).now in
    let framed = framed_on image _ p c.frame_of-frame.result c.requires.fits (g.met.D.SectorDevice.sized keeps c.args.device.now) c.frame_of-frame.ensures in
    record { u = u; name = p.found.name; pool = paths.pool; damaged = inl (c.in_err-stored.ensures.number, subst (λ (f : Frame). TellsAbove image f u.root n x) framed (c.in_err-stored.ensures.damage keeps)) }))

pub returns-in_err-stored-clause-sound : goal.returns-in_err-stored-clause-sound
returns-in_err-stored-clause-sound g c = sound_refused g.D.SectorDevice c.args.self.now c.args.object.0 c.args.device.now c.from_residual.result (returns-in_err-stored-clause-refused g c)

pub returns-in_err-changes-clause-refused : goal.returns-in_err-changes-clause-refused
returns-in_err-changes-clause-refused g c =
    let x = c.in_err-changes.field-0.0 in
    passed_on c.from_residual-in_err-changes.result x _ c.from_residual-in_err-changes.ensures.1
    (refused_at_own g.D.SectorDevice c.args.self.now c.args.object.0 c.args.device.now x c.in_ok-stored.stored (rw (c.length_of.ensures, c.deref.ensures.value) at c.in_err-changes.ensures.refused) c.in_ok-stored.ensures.stored)

pub returns-in_err-changes-clause-sound : goal.returns-in_err-changes-clause-sound
returns-in_err-changes-clause-sound g c = sound_refused g.D.SectorDevice c.args.self.now c.args.object.0 c.args.device.now c.from_residual-in_err-changes.result (returns-in_err-changes-clause-refused g c)

pub returns-clause-seen : goal.returns-clause-seen
returns-clause-seen g c = λ keeps paths.
    let image : List ℕ = bytes_of (g.D.SectorDevice.disk c.args.device.now).now in
    let n : ℕ = c.args.object.0 in
    let p = c.args.self.now in
    let u = uberblock_of p in
    let framed = framed_on image _ p c.frame_of-frame.result c.requires.fits (g.met.D.SectorDevice.sized keeps c.args.device.now) c.frame_of-frame.ensures in
    record {
      u = u;
      name = p.found.name;
      chain = p.logged.items;
      pool = paths.pool;
      chain_is = paths.chain_is;
      frame_is = framed;
      stored = c.in_ok-stored.ensures.stored keeps;
      above = λ low. subst (λ (f : Frame). IsSoundAbove image f u.root n) framed (c.in_ok-stored.ensures.sound keeps low);
      own = rw (c.length_of.ensures, c.deref.ensures.value) at c.in_ok-changes.ensures.changes;
    }

pub returns-clause-fits : goal.returns-clause-fits
returns-clause-fits g c = fits_on _ c.args.self.now c.frame_of-frame.result c.requires.fits c.frame_of-frame.ensures
