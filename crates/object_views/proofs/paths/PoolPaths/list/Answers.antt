use Rattle.std.proofs.Common.{◌∙◌, ℕ, List, subst, sym}
use Rattle.std.proofs.lemmas.Result.{IfErr-weaker, IfOk-weaker}
use Rattle.base.specs.declared.names.ObjectId.{ObjectId}
use Rattle.base.specs.disk.Disk.{bytes_of}
use Rattle.base.specs.formats.Blocks.{Frame}
use Rattle.trees.specs.EntryLists.{TellsFirstAbove}
use Rattle.import_replay.proofs.Reasons.{passed_on}
use Rattle.object_views.specs.Listings.{IsRefusedOn, IsReplayedOn}
use Rattle.object_views.specs.PoolPaths.{uberblock_of}
use Rattle.object_views.proofs.FoundViews.{fits_on, framed_on}
use Rattle.object_views.proofs.Listings.{exact_on, has_entries, is_listing, list_refused_above, list_refused_on, lists_contents, lists_mount, no_first_above, no_record_refused}
use Rattle.object_views.proofs.paths.PoolPaths.list.Goals as goal

pub list_entries-requires : goal.list_entries-requires
list_entries-requires g c = record { fits = fits_on _ c.args.self.now c.frame_of-frame.result c.requires.fits c.frame_of-frame.ensures }

pub returns-in_err-entries-clause-refused : goal.returns-in_err-entries-clause-refused
returns-in_err-entries-clause-refused g c =
    let x = c.in_err-entries.field-0.0 in
    let p = c.args.self.now in
    passed_on c.from_residual.result x _ c.from_residual.ensures.1
    (list_refused_above g.D.SectorDevice p c.args.device.now x c.in_err-entries.ensures.cause (λ keeps.
    let image : List ℕ = bytes_of (g.D.SectorDevice.disk c.args.device.now).now in
    let framed = framed_on image _ p c.frame_of-frame.result c.requires.fits (g.met.D.SectorDevice.sized keeps c.args.device.now) c.frame_of-frame.ensures in
    subst (λ (f : Frame). TellsFirstAbove image f (uberblock_of p).root x) framed (c.in_err-entries.ensures.damage keeps)))

pub returns-in_err-entries-clause-sound : goal.returns-in_err-entries-clause-sound
returns-in_err-entries-clause-sound g c = λ keeps paths contents mounts.
    let x = c.in_err-entries.field-0.0 in
    let p = c.args.self.now in
    let image : List ℕ = bytes_of (g.D.SectorDevice.disk c.args.device.now).now in
    let framed = framed_on image _ p c.frame_of-frame.result c.requires.fits (g.met.D.SectorDevice.sized keeps c.args.device.now) c.frame_of-frame.ensures in
    passed_on c.from_residual.result x _ c.from_residual.ensures.1
    (no_first_above image p paths contents mounts x (subst (λ (f : Frame). TellsFirstAbove image f (uberblock_of p).root x) framed (c.in_err-entries.ensures.damage keeps)))

pub returns-clause-listed : goal.returns-clause-listed
returns-clause-listed g c = λ keeps paths.
    let p = c.args.self.now in
    let entries = c.in_ok-entries.entries.items in
    let image : List ℕ = bytes_of (g.D.SectorDevice.disk c.args.device.now).now in
    let long = g.met.D.SectorDevice.sized keeps c.args.device.now in
    let framed = framed_on image _ p c.frame_of-frame.result c.requires.fits long c.frame_of-frame.ensures in
    let has = has_entries image (uberblock_of p) c.frame_of-frame.result entries framed (c.in_ok-entries.ensures.sound keeps) (c.in_ok-entries.ensures.listed keeps) c.in_ok-entries.ensures.form in
    IfOk-weaker c.replay_on.result _ _ (λ l replayed. is_listing image p paths entries l (subst (λ (es : List (ObjectId × ℕ)). IsReplayedOn p es l) c.deref.ensures.value replayed) (long ∙ sym c.requires.fits.size_is) has)
    c.replay_on.ensures.replayed

pub returns-clause-mounted : goal.returns-clause-mounted
returns-clause-mounted g c = λ keeps paths m mounted.
    let p = c.args.self.now in
    let entries = c.in_ok-entries.entries.items in
    let image : List ℕ = bytes_of (g.D.SectorDevice.disk c.args.device.now).now in
    let long = g.met.D.SectorDevice.sized keeps c.args.device.now in
    let framed = framed_on image _ p c.frame_of-frame.result c.requires.fits long c.frame_of-frame.ensures in
    let exact = exact_on image (uberblock_of p) c.frame_of-frame.result entries framed (c.in_ok-entries.ensures.exact keeps) in
    IfOk-weaker c.replay_on.result _ _ (λ l replayed. lists_mount image p paths entries exact l (subst (λ (es : List (ObjectId × ℕ)). IsReplayedOn p es l) c.deref.ensures.value replayed) (long ∙ sym c.requires.fits.size_is) m mounted)
    c.replay_on.ensures.replayed

pub returns-clause-exact : goal.returns-clause-exact
returns-clause-exact g c = λ keeps paths contents mounts.
    let p = c.args.self.now in
    let entries = c.in_ok-entries.entries.items in
    let image : List ℕ = bytes_of (g.D.SectorDevice.disk c.args.device.now).now in
    let framed = framed_on image _ p c.frame_of-frame.result c.requires.fits (g.met.D.SectorDevice.sized keeps c.args.device.now) c.frame_of-frame.ensures in
    let exact = exact_on image (uberblock_of p) c.frame_of-frame.result entries framed (c.in_ok-entries.ensures.exact keeps) in
    IfOk-weaker c.replay_on.result _ _ (λ l replayed. lists_contents image p paths entries exact l (subst (λ (es : List (ObjectId × ℕ)). IsReplayedOn p es l) c.deref.ensures.value replayed) contents mounts)
    c.replay_on.ensures.replayed

pub returns-clause-form : goal.returns-clause-form
returns-clause-form g c = IfOk-weaker c.replay_on.result _ _ (λ l replayed. replayed.rising) c.replay_on.ensures.replayed

pub returns-clause-refused : goal.returns-clause-refused
returns-clause-refused g c =
    let p = c.args.self.now in
    let entries = c.in_ok-entries.entries.items in
    IfErr-weaker c.replay_on.result _ _ (λ e refused. list_refused_on g.D.SectorDevice p c.args.device.now e entries
    (λ keeps.
    let image : List ℕ = bytes_of (g.D.SectorDevice.disk c.args.device.now).now in
    let framed = framed_on image _ p c.frame_of-frame.result c.requires.fits (g.met.D.SectorDevice.sized keeps c.args.device.now) c.frame_of-frame.ensures in
    has_entries image (uberblock_of p) c.frame_of-frame.result entries framed (c.in_ok-entries.ensures.sound keeps) (c.in_ok-entries.ensures.listed keeps) c.in_ok-entries.ensures.form)
    (subst (λ (es : List (ObjectId × ℕ)). IsRefusedOn p es e) c.deref.ensures.value refused)) c.replay_on.ensures.refused

pub returns-clause-sound : goal.returns-clause-sound
returns-clause-sound g c = λ keeps paths contents mounts.
    let p = c.args.self.now in
    let entries = c.in_ok-entries.entries.items in
    let image : List ℕ = bytes_of (g.D.SectorDevice.disk c.args.device.now).now in
    let framed = framed_on image _ p c.frame_of-frame.result c.requires.fits (g.met.D.SectorDevice.sized keeps c.args.device.now) c.frame_of-frame.ensures in
    let exact = exact_on image (uberblock_of p) c.frame_of-frame.result entries framed (c.in_ok-entries.ensures.exact keeps) in
    IfErr-weaker c.replay_on.result _ _ (λ e refused. no_record_refused image p paths entries exact contents mounts e (subst (λ (es : List (ObjectId × ℕ)). IsRefusedOn p es e) c.deref.ensures.value refused)) c.replay_on.ensures.refused
