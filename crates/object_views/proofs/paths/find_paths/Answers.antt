use Rattle.std.proofs.Common.{◌≡◌, ◌∙◌, false, true, refl, subst, sym}
use Rattle.std.proofs.lemmas.List.Elements.{All-weaker}
use Rattle.base.specs.disk.Disk.{Disk, bytes_of}
use Rattle.base.specs.formats.Geometry.{IsGeometry, block_count}
use Rattle.base.specs.tree.Mount.{IsChainOf}
use Rattle.intent_log.specs.Chains.{IsSoundPiece}
use Rattle.log_replay.specs.Replays.{IsPieceAllowed}
use Rattle.uberblocks.specs.Slots.{fields_of}
use Rattle.import_replay.proofs.Reasons.{passed_on}
use Rattle.object_views.proofs.FoundViews.{refused_at_chain, refused_at_labels, refused_by_size}
use Rattle.object_views.proofs.paths.find_paths.Goals as goal

pub returns-in_err-geometry-clause-refused : goal.returns-in_err-geometry-clause-refused
returns-in_err-geometry-clause-refused g c =
    let x = c.in_err-geometry.field-0.0 in
    passed_on c.from_residual.result x _ c.from_residual.ensures.1
    (refused_by_size g.D.SectorDevice c.args.device.now x c.in_err-geometry.ensures.refused
    (λ sized. let no : false ≡ true = c.in_err-geometry.ensures.ok.1 (subst IsGeometry (sym c.sectors.ensures.size) sized) in cc))

pub returns-in_err-found-clause-refused : goal.returns-in_err-found-clause-refused
returns-in_err-found-clause-refused g c =
    let x = c.in_err-found.field-0.0 in
    let sized : IsGeometry (g.D.SectorDevice.size c.args.device.now) = subst IsGeometry c.sectors.ensures.size (c.in_ok-geometry.ensures.ok.0 refl) in
    passed_on c.from_residual-in_err-found.result x _ c.from_residual-in_err-found.ensures.1
    (refused_at_labels g.D.SectorDevice c.args.device.now _ x sized c.in_err-found.ensures.refused (λ keeps. (c.in_err-found.ensures.reason keeps).no_pool))

pub returns-in_err-logged-clause-refused : goal.returns-in_err-logged-clause-refused
returns-in_err-logged-clause-refused g c =
    let x = c.in_err-logged.field-0.0 in
    let sized : IsGeometry (g.D.SectorDevice.size c.args.device.now) = subst IsGeometry c.sectors.ensures.size (c.in_ok-geometry.ensures.ok.0 refl) in
    passed_on c.from_residual-in_err-logged.result x _ c.from_residual-in_err-logged.ensures.1 (refused_at_chain g.D.SectorDevice c.args.device.now _ x sized c.in_err-logged.ensures.refused)

pub returns-clause-paths : goal.returns-clause-paths
returns-clause-paths g c = λ keeps. record {
  pool = c.in_ok-found.ensures.pool keeps;
  chain_is = subst (λ (d : Disk). IsChainOf (bytes_of d.now) (fields_of c.in_ok-found.found.uberblock) c.in_ok-logged.logged.items) (c.in_ok-found.ensures.reads.disk keeps) (c.in_ok-logged.ensures.chain keeps);
}

pub returns-clause-fits : goal.returns-clause-fits
returns-clause-fits g c = record {
  size_is = c.in_ok-geometry.ensures.size ∙ c.sectors.ensures.size;
  geometry = subst IsGeometry c.sectors.ensures.size (c.in_ok-geometry.ensures.ok.0 refl);
  allowed = All-weaker (IsSoundPiece (block_count c.in_ok-geometry.geometry)) IsPieceAllowed (λ b is. is.allowed) c.in_ok-logged.logged.items c.in_ok-logged.ensures.sound;
}
