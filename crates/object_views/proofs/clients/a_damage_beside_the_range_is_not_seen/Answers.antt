use Rattle.std.proofs.Common.{◌≡◌, ◌/◌, ℕ, List, subst, arith}
use Rattle.std.proofs.lemmas.Result.{IfErr-weaker}
use Rattle.base.specs.disk.Disk.{bytes_of}
use Rattle.object_views.specs.ReadPaths.{TellsRecord}
use Rattle.object_views.specs.ObjectViews.{object_of}
use Rattle.object_views.proofs.ObjectViews.{sound_untold}
use Rattle.object_views.proofs.clients.a_damage_beside_the_range_is_not_seen.Goals as goal

pub returns : goal.returns
returns g c = λ keeps seen sound.
    let image : List ℕ = bytes_of (g.D.SectorDevice.disk c.args.device.now).now in
    let v = c.args.view.now in
    IfErr-weaker c.read.result _ _ (λ e tells kind address is.
    let t = tells kind address is in
    let first : t.0 / 4032 ≡ 0 = omega (arith, t.2) in
    sound_untold image v.frame seen.u.root (object_of v) 0 e kind address is sound (subst (λ (r : ℕ). TellsRecord image v.frame seen.u.root (object_of v) r e) first t.3))
    (c.read.ensures.damage keeps seen)
