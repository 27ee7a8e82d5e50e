use Rattle.std.proofs.Common.{◌≡◌, ◌∙◌, ℕ, ap, false, sym, true}
use Rattle.std.proofs.lemmas.Result.{IfOk-weaker}
use Rattle.base.specs.kept.Imports.{is_past_last}
use Rattle.base.specs.disk.Disk.{bytes_of}
use Rattle.base.specs.formats.Uberblocks.{Uberblock}
use Rattle.base.proofs.crash.OneMount.{one-active}
use Rattle.import_replay_clients.proofs.imports.no_import_passes_the_last_group.Goals as goal

-- five groups more would pass the last one
past : (u : Uberblock) → u.group ≡ 1152921504606846972 → is_past_last u.group u.import_number ≡ false → ⊥
past u group within = let no : true ≡ false = ap (λ (g : ℕ). is_past_last g u.import_number) (sym group) ∙ within in cc

pub returns : goal.returns
returns g c = λ keeps. IfOk-weaker c.import.result _ _ (λ i made u active group.
    let of = made.imported in
    let same : of.u ≡ u = one-active (bytes_of (g.D.SectorDevice.disk c.args.device).now) of.u u of.mounts.found.pool.active active in
    past of.u (ap (λ (v : Uberblock). v.group) same ∙ group) of.within) (c.import.ensures.imported keeps)
