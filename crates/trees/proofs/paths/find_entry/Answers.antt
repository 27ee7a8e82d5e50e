use Rattle.std.proofs.Common.{◌∙◌, ℕ, List, refl, ap, inl, inr}
use Rattle.std.proofs.lemmas.Result.{err_from_is_err_and, IfErr-weaker, IfOk-weaker}
use Rattle.base.specs.disk.Disk.{Disk, bytes_of}
use Rattle.trees.proofs.ObjectPaths.{none_above}
use Rattle.trees.proofs.paths.find_entry.Goals as goal

pub returns-in_err-directory-clause-damage : goal.returns-in_err-directory-clause-damage
returns-in_err-directory-clause-damage g c = λ keeps.
    let image : List ℕ = bytes_of (g.D.SectorDevice.disk c.args.device.now).now in
    let p = err_from_is_err_and c.from_residual.result c.from_residual.ensures.1 in
    rw (p.1, p.2) (inl (c.in_err-directory.ensures.damage keeps image refl))

pub returns-then-is_none-clause-found : goal.returns-then-is_none-clause-found
returns-then-is_none-clause-found g c = λ keeps.
    let image : List ℕ = bytes_of (g.D.SectorDevice.disk c.args.device.now).now in
    none_above image c.args.root c.args.object.0 c.in_ok-directory.directory (c.in_ok-directory.ensures.found keeps image refl) (c.if-is_none.ensures.0 refl)

pub returns-then-is_none-clause-sound : goal.returns-then-is_none-clause-sound
returns-then-is_none-clause-sound g c = λ keeps.
    let image : List ℕ = bytes_of (g.D.SectorDevice.disk c.args.device.now).now in
    (c.in_ok-directory.ensures.sound keeps image refl, inl (c.in_ok-directory.ensures.found keeps image refl ∙ c.if-is_none.ensures.0 refl))

pub returns-clause-found : goal.returns-clause-found
returns-clause-found g c = λ keeps.
    let image : List ℕ = bytes_of (g.D.SectorDevice.disk c.args.device.now).now in
    c.find_in_directory.ensures.found keeps image c.args.root (ap (λ (d : Disk). bytes_of d.now) (c.in_ok-directory.ensures.reads.disk keeps))
    (c.in_ok-directory.ensures.found keeps image refl) (λ none. let no = c.if-is_none.ensures.1 none in cc)

pub returns-clause-sound : goal.returns-clause-sound
returns-clause-sound g c = λ keeps.
    let image : List ℕ = bytes_of (g.D.SectorDevice.disk c.args.device.now).now in
    IfOk-weaker c.find_in_directory.result _ _ (λ entry sound. (c.in_ok-directory.ensures.sound keeps image refl, sound))
    (c.find_in_directory.ensures.sound keeps image c.args.root (ap (λ (d : Disk). bytes_of d.now) (c.in_ok-directory.ensures.reads.disk keeps))
    (c.in_ok-directory.ensures.found keeps image refl) (λ none. let no = c.if-is_none.ensures.1 none in cc))

pub returns-clause-damage : goal.returns-clause-damage
returns-clause-damage g c = λ keeps.
    let image : List ℕ = bytes_of (g.D.SectorDevice.disk c.args.device.now).now in
    IfErr-weaker c.find_in_directory.result _ _ (λ e tells. inr tells)
    (c.find_in_directory.ensures.damage keeps image c.args.root (ap (λ (d : Disk). bytes_of d.now) (c.in_ok-directory.ensures.reads.disk keeps))
    (c.in_ok-directory.ensures.found keeps image refl) (λ none. let no = c.if-is_none.ensures.1 none in cc))
