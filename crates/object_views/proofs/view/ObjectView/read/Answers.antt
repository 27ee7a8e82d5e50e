use Rattle.std.proofs.Common.{rules, ◌≡◌, ◌+◌, ◌-◌, ◌<◌, ◌≤◌, ◌∙◌, ℕ, List, Some, length, min, refl, sym, ap, subst, arith}
use Rattle.std.proofs.lemmas.List.{take_at}
use Rattle.std.proofs.lemmas.Result.{err_from_is_err_and}
use Rattle.base.specs.disk.Disk.{bytes_of}
use Rattle.base.specs.formats.Limits.{max_length, object_count}
use Rattle.object_views.specs.ObjectViews.{IsCheckedRead, bytes_of_range, length_seen, object_of}
use Rattle.object_views.proofs.ObjectViews.{mounted_below, mounted_object, no_damage, stored_below}
use Rattle.object_views.proofs.SeenBytes.{allowed_within, checked_read, told_within}
use Rattle.object_views.proofs.view.ObjectView.read.Goals as goal

pub returns-in_err-read_bytes-clause-sound : goal.returns-in_err-read_bytes-clause-sound
returns-in_err-read_bytes-clause-sound g c = λ keeps contents seen mounts.
    let v = c.args.self.now in
    let image : List ℕ = bytes_of (g.D.SectorDevice.disk c.args.device.now).now in
    let number : object_of v < object_count = search (rules, arith) in
    let size : ℕ = c.in-Some.length in
    let high = allowed_within c.args.range.low c.args.range.high (sym c.if-not-is_allowed.ensures.allowed) in
    let low : c.min-low.result ≡ min c.args.range.low size = search (rules, arith) in
    let counted : length c.as_mut_slice.result.now ≡ min c.args.range.high size - min c.args.range.low size = search (rules, arith) in
    let ordered : c.args.range.low ≤ c.args.range.high = search (rules, arith) in
    let within : c.min-low.result + length c.as_mut_slice.result.now ≤ max_length = omega (arith, high, low, counted, ordered) in
    let e = c.in_err-read_bytes.field-0.0 in
    let p = err_from_is_err_and c.from_residual-in_err-read_bytes.result c.from_residual-in_err-read_bytes.ensures.1 in
    rw (p.1, p.2) (no_damage image v seen contents mounts number c.min-low.result (c.min-low.result + length c.as_mut_slice.result.now) e within (c.in_err-read_bytes.ensures.damage keeps image seen.u.root refl seen.stored))

pub returns-in_err-read_bytes-clause-damage : goal.returns-in_err-read_bytes-clause-damage
returns-in_err-read_bytes-clause-damage g c = λ keeps seen.
    let v = c.args.self.now in
    let image : List ℕ = bytes_of (g.D.SectorDevice.disk c.args.device.now).now in
    let e = c.in_err-read_bytes.field-0.0 in
    let size : ℕ = c.in-Some.length in
    let low : c.min-low.result ≡ min c.args.range.low size = search (rules, arith) in
    let counted : length c.as_mut_slice.result.now ≡ min c.args.range.high size - min c.args.range.low size = search (rules, arith) in
    let p = err_from_is_err_and c.from_residual-in_err-read_bytes.result c.from_residual-in_err-read_bytes.ensures.1 in
    rw (p.1, p.2) (told_within image seen.u.root v c.args.range.low c.args.range.high size (length c.as_mut_slice.result.now) e counted
    (rw low at (c.in_err-read_bytes.ensures.damage keeps image seen.u.root refl seen.stored)))

pub returns-clause-checked : goal.returns-clause-checked
returns-clause-checked g c = λ keeps seen.
    let v = c.args.self.now in
    let image : List ℕ = bytes_of (g.D.SectorDevice.disk c.args.device.now).now in
    let root = seen.u.root in
    let size : ℕ = c.in-Some.length in
    let into : List ℕ = c.read_bytes.new.into in
    let number : object_of v < object_count = search (rules, arith) in
    let sized : length_seen v ≡ Some size = sym c.length.ensures.seen ∙ c.in-Some.is in
    let ordered : c.args.range.low ≤ c.args.range.high = search (rules, arith) in
    let low : c.min-low.result ≡ min c.args.range.low size = search (rules, arith) in
    let long : length c.read_bytes.new.into ≡ min c.args.range.high size - min c.args.range.low size = search (rules, arith) in
    let whole : length c.read_bytes.new.into ≡ c.in_ok-bytes.bytes.len = search (rules, arith) in
    let is : c.new.result ≡ c.read_bytes.new.into = c.new.ensures ∙ take_at c.read_bytes.new.into _ c.in_ok-bytes.bytes.len whole in
    subst (λ (l : List ℕ). IsCheckedRead image root v c.args.range l) (sym is)
    (checked_read image root v c.args.range size into number seen.stored sized ordered long (rw low at (c.in_ok-read_bytes.ensures.bytes keeps image root refl seen.stored))
    (rw low at (c.in_ok-read_bytes.ensures.checked keeps image root refl seen.stored)))

pub returns-clause-exact : goal.returns-clause-exact
returns-clause-exact g c = λ keeps contents seen mounts.
    let v = c.args.self.now in
    let image : List ℕ = bytes_of (g.D.SectorDevice.disk c.args.device.now).now in
    let number : object_of v < object_count = search (rules, arith) in
    (returns-clause-checked g c keeps seen).exact (stored_below image v seen contents mounts) (mounted_below image v seen contents mounts number)
    ∙ ap (λ o. bytes_of_range o c.args.range) (sym (mounted_object image v seen contents mounts))
