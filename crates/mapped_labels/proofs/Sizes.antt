-- A size is that of a plain pool's device, or of a pool's with a map, or of none.
use Rattle.std.proofs.Common.{◌≡◌, ◌%◌, ◌==◌, ◌&&◌, true, sym, ap, ◌∙◌}
use Rattle.std.specs.Prelude.{nat_le, not}
use Rattle.std.proofs.lemmas.Bool.{and_parts, false≢true}
use Rattle.base.specs.formats.Geometry.{is_geometry}
use Rattle.mapped_labels.specs.Laws.{MappedIsNotPlain}

pub mapped_is_not_plain : MappedIsNotPlain
mapped_is_not_plain size mapped plain =
    let other : not (is_geometry size) ≡ true = (and_parts (nat_le 6291456 size && nat_le size 17592186044416 && ((size % 4096) == 0)) (not (is_geometry size)) mapped).1 in
    absurd (false≢true (ap not (sym plain) ∙ other))
