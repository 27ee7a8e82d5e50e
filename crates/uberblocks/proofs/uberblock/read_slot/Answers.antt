use Rattle.std.proofs.Common.{subst, sym, ap, ◌∙◌, Some}
use Rattle.std.proofs.lemmas.Bool.{iff_false}
use Rattle.base.specs.formats.Uberblocks.{Uberblock as Fields, IsUberblock}
use Rattle.uberblocks.specs.Slots.{fields_of, IsWithinLimits}
use Rattle.uberblocks.specs.declared.uberblock.Uberblock.{Uberblock}
use Rattle.uberblocks.proofs.SlotReads.{IsFormed, IsFormed-read, IsUberblock-formed, fields_at-read, fields_of-same}
use Rattle.uberblocks.proofs.uberblock.read_slot.Goals as goal
use Rattle.uberblocks.proofs.uberblock.read_slot.Goals.{else-has_magic-via-then-has_magic+then-is_clear+then-is_within_limits+else-is_sealed, else-has_magic-via-then-has_magic+then-is_clear+else-is_within_limits, else-has_magic-via-then-has_magic+else-is_clear, else-has_magic-via-else-has_magic}

pub returns-then-is_sealed-clause-uberblock : goal.returns-then-is_sealed-clause-uberblock
returns-then-is_sealed-clause-uberblock c =
    let same = c.read_fields-uberblock.ensures in
    let formed : IsFormed c.args.bytes.now = record {
      magic = c.has_magic.ensures.0 c.if-has_magic.true;
      clear = c.is_clear.ensures.0 c.if-is_clear.true;
      limits = subst (λ (f : Fields). IsWithinLimits f) same (c.is_within_limits.ensures.0 c.if-is_within_limits.true);
      agrees = c.is_sealed.ensures.0 c.if-is_sealed.true;
    } in
    subst (λ (f : Fields). IsUberblock c.args.bytes.now f) (sym same) (IsUberblock-formed c.args.bytes.now c.requires formed)

pub returns-then-is_sealed-clause-found : goal.returns-then-is_sealed-clause-found
returns-then-is_sealed-clause-found c =
    λ u is. ap (λ (v : Uberblock). Some v) (fields_of-same c.read_fields-uberblock.result u (c.read_fields-uberblock.ensures ∙ fields_at-read is))

pub returns-else-has_magic-clause-none : goal.returns-else-has_magic-clause-none
returns-else-has_magic-clause-none c =
    λ u is.
    let formed = IsFormed-read is in
    let limits = subst (λ (f : Fields). IsWithinLimits f) (sym c.read_fields-uberblock.ensures) formed.limits in
    elim c.else-has_magic.branch [
      | else-has_magic-via-then-has_magic+then-is_clear+then-is_within_limits+else-is_sealed w ↦ iff_false w.is_sealed.ensures w.if-is_sealed.false formed.agrees
      | else-has_magic-via-then-has_magic+then-is_clear+else-is_within_limits w ↦ iff_false w.is_within_limits.ensures w.if-is_within_limits.false limits
      | else-has_magic-via-then-has_magic+else-is_clear w ↦ iff_false w.is_clear.ensures w.if-is_clear.false formed.clear
      | else-has_magic-via-else-has_magic w ↦ iff_false c.has_magic.ensures w.if-has_magic.false formed.magic
    ]

pub returns-else-has_magic-clause-found : goal.returns-else-has_magic-clause-found
returns-else-has_magic-clause-found c = λ u is. absurd (returns-else-has_magic-clause-none c (fields_of u) is)
