use Rattle.std.proofs.Common.{subst, sym, ap, ◌∙◌, Some}
use Rattle.std.proofs.lemmas.Bool.{iff_false}
use Rattle.mapped_labels.specs.MappedUberblocks.{MappedState, IsMappedUberblock}
use Rattle.mapped_labels.specs.MappedSlots.{fields_of, AreWithinLimits}
use Rattle.mapped_labels.specs.declared.uberblock.MappedUberblock.{MappedUberblock}
use Rattle.mapped_labels.proofs.MappedReads.{IsFormed, IsFormed-read, IsMappedUberblock-formed, fields_at-read, fields_of-same}
use Rattle.mapped_labels.proofs.uberblock.read_slot.Goals as goal
use Rattle.mapped_labels.proofs.uberblock.read_slot.Goals.{else-has_head-via-then-has_head+then-is_clear+then-is_within_limits+else-is_sealed, else-has_head-via-then-has_head+then-is_clear+else-is_within_limits, else-has_head-via-then-has_head+else-is_clear, else-has_head-via-else-has_head}

pub returns-then-is_sealed-clause-uberblock : goal.returns-then-is_sealed-clause-uberblock
returns-then-is_sealed-clause-uberblock c =
    let same = c.read_fields-uberblock.ensures in
    let formed : IsFormed c.args.bytes.now = record {
      head = c.has_head.ensures.0 c.if-has_head.true;
      clear = c.is_clear.ensures.0 c.if-is_clear.true;
      limits = subst (λ (f : MappedState). AreWithinLimits f.state) same (c.is_within_limits.ensures.0 c.if-is_within_limits.true);
      agrees = c.is_sealed.ensures.0 c.if-is_sealed.true;
    } in
    subst (λ (f : MappedState). IsMappedUberblock c.args.bytes.now f) (sym same) (IsMappedUberblock-formed c.args.bytes.now c.requires formed)

pub returns-then-is_sealed-clause-found : goal.returns-then-is_sealed-clause-found
returns-then-is_sealed-clause-found c =
    λ u is. ap (λ (v : MappedUberblock). Some v) (fields_of-same c.read_fields-uberblock.result u (c.read_fields-uberblock.ensures ∙ fields_at-read is))

pub returns-else-has_head-clause-none : goal.returns-else-has_head-clause-none
returns-else-has_head-clause-none c =
    λ u is.
    let formed = IsFormed-read is in
    let limits = subst (λ (f : MappedState). AreWithinLimits f.state) (sym c.read_fields-uberblock.ensures) formed.limits in
    elim c.else-has_head.branch [
      | else-has_head-via-then-has_head+then-is_clear+then-is_within_limits+else-is_sealed w ↦ iff_false w.is_sealed.ensures w.if-is_sealed.false formed.agrees
      | else-has_head-via-then-has_head+then-is_clear+else-is_within_limits w ↦ iff_false w.is_within_limits.ensures w.if-is_within_limits.false limits
      | else-has_head-via-then-has_head+else-is_clear w ↦ iff_false w.is_clear.ensures w.if-is_clear.false formed.clear
      | else-has_head-via-else-has_head w ↦ iff_false c.has_head.ensures w.if-has_head.false formed.head
    ]

pub returns-else-has_head-clause-found : goal.returns-else-has_head-clause-found
returns-else-has_head-clause-found c = λ u is. absurd (returns-else-has_head-clause-none c (fields_of u) is)
