use Rattle.std.proofs.Common.{ℕ, ◌≡◌, ◌+◌, ◌-◌, ◌*◌, inl, inr, refl, subst, sym, ap, ◌∙◌, arith}
use Rattle.base.specs.formats.Fields.{part}
use Rattle.mapped_labels.specs.Shapes.{mapped_slot_of}
use Rattle.mapped_labels.specs.MappedUberblocks.{IsMappedUberblock}
use Rattle.mapped_labels.specs.MappedSlots.{fields_of}
use Rattle.mapped_labels.specs.MappedRings.{is_above}
use Rattle.mapped_labels.proofs.MappedPlaces.{group-at}
use Rattle.mapped_labels.proofs.ring.better.Goals as goal
use Rattle.mapped_labels.proofs.ring.better.Goals.{then-slot-position-via-then-slot-position, then-slot-position-via-else-slot-position+then-not-is_above}

pub returns-then-slot-position : goal.returns-then-slot-position
returns-then-slot-position c = inr (record {
  is = refl;
  none = λ u at.
      let same : c.read_u64.result ≡ u.state.group = group-at c.args.ring.now c.args.position _ c.read_u64.result u (omega arith) c.read_u64.ensures at in
      elim c.then-slot-position.branch [
        | then-slot-position-via-then-slot-position w ↦ absurd (w.if-slot-position.true (c.slot.ensures.slot ∙ ap mapped_slot_of same ∙ at.1))
        | then-slot-position-via-else-slot-position+then-not-is_above w ↦ ap (λ (n : ℕ). is_above n c.args.best) (sym same) ∙ sym w.is_above.ensures ∙ w.if-not-is_above.true
      ];
})

pub returns-in-Some : goal.returns-in-Some
returns-in-Some c =
    let size : 4096 * c.args.position + 4096 - 4096 * c.args.position ≡ 4096 = omega arith in
    let held = subst (λ (n : ℕ). IsMappedUberblock (part c.args.ring.now (4096 * c.args.position) n) (fields_of c.in-Some.found)) size c.in-Some.ensures.uberblock in
    let same : c.read_u64.result ≡ c.in-Some.found.state.group.0 = c.read_u64.ensures ∙ c.in-Some.ensures.uberblock.group in
    let here = ap mapped_slot_of (sym same) ∙ sym c.slot.ensures.slot ∙ c.if-slot-position.false in
    inl (record {
      found = c.in-Some.found;
      is = refl;
      stands = (held, here);
      above = ap (λ (n : ℕ). is_above n c.args.best) (sym same) ∙ sym c.is_above.ensures ∙ c.if-not-is_above.false;
    })

pub returns-in-None : goal.returns-in-None
returns-in-None c =
    let size : 4096 * c.args.position + 4096 - 4096 * c.args.position ≡ 4096 = omega arith in
    inr (record {
      is = refl;
      none = λ u at. absurd (c.in-None.ensures.none u (subst (λ (n : ℕ). IsMappedUberblock (part c.args.ring.now (4096 * c.args.position) n) u) (sym size) at.0));
    })
