use Rattle.std.proofs.Common.{ℕ, ◌≡◌, ◌+◌, ◌-◌, ◌*◌, inl, inr, refl, subst, sym, ap, ◌∙◌, arith}
use Rattle.base.specs.formats.Fields.{part}
use Rattle.base.specs.formats.Geometry.{slot_of}
use Rattle.base.specs.formats.Uberblocks.{IsUberblock}
use Rattle.uberblocks.specs.Slots.{fields_of}
use Rattle.uberblocks.specs.Rings.{is_above}
use Rattle.uberblocks.proofs.Places.{group-at}
use Rattle.uberblocks.proofs.ring.better.Goals as goal
use Rattle.uberblocks.proofs.ring.better.Goals.{then-slot-position-via-then-slot-position, then-slot-position-via-else-slot-position+then-not-is_above}

pub returns-then-slot-position : goal.returns-then-slot-position
returns-then-slot-position c = inr (record {
  is = refl;
  none = λ u at.
      let same : c.read_u64.result ≡ u.group = group-at c.args.ring.now c.args.position _ c.read_u64.result u (omega arith) c.read_u64.ensures at in
      elim c.then-slot-position.branch [
        | then-slot-position-via-then-slot-position w ↦ absurd (w.if-slot-position.true (c.slot.ensures ∙ ap slot_of same ∙ at.1))
        | then-slot-position-via-else-slot-position+then-not-is_above w ↦ ap (λ (n : ℕ). is_above n c.args.best) (sym same) ∙ sym w.is_above.ensures ∙ w.if-not-is_above.true
      ];
})

pub returns-in-Some : goal.returns-in-Some
returns-in-Some c =
    let size : 1024 * c.args.position + 1024 - 1024 * c.args.position ≡ 1024 = omega arith in
    let held = subst (λ (n : ℕ). IsUberblock (part c.args.ring.now (1024 * c.args.position) n) (fields_of c.in-Some.found)) size c.in-Some.ensures.uberblock in
    let same : c.read_u64.result ≡ c.in-Some.found.group.0 = c.read_u64.ensures ∙ c.in-Some.ensures.uberblock.group in
    let here = ap slot_of (sym same) ∙ sym c.slot.ensures ∙ c.if-slot-position.false in
    inl (record {
      found = c.in-Some.found;
      is = refl;
      stands = (held, here);
      above = ap (λ (n : ℕ). is_above n c.args.best) (sym same) ∙ sym c.is_above.ensures ∙ c.if-not-is_above.false;
    })

pub returns-in-None : goal.returns-in-None
returns-in-None c =
    let size : 1024 * c.args.position + 1024 - 1024 * c.args.position ≡ 1024 = omega arith in
    inr (record {
      is = refl;
      none = λ u at. absurd (c.in-None.ensures.none u (subst (λ (n : ℕ). IsUberblock (part c.args.ring.now (1024 * c.args.position) n) u) (sym size) at.0));
    })
