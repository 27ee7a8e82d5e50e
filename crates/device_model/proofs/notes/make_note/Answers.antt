use Rattle.std.proofs.Common.{◌≡◌, ℕ, ◌+◌, ◌-◌, take, drop, false, ◌∙◌, ap, arith, refl, length}
use Rattle.base.specs.declared.piece.Piece.TheVariants.{Keep}
use Rattle.device_model.proofs.notes.make_note.Goals as goal

pub returns-clause-ok : goal.returns-clause-ok
returns-clause-ok c =
    let n : c.args.place + length c.args.content.now - c.args.place ≡ length c.args.content.now = omega arith in
    record {
      note = record { place = c.args.place; old = c.in_ok-old.old; content = c.in_ok-content.content; done = c.args.done; piece = Keep; last = false };
      added = c.in_ok-push.ensures.items;
      tells = record {
        place_is = refl;
        content_is = c.in_ok-content.ensures;
        done_is = refl;
        old_is = c.in_ok-old.ensures ∙ ap (λ (k : ℕ). take k (drop c.args.place c.args.bytes.now)) n;
        open_is = record { kept = refl; goes_on = refl };
      };
    }
