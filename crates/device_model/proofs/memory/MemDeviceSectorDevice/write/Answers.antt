use Rattle.std.proofs.Common.{◌≡◌, ◌∙◌, List, ℕ, Bool, not, length, take, drop, ◌+◌, ◌*◌, ◌≤◌, ap, subst, arith, refl, sym}
use Rattle.std.proofs.lemmas.List.{with_items_is}
use Rattle.base.specs.declared.piece.Piece.TheVariants.{Keep}
use Rattle.base.specs.disk.Disk.{put}
use Rattle.base.specs.disk.Crashes.{left}
use Rattle.device_model.specs.Notes.{LeadTo, tracked, start}
use Rattle.device_model.proofs.Sound.{seen_size, same_size, sound, from_ok, write_counted, write_leads}
use Rattle.device_model.proofs.memory.MemDeviceSectorDevice.write.Goals as goal

pub invariant_of-self-then-fails : goal.invariant_of-self-then-fails
invariant_of-self-then-fails c =
    let adds = from_ok _ c.make_note-noted.result (sym c.is_err.ensures.value ∙ c.if-is_err.false) c.make_note-noted.ensures.ok in
    let m = c.self.inside in
    let is = c.self.invariant in
    let fits : c.args.at + length c.args.bytes.now ≤ 512 * m.sectors = omega (arith, c.requires.within, seen_size m _ is c.self.view_is, is.size) in
    let leads = write_leads m is _ _ _ _ _ c.deref.ensures.value adds fits in
    let undone = ap (λ (b : Bool). left Keep (not b) c.args.at c.args.bytes.now m.bytes.items) c.if-fails.true in
    sound _ m.bytes.items c.make_note-noted.new.notes.items refl refl is.size (write_counted m is _ _ _ _ _ c.deref.ensures.value adds fits)
    (subst (λ (l : List ℕ). LeadTo (tracked (start m.sectors) (take m.settled c.make_note-noted.new.notes.items)) (drop m.settled c.make_note-noted.new.notes.items) l) undone leads)

pub invariant_of-self-2 : goal.invariant_of-self-2
invariant_of-self-2 c =
    let adds = from_ok _ c.make_note-noted.result (sym c.is_err.ensures.value ∙ c.if-is_err.false) c.make_note-noted.ensures.ok in
    let m = c.self.inside in
    let is = c.self.invariant in
    let fits : c.args.at + length c.args.bytes.now ≤ 512 * m.sectors = omega (arith, c.requires.within, seen_size m _ is c.self.view_is, is.size) in
    let leads = write_leads m is _ _ _ _ _ c.deref.ensures.value adds fits in
    let done = ap (λ (b : Bool). left Keep (not b) c.args.at c.args.bytes.now m.bytes.items) c.if-fails.false in
    let after : c.overwrite.new.bytes ≡ put c.args.at c.args.bytes.now m.bytes.items = c.overwrite.ensures ∙ ap (λ (l : List ℕ). put c.args.at c.args.bytes.now l) c.deref_mut.ensures.value in
    let long : length c.overwrite.new.bytes ≡ m.bytes.len = omega (arith, c.overwrite.auto.bytes, ap (λ (l : List ℕ). length l) c.deref_mut.ensures.value, m.bytes.ok.0) in
    sound _ c.overwrite.new.bytes c.make_note-noted.new.notes.items (with_items_is m.bytes c.overwrite.new.bytes long) refl (omega (arith, is.size, long, m.bytes.ok.0)) (write_counted m is _ _ _ _ _ c.deref.ensures.value adds fits)
    (subst (λ (l : List ℕ). LeadTo (tracked (start m.sectors) (take m.settled c.make_note-noted.new.notes.items)) (drop m.settled c.make_note-noted.new.notes.items) l) (done ∙ sym after) leads)

pub make_note-noted-requires : goal.make_note-noted-requires
make_note-noted-requires c = omega (arith, c.requires.within, seen_size c.self.inside _ c.self.invariant c.self.view_is, ap (λ (l : List ℕ). length l) c.deref.ensures.value)

pub overwrite-requires : goal.overwrite-requires
overwrite-requires c = omega (arith, c.requires.within, seen_size c.self.inside _ c.self.invariant c.self.view_is, ap (λ (l : List ℕ). length l) c.deref_mut.ensures.value)

pub returns-clause-size : goal.returns-clause-size
returns-clause-size c = same_size c.self.inside _ _ c.self.invariant (invariant_of-self-2 c) refl c.self.view_is
