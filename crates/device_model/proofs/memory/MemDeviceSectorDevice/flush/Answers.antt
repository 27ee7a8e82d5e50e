use Rattle.std.proofs.Common.{◌≡◌, ◌∙◌, List, ap, subst, arith, refl, sym, length, take, drop}
use Rattle.std.proofs.lemmas.List.{with_items_is}
use Rattle.device_model.specs.declared.notes.Note.{Note}
use Rattle.base.specs.disk.Disk.{certain, bytes_of}
use Rattle.device_model.specs.Notes.{Track, Settles, LeadTo, tracked, start}
use Rattle.device_model.proofs.Tracks.{tells_leads}
use Rattle.device_model.proofs.Sound.{same_size, sound, flush_leads, flush_disk}
use Rattle.device_model.proofs.memory.MemDeviceSectorDevice.flush.Goals as goal

pub invariant_of-self-2 : goal.invariant_of-self-2
invariant_of-self-2 c =
    let m = c.self.inside in
    let settles = subst (λ (l : List Note). Settles m.settled l c.settle.new.notes) c.deref_mut.ensures.value c.settle.ensures in
    let long : length c.settle.new.notes ≡ m.notes.len = omega (arith, c.settle.auto.notes, ap (λ (l : List Note). length l) c.deref_mut.ensures.value, m.notes.ok.0) in
    let all : length c.settle.new.notes ≡ c.len-self-inside.result = long ∙ sym c.len-self-inside.ensures in
    sound _ m.bytes.items c.settle.new.notes refl (with_items_is m.notes c.settle.new.notes long) c.self.invariant.size (omega (arith, all))
    (subst (λ k. LeadTo (tracked (start m.sectors) (take k c.settle.new.notes)) (drop k c.settle.new.notes) m.bytes.items) all (tells_leads (start m.sectors) settles.closed c.settle.new.notes m.bytes.items settles.tells settles.long (flush_leads m c.self.invariant settles.closed settles.closes)))

pub returns-clause-disk : goal.returns-clause-disk
returns-clause-disk c =
    let m = c.self.inside in
    let settles = subst (λ (l : List Note). Settles m.settled l c.settle.new.notes) c.deref_mut.ensures.value c.settle.ensures in
    let long : length c.settle.new.notes ≡ m.notes.len = omega (arith, c.settle.auto.notes, ap (λ (l : List Note). length l) c.deref_mut.ensures.value, m.notes.ok.0) in
    ap (λ (l : List Note). (tracked (start m.sectors) l).disk) (with_items_is m.notes c.settle.new.notes long)
    ∙ ap (λ (t : Track). t.disk) (settles.tells (start m.sectors))
    ∙ flush_disk m c.self.invariant settles.closed settles.closes
    ∙ ap (λ v. certain (bytes_of v.disk.now) v.disk) c.self.view_is

pub returns-clause-size : goal.returns-clause-size
returns-clause-size c = same_size c.self.inside _ _ c.self.invariant (invariant_of-self-2 c) refl c.self.view_is
