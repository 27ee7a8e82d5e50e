use Rattle.std.proofs.Common.{◌≡◌, ◌∙◌, Bool, List, ℕ, ap, refl, sym, subst}
use Rattle.std.specs.Prelude.{IsTrue}
use Rattle.base.specs.declared.pointer.Pointer.{Pointer}
use Rattle.base.specs.disk.Disk.{Disk, bytes_of}
use Rattle.base.specs.formats.Fields.{part}
use Rattle.object_maps.specs.BlockReads.{IsReadable}
use Rattle.trees.proofs.walk.Loader.read_ahead.Goals as goal

pub returns-clause-ahead : goal.returns-clause-ahead
returns-clause-ahead g c = λ image shows.
    let keep : Bool = g.D.SectorDevice.keeps_model in
    let frame = c.args.self.now.frame.now in
    let readable = c.if-not-can_read_all.ensures in
    let at : (p q : Pointer) → p ≡ q → IsReadable frame q → IsReadable frame p = λ p q e r. subst (λ (x : Pointer). IsReadable frame x) (sym e) r in
    let start : Disk = g.D.SectorDevice.disk c.args.device.now in
    let shown : (d : Disk) → (IsTrue keep → d ≡ start) → (p : Pointer) (block : List ℕ)
    → (IsTrue keep → block ≡ part (bytes_of d.now) p.address 4096) → IsTrue keep → block ≡ part image p.address 4096 =
    λ d same p block is k. is k ∙ ap (λ (l : List ℕ). part l p.address 4096) (ap (λ (x : Disk). bytes_of x.now) (same k) ∙ shows k) in
    let one : IsTrue keep → g.D.SectorDevice.disk c.fill.new.device ≡ start = λ k. c.in_ok-fill.ensures.reads.disk k in
    let two : IsTrue keep → g.D.SectorDevice.disk c.fill-2.new.device ≡ start = λ k. c.in_ok-fill-2.ensures.reads.disk k ∙ one k in
    let three : IsTrue keep → g.D.SectorDevice.disk c.fill-3.new.device ≡ start = λ k. c.in_ok-fill-3.ensures.reads.disk k ∙ two k in
    c.opened-ahead.ensures keep image (
      at c.room_for-first.result.pointer c.pointer_in-first.result c.room_for-first.ensures.pointer (readable.first refl),
      shown start (λ k. refl) c.room_for-first.result.pointer c.fill.new.buffer c.in_ok-fill.ensures.bytes,
    ) (
      at c.room_for-second.result.pointer c.pointer_in-second.result c.room_for-second.ensures.pointer (readable.second refl),
      shown (g.D.SectorDevice.disk c.fill.new.device) one c.room_for-second.result.pointer c.fill-2.new.buffer c.in_ok-fill-2.ensures.bytes,
    ) (
      at c.room_for-third.result.pointer c.pointer_in-third.result c.room_for-third.ensures.pointer (readable.third refl),
      shown (g.D.SectorDevice.disk c.fill-2.new.device) two c.room_for-third.result.pointer c.fill-3.new.buffer c.in_ok-fill-3.ensures.bytes,
    ) (
      at c.room_for-fourth.result.pointer c.pointer_in-fourth.result c.room_for-fourth.ensures.pointer (readable.fourth refl),
      shown (g.D.SectorDevice.disk c.fill-3.new.device) three c.room_for-fourth.result.pointer c.fill-4.new.buffer c.in_ok-fill-4.ensures.bytes,
    )
