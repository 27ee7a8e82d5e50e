use Rattle.std.proofs.Common.{◌%◌, ◌∙◌, List, ℕ, drop, refl, subst}
use Rattle.base.specs.disk.Disk.{bytes_of}
use Rattle.base.specs.formats.Blocks.{Opens}
use Rattle.base.specs.declared.pointer.Pointer.{Pointer}
use Rattle.trees.proofs.NotedWalks.{on_ok_always}
use Rattle.trees.proofs.ReadAheads.{placed_same, same_pointer}
use Rattle.trees.proofs.walk.Loader.sound_record.Goals as goal

pub returns-clause-placed : goal.returns-clause-placed
returns-clause-placed g c =
    on_ok_always c.check_form.result
    (placed_same c.args.self.now.frame.now c.in-Some.read.pointer c.args.pointer.now (same_pointer c.in-Some.read.pointer c.args.pointer.now c.if-eq.ensures)
    (c.requires.ahead (bytes_of (g.D.SectorDevice.disk c.args.device.now).now) (λ k. refl) (c.args.index % 4) c.in-Some.read c.in-Some.is).0)

pub returns-clause-opens : goal.returns-clause-opens
returns-clause-opens g c = λ image shows. on_ok_always c.check_form.result (λ keeps.
    let frame = c.args.self.now.frame.now in
    let payload : List ℕ = drop 64 c.in-Some.read.block in
    subst (λ (n : ℕ). Opens image frame 5 n c.args.pointer.now payload) (c.if-read-block_number.true ∙ c.number-block_number.ensures)
    (subst (λ (p : Pointer). Opens image frame 5 c.in-Some.read.number p payload) (same_pointer c.in-Some.read.pointer c.args.pointer.now c.if-eq.ensures)
    ((c.requires.ahead image shows (c.args.index % 4) c.in-Some.read c.in-Some.is).1 keeps)))
