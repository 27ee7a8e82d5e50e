use Rattle.std.proofs.Common.{◌≡◌, ◌∙◌, ℕ, List, ap, sym, inl, inr}
use Rattle.std.proofs.lemmas.Result.{IfErr-weaker, on_ok_weaker}
use Rattle.base.specs.declared.error.PoolError.TheVariants as error
use Rattle.base.specs.disk.Disk.{bytes_of}
use Rattle.base.specs.formats.Fields.{pointer_in}
use Rattle.object_maps.proofs.ObjectReads.{top_read, opens-some}
use Rattle.object_maps.proofs.block_reader.read_top.Goals as goal

pub returns-clause-exact : goal.returns-clause-exact
returns-clause-exact g c = λ keeps pointers bytes holds.
    let image : List ℕ = bytes_of (g.B.SectorDevice.disk c.args.reader.now).now in
    elim (top_read image c.args.frame.now c.args.number c.args.top.now pointers bytes c.requires.number holds) [
      | inl none ↦ on_ok_weaker c.read_pointers.result (λ each k low. each k low ∙ sym (none.1 k low)) (c.read_pointers.ensures.none none.0)
      | inr block ↦ on_ok_weaker c.read_pointers.result (λ is k low. ap (λ (l : List ℕ). pointer_in l k) is ∙ block.2 k low)
          (c.read_pointers.ensures.exact keeps (opens-some image c.args.frame.now 7 c.args.number c.args.top.now block.0 block.1) block.0 block.1)
    ]

pub returns-clause-sound : goal.returns-clause-sound
returns-clause-sound g c = λ keeps pointers bytes holds.
    let image : List ℕ = bytes_of (g.B.SectorDevice.disk c.args.reader.now).now in
    elim (top_read image c.args.frame.now c.args.number c.args.top.now pointers bytes c.requires.number holds) [
      | inl none ↦ IfErr-weaker c.read_pointers.result (λ _. ⊥) (λ e. e ≡ error.Read) (λ e never. absurd never) (c.read_pointers.ensures.whole none.0)
      | inr block ↦ c.read_pointers.ensures.sound keeps (opens-some image c.args.frame.now 7 c.args.number c.args.top.now block.0 block.1) block.0 block.1
    ]
