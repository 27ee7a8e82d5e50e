use Rattle.std.proofs.Common.{◌≡◌, ◌≤◌, ◌+◌, ◌*◌, ℕ, List, length, ap, sym, refl, subst, ◌∙◌, arith}
use Rattle.base.specs.disk.Disk.{Disk, bytes_of, put}
use Rattle.base.specs.formats.Fields.{part}
use Rattle.base.specs.formats.Geometry.{slot_place}
use Rattle.base.proofs.disk.Put.{length-part}
use Rattle.import_replay.proofs.Rings.{one_more, written_back, is_ring}
use Rattle.read_commands.proofs.label_lines.read_ring.Goals as goal

pub loop-label-preserved : goal.loop-label-preserved
loop-label-preserved g c =
    let i = c.loop-label.invariant in
    let label : ℕ = c.loop-label.label in
    let size : ℕ = c.args.geometry in
    let ring : List ℕ = c.loop-label.ring.items in
    let new : List ℕ = c.read_array.new.ring in
    record {
      sized = c.read_array.ensures.reads.size ∙ i.sized;
      disk = λ keeps. c.read_array.ensures.reads.disk keeps ∙ i.disk keeps;
      count = c.in_ok-read_array.ensures.reads.count ∙ i.count;
      long = i.long;
      arrays = λ keeps k below.
          let image : List ℕ = bytes_of (g.D.SectorDevice.disk c.args.device.now).now in
          let long : length image ≡ size = g.met.D.SectorDevice.sized keeps c.args.device.now ∙ c.requires in
          let fits : slot_place size label 0 + 131072 ≤ length image = subst (λ n. slot_place size label 0 + 131072 ≤ n) (sym long) c.read_array.ensures.within in
          let back = written_back c.loop-label.ring.len new ring (c.read_array.ensures.length ∙ sym i.long) in
          let array = c.in_ok-read_array.ensures.array keeps in
          let same : put (131072 * label) (part (bytes_of (g.D.SectorDevice.disk c.loop-label.device).now) (slot_place size label 0) 131072) c.as_mut_slice.result.now
          ≡ put (131072 * label) (part image (slot_place size label 0) 131072) ring =
          ap (λ (d : Disk). put (131072 * label) (part (bytes_of d.now) (slot_place size label 0) 131072) c.as_mut_slice.result.now) (i.disk keeps)
          ∙ ap (λ (l : List ℕ). put (131072 * label) (part image (slot_place size label 0) 131072) l) c.as_mut_slice.ensures.value in
          ap (λ (l : List ℕ). part l (131072 * k) 131072) (back ∙ array ∙ same)
          ∙ one_more label 131072 ring (λ n. part image (slot_place size n 0) 131072) c.loop-label-test.true (omega (arith, c.loop-label.ring.ok.0, i.long)) refl
          (length-part (slot_place size label 0) 131072 image fits) (i.arrays keeps) k below;
    }

pub returns-clause-ring : goal.returns-clause-ring
returns-clause-ring g c = λ keeps.
    let image : List ℕ = bytes_of (g.D.SectorDevice.disk c.args.device.now).now in
    let long : length image ≡ c.args.geometry = g.met.D.SectorDevice.sized keeps c.args.device.now ∙ c.requires in
    is_ring c.args.geometry c.loop-label.label 131072 c.loop-label.ring.items image long c.loop-label-test.false (c.loop-label.invariant.arrays keeps)
