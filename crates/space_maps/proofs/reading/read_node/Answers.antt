use Rattle.std.proofs.Common.{◌≡◌, ◌∙◌, ap, refl, List, ℕ, length, drop, inr}
use Rattle.std.proofs.lemmas.Result.{err_from_is_err_and}
use Rattle.base.specs.disk.Disk.{bytes_of}
use Rattle.base.specs.formats.Fields.{part}
use Rattle.space_maps.specs.Nodes.{kind_number}
use Rattle.space_maps.proofs.NodeReads.{node_stands, node_missing}
use Rattle.space_maps.proofs.reading.read_node.Goals as goal

pub returns-clause-stands : goal.returns-clause-stands
returns-clause-stands g c = λ keeps.
    let image : List ℕ = bytes_of (g.D.SectorDevice.disk c.args.device.now).now in
    let long : length c.args.buffer.now ≡ 4096 = c.told-buffer in
    let at = c.in_ok-read.ensures.bytes keeps ∙ ap (λ (n : ℕ). part image c.args.pointer.now.address n) long in
    node_stands image c.read.new.into c.args.frame.now c.args.shape (kind_number c.args.kind) c.guid.result c.args.node c.args.pointer.now
    (c.if-not-can_read.ensures.place.0 refl) at c.guid.ensures (c.in_ok-open_node.ensures.ok.0 refl)

pub returns-clause-payload : goal.returns-clause-payload
returns-clause-payload g c = λ keeps.
    let image : List ℕ = bytes_of (g.D.SectorDevice.disk c.args.device.now).now in
    let long : length c.args.buffer.now ≡ 4096 = c.told-buffer in
    let at = c.in_ok-read.ensures.bytes keeps ∙ ap (λ (n : ℕ). part image c.args.pointer.now.address n) long in
    ap (λ (l : List ℕ). drop 64 l) at

pub returns-in_err-open_node-clause-refused : goal.returns-in_err-open_node-clause-refused
returns-in_err-open_node-clause-refused g c = λ keeps.
    let p = err_from_is_err_and c.from_residual-in_err-open_node.result c.from_residual-in_err-open_node.ensures.1 in
    let image : List ℕ = bytes_of (g.D.SectorDevice.disk c.args.device.now).now in
    let long : length c.args.buffer.now ≡ 4096 = c.told-buffer in
    let at = c.in_ok-read.ensures.bytes keeps ∙ ap (λ (n : ℕ). part image c.args.pointer.now.address n) long in
    rw (p.1, p.2) (inr (
      c.in_err-open_node.ensures.refused,
      node_missing image c.read.new.into c.args.frame.now c.args.shape (kind_number c.args.kind) c.guid.result c.args.node c.args.pointer.now at c.guid.ensures
          (λ x. let no = c.in_err-open_node.ensures.ok.1 x in cc),
    ))
