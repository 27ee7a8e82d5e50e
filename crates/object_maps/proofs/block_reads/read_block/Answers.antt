use Rattle.std.proofs.Common.{◌≡◌, ◌∙◌, ap, refl, subst, List, ℕ, length}
use Rattle.base.specs.formats.Fields.{part}
use Rattle.base.specs.tree.Places.{kind_of, number_of_place}
use Rattle.tree_blocks.specs.BlockPlaces.{place_of}
use Rattle.std.proofs.lemmas.Result.{err_from_is_err_and}
use Rattle.checked_blocks.proofs.NamedBlocks.{IsNamed}
use Rattle.object_maps.proofs.BlockReads.{block_opens, tells_missing}
use Rattle.object_maps.proofs.block_reads.read_block.Goals as goal

pub returns-clause-opens : goal.returns-clause-opens
returns-clause-opens g c = λ image shows keeps.
    let long : length c.args.buffer.now ≡ 4096 = c.told-buffer in
    let readable = c.if-not-can_read.ensures.0 refl in
    let at = c.in_ok-read.ensures.bytes keeps
    ∙ ap (λ (l : List ℕ). part l c.args.pointer.now.address (length c.args.buffer.now)) (shows keeps)
    ∙ ap (λ (n : ℕ). part image c.args.pointer.now.address n) long in
    let place = place_of c.args.place in
    let named : IsNamed c.expected-wanted.result c.args.frame.now (kind_of place) (number_of_place place) c.args.pointer.now =
    subst (λ (k : ℕ). IsNamed c.expected-wanted.result c.args.frame.now k (number_of_place place) c.args.pointer.now) c.kind-2.ensures
    (subst (λ (n : ℕ). IsNamed c.expected-wanted.result c.args.frame.now c.kind-2.result n c.args.pointer.now) c.number.ensures c.expected-wanted.ensures.named) in
    block_opens image c.args.frame.now (kind_of place) (number_of_place place) c.args.pointer.now c.expected-wanted.result c.read.new.into
    named readable.0 readable.1 at (c.read.auto.into ∙ long) (c.in_ok-open_read.ensures.ok.0 refl)

pub returns-in_err-open_read-clause-refused : goal.returns-in_err-open_read-clause-refused
returns-in_err-open_read-clause-refused g c = λ keeps image shows.
    let p = err_from_is_err_and c.from_residual-in_err-open_read.result c.from_residual-in_err-open_read.ensures.1 in
    let long : length c.args.buffer.now ≡ 4096 = c.told-buffer in
    let at = c.in_ok-read.ensures.bytes keeps
    ∙ ap (λ (l : List ℕ). part l c.args.pointer.now.address (length c.args.buffer.now)) shows
    ∙ ap (λ (n : ℕ). part image c.args.pointer.now.address n) long in
    let place = place_of c.args.place in
    let named : IsNamed c.expected-wanted.result c.args.frame.now (kind_of place) (number_of_place place) c.args.pointer.now =
    subst (λ (k : ℕ). IsNamed c.expected-wanted.result c.args.frame.now k (number_of_place place) c.args.pointer.now) c.kind-2.ensures
    (subst (λ (n : ℕ). IsNamed c.expected-wanted.result c.args.frame.now c.kind-2.result n c.args.pointer.now) c.number.ensures c.expected-wanted.ensures.named) in
    rw (p.1, p.2) (tells_missing image c.args.frame.now (kind_of place) (number_of_place place) c.args.pointer.now c.expected-wanted.result c.read.new.into
    c.in_err-open_read.field-0.0 named c.expected-wanted.ensures.address at (λ x. let no = c.in_err-open_read.ensures.ok.1 x in cc) c.in_err-open_read.ensures.refused)
