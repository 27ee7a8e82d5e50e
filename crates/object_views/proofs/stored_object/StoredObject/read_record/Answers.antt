use Rattle.std.proofs.Common.{rules, ◌≡◌, ◌+◌, ◌-◌, ◌*◌, ◌/◌, ◌%◌, ◌<◌, ◌≤◌, ◌∙◌, ℕ, List, length, take, drop, refl, sym, ap, get_or, min, subst, arith}
use Rattle.std.proofs.lemmas.List.{take_rest}
use Rattle.std.proofs.lemmas.Result.{err_from_is_err_and}
use Rattle.base.specs.formats.Blocks.{Opens}
use Rattle.base.proofs.tree.Strips.{record-count}
use Rattle.object_maps.specs.BlockReads.{TellsBlock}
use Rattle.object_views.specs.ReadPaths.{record_place}
use Rattle.object_views.proofs.TestedBlocks.{tells_missing}
use Rattle.object_views.proofs.ReadPlaces.{block_formless, block_read, block_sound, hole_read, hole_sound, size_at}
use Rattle.object_views.proofs.stored_object.StoredObject.read_record.Goals as goal

pub strip_number-number-requires-clause-index : goal.strip_number-number-requires-clause-index
strip_number-number-requires-clause-index g c = omega (arith, c.requires.index, record-count)

pub overflow_mul-index : goal.overflow_mul-index
overflow_mul-index g c = omega (arith, c.requires.index, record-count)

pub returns-then-is_none-clause-read : goal.returns-then-is_none-clause-read
returns-then-is_none-clause-read g c = λ keeps image root shows is at.
    let o = c.args.self.now in
    let zeros : (j : ℕ) → j < length c.fill.new.self → get_or c.fill.new.self j 0 ≡ 0 = search (rules, arith) in
    let within : c.args.start + length c.fill.new.self ≤ 4032 = search (rules, arith) in
    let none = c.if-is_none.ensures.0 refl in
    record {
      block = hole_sound image o.frame root o.id.0 c.args.index c.requires.number c.requires.index c.args.pointer.now at none;
      bytes = hole_read image o.frame root o.id.0 c.args.index c.requires.number c.requires.index c.args.pointer.now at none c.args.start c.fill.new.self within zeros;
    }

pub returns-in_err-read_block-clause-damage : goal.returns-in_err-read_block-clause-damage
returns-in_err-read_block-clause-damage g c = λ keeps image root shows is at.
    let o = c.args.self.now in
    let p = err_from_is_err_and c.from_residual.result c.from_residual.ensures.1 in
    rw (p.1, p.2)
    (tells_missing image o.frame root (record_place o.id.0 c.args.index) c.args.pointer.now at (λ none. let no = c.if-is_none.ensures.1 none in cc) c.in_err-read_block.field-0.0
    (subst (λ (m : ℕ). TellsBlock image o.frame 5 (84 * m + c.args.index % 84) c.args.pointer.now c.in_err-read_block.field-0.0) c.strip_number-number.ensures.number (c.in_err-read_block.ensures.refused keeps image shows)))

pub returns-then-not-are_zeros-clause-damage : goal.returns-then-not-are_zeros-clause-damage
returns-then-not-are_zeros-clause-damage g c = λ keeps image root shows is at.
    let o = c.args.self.now in
    let n : ℕ = o.id.0 in
    let r : ℕ = c.args.index in
    let payload : List ℕ = c.payload_of-payload.result.now in
    let opened = c.in_ok-read_block.ensures.opens image (λ k. shows) keeps in
    let opens = subst (λ (m : ℕ). Opens image o.frame 5 (84 * m + r % 84) c.args.pointer.now payload) c.strip_number-number.ensures.number
    (subst (λ (l : List ℕ). Opens image o.frame 5 (84 * c.strip_number-number.result + r % 84) c.args.pointer.now l) (sym c.payload_of-payload.ensures.payload) opened) in
    let end : c.min-end.result ≡ min 4032 (o.entry.length - 4032 * r) = c.min-end.ensures ∙ ap (min 4032) c.saturating_sub.ensures in
    let not = rw (take_rest payload c.min-end.result) at c.if-not-are_zeros.ensures.1 in
    block_formless image o.frame root n r c.requires.number c.requires.index c.args.pointer.now at (λ none. let no = c.if-is_none.ensures.1 none in cc) payload opens
    o.entry.length c.min-end.result (size_at image o.frame root n o.entry c.requires.number is (r / 84)) c.payload_of-payload.ensures.length (omega (arith, end)) c.damaged.result
    (λ zeros. let no = not zeros in cc) c.damaged.ensures

pub returns-clause-read : goal.returns-clause-read
returns-clause-read g c = λ keeps image root shows is at.
    let o = c.args.self.now in
    let n : ℕ = o.id.0 in
    let r : ℕ = c.args.index in
    let payload : List ℕ = c.payload_of-payload.result.now in
    let opened = c.in_ok-read_block.ensures.opens image (λ k. shows) keeps in
    let opens = subst (λ (m : ℕ). Opens image o.frame 5 (84 * m + r % 84) c.args.pointer.now payload) c.strip_number-number.ensures.number
    (subst (λ (l : List ℕ). Opens image o.frame 5 (84 * c.strip_number-number.result + r % 84) c.args.pointer.now l) (sym c.payload_of-payload.ensures.payload) opened) in
    let end : c.min-end.result ≡ min 4032 (o.entry.length - 4032 * r) = c.min-end.ensures ∙ ap (min 4032) c.saturating_sub.ensures in
    let zeros = rw (take_rest payload c.min-end.result) at (c.if-not-are_zeros.ensures.0 refl) in
    let into : List ℕ = c.copy_from_slice.new.self in
    let within : c.args.start + length c.copy_from_slice.new.self ≤ 4032 = search (rules, arith) in
    let copied : into ≡ take (length into) (drop c.args.start payload) = search (rules, arith) in
    record {
      block = block_sound image o.frame root n r c.requires.number c.requires.index c.args.pointer.now at (λ none. let no = c.if-is_none.ensures.1 none in cc) payload opens
          o.entry.length c.min-end.result (size_at image o.frame root n o.entry c.requires.number is (r / 84)) c.payload_of-payload.ensures.length (omega (arith, end)) zeros;
      bytes = block_read image o.frame root n r c.requires.number c.requires.index c.args.pointer.now at (λ none. let no = c.if-is_none.ensures.1 none in cc) payload opens c.args.start into within copied;
    }
