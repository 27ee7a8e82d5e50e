use Rattle.std.proofs.Common.{rules, ◌≡◌, ◌+◌, ◌-◌, ◌*◌, ◌<◌, ◌≤◌, ◌∙◌, ℕ, List, length, take, drop, refl, sym, ap, get_or, arith}
use Rattle.std.specs.Prelude.{min}
use Rattle.std.proofs.lemmas.Result.{err_from_is_err_and}
use Rattle.base.specs.disk.Disk.{bytes_of}
use Rattle.base.specs.kept.PlacedTrees.{padded_record}
use Rattle.base.specs.tree.Places.{record_number}
use Rattle.object_maps.proofs.ObjectReads.{ends_with_object, hole_bytes, part_bytes, past_bytes, past_zeros, record_hole, record_opens}
use Rattle.object_maps.proofs.block_reader.read_part.Goals as goal

pub returns-then-is_none-clause-exact : goal.returns-then-is_none-clause-exact
returns-then-is_none-clause-exact g c = λ keeps bytes is.
    let zeros : (j : ℕ) → j < length c.fill.new.self → get_or c.fill.new.self j 0 ≡ 0 = search (rules, arith) in
    let within : c.args.start + length c.fill.new.self ≤ 4032 = search (rules, arith) in
    hole_bytes (record_number c.args.number c.args.index) c.args.start bytes c.fill.new.self within
    (record_hole (bytes_of (g.B.SectorDevice.disk c.args.reader.now).now) c.args.frame.now c.args.number c.args.index c.args.pointer.now bytes (c.if-is_none.ensures.0 refl) is) zeros

pub returns-in_err-read_payload-clause-sound : goal.returns-in_err-read_payload-clause-sound
returns-in_err-read_payload-clause-sound g c = λ keeps bytes long is.
    let p = err_from_is_err_and c.from_residual.result c.from_residual.ensures.1 in
    let o = record_opens (bytes_of (g.B.SectorDevice.disk c.args.reader.now).now) c.args.frame.now c.args.number c.args.index c.args.pointer.now bytes
    (λ none. let no = c.if-is_none.ensures.1 none in cc) is in
    rw (p.1, p.2) (c.in_err-read_payload.ensures.sound keeps (padded_record (record_number c.args.number c.args.index) bytes) o.1)

pub returns-then-not-are_zeros-clause-sound : goal.returns-then-not-are_zeros-clause-sound
returns-then-not-are_zeros-clause-sound g c = λ keeps bytes long is.
    let o = record_opens (bytes_of (g.B.SectorDevice.disk c.args.reader.now).now) c.args.frame.now c.args.number c.args.index c.args.pointer.now bytes
    (λ none. let no = c.if-is_none.ensures.1 none in cc) is in
    let payload : c.read_payload.new.into ≡ padded_record (record_number c.args.number c.args.index) bytes = c.in_ok-read_payload.ensures.exact keeps (padded_record (record_number c.args.number c.args.index) bytes) o.1 in
    let end : c.min-end.result ≡ min 4032 (length bytes - 4032 * record_number c.args.number c.args.index) = c.min-end.ensures ∙ ap (min 4032) (c.saturating_sub.ensures ∙ ap (λ (q : ℕ). c.args.size - 4032 * q) c.record_number.ensures.record ∙ ap (λ (n : ℕ). n - 4032 * record_number c.args.number c.args.index) (sym long)) in
    let no = c.if-not-are_zeros.ensures.1 (past_bytes (record_number c.args.number c.args.index) c.min-end.result _ bytes c.read_payload.new.into payload end) in
    cc

pub returns-clause-exact : goal.returns-clause-exact
returns-clause-exact g c = λ keeps bytes is.
    let o = record_opens (bytes_of (g.B.SectorDevice.disk c.args.reader.now).now) c.args.frame.now c.args.number c.args.index c.args.pointer.now bytes
    (λ none. let no = c.if-is_none.ensures.1 none in cc) is in
    let payload : c.read_payload.new.into ≡ padded_record (record_number c.args.number c.args.index) bytes = c.in_ok-read_payload.ensures.exact keeps (padded_record (record_number c.args.number c.args.index) bytes) o.1 in
    let within : c.args.start + length c.copy_from_slice.new.self ≤ 4032 = search (rules, arith) in
    let into : List ℕ = c.copy_from_slice.new.self in
    let copied : into ≡ take (length into) (drop c.args.start c.read_payload.new.into) = search (rules, arith) in
    part_bytes (record_number c.args.number c.args.index) c.args.start bytes c.read_payload.new.into into within payload copied

pub returns-clause-zeros : goal.returns-clause-zeros
returns-clause-zeros g c =
    let within : c.args.start + length c.copy_from_slice.new.self ≤ 4032 = search (rules, arith) in
    let into : List ℕ = c.copy_from_slice.new.self in
    let copied : into ≡ take (length into) (drop c.args.start c.read_payload.new.into) = search (rules, arith) in
    let end : c.min-end.result ≡ min 4032 (c.args.size - 4032 * record_number c.args.number c.args.index) = c.min-end.ensures ∙ ap (min 4032) (c.saturating_sub.ensures ∙ ap (λ (q : ℕ). c.args.size - 4032 * q) c.record_number.ensures.record) in
    past_zeros (record_number c.args.number c.args.index) c.args.start c.args.size c.min-end.result c.read_payload.new.into into within end (c.if-not-are_zeros.ensures.0 refl) copied

pub returns-clause-taken : goal.returns-clause-taken
returns-clause-taken g c = λ keeps some.
    let into : List ℕ = c.copy_from_slice.new.self in
    let copied : into ≡ take (length into) (drop c.args.start c.read_payload.new.into) = search (rules, arith) in
    let payload : List ℕ = c.read_payload.new.into in
    let end : c.min-end.result ≡ min 4032 (c.args.size - 4032 * record_number c.args.number c.args.index) = c.min-end.ensures ∙ ap (min 4032) (c.saturating_sub.ensures ∙ ap (λ (q : ℕ). c.args.size - 4032 * q) c.record_number.ensures.record) in (
      payload,
      c.in_ok-read_payload.ensures.taken keeps,
      ends_with_object (record_number c.args.number c.args.index) c.args.size c.min-end.result payload c.in_ok-read_payload.ensures.size end (c.if-not-are_zeros.ensures.0 refl),
      copied,
    )
