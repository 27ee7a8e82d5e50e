use Rattle.std.proofs.Common.{◌≡◌, ◌+◌, ◌-◌, refl, sym, ◌∙◌, arith, ℕ}
use Rattle.std.proofs.lemmas.List.{take_rest}
use Rattle.intent_log.proofs.Payloads.{is_payload, none_of_zeros}
use Rattle.intent_log.proofs.log_blocks.read_payload.Goals as goal

pub returns-then-not-are_zeros-clause-none : goal.returns-then-not-are_zeros-clause-none
returns-then-not-are_zeros-clause-none c =
    let not = rw (take_rest c.args.payload.now (24 + c.read_u64-used.result)) at c.if-not-are_zeros.ensures.1 in
    none_of_zeros c.args.payload.now c.args.header.now.import_number c.read_u64-used.result (sym c.read_u64-used.ensures) (λ zeros. let no = not zeros in cc)

pub returns-clause-read : goal.returns-clause-read
returns-clause-read c =
    let used : ℕ = c.read_u64-used.result in
    let span : 24 + used - 24 ≡ used = omega arith in
    let zeros = rw (take_rest c.args.payload.now (24 + used)) at (c.if-not-are_zeros.ensures.0 refl) in
    let are = rw span at c.in_ok-from_slice.ensures.items in
    is_payload c.args.payload.now c.args.header.now.import_number used
    (record { address = c.args.header.now.address; next = c.read_u64-2.result; used = c.in_ok-from_slice.field-0.items })
    c.requires c.if-used.false (sym c.read_u64.ensures ∙ c.if-read_u64-header.false) (sym c.read_u64-2.ensures) (sym c.read_u64-used.ensures) are zeros
