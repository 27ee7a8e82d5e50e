use Rattle.std.proofs.Common.{◌≡◌, ◌∙◌, ◌<◌, ℕ, zero, suc, eqb, true, false, length, sym, arith}
use Rattle.base.specs.formats.Records.{IsDecoded}
use Rattle.records.specs.Records.{record_fields}
use Rattle.records.proofs.RecordsRead.{readings_agree}
use Rattle.intent_log.proofs.LongRecords.{no_record}
use Rattle.intent_log.proofs.block_records.read_record.Goals as goal

not_zero : (n : ℕ) → eqb n 0 ≡ false → 0 < n
not_zero zero e = absurd (let no : true ≡ false = e in cc)
not_zero (suc n) e = omega arith

pub returns-clause-none : goal.returns-clause-none
returns-clause-none c =
    let bytes = c.args.bytes.now in
    let rest = c.in-Some.rest.now in
    let decoded : IsDecoded bytes (record_fields c.in-Some.record) rest = rw c.in-Some.is at c.in_ok-record.ensures.found in
    no_record bytes (record_fields c.in-Some.record) rest
    (λ s more spelled allowed. (readings_agree bytes s (record_fields c.in-Some.record) more rest (record { allowed = allowed; spelled = spelled }) decoded).1)
    (not_zero (length rest) (sym c.is_empty.ensures ∙ c.if-is_empty.false))
