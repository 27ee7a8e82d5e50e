use Rattle.std.proofs.Common.{◌≡◌, ◌<◌, ◌∷◌, [], ◌++◌, List, ℕ, length, map, ap, subst, sym, ◌∙◌, arith, length-append, eqb, zero, suc, true, false}
use Rattle.std.specs.Prelude.{All}
use Rattle.std.proofs.lemmas.Bool.{eqb-true}
use Rattle.std.proofs.lemmas.List.{append-nil, map-append, nil_from_length, length-map}
use Rattle.std.proofs.lemmas.List.Elements.{All-push}
use Rattle.base.specs.formats.Records.{Record, IsAllowed, IsDecoded, bytes_of_records}
use Rattle.records.specs.Records.{record_fields}
use Rattle.records.specs.declared.record.Record as code
use Rattle.intent_log.specs.Chains.{AreRecordsOf}
use Rattle.intent_log.proofs.RecordLists.{no_records, nothing_has_none, record_more, record_takes_bytes}
use Rattle.intent_log.proofs.block_records.read_records.Goals as goal

fields_pushed : (items new : List code.Record) (r : code.Record) → new ≡ items ++ r ∷ [] → map record_fields new ≡ map record_fields items ++ record_fields r ∷ []
fields_pushed items new r e = ap (λ (l : List code.Record). map record_fields l) e ∙ map-append record_fields items (r ∷ [])

pub returns-in_default-clause-none : goal.returns-in_default-clause-none
returns-in_default-clause-none c =
    let i = c.loop-index.invariant in
    let read : List Record = map record_fields c.loop-index.records.items in
    let as_many : length read ≡ c.loop-index.index = length-map c.loop-index.records.items record_fields ∙ i.count in
    no_records c.args.bytes.now c.loop-index.rest.now read i.spelled i.allowed (λ some. i.left (subst (λ (n : ℕ). 0 < n) as_many some))
    (rw c.in_default.is at c.in_ok-record.ensures.none)

pub returns-then-is_empty-clause-read : goal.returns-then-is_empty-clause-read
returns-then-is_empty-clause-read c =
    let i = c.loop-index.invariant in
    let read : List Record = map record_fields c.loop-index.records.items in
    let one : Record = record_fields c.in-Some.record in
    let decoded : IsDecoded c.loop-index.rest.now one c.in-Some.after.now = rw c.in-Some.is at c.in_ok-record.ensures.found in
    let more = fields_pushed c.loop-index.records.items c.push.new.self.items c.in-Some.record c.in_ok-push.ensures.items in
    let empty : c.in-Some.after.now ≡ [] = nil_from_length c.in-Some.after.now (eqb-true (length c.in-Some.after.now) 0 (sym c.is_empty.ensures ∙ c.if-is_empty.true)) in
    let whole = record_more c.args.bytes.now c.loop-index.rest.now c.in-Some.after.now read one i.spelled decoded in
    subst (λ (l : List Record). AreRecordsOf c.args.bytes.now l) (sym more) (record {
      some = omega (arith, length-append read (one ∷ []));
      allowed = All-push IsAllowed read one i.allowed decoded.allowed;
      spelled = whole ∙ ap (λ (l : List ℕ). bytes_of_records (read ++ one ∷ []) ++ l) empty ∙ append-nil (bytes_of_records (read ++ one ∷ []));
    })

not_zero : (n : ℕ) → eqb n 0 ≡ false → 0 < n
not_zero zero e = absurd (let no : true ≡ false = e in cc)
not_zero (suc n) e = omega arith

pub loop-index-preserved : goal.loop-index-preserved
loop-index-preserved c =
    let i = c.loop-index.invariant in
    let read : List Record = map record_fields c.loop-index.records.items in
    let one : Record = record_fields c.in-Some.record in
    let decoded : IsDecoded c.loop-index.rest.now one c.in-Some.after.now = rw c.in-Some.is at c.in_ok-record.ensures.found in
    let more = fields_pushed c.loop-index.records.items c.push.new.self.items c.in-Some.record c.in_ok-push.ensures.items in
    let whole = record_more c.args.bytes.now c.loop-index.rest.now c.in-Some.after.now read one i.spelled decoded in
    let shorter = record_takes_bytes c.loop-index.rest.now c.in-Some.after.now one decoded in
    let some : 0 < length c.in-Some.after.now = not_zero (length c.in-Some.after.now) (sym c.is_empty.ensures ∙ c.if-is_empty.false) in
    let count = i.count in
    let room = i.room in
    record {
      spelled = whole ∙ ap (λ (l : List Record). bytes_of_records l ++ c.in-Some.after.now) (sym more);
      allowed = subst (λ (l : List Record). All IsAllowed l) (sym more) (All-push IsAllowed read one i.allowed decoded.allowed);
      count = ap (λ (l : List code.Record). length l) c.in_ok-push.ensures.items ∙ length-append c.loop-index.records.items (c.in-Some.record ∷ []) ∙ omega (arith, count);
      left = λ _. some;
      room = omega (arith, room, shorter);
    }

pub returns-clause-none : goal.returns-clause-none
returns-clause-none c =
    let i = c.loop-index.invariant in
    let read : List Record = map record_fields c.loop-index.records.items in
    let as_many : length read ≡ c.loop-index.index = length-map c.loop-index.records.items record_fields ∙ i.count in
    let room = i.room in
    let ended = c.loop-index-test.false in
    let empty : length c.loop-index.rest.now ≡ 0 = omega (arith, room, ended) in
    no_records c.args.bytes.now c.loop-index.rest.now read i.spelled i.allowed (λ some. i.left (subst (λ (n : ℕ). 0 < n) as_many some))
    (nothing_has_none c.loop-index.rest.now empty)
