use Rattle.std.proofs.Common.{◌≡◌, ◌<◌, ◌++◌, List, ℕ, length, take, map, sym, ap, subst, ◌∙◌, arith}
use Rattle.std.proofs.lemmas.List.{length-map}
use Rattle.std.proofs.lemmas.Result.{err_from_is_err_and}
use Rattle.base.specs.formats.Records.{Record, IsAllowed, bytes_of_record, bytes_of_records}
use Rattle.std.proofs.lemmas.List.Elements.{All-get_or}
use Rattle.records.specs.Records.{record_fields}
use Rattle.intent_log.specs.Packing.{IsEncodedFront}
use Rattle.intent_log.proofs.PackedRecords.{bytes_next, cut_back, front_all, front_at, front_long, passes, record_at}
use Rattle.intent_log.proofs.packing.encode_front.Goals as goal

pub loop-index-preserved : goal.loop-index-preserved
loop-index-preserved c =
    let i = c.loop-index.invariant in
    let all : List Record = map record_fields c.args.pending.now in
    let one : Record = record_fields c.index-pending-index.result in
    let at = record_at c.args.pending.now c.loop-index.index c.index-pending-index.result c.index-pending-index.is in
    let within : c.loop-index.index < length all = subst (λ (n : ℕ). c.loop-index.index < n) (sym (length-map c.args.pending.now record_fields)) c.loop-index-test.true in
    let next = bytes_next all c.loop-index.index one within at in
    record {
      spelled = c.in_ok-encode_into.ensures.bytes ∙ ap (λ (l : List ℕ). l ++ bytes_of_record one) i.spelled ∙ sym next;
      fits = omega (arith, c.len-total.ensures, c.if-total-gt-LOG_BLOCK_ROOM.false);
    }

pub returns-in_err-encode_into-clause-refused : goal.returns-in_err-encode_into-clause-refused
returns-in_err-encode_into-clause-refused c =
    let p = err_from_is_err_and c.from_residual-in_err-encode_into.result c.from_residual-in_err-encode_into.ensures.1 in
    let all : List Record = map record_fields c.args.pending.now in
    let one : Record = record_fields c.index-pending-index.result in
    let at = record_at c.args.pending.now c.loop-index.index c.index-pending-index.result c.index-pending-index.is in
    let within : c.loop-index.index < length all = subst (λ (n : ℕ). c.loop-index.index < n) (sym (length-map c.args.pending.now record_fields)) c.loop-index-test.true in
    let allowed : IsAllowed one = subst IsAllowed at (All-get_or IsAllowed all c.loop-index.index one within c.requires.allowed) in
    rw (p.1, p.2) (rw (passes one allowed) at c.in_err-encode_into.ensures.refused)

pub returns-then-index-eq0-clause-front : goal.returns-then-index-eq0-clause-front
returns-then-index-eq0-clause-front c =
    let i = c.loop-index.invariant in
    let all : List Record = map record_fields c.args.pending.now in
    let one : Record = record_fields c.index-pending-index.result in
    let at = record_at c.args.pending.now c.loop-index.index c.index-pending-index.result c.index-pending-index.is in
    let within : c.loop-index.index < length all = subst (λ (n : ℕ). c.loop-index.index < n) (sym (length-map c.args.pending.now record_fields)) c.loop-index-test.true in
    let old : List ℕ = c.loop-index.bytes.items in
    let added = c.in_ok-encode_into.ensures.bytes in
    let long : 4008 < length c.encode_into.new.out.items = omega (arith, c.len-total.ensures, c.if-total-gt-LOG_BLOCK_ROOM.true) in
    front_long all c.loop-index.index one old c.encode_into.new.out.items c.if-index-eq0.true within at i.spelled added long

pub returns-then-total-gt-LOG_BLOCK_ROOM-clause-front : goal.returns-then-total-gt-LOG_BLOCK_ROOM-clause-front
returns-then-total-gt-LOG_BLOCK_ROOM-clause-front c =
    let i = c.loop-index.invariant in
    let all : List Record = map record_fields c.args.pending.now in
    let one : Record = record_fields c.index-pending-index.result in
    let at = record_at c.args.pending.now c.loop-index.index c.index-pending-index.result c.index-pending-index.is in
    let within : c.loop-index.index < length all = subst (λ (n : ℕ). c.loop-index.index < n) (sym (length-map c.args.pending.now record_fields)) c.loop-index-test.true in
    let old : List ℕ = c.loop-index.bytes.items in
    let added = c.in_ok-encode_into.ensures.bytes in
    let long : 4008 < length c.encode_into.new.out.items = omega (arith, c.len-total.ensures, c.if-total-gt-LOG_BLOCK_ROOM.true) in
    let before : c.len-before.result ≡ length c.loop-index.bytes.items = omega (arith, c.len-before.ensures) in
    let same = cut_back old c.encode_into.new.out.items c.truncate.new.self.items (bytes_of_record one) c.len-before.result before added c.truncate.ensures.items in
    let over : 4008 < length (old ++ bytes_of_record one) = subst (λ (l : List ℕ). 4008 < length l) added long in
    subst (λ (l : List ℕ). IsEncodedFront all c.loop-index.index l) (sym same)
    (front_at all c.loop-index.index one old (omega (arith, c.if-index-eq0.false)) within at i.spelled i.fits over)

pub returns-clause-front : goal.returns-clause-front
returns-clause-front c =
    let i = c.loop-index.invariant in
    let all : List Record = map record_fields c.args.pending.now in
    let as_many : length all ≡ length c.args.pending.now = length-map c.args.pending.now record_fields in
    let e : c.loop-index.index ≡ length c.args.pending.now = omega (arith, c.loop-index.auto.index-end, c.loop-index-test.false) in
    let spelled : c.loop-index.bytes.items ≡ bytes_of_records (take (length c.args.pending.now) all) = i.spelled ∙ ap (λ (n : ℕ). bytes_of_records (take n all)) e in
    let some = c.requires.some in
    front_all all c.loop-index.bytes.items (length c.args.pending.now) (sym as_many) (subst (λ (n : ℕ). 0 < n) (sym as_many) some) spelled i.fits
