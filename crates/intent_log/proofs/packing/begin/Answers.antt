use Rattle.std.proofs.Common.{◌≡◌, ◌≤◌, ◌∙◌, refl, ap, List, ℕ, length, take, subst, arith}
use Rattle.base.specs.formats.Records.{bytes_of_record}
use Rattle.base.proofs.formats.RecordSizes.{length-bytes_of_record}
use Rattle.records.specs.Records.{record_fields}
use Rattle.intent_log.specs.Packing.{HoldsUsed}
use Rattle.intent_log.proofs.PackedRecords.{holds_used}
use Rattle.intent_log.proofs.packing.begin.Goals as goal

pub split_at-requires : goal.split_at-requires
split_at-requires c =
    let all : c.deref.result.now ≡ bytes_of_record (record_fields c.args.first.now) = c.deref.ensures.value ∙ c.requires.spelled in
    let long = c.requires.long in
    omega (arith, long, ap (λ (l : List ℕ). length l) all, length-bytes_of_record (record_fields c.args.first.now))

pub returns : goal.returns
returns c =
    let all : c.deref.result.now ≡ bytes_of_record (record_fields c.args.first.now) = c.deref.ensures.value ∙ c.requires.spelled in
    let long = c.requires.long in
    let part : c.split_at.result.0.now ≡ take 4008 (bytes_of_record (record_fields c.args.first.now)) = c.split_at.ensures.front ∙ ap (λ (l : List ℕ). take 4008 l) all in
    let cut : length c.split_at.result.0.now ≤ 4008 = omega (arith, c.split_at.ensures.front_len) in
    record {
      long = long;
      begun = record { logged_is = ap record_fields c.tell_record.ensures; bytes_are = c.requires.spelled; written_is = refl };
      holds = subst (λ (l : List ℕ). HoldsUsed c.args.place.now c.seal-block.result l) part
          (holds_used c.args.place.now c.seal-block.result c.split_at.result.0.now cut c.seal-block.ensures);
    }
