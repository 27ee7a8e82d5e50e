use Rattle.std.proofs.Common.{◌∙◌, ◌≡◌, true, false, sym, subst, ap, List, ℕ, map}
use Rattle.base.specs.formats.Chain.{LogBlock}
use Rattle.base.specs.formats.Records.{Record}
use Rattle.records.specs.Records.{record_fields}
use Rattle.records.specs.declared.record.Record as code
use Rattle.intent_log.specs.Chains.{AreOfVersion, AreRecordsOf}
use Rattle.intent_log.proofs.VersionRecords.{none_of_others}
use Rattle.intent_log.proofs.chains.read_short.Goals as goal

pub returns-then-not-are_of_version-clause-none : goal.returns-then-not-are_of_version-clause-none
returns-then-not-are_of_version-clause-none c =
    let used = c.as_slice.ensures.value ∙ ap (λ (b : LogBlock). b.used) c.block.view_is in
    let records : List Record = map record_fields c.in-Some.records.items in
    let are : AreRecordsOf c.args.block.used records = subst (λ (l : List ℕ). AreRecordsOf l records) used (rw c.in-Some.is at c.in_ok-records.ensures.read) in
    none_of_others c.args.version c.args.block.used records are (λ of_version.
    let listed : AreOfVersion c.args.version (map record_fields c.as_slice-2.result.now) = subst (λ (l : List code.Record). AreOfVersion c.args.version (map record_fields l)) (sym c.as_slice-2.ensures.value) of_version in
    let tested : c.are_of_version.result ≡ true = c.are_of_version.ensures.1 listed in
    let refused : c.are_of_version.result ≡ false = c.if-not-are_of_version.true in
    cc)
