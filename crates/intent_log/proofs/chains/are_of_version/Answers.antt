use Rattle.std.proofs.Common.{◌≤◌, sym, subst, ◌∙◌, arith}
use Rattle.base.specs.declared.version.Version.{Version}
use Rattle.base.specs.formats.Versions.{number_of_version}
use Rattle.intent_log.proofs.VersionRecords.{all_tested, tested_all}
use Rattle.intent_log.proofs.chains.are_of_version.Goals as goal

pub returns-in-One : goal.returns-in-One
returns-in-One c =
    let old : number_of_version c.args.version ≤ 1 = subst (λ (v : Version). number_of_version v ≤ 1) (sym c.in-One.is) (omega arith) in (
      λ tested of_version. tested_all c.args.records.now (sym c.are_of_one_level.ensures ∙ tested),
      λ all. c.are_of_one_level.ensures ∙ all_tested c.args.records.now (all old),
    )
