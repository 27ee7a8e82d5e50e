use Rattle.records.proofs.RecordsRead.{readings_agree}
use Rattle.records.proofs.laws.records_agree.Goals as goal

pub returns : goal.returns
returns c = readings_agree
