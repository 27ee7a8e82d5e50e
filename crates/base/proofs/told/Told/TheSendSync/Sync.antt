use denote.RattleType.{RattleType}
use denote.Param.Send.{IsSync, part_keyless}
use Rattle.base.proofs.told.Told.TheSendSync.Send.{send}
use Rattle.base.specs.contracts.told.Told.{the_row}

-- a `&` to it shows what it owns, which is nothing
pub sync : (V : RattleType) → IsSync (the_row V)
sync V = record { shared = λ d b o κ q. part_keyless (the_row V) (send V) q d b o }
