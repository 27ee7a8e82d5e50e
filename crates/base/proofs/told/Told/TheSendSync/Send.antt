use denote.RattleType.{RattleType}
use denote.Param.Send.{IsSend}
use Rattle.base.specs.contracts.told.Told.{the_row}

-- it has no bytes and owns nothing
pub send : (V : RattleType) → IsSend (the_row V)
send V = record { owned = λ d vs. ((λ vss. (tt, ((λ uss. (tt, tt)), tt))), tt); leaving = λ k f vs. tt }
