use denote.RattleType.{RattleType}
use denote.Param.Send.{IsSend, IsSync}
use Rattle.dr_cells.proofs.Crosses.{Token-send}
use Rattle.dr_cells.specs.contracts.token.Token.{the_row}

pub send : (R : RattleType) → IsSend R → IsSync R → IsSend (the_row R)
send = Token-send
