use denote.RattleType.{RattleType}
use denote.Param.Send.{IsSend}
use Rattle.dr_cells.proofs.Crosses.{Row-send}
use Rattle.dr_cells.specs.contracts.row.Row.{the_row}

pub send : (R : RattleType) → IsSend R → IsSend (the_row R)
send = Row-send
