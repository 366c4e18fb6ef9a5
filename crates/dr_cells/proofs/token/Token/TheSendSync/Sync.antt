use denote.RattleType.{RattleType}
use denote.Param.Send.{IsSync}
use Rattle.dr_cells.proofs.Crosses.{Token-sync}
use Rattle.dr_cells.specs.contracts.token.Token.{the_row}

pub sync : (R : RattleType) → IsSync R → IsSync (the_row R)
sync = Token-sync
