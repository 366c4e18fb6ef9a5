use denote.RattleType.{RattleType}
use denote.Param.Send.{IsSend, IsSync}
use Rattle.dr_plain_senders.specs.contracts.laws.halter.Halter.{the_row}
use Rattle.dr_plain_senders.proofs.Crossing.{halter_send}

pub send : (T : RattleType) → IsSend T → IsSync T → IsSend (the_row T)
send = halter_send
