use denote.RattleType.{RattleType}
use denote.Param.Send.{IsSend, IsSync}
use Rattle.dr_plain_senders.specs.contracts.sender.Sender.{the_row}
use Rattle.dr_plain_senders.proofs.Crossing.{sender_send}

pub send : (T : RattleType) → IsSend T → IsSync T → IsSend (the_row T)
send = sender_send
