use Rattle.lego_msg.proofs.Issuing.{others-send-what-they-owe}
use Rattle.lego_msg.proofs.laws.others_send_what_they_owe.Goals as goal

pub returns : goal.returns
returns c = others-send-what-they-owe
