use Rattle.zone_laws.proofs.AnswerLaws.{each_answered}
use Rattle.zone_laws.proofs.laws.each_is_answered.Goals as goal

pub returns : goal.returns
returns c = each_answered
