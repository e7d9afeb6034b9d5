use Rattle.http_front.proofs.LawLemmas.{say_one, cut_one, stay_said, wait_unsaid, nothing-waits, heads_stay, faults_say, fields_fit}
use Rattle.http_front.proofs.laws.bytes_have_one_reading.Goals as goal

pub returns-clause-one : goal.returns-clause-one
returns-clause-one c bytes r s = say_one bytes r s

pub returns-clause-cut : goal.returns-clause-cut
returns-clause-cut c bytes r s x y = cut_one bytes r s x y

pub returns-clause-stays : goal.returns-clause-stays
returns-clause-stays c bytes more r = stay_said bytes more r

pub returns-clause-waits : goal.returns-clause-waits
returns-clause-waits c bytes r = wait_unsaid bytes r

pub returns-clause-nothing : goal.returns-clause-nothing
returns-clause-nothing c = nothing-waits

pub returns-clause-heads : goal.returns-clause-heads
returns-clause-heads c = heads_stay

pub returns-clause-faults : goal.returns-clause-faults
returns-clause-faults c fault left bytes = faults_say fault left bytes

pub returns-clause-fields : goal.returns-clause-fields
returns-clause-fields c bytes head rest = fields_fit bytes head rest
