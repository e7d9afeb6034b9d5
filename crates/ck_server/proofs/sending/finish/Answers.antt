use Rattle.std.proofs.Common.{ap}
use Rattle.talk_model.specs.declared.ends.End.TheVariants.{BadHead, HeadTooLong, NoLength, BodyTooLong}
use Rattle.ck_server.specs.Finishing.{end_at}
use Rattle.ck_server.proofs.SendingLemmas.{finishes_refused}
use Rattle.ck_server.proofs.sending.finish.Goals as goal

pub returns-in-BadHead-clause-finishes : goal.returns-in-BadHead-clause-finishes
returns-in-BadHead-clause-finishes g c =
    finishes_refused (g.W.Sink.held c.args.sink.now) (g.W.Sink.held c.refuse.new.sink) c.args.fault BadHead c.refuse.result (ap end_at c.in-BadHead.is) c.refuse.ensures.sends c.refuse.ensures.end

pub returns-in-HeadTooLong-clause-finishes : goal.returns-in-HeadTooLong-clause-finishes
returns-in-HeadTooLong-clause-finishes g c =
    finishes_refused (g.W.Sink.held c.args.sink.now) (g.W.Sink.held c.refuse-in-HeadTooLong.new.sink) c.args.fault HeadTooLong c.refuse-in-HeadTooLong.result (ap end_at c.in-HeadTooLong.is)
    c.refuse-in-HeadTooLong.ensures.sends c.refuse-in-HeadTooLong.ensures.end

pub returns-in-NoLength-clause-finishes : goal.returns-in-NoLength-clause-finishes
returns-in-NoLength-clause-finishes g c =
    finishes_refused (g.W.Sink.held c.args.sink.now) (g.W.Sink.held c.refuse-in-NoLength.new.sink) c.args.fault NoLength c.refuse-in-NoLength.result (ap end_at c.in-NoLength.is)
    c.refuse-in-NoLength.ensures.sends c.refuse-in-NoLength.ensures.end

pub returns-in-BodyTooLong-clause-finishes : goal.returns-in-BodyTooLong-clause-finishes
returns-in-BodyTooLong-clause-finishes g c =
    finishes_refused (g.W.Sink.held c.args.sink.now) (g.W.Sink.held c.refuse-in-BodyTooLong.new.sink) c.args.fault BodyTooLong c.refuse-in-BodyTooLong.result (ap end_at c.in-BodyTooLong.is)
    c.refuse-in-BodyTooLong.ensures.sends c.refuse-in-BodyTooLong.ensures.end
