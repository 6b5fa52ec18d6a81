use Rattle.lx_workers.proofs.Imports.{◌∙◌, sym, arith, accepted_of, leaves_room, most_of, HasAccepted, HasSentOn}
use Rattle.lx_workers.proofs.Runs.{most_for, outcomes_as, sends_since}
use Rattle.lx_workers.proofs.script.answer_script.Goals as goal

pub session_with_in-session-requires-clause-keeps : goal.session_with_in-session-requires-clause-keeps
session_with_in-session-requires-clause-keeps g c = (c.requires.in_step, let same = c.requires.before in omega (arith, same))

pub publish-requires : goal.publish-requires
publish-requires g c = c.session_with_in-session.ensures.keeps.0

pub returns : goal.returns
returns g c =
    let s = c.session_with_in-session in
    let e = s.ensures in
    let first = e.keeps.1 in
    let same = c.requires.before in
    record {
      in_step = c.publish.ensures.in_step;
      same_source = e.same_source;
      later = e.later;
      sends = sends_since _ s.new.listener.writers _ _ (omega (arith, first, same)) c.publish.ensures.sends;
      outcome = λ most known d stands.
          let p = c.args.publisher.now in
          let all = accepted_of s.new.listener.gate s.new.listener.unsent in
          outcomes_as most _ _ (sym c.publish.ensures.same) (λ commands. HasAccepted p.gate p.unsent s.new.listener.gate s.new.listener.unsent commands
          × HasSentOn p.writers p.unsent s.new.listener.writers s.new.listener.unsent commands)
          (HasAccepted p.gate p.unsent c.publish.new.self.gate c.publish.new.self.unsent) (λ commands is. c.publish.ensures.same ∙ is.0)
          _ d _ _ _ _ _ _ _ (e.outcome (most_of most all) (most_for (leaves_room all) most _ _ known) d stands);
      limit = e.limit;
      cause = e.cause;
      handed_on = e.handed_on;
    }
