-- A line on a console beside a listener is a line of its session.
use Rattle.lx_session.proofs.Imports.{◌≡◌, Bool, true, false, cond, Option, Some, None, IfSome, Result, List, ◌++◌, length, ℕ, ◌∙◌}
use Rattle.lx_session.proofs.Imports.{ap, sym, refl, subst, arith, nat_lt, nat_tests, fold-append, LINE_BYTES, SinkFault, Command, Line, Kept, Desk}
use Rattle.lx_session.proofs.Imports.{after_command, tokens, Session, is_quit, DeskState, tried, after_meaning, MayFailAt, desk_answering, Tally}
use Rattle.lx_session.proofs.Imports.{after_commands, reply_to, meaning_of, IsLine, ExtendsText, IsLawful, OneAnswer, SparedAnswer, Beginning}
use Rattle.lx_session.proofs.Imports.{HasHeard, ToldBySink, spared}
use Rattle.lx_spec.specs.declared.Line.TheVariants as lines
use Rattle.lx_spec.specs.Script.{line_of, meaning}
use Rattle.lx_session.proofs.RepliedLines.{finished}
use Rattle.lx_session.proofs.Stood.{spares}

-- a line that is too long has no meaning
pub meaning_is : (given : Option (List ℕ)) (text : List ℕ) → IsLine given text → meaning_of given ≡ line_of text
meaning_is (Some line) text is = ap line_of is
meaning_is None text long =
    let e : nat_lt LINE_BYTES (length text) ≡ true = grind (arith, nat_tests) in
    sym (ap (λ b. cond b None (meaning text (tokens text))) e)

-- quit attempts nothing
pub quit_is : (meaning : Option Line) → is_quit meaning ≡ true → meaning ≡ Some lines.Quit
quit_is (Some lines.Quit) q = refl
quit_is other q = cc

-- a line adds its reply to the text
pub extends_line : (failed : Option ℕ) (s : Session DeskState) (meaning : Option Line) → ExtendsText s (after_meaning failed s meaning)
extends_line failed s meaning =
    let t = tried failed s.state meaning in
    record {
      more = reply_to t.state.desk meaning t.refusal;
      text = (finished (record s { state = t.state }) meaning t.state.desk t.refusal).text;
    }

pub desk_lawful : (all : Bool) → IsLawful (desk_answering all)
desk_lawful all = record {
  extends = λ failed s line. extends_line failed s (line_of line);
  ends = λ failed s line q. ap (after_meaning failed s) (quit_is (line_of line) q);
}

-- the desk after all commands that were accepted, and after more
more_accepted : (d now next : Desk) (done more done' : List Command) → now ≡ after_commands d done → next ≡ after_commands now more
    → done' ≡ done ++ more → next ≡ after_commands d done'
more_accepted d now next done more done' is then all = then ∙ ap (λ e. after_commands e more) is
    ∙ sym (fold-append after_command d done more) ∙ ap (after_commands d) (sym all)

-- an attempt may fail too where fewer are admitted
may_fail : (all_here all : Bool) → (all ≡ true → all_here ≡ true) → (d : Desk) (meaning : Option Line) (failed : Option ℕ)
    → IfSome failed (λ attempt. MayFailAt all_here d meaning) → IfSome failed (λ attempt. MayFailAt all d meaning)
may_fail all_here all so_far d meaning None may = tt
may_fail all_here false so_far d meaning (Some k) may = tt
may_fail true true so_far d meaning (Some k) may = may
may_fail false true so_far d meaning (Some k) may = let no : false ≡ true = so_far refl in absurd cc

-- a line that was answered on the console was answered for the state
pub answered_heard : {K T L Ample : Type 0} {all_here all ample : Bool} {told : ToldBySink K} {sink sink' : K} {result : Result T SinkFault}
    {s : Session DeskState} {text : List ℕ} {before console : Kept} {tally : Tally} (heard : L → L → List Command → Type 0)
    (since : Beginning L) (first now : L) → (all ≡ true → all_here ≡ true) → (ample ≡ true → Ample)
    → ((last : L) (done more : List Command) → heard last first done → heard first now more → heard last now (done ++ more))
    → HasHeard heard since s.state first before
    → SparedAnswer Ample all_here (heard first now) told sink sink' result s (line_of text) console tally
    → OneAnswer (spared ample (desk_answering all)) told sink sink' result s text (λ state. HasHeard heard since state now console) tally
answered_heard {all_here} {all} {ample} {s} {text} heard since first now so_far is_ample both h spared_a =
    let a = spared_a.answer in record {
      next = a.next;
      failed = a.failed;
      goes_on = record {
        is = a.goes_on.is;
        allowed = spares ample a.failed _ (λ is. spared_a.none (is_ample is))
            (may_fail all_here all so_far s.state.desk (line_of text) a.failed a.goes_on.allowed);
      };
      stands = record {
        stands = a.stands;
        desk = more_accepted since.desk s.state.desk a.next.state.desk s.state.accepted a.goes_on.commands a.next.state.accepted h.desk
            a.goes_on.desk a.goes_on.accepted;
        listened = subst (heard since.listener now) (sym a.goes_on.accepted)
            (both since.listener s.state.accepted a.goes_on.commands h.listened a.goes_on.listened);
      };
      reply = a.reply;
      text = a.text;
      puts = a.puts;
      counts = a.counts;
    }
