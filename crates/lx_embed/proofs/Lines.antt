-- A line that was answered, as a host's desk keeps it.
use Rattle.lx_embed.proofs.Imports.{refl, ◌≡◌, ℕ, Bool, true, not, Some, Result, Ok, Err, List, [], ◌++◌, ◌∙◌, ap, sym, subst, IfOk, arith}
use Rattle.lx_embed.proofs.Imports.{OnOk, OnErr, Kept, Desk, Answering, begin_at, ends_script, begun, desk_answering, StandsFor}
use Rattle.std.specs.Io.{StartsWith}
use Rattle.lx_io.specs.declared.sink.SinkFault.{SinkFault}
use Rattle.lx_io.specs.declared.sink.SinkFault.TheVariants as faults
use Rattle.lx_io.specs.Causes.{Rose}
use Rattle.lx_io.specs.Puts.{HasSinkCause}
use Rattle.lx_io.specs.Told.{ToldBySink}
use Rattle.lx_spec.specs.declared.Command.{Command}
use Rattle.lx_spec.specs.Script.{line_of}
use Rattle.lx_session.specs.declared.tally.Tally.{Tally}
use Rattle.lx_session.proofs.Stood.{spares}
use Rattle.lx_session.specs.LineAnswer.{SparedAnswer}
use Rattle.lx_session.specs.OneAnswer.{OneAnswer, GoesOnUnless}
use Rattle.lx_session.specs.Spared.{spared}
use Rattle.lx_embed.specs.declared.reply.ReplyText.{ReplyText}
use Rattle.lx_embed.specs.Answered.{AnswersLine}
use Rattle.lx_embed.specs.ReplyBytes.{reply_bytes, wants_of}

on_ok : {A E P Q : Type 0} (r : Result A E) → OnOk r P → (P → Q) → OnOk r Q
on_ok (Ok x) p f = f p
on_ok (Err e) p f = tt

on_err : {A E P Q : Type 0} (r : Result A E) → OnErr r P → (P → Q) → OnErr r Q
on_err (Ok x) p f = tt
on_err (Err e) p f = f p

-- what a reply tells
abbrev pub told_by_reply : ToldBySink ReplyText
told_by_reply = record { holds = λ s. Some (reply_bytes s); back = λ _. []; faults = λ _. 0; wants = wants_of }

-- a line that was answered from the empty reply on
pub line_answered : (by : Answering (List ℕ)) (Stands : by.State → Type 0) (state : by.State) (line : List ℕ)
    (sink sink' : ReplyText) (result : Result Bool SinkFault) (tally : Tally) → reply_bytes sink ≡ []
    → OneAnswer by told_by_reply sink sink' result (begin_at state) line Stands tally
    → GoesOnUnless (ends_script line) result → AnswersLine by Stands state line result (reply_bytes sink')
line_answered by Stands state line sink sink' result tally empty told more =
    let whole : reply_bytes sink ++ told.reply ≡ told.next.text = ap (λ (xs : List ℕ). xs ++ told.reply) empty ∙ sym told.text in
    record {
      next = told.next;
      failed = told.failed;
      goes_on = told.goes_on;
      stands = told.stands;
      text = on_ok result told.puts.whole (λ appended. appended ∙ whole);
      front = on_err result told.puts.part (λ part. subst (λ (xs : List ℕ). StartsWith xs (reply_bytes sink')) whole part.1);
      more = more;
    }

-- a line that was answered on a plain desk's console
pub plain_answered : (Ample : Type 0) (ample : Bool) → (ample ≡ true → Ample) → (d : Desk) (line : List ℕ) (heard : List Command → Type 0)
    (sink sink' : ReplyText) (result : Result Bool SinkFault) (console : Kept) (tally : Tally)
    → SparedAnswer Ample true heard told_by_reply sink sink' result (begin_at (begun d)) (line_of line) console tally
    → OneAnswer (spared ample (desk_answering true)) told_by_reply sink sink' result (begin_at (begun d)) line
    (λ next. StandsFor next.desk console) tally
plain_answered Ample ample is_ample d line heard sink sink' result console tally spared_a =
    let a = spared_a.answer in
    record {
      next = a.next;
      failed = a.failed;
      goes_on = record {
        is = a.goes_on.is;
        allowed = spares ample a.failed _ (λ is. spared_a.none (is_ample is)) a.goes_on.allowed;
      };
      stands = a.stands;
      reply = a.reply;
      text = a.text;
      puts = a.puts;
      counts = a.counts;
    }

-- a fault of the reply comes only where its heap refused
pub wanted : {T : Type 0} (sink sink' : ReplyText) (result : Result T SinkFault) → HasSinkCause told_by_reply sink sink' result
    → OnErr result (Rose (wants_of sink) (wants_of sink'))
wanted sink sink' (Ok x) cause = tt
wanted sink sink' (Err faults.Failed) cause = let rose = cause.failed refl in absurd (omega (arith, rose))
wanted sink sink' (Err faults.Memory) cause = cause.memory refl
