-- What an operator has sent of its lines.
use Rattle.lx_crew.proofs.Imports.{◌≡◌, ◌≢◌, inl, inr, ℕ, suc, ◌+◌, ◌≤◌, Bool, true, false, cond, Option, Some, None, IfSome}
use Rattle.lx_crew.proofs.Imports.{IsTrue, List, [], ◌∷◌, ◌++◌, map, length, take, take_all, refl, sym, ap, ◌∙◌, subst, append-nil, arith}
use Rattle.lx_crew.proofs.Imports.{take-append_seam, take-append-add, map-append, length-map, Rose, handed_none, handed_then, ends_script}
use Rattle.lx_crew.proofs.Imports.{lines_wanted, is_quit, meaning_is, Message, Sent, Line, LongLine, End, ReadFault, InputTooLong, OperatorFault}
use Rattle.lx_crew.proofs.Imports.{View, HasText, HaveLines, text_in, operator_view, AreLines, ScriptHasEnded, TookNext, follows, last_entry, HasSentLines}
use Rattle.lx_crew.proofs.Imports.{ToldBySource}
use Rattle.lx_lex.specs.declared.lines.Lines.{Lines}
use Rattle.lx_lex.specs.CutOff.{NotTaken}
use Rattle.lx_lex.specs.Unread.{unread}
use Rattle.lx_lex.proofs.CuttingOff.{cut_off}
use Rattle.lx_lex.proofs.TakenLines.{all_texts}
use Rattle.lx_spec.specs.Text.{without_cr, lines_of}
use Rattle.lx_spec.specs.CutInput.{CutOff}
use Rattle.lx_session.specs.LineOutcome.{PassedLine, QuitLine}
use Rattle.lx_session.proofs.SoFar.{GoOn, Passed, begins, begins_more, ends_after, ends_here, fits, too_long, with_both}
use Rattle.lx_spec.proofs.Lists.{all_append}
use Rattle.lx_crew.specs.Scripts.{CutLines}
use Rattle.lx_crew.specs.declared.entry.LineText.{LineText}
use Rattle.lx_crew.specs.declared.fault.OperatorFault.TheVariants as ends
use Rattle.lx_crew.specs.declared.follows.Follows.{Follows}
use Rattle.lx_crew.specs.declared.follows.Follows.TheVariants as after

-- an entry that has a line, and the line doesn't end the script
pub record SentLine {S : Type 0} (told : ToldBySource S) (b c : Lines S) (sent : Sent) : Type 0 where
  pub line : PassedLine told b c
  pub text : HasText sent (without_cr line.raw)

pub record SentQuit {S : Type 0} (told : ToldBySource S) (b c : Lines S) (sent : Sent) : Type 0 where
  pub line : QuitLine told b c
  pub text : HasText sent (without_cr line.raw)

-- what was taken, by what follows it: a line that goes on, `quit`, or how the lines ended
abbrev pub TookBefore : {S : Type 0} → ToldBySource S → (b c : Lines S) → Sent → Follows → Type 0
TookBefore told b c sent after.Lines = SentLine told b c sent
TookBefore told b c sent after.End = SentQuit told b c sent
TookBefore told b c sent (after.Nothing fault) = (sent ≡ last_entry fault) × TookNext told b c (last_entry fault)

line_took : {S : Type 0} (told : ToldBySource S) (b c : Lines S) (l : LineText) → TookNext told b c (Line l) → (quits : Bool)
    → ends_script (text_in l) ≡ quits → TookBefore told b c (Line l) (cond quits after.End after.Lines)
line_took told b c l t true is =
    record { line = record { raw = t.raw; handed = t.handed; quits = ap ends_script (sym t.text) ∙ is }; text = t.text }
line_took told b c l t false is =
    record { line = record { raw = t.raw; handed = t.handed; more = ap ends_script (sym t.text) ∙ is }; text = t.text }

took : {S : Type 0} (told : ToldBySource S) (b c : Lines S) (sent : Sent) → TookNext told b c sent → TookBefore told b c sent (follows sent)
took told b c (Line l) t = line_took told b c l t (ends_script (text_in l)) refl
took told b c LongLine t = record {
  line = record { raw = t.raw; handed = t.handed; more = ap is_quit (sym (meaning_is None (without_cr t.raw) t.text)) };
  text = t.text;
}
took told b c End t = (refl, t)
took told b c ReadFault t = (refl, t)
took told b c InputTooLong t = (refl, t)

pub took_before : {S : Type 0} (told : ToldBySource S) (b c : Lines S) (sent : Sent) (next : Follows) → TookNext told b c sent
    → follows sent ≡ next → TookBefore told b c sent next
took_before told b c sent next t is = subst (λ (f : Follows). TookBefore told b c sent f) is (took told b c sent t)

-- Entries and their lines.
have_length : (place n : ℕ) (es : List Message) (ls : List (List ℕ)) → HaveLines place n es ls → length es ≡ length ls
have_length place n [] [] h = refl
have_length place n [] (l ∷ ls) h = absurd h
have_length place n (e ∷ es) [] h = absurd h
have_length place n (e ∷ es) (l ∷ ls) h = ap suc (have_length place (n + 1) es ls h.1.1.1)

have_more : (place n : ℕ) (es : List Message) (ls : List (List ℕ)) (e : Message) (l : List ℕ) → HaveLines place n es ls → e.place ≡ place
    → e.number ≡ n + length es → HasText e.sent l → HaveLines place n (es ++ e ∷ []) (ls ++ l ∷ [])
have_more place n [] [] e l h own is text = (own, (omega (arith, is), (text, tt)))
have_more place n [] (k ∷ ls) e l h own is text = absurd h
have_more place n (x ∷ es) [] e l h own is text = absurd h
have_more place n (x ∷ es) (k ∷ ls) e l h own is text =
    (h.0, (h.1.0, (h.1.1.0, have_more place (n + 1) es ls e l h.1.1.1 own (omega (arith, is)) text)))

-- This many lines were handed out from a to b and sent.
pub record SentSoFar {S : Type 0} (told : ToldBySource S) (place : ℕ) (a b : Lines S) (v : View) : Type 0 where
  pub passed : Passed told a b
  pub entries : List Message
  pub view : v ≡ operator_view place entries
  pub have : HaveLines place 1 entries (map without_cr passed.raws)

pub sent_none : {S : Type 0} (told : ToldBySource S) (place : ℕ) (a : Lines S) (v : View) → IsTrue a.going
    → v ≡ operator_view place [] → SentSoFar told place a a v
sent_none told place a v going is = record {
  passed = record { raws = []; handed = handed_none told a going; go_on = tt };
  entries = [];
  view = is;
  have = tt;
}

-- the next entry's number
pub next_number : {S : Type 0} (told : ToldBySource S) (place : ℕ) (a b : Lines S) (v : View)
    → (s : SentSoFar told place a b v) → a.number ≡ 0 → b.number ≡ length v.pushed
next_number told place a b v s none =
    let lines = have_length place 1 s.entries (map without_cr s.passed.raws) s.have in
    let pushed : length v.pushed ≡ length s.entries = ap (λ (w : View). length w.pushed) s.view in
    omega (arith, lines, length-map s.passed.raws without_cr, s.passed.handed.number, none, pushed)

-- one more line, with its entry
line_more : {S : Type 0} (told : ToldBySource S) (place : ℕ) (a b : Lines S) (v : View) (e : Message) (l : List ℕ)
    → (s : SentSoFar told place a b v) → e.place ≡ place → e.number ≡ length v.pushed + 1 → HasText e.sent l
    → HaveLines place 1 (s.entries ++ e ∷ []) (map without_cr s.passed.raws ++ l ∷ [])
line_more told place a b v e l s own is text =
    let pushed : length v.pushed ≡ length s.entries = ap (λ (u : View). length u.pushed) s.view in
    have_more place 1 s.entries (map without_cr s.passed.raws) e l s.have own (omega (arith, is, pushed)) text

pub sent_more : {S : Type 0} (told : ToldBySource S) (place : ℕ) (a b c : Lines S) (v w : View) (e : Message)
    → SentSoFar told place a b v → SentLine told b c e.sent → e.place ≡ place → e.number ≡ length v.pushed + 1
    → w ≡ record v { pushed = v.pushed ++ e ∷ [] } → SentSoFar told place a c w
sent_more told place a b c v w e s t own is more =
    let raws = s.passed.raws in
    let raw = t.line.raw in
    let texts = sym (map-append without_cr raws (raw ∷ [])) in
    record {
      passed = record {
        raws = raws ++ raw ∷ [];
        handed = handed_then told a b c raws (raw ∷ []) s.passed.handed t.line.handed;
        go_on = subst GoOn texts
            (all_append (λ l. ends_script l ≡ false) (map without_cr raws) (without_cr raw ∷ []) s.passed.go_on (t.line.more, tt));
      };
      entries = s.entries ++ e ∷ [];
      view = rw s.view at more;
      have = subst (HaveLines place 1 (s.entries ++ e ∷ [])) texts (line_more told place a b v e (without_cr raw) s own is t.text);
    }

-- The lines that are wanted.
wanted_all : (xs : List (List ℕ)) → GoOn xs → xs ≡ take (lines_wanted xs) xs
wanted_all xs all =
    let wanted : lines_wanted xs ≡ length xs + 1 =
    ap lines_wanted (sym (append-nil xs)) ∙ (let e = ends_after xs [] all in omega (arith, e)) in
    sym (take_all (lines_wanted xs) xs (omega (arith, wanted)))

wanted_quit : (xs : List (List ℕ)) (l : List ℕ) (rest : List (List ℕ)) → GoOn xs → ends_script l ≡ true
    → xs ++ l ∷ [] ≡ take (lines_wanted (xs ++ l ∷ rest)) (xs ++ l ∷ rest)
wanted_quit xs l rest all quit =
    let wanted : lines_wanted (xs ++ l ∷ rest) ≡ length xs + 1 = omega (arith, ends_after xs (l ∷ rest) all, ends_here l rest quit) in
    sym (ap (λ k. take k (xs ++ l ∷ rest)) wanted ∙ take-append-add xs (l ∷ rest) 1)

-- How an operator ended, where its lines began with its source as it was.
pub record Began {S : Type 0} (told : ToldBySource S) (source : S) (a : Lines S) : Type 0 where
  pub unread : unread told a ≡ told.left source
  pub taken : a.taken ≡ 0
  pub now : a.source.now ≡ source

last_failed : {S : Type 0} (told : ToldBySource S) (b c : Lines S) (fault : Option OperatorFault) → TookNext told b c (last_entry fault)
    → fault ≡ Some ends.ReadFault → Rose (told.faults b.source.now) (told.faults c.source.now)
last_failed told b c None t e = cc
last_failed told b c (Some ends.ReadFault) t e = t.1
last_failed told b c (Some ends.InputTooLong) t e = cc

last_kept : {S : Type 0} (told : ToldBySource S) (b c : Lines S) (fault : Option OperatorFault) → TookNext told b c (last_entry fault)
    → fault ≢ Some ends.ReadFault → told.faults c.source.now ≡ told.faults b.source.now
last_kept told b c None t other = t.1
last_kept told b c (Some ends.ReadFault) t other = absurd (other refl)
last_kept told b c (Some ends.InputTooLong) t other = t.2

module _ {S : Type 0} (told : ToldBySource S) (source : S) (a b c : Lines S) (began : Began told source a) (s : Passed told a b) where
  quit_are : (q : QuitLine told b c)
      → IfSome (unread told a) (λ bytes. AreLines None bytes (told.left c.source.now) (map without_cr s.raws ++ without_cr q.raw ∷ []))
  quit_are q = with_both (unread told a) _ _ _ (begins_more s.raws q.raw (handed_then told a b c s.raws (q.raw ∷ []) s.handed q.handed).took)
      (fits told a b c s (inr q)) (λ xs e within. record {
        are = wanted_quit (map without_cr s.raws) (without_cr q.raw) e.0 s.go_on q.quits ∙ ap (λ ls. take (lines_wanted ls) ls) (sym e.1);
        within = omega (arith, within, began.taken);
      })

  cut_are : NotTaken told b c → IfSome (unread told a) (λ bytes. CutLines bytes (told.left c.source.now) (map without_cr s.raws))
  cut_are n =
      let lines = map without_cr s.raws in
      with_both (unread told a) _ _ _ (begins s.handed.took)
      (subst (λ k. IfSome (unread told a) (λ xs. (cut : CutOff k xs (told.left c.source.now)) × (cut.lines ≡ length s.raws))) began.taken
      (cut_off told a b c s.raws s.handed.took n)) (λ xs is cut. record {
        cut = cut.0;
        short = (let at = ap lines_wanted is.1 in omega (arith, at, ends_after lines is.0 s.go_on, cut.1, length-map s.raws without_cr));
        are = sym (ap (λ k. take k (lines_of xs)) (cut.1 ∙ sym (length-map s.raws without_cr))
            ∙ ap (take (length lines)) is.1 ∙ take-append_seam lines is.0);
        go_on = s.go_on;
      })

  last_are : (fault : Option OperatorFault) → TookNext told b c (last_entry fault)
      → IfSome (unread told a) (λ bytes. AreLines fault bytes (told.left c.source.now) (map without_cr s.raws))
  last_are None t =
      with_both (unread told a) _ _ _ (all_texts (unread told a) (unread told b) a.taken b.taken s.raws s.handed.took t.0)
      (fits told a b c s (inl t.0)) (λ xs is within. record {
        are = wanted_all (map without_cr s.raws) s.go_on ∙ ap (λ ls. take (lines_wanted ls) ls) (sym is);
        within = omega (arith, within, began.taken);
      })
  last_are (Some ends.ReadFault) t = cut_are t.0
  last_are (Some ends.InputTooLong) t =
      with_both (unread told a) _ _ _ (cut_are t.0) (too_long told a b c s t.1) (λ xs cut long. (cut, omega (arith, long, began.taken)))

  has_ended : (fault : Option OperatorFault) (lines : List (List ℕ))
      → IfSome (unread told a) (λ bytes. AreLines fault bytes (told.left c.source.now) lines)
      → told.faults b.source.now ≤ told.faults c.source.now
      → (fault ≡ Some ends.ReadFault → Rose (told.faults b.source.now) (told.faults c.source.now))
      → (fault ≢ Some ends.ReadFault → told.faults c.source.now ≡ told.faults b.source.now)
      → ScriptHasEnded told source c.source.now fault lines
  has_ended fault lines are later failed kept =
      let same : told.faults b.source.now ≡ told.faults source = s.handed.kept ∙ ap told.faults began.now in
      record {
        are = subst (λ o. IfSome o (λ bytes. AreLines fault bytes (told.left c.source.now) lines)) began.unread are;
        later = omega (arith, same, later);
        failed = λ e. let rose = failed e in omega (arith, same, rose);
        kept = λ other. kept other ∙ same;
      }

-- All was sent: the last entry says how the lines ended, or that the one before was `quit`.
pub sent_all : {S : Type 0} (told : ToldBySource S) (place : ℕ) (source : S) (a b c : Lines S) (v w : View)
    (e : Message) (fault : Option OperatorFault) → Began told source a → (s : SentSoFar told place a b v)
    → told.faults b.source.now ≤ told.faults c.source.now → TookBefore told b c e.sent (after.Nothing fault) → e.place ≡ place
    → w ≡ record v { pushed = v.pushed ++ e ∷ [] } → HasSentLines told place source c.source.now w fault
sent_all told place source a b c v w e fault began s later t own more = record {
  lines = map without_cr s.passed.raws;
  entries = s.entries;
  last = e;
  view = rw s.view at more;
  have = s.have;
  own = own;
  ends = t.0;
  ended = has_ended told source a b c began s.passed fault (map without_cr s.passed.raws)
      (last_are told source a b c began s.passed fault t.1) later (last_failed told b c fault t.1) (last_kept told b c fault t.1);
}

pub sent_to_quit : {S : Type 0} (told : ToldBySource S) (place : ℕ) (source : S) (a b c : Lines S) (v w x : View)
    (e last : Message) → Began told source a → SentSoFar told place a b v → SentQuit told b c e.sent → e.place ≡ place
    → e.number ≡ length v.pushed + 1 → w ≡ record v { pushed = v.pushed ++ e ∷ [] } → last.sent ≡ End → last.place ≡ place
    → x ≡ record w { pushed = w.pushed ++ last ∷ [] } → HasSentLines told place source c.source.now x None
sent_to_quit told place source a b c v w x e last began s q own is more end own' more' =
    let line = without_cr q.line.raw in
    record {
      lines = map without_cr s.passed.raws ++ line ∷ [];
      entries = s.entries ++ e ∷ [];
      last = last;
      view = rw (rw s.view at more) at more';
      have = line_more told place a b v e line s own is q.text;
      own = own';
      ends = end;
      ended = has_ended told source a b c began s.passed None (map without_cr s.passed.raws ++ line ∷ [])
          (quit_are told source a b c began s.passed q.line) (let same = q.line.handed.kept in omega (arith, same)) (λ e. cc)
          (λ other. q.line.handed.kept);
    }
