-- How a session ends.
use Rattle.lx_session.proofs.Imports.{◌≡◌, ◌⊎◌, inl, inr, ℕ, true, Result, Ok, Err, Option, Some, None, IfSome, List, []}
use Rattle.lx_session.proofs.Imports.{◌∷◌, ◌++◌, map, length, take, drop, take-append-drop, take_all, sym, ap, ◌∙◌, subst, append-nil}
use Rattle.lx_session.proofs.Imports.{length-append, arith, position_or_len, before_first, Appends, IsAtEnd}
use Rattle.lx_session.proofs.Imports.{Appends-kept, map-append, length-map, AppendsFront, Lines, unread, NotTaken}
use Rattle.lx_session.proofs.Imports.{LinesBetween, handed_then, all_texts, without_cr, lines_of, first_lines, Session, Answering, begin_at, after_each}
use Rattle.lx_session.proofs.Imports.{ends_script, answered_lines, whole_session, session_after, Allows, Tally, Known, QuitLine, HalfAnsweredLine}
use Rattle.lx_session.proofs.Imports.{Untouched, ScriptEnd, SinkStop, LineOutcome, counts_in, IsLawful, AnsweredWhole, AnsweredPrefix, AnsweredTaken}
use Rattle.lx_session.proofs.Imports.{ScriptAnswered, KeepsLimit, SessionFault, ToldBySource, AppendsAtLeast, ◌-◌, ◌≤◌, Bool, failed_count, IsAtMost, is_some, refl, spared}
use Rattle.std.proofs.Math.Seq.{take-append-add, take-append-le}
use Rattle.std.proofs.lemmas.List.{take_at}
use Rattle.lx_lex.proofs.CuttingOff.{cut_off}
use Rattle.lx_session.specs.declared.fault.SessionFault.TheVariants.{ReadFault, WriteFault, InputTooLong, Memory}
use Rattle.lx_session.proofs.EachLine.{more_text, allowed_further}
use Rattle.std.proofs.lemmas.Option.{IfSome_then}
use Rattle.lx_session.proofs.Fronts.{front_of, front_whole, front_more, front_then, at_least_then}
use Rattle.lx_session.proofs.Refusals.{none_spared}
use Rattle.lx_lex.proofs.Feeds.{count_by-append}
use Rattle.lx_session.proofs.SoFar.{GoOn, Done, SoFar, PaysMore, Passed, before_last, done_more, with_both}
use Rattle.lx_session.proofs.SoFar.{begins, begins_more, ends_after, ends_here, too_long}

-- what the lines before the end are
before_end : (xs : List (List ℕ)) (more : List (List ℕ)) → GoOn xs
    → before_first ends_script (xs ++ more) ≡ xs ++ before_first ends_script more
before_end xs more all =
    ap (λ n. take n (xs ++ more)) (ends_after xs more all) ∙ take-append-add xs more (position_or_len ends_script more)

before_all : (xs : List (List ℕ)) → GoOn xs → before_first ends_script xs ≡ xs
before_all xs all = ap (before_first ends_script) (sym (append-nil xs)) ∙ before_end xs [] all ∙ append-nil xs

before_quit : (xs : List (List ℕ)) (l : List ℕ) (more : List (List ℕ)) → GoOn xs → ends_script l ≡ true
    → before_first ends_script (xs ++ l ∷ more) ≡ xs
before_quit xs l more all e = before_end xs (l ∷ more) all ∙ ap (λ n. xs ++ take n (l ∷ more)) (ends_here l more e) ∙ append-nil xs

take_raws : (raws rest : List (List ℕ)) → take (length raws) (map without_cr raws ++ rest) ≡ map without_cr raws
take_raws raws rest = take_at (map without_cr raws) rest (length raws) (length-map raws without_cr)

-- the bytes that were taken are those of the lines
handed_all : {a c : Option (List ℕ)} {i k : ℕ} {raws : List (List ℕ)} → LinesBetween a c i k raws
    → IfSome a (λ xs. IfSome c (λ zs. xs ≡ first_lines (length raws) xs ++ zs))
handed_all {a = None} p = tt
handed_all {a = Some x} {c = None} p = absurd p.took
handed_all {a = Some x} {c = Some z} p = p.took ∙ ap (λ v. v ++ z) p.front

handed_still : {a b : Option (List ℕ)} {i j : ℕ} {raws : List (List ℕ)} (c : Option (List ℕ)) → LinesBetween a b i j raws
    → IfSome b (λ xs. IfSome c (λ ys. xs ≡ ys)) → IfSome a (λ xs. IfSome c (λ zs. xs ≡ first_lines (length raws) xs ++ zs))
handed_still {a = None} c p same = tt
handed_still {a = Some x} {b = None} c p same = absurd p.took
handed_still {a = Some x} {b = Some y} None p same = tt
handed_still {a = Some x} {b = Some y} {raws = raws} (Some z) p same = p.took ∙ ap (λ v. v ++ y) p.front
    ∙ ap (λ v. first_lines (length raws) x ++ v) same

-- the text of all lines but the last, where other lines stand behind them
but_last : (by : Answering (List ℕ)) (state : by.State) (raws rest : List (List ℕ)) (failures : List (Option ℕ)) (h h' : Known)
    → AppendsAtLeast h h' (after_each by failures (begin_at state) (take (length (map without_cr raws) - 1) (map without_cr raws))).text
    → AppendsAtLeast h h' (after_each by failures (begin_at state) (take (length raws - 1) (map without_cr raws ++ rest))).text
but_last by state raws rest failures h h' p =
    let lines = map without_cr raws in
    let count : length lines ≡ length raws = length-map raws without_cr in
    let first : take (length raws - 1) (lines ++ rest) ≡ take (length raws - 1) lines =
    take-append-le (length raws - 1) lines rest (omega (arith, count)) in
    subst (λ ls. AppendsAtLeast h h' (after_each by failures (begin_at state) ls).text)
    (ap (λ n. take (n - 1) lines) count ∙ sym first) p

-- These lines were done, and of no more than so many an attempt failed.
module _ {by : Answering (List ℕ)} {state : by.State} {lines : List (List ℕ)} {failures : List (Option ℕ)} {now : Session by.State}
    (done : Done by state lines failures now) (most : Option ℕ) (few : IsAtMost most (failed_count failures)) where
  -- the whole script was answered
  answers_all : {Stands : by.State → Type 0} {script : List (List ℕ)} {h h' : Known} {tally : Tally} → answered_lines script ≡ lines
      → Appends h h' now.text → Stands now.state → now.counts ≡ counts_in tally → AnsweredWhole by most Stands state script h h' tally
  answers_all is appended stands counts = record {
    failures = failures;
    allows = rw is done.allowed;
    few = few;
    text = rw (is, done.is) appended;
    counts = rw (is, done.is) (sym counts);
    stands = rw (is, done.is) stands;
  }

  -- `rest` would be answered behind them: attempts failed only where they may, and none of later lines
  allows_all : (script rest : List (List ℕ)) → answered_lines script ≡ lines ++ rest → Allows by state script failures
  allows_all script rest is = rw is (allowed_further by failures (begin_at state) lines rest done.each done.allowed)

  -- the sink failed
  answers_front : {Stands : by.State → Type 0} {xs : List ℕ} {o h h' : Known} (rest : List (List ℕ)) (n : ℕ)
      → answered_lines (lines_of xs) ≡ lines ++ rest → take n (lines ++ rest) ≡ lines → IfSome o (λ ys. xs ≡ first_lines n xs ++ ys)
      → AppendsFront h h' now.text → AppendsAtLeast h h' (after_each by failures (begin_at state) (take (n - 1) (lines ++ rest))).text
      → Stands now.state → AnsweredPrefix by most Stands state xs o h h'
  answers_front {xs = xs} rest n is first handed text earlier stands = record {
    failures = failures;
    allows = allows_all (lines_of xs) rest is;
    few = few;
    lines = n;
    handed = handed;
    text = rw (is, first, done.is) text;
    earlier = rw is earlier;
    stands = rw (is, first, done.is) stands;
  }

-- A session has come so far, and then what answers stands for a state in this sense, the lines are these, and this was written. With the
-- line that was taken then, of which no attempt failed where memory was ample, no more than so many failed.
module _ {S : Type 0} {by : Answering (List ℕ)} {Paid : List (Option ℕ) → Type 0} {Stood : by.State → Type 0} {told : ToldBySource S}
    {a b : Lines S} {state : by.State} {tally : Tally} {h h' : Known} (s : SoFar by Paid Stood told a b state tally h h') (ample : Bool)
    (most : Option ℕ) (few : PaysMore ample s.failures (λ failures. IsAtMost most (failed_count failures))) (Stands : by.State → Type 0)
    (c : Lines S) (h'' : Known) where
  abbrev lines : List (List ℕ)
  lines = map without_cr s.raws

  few_now : IsAtMost most (failed_count s.failures)
  few_now = subst (IsAtMost most) (let e = count_by-append is_some s.failures (None ∷ []) in omega (arith, e)) (few None (λ is. refl))

  -- The script has ended: the whole text was written.
  pub so_far_ends : {tally' : Tally} → ScriptEnd Stands h' h'' s.now tally' → IsAtEnd (unread told b) ⊎ QuitLine told b c
      → IfSome (unread told a) (λ bytes. AnsweredWhole by most Stands state (lines_of bytes) h h'' tally')
  so_far_ends e how =
      let appended = Appends-kept h h' h'' s.now.text s.appended e.same.kept in
      elim how [
        | inl end ↦
            IfSome_then (unread told a) (all_texts (unread told a) (unread told b) a.taken b.taken s.raws s.handed.took end)
            (λ xs is. answers_all s.done most few_now (ap (before_first ends_script) is ∙ before_all lines s.done.go_on) appended e.same.stands e.counts)
        | inr q ↦
            IfSome_then (unread told a) (begins_more s.raws q.raw (handed_then told a b c s.raws (q.raw ∷ []) s.handed q.handed).took)
            (λ xs is. answers_all s.done most few_now
            (ap (before_first ends_script) is.1 ∙ before_quit lines (without_cr q.raw) is.0 s.done.go_on q.quits) appended e.same.stands e.counts)
      ]

  -- The sink failed: a front was written of what answers these lines, and the whole of what answers all but the last of them,
  front_written : (raws : List (List ℕ)) {failures : List (Option ℕ)} {now : Session by.State} → Done by state (map without_cr raws) failures now
      → IsAtMost most (failed_count failures)
      → IfSome (unread told a) (λ xs. (rest : List (List ℕ)) × (lines_of xs ≡ map without_cr raws ++ rest))
      → IfSome (unread told a) (λ xs. IfSome (unread told c) (λ zs. xs ≡ first_lines (length raws) xs ++ zs)) → AppendsFront h h'' now.text
      → AppendsAtLeast h h'' (after_each by failures (begin_at state) (take (length (map without_cr raws) - 1) (map without_cr raws))).text
      → Stands now.state → IfSome (unread told a) (λ bytes. AnsweredPrefix by most Stands state bytes (unread told c) h h'')
  front_written raws {failures} done few begun handed text earlier stands =
      with_both (unread told a) _ _ _ begun handed (λ xs is handed.
      let rest = before_first ends_script is.0 in
      answers_front done most few rest (length raws) (ap (before_first ends_script) is.1 ∙ before_end (map without_cr raws) is.0 done.go_on)
      (take_raws raws rest) handed text (but_last by state raws rest failures h h'' earlier) stands)

  -- between two lines,
  stops : Untouched Stands h' h'' s.now → IfSome (unread told b) (λ xs. IfSome (unread told c) (λ ys. xs ≡ ys))
      → IfSome (unread told a) (λ bytes. AnsweredPrefix by most Stands state bytes (unread told c) h h'')
  stops u same =
      let appended = Appends-kept h h' h'' s.now.text s.appended u.kept in
      front_written s.raws s.done few_now (begins s.handed.took) (handed_still (unread told c) s.handed.took same) (front_whole h h'' s.now.text appended)
      (s.done.earlier.more, subst (λ (v : List ℕ). Appends h h'' v) s.done.earlier.text appended) u.stands

  -- after the line that ends the script,
  stops_at_quit : Untouched Stands h' h'' s.now → QuitLine told b c
      → IfSome (unread told a) (λ bytes. AnsweredPrefix by most Stands state bytes (unread told c) h h'')
  stops_at_quit u q =
      let n = length (s.raws ++ q.raw ∷ []) in
      let appended = Appends-kept h h' h'' s.now.text s.appended u.kept in
      let both = handed_then told a b c s.raws (q.raw ∷ []) s.handed q.handed in
      let short : length lines ≤ n - 1 = omega (arith, length-append s.raws (q.raw ∷ []), length-map s.raws without_cr) in
      with_both (unread told a) _ _ _ (begins_more s.raws q.raw both.took)
      (handed_all both.took) (λ xs is handed.
      answers_front s.done most few_now [] n (ap (before_first ends_script) is.1 ∙ before_quit lines (without_cr q.raw) is.0 s.done.go_on q.quits
      ∙ sym (append-nil lines)) (ap (take n) (append-nil lines) ∙ take_all n lines (omega (arith, short))) handed
      (front_whole h h'' s.now.text appended)
      ([], rw (append-nil lines, take_all (n - 1) lines short, s.done.is, append-nil s.now.text) appended) u.stands)

  -- or within a reply.
  stops_in_reply : HalfAnsweredLine (spared ample by) Stands told b c h' h'' s.now
      → IfSome (unread told a) (λ bytes. AnsweredPrefix by most Stands state bytes (unread told c) h h'')
  stops_in_reply t =
      let w = t.part.done in
      let both = handed_then told a b c s.raws (t.raw ∷ []) s.handed t.handed in
      let lines_are : map without_cr (s.raws ++ t.raw ∷ []) ≡ lines ++ without_cr t.raw ∷ [] = map-append without_cr s.raws (t.raw ∷ []) in
      let done : Done by state (map without_cr (s.raws ++ t.raw ∷ [])) (s.failures ++ w.failed ∷ []) w.next =
      rw lines_are (done_more s.done ample w) in
      front_written (s.raws ++ t.raw ∷ []) done
      (few w.failed (none_spared ample w.failed (by.MayFail s.now.state (without_cr t.raw)) w.goes_on.allowed)) (begins both.took) (handed_all both.took)
      (rw w.text (front_then h h' h'' s.now.text t.part.reply s.appended t.part.front))
      (rw (lines_are, before_last (without_cr t.raw) w.failed s.done)
      (at_least_then h h' h'' s.now.text t.part.reply s.appended t.part.front)) w.stands

  so_far_stops : SinkStop (spared ample by) Stands told b c h' h'' s.now
      → IfSome (unread told a) (λ bytes. AnsweredPrefix by most Stands state bytes (unread told c) h h'')
  so_far_stops how = elim how [
    | inl whole ↦ elim whole.1 [
      | inl same ↦ stops whole.0 same
      | inr quit ↦ stops_at_quit whole.0 quit
    ]
    | inr part ↦ stops_in_reply part
  ]

  -- The source failed, or its limit was passed.
  so_far_unread : Untouched Stands h' h'' s.now → NotTaken told b c
      → IfSome (unread told a) (λ bytes. AnsweredTaken by most Stands state a.taken bytes (told.left c.source.now) h h'')
  so_far_unread u n =
      with_both (unread told a) _ _ _ (begins s.handed.took)
      (cut_off told a b c s.raws s.handed.took n) (λ xs is cut.
      let rest = before_first ends_script is.0 in
      let before : answered_lines (lines_of xs) ≡ lines ++ rest = ap answered_lines is.1 ∙ before_end lines is.0 s.done.go_on in
      record {
        failures = s.failures;
        allows = allows_all s.done most few_now (lines_of xs) rest before;
        few = few_now;
        cut = cut.0;
        short =
            let at = ap (position_or_len ends_script) is.1 in
            omega (arith, at, ends_after lines is.0 s.done.go_on, cut.1, length-map s.raws without_cr);
        text = rw (cut.1, before, take_raws s.raws rest, s.done.is) (Appends-kept h h' h'' s.now.text s.appended u.kept);
        stands = rw (cut.1, before, take_raws s.raws rest, s.done.is) u.stands;
      })

-- The session ended by a fault.
pub so_far_fails : {S Since : Type 0} {by : Answering (List ℕ)} {Paid : List (Option ℕ) → Type 0} {told : ToldBySource S} {a b : Lines S}
    {state : by.State} {tally : Tally} {h h' : Known} (Stood Stands : Since → by.State → Type 0) (since : Since) (c : Lines S) (tally' : Tally)
    (h'' : Known) (fault : SessionFault) (s : SoFar by Paid (Stood since) told a b state tally h h') (ample : Bool) (most : Option ℕ)
    → PaysMore ample s.failures (λ failures. IsAtMost most (failed_count failures))
    → LineOutcome (spared ample by) Stood Stands told b c h' h'' tally tally' (Err fault)
    → IfSome (unread told a)
    (λ bytes. ScriptAnswered by most (Stands since) state a.taken bytes (unread told c) (told.left c.source.now) h h'' (Err fault))
so_far_fails Stood Stands since c tally' h'' ReadFault s ample most few o =
    so_far_unread s ample most few (Stands since) c h'' (o.same since s.now s.stands s.counts) o.cut
so_far_fails Stood Stands since c tally' h'' InputTooLong s ample most few o =
    so_far_unread s ample most few (Stands since) c h'' (o.0.same since s.now s.stands s.counts) o.0.cut
so_far_fails Stood Stands since c tally' h'' WriteFault s ample most few o =
    so_far_stops s ample most few (Stands since) c h'' (o since s.now s.stands s.counts)
so_far_fails Stood Stands since c tally' h'' Memory s ample most few o =
    so_far_stops s ample most few (Stands since) c h'' (o since s.now s.stands s.counts)

-- The limit of the input.
always : (o : Option (List ℕ)) (P : List ℕ → Type 0) → ((xs : List ℕ) → P xs) → IfSome o P
always None P f = tt
always (Some xs) P f = f xs

pub fails_by_limit : {S Since : Type 0} (by : Answering (List ℕ)) (Stood Stands : Since → by.State → Type 0)
    (told : ToldBySource S) (a b c : Lines S) (tally tally' : Tally) (h' h'' : Known) (fault : SessionFault)
    → Passed told a b → LineOutcome by Stood Stands told b c h' h'' tally tally' (Err fault)
    → IfSome (unread told a) (λ bytes. KeepsLimit a.taken bytes (Err fault))
fails_by_limit by Stood Stands told a b c tally tally' h' h'' InputTooLong passed o = too_long told a b c passed o.1
fails_by_limit by Stood Stands told a b c tally tally' h' h'' other passed o = always (unread told a) _ (λ xs. tt)

-- The replies to the first lines are a front of the replies to all.
pub more_of_whole : (by : Answering (List ℕ)) → IsLawful by → (state : by.State) (script : List (List ℕ)) (failures : List (Option ℕ)) (n : ℕ)
    → (more : List ℕ) × ((whole_session by state script failures).text ≡ (session_after by state script failures n).text ++ more)
more_of_whole by lawful state script failures n =
    let lines = answered_lines script in
    let e = more_text by lawful failures (begin_at state) (take n lines) (drop n lines) in
    (e.0, ap (λ ls. (after_each by failures (begin_at state) ls).text) (sym (take-append-drop n lines)) ∙ e.1)

pub front_of_whole : (by : Answering (List ℕ)) → IsLawful by → (state : by.State) (script : List (List ℕ)) (failures : List (Option ℕ))
    (n : ℕ) (h h' : Known) → AppendsFront h h' (session_after by state script failures n).text
    → AppendsFront h h' (whole_session by state script failures).text
front_of_whole by lawful state script failures n h h' p =
    let more = more_of_whole by lawful state script failures n in
    front_more h h' (session_after by state script failures n).text more.0 (whole_session by state script failures).text more.1 p

pub first_of_whole : (by : Answering (List ℕ)) → IsLawful by → (state : by.State) (script : List (List ℕ)) (failures : List (Option ℕ))
    (n : ℕ) (h h' : Known) → Appends h h' (session_after by state script failures n).text
    → AppendsFront h h' (whole_session by state script failures).text
first_of_whole by lawful state script failures n h h' p =
    let more = more_of_whole by lawful state script failures n in
    front_of h h' (session_after by state script failures n).text more.0 (whole_session by state script failures).text more.1 p

-- What answers stands for a state in another sense, too.
module _ (by : Answering (List ℕ)) (most : Option ℕ) (Stands Stands' : by.State → Type 0) (also : (s : by.State) → Stands s → Stands' s)
    (state : by.State) where
  prefix_as : (bytes : List ℕ) (unread h h' : Known) → AnsweredPrefix by most Stands state bytes unread h h'
      → AnsweredPrefix by most Stands' state bytes unread h h'
  prefix_as bytes unread h h' a = record {
    failures = a.failures;
    allows = a.allows;
    few = a.few;
    lines = a.lines;
    handed = a.handed;
    text = a.text;
    earlier = a.earlier;
    stands = also _ a.stands;
  }

  taken_as : (before : ℕ) (bytes : List ℕ) (left h h' : Known) → AnsweredTaken by most Stands state before bytes left h h'
      → AnsweredTaken by most Stands' state before bytes left h h'
  taken_as before bytes left h h' a =
      record { failures = a.failures; allows = a.allows; few = a.few; cut = a.cut; short = a.short; text = a.text; stands = also _ a.stands }

  pub stands_as : (before : ℕ) (bytes : List ℕ) (unread left h h' : Known) (r : Result Tally SessionFault)
      → ScriptAnswered by most Stands state before bytes unread left h h' r → ScriptAnswered by most Stands' state before bytes unread left h h' r
  stands_as before bytes unread left h h' (Ok tally) a =
      record { failures = a.failures; allows = a.allows; few = a.few; text = a.text; counts = a.counts; stands = also _ a.stands }
  stands_as before bytes unread left h h' (Err ReadFault) a = taken_as before bytes left h h' a
  stands_as before bytes unread left h h' (Err InputTooLong) a = taken_as before bytes left h h' a
  stands_as before bytes unread left h h' (Err WriteFault) a = prefix_as bytes unread h h' a
  stands_as before bytes unread left h h' (Err Memory) a = prefix_as bytes unread h h' a
