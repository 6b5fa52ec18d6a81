-- Lines that are added to those of rising lists.
use Rattle.lx_workers.proofs.Imports.{◌≡◌, ◌⊎◌, inl, inr, ℕ, ◌<◌, ◌+◌, ◌-◌, ◌^◌, min, List, [], ◌∷◌, ◌++◌, length, take, Option, Some, None}
use Rattle.lx_workers.proofs.Imports.{Result, Ok, Err, IfSome, IsSomeAnd, ◌≤◌, refl, ap, ◌∙◌, subst, append-nil, arith, reverse, IsPrefix}
use Rattle.lx_workers.proofs.Imports.{reverse-cons, Appends, Keeps, SinkFault, HasSinkCause, Puts, Show, Command, version_text, versions_text}
use Rattle.lx_workers.proofs.Imports.{Stamp, IsFrame, prefix_self, prefix_trans, prefix_length, Older, Falling, newest_count, HasWritten, HasWrittenPart}
use Rattle.lx_workers.proofs.Imports.{ToldBySink}
use Rattle.std.proofs.KnownBytes.{Appends-nil, Appends-trans, Appends-kept}
use Rattle.std.proofs.Math.Seq.{take-append-add}
use Rattle.std.proofs.lemmas.Grind.{flat_map-append}
use Rattle.lx_io.proofs.Chain.{AppendsFront-is, AppendsFront-from, Puts-is, Puts-then}
use Rattle.lx_gate.specs.Frames.{frame_after, moment_after}
use Rattle.lx_spec.specs.Versions.{outlet_text}
use Rattle.lx_workers.specs.Lines.{stamped_line}

-- the line of the newest comes last
lines-newest : (show : Show) (u : ℕ) (list : List Command) (lists : List (List Command))
    → outlet_text show u (list ∷ lists) ≡ outlet_text show u lists ++ version_text show u list
unfolding outlet_text
lines-newest show u list lists = ap (versions_text show u) (reverse-cons list lists)
    ∙ (flat_map-append (version_text show u) (reverse lists) (list ∷ [])
    ∙ ap (λ w. versions_text show u (reverse lists) ++ w) (append-nil (version_text show u list)))

-- the line of a version
line_is : (show : Show) (u : ℕ) (list : List Command) (slots : List ℕ) (stamp : Stamp) → IsFrame show list u slots stamp
    → stamped_line u slots stamp ≡ version_text show u list
unfolding stamped_line frame_after moment_after
line_is show u list slots stamp frame = rw (frame.slots_are, frame.count_is, frame.moment_is) refl

pub falls_on : (top top' : List Command) → IsPrefix top top' → (lists : List (List Command)) → Falling top lists → Falling top' lists
falls_on top top' p [] h = tt
falls_on top top' p (list ∷ lists) h = (prefix_trans list top top' h.0 p, h.1)

-- no line was added
pub goes_on : {show : Show} {u : ℕ} {before after : Option (List ℕ)} {top top' : List Command} {taken : ℕ} {last : Option ℕ} → IsPrefix top top'
    → HasWritten show u before after top taken last → HasWritten show u before after top' taken last
goes_on {top} {top'} p h =
    record { lists = h.lists; text = h.text; chain = falls_on top top' p h.lists h.chain; taken_is = h.taken_is; last_is = h.last_is }

newer : (top : List Command) (last : Option ℕ) (lists : List (List Command)) → Falling top lists → last ≡ newest_count lists
    → IfSome last (λ n. n < length top) → Older top lists
newer top last [] h e f = tt
newer top last (list ∷ lists) h e f = (h.0, subst (λ (o : Option ℕ). IfSome o (λ n. n < length top)) e f, h.1)

chain_on : (show : Show) (u : ℕ) (before after : Option (List ℕ)) (top : List Command) (taken : ℕ) (last : Option ℕ) (count : ℕ)
    → count ≡ length top → IfSome last (λ n. n < count) → (h : HasWritten show u before after top taken last) → Falling top (top ∷ h.lists)
chain_on show u before after top taken last count is fresh h =
    (prefix_self top, newer top last h.lists h.chain h.last_is (subst (λ (n : ℕ). IfSome last (λ m. m < n)) is fresh))

-- the line of a longer list was added
pub adds_line : (show : Show) (u : ℕ) (before after after' : Option (List ℕ)) (top : List Command) (taken : ℕ) (last : Option ℕ)
    (slots : List ℕ) (stamp : Stamp) → IsFrame show top u slots stamp → Appends after after' (stamped_line u slots stamp)
    → IfSome last (λ n. n < stamp.count) → HasWritten show u before after top taken last
    → HasWritten show u before after' top (min (taken + 1) (2 ^ 64 - 1)) (Some stamp.count)
adds_line show u before after after' top taken last slots stamp frame is fresh h =
    let added : Appends after after' (version_text show u top) = rw (← line_is show u top slots stamp frame) is in
    record {
      lists = top ∷ h.lists;
      text = rw (lines-newest show u top h.lists)
          (Appends-trans before after after' (outlet_text show u h.lists) (version_text show u top) h.text added);
      chain = chain_on show u before after top taken last stamp.count frame.count_is fresh h;
      taken_is = omega (arith, h.taken_is);
      last_is = ap (λ (n : ℕ). Some n) frame.count_is;
    }

-- behind a line the sink keeps nothing back
handed_behind : {P : Type 0} (last : Option ℕ) (lists : List (List Command)) → last ≡ newest_count lists → ((count : ℕ) → last ≡ Some count → P)
    → (lists ≡ []) ⊎ P
handed_behind last [] e h = inl refl
handed_behind last (list ∷ lists) e h = inr (h (length list) e)

-- a part of the line was added, and then the sink had a fault
pub adds_part : {K : Type 0} (told : ToldBySink K) (show : Show) (u : ℕ) (from sink sink' : K) (top : List Command) (taken : ℕ)
    (last : Option ℕ) (slots : List ℕ) (stamp : Stamp) (fault : SinkFault) → IsFrame show top u slots stamp
    → Puts {T = Unit {0}} told sink sink' (Err fault) (stamped_line u slots stamp) → IfSome last (λ n. n < stamp.count)
    → (told.faults sink ≡ told.faults from) × (told.wants sink ≡ told.wants from)
    → ((count : ℕ) → last ≡ Some count → told.back sink ≡ [])
    → HasWritten show u (told.holds from) (told.holds sink) top taken last → HasWrittenPart told show u from sink' top fault
adds_part told show u from sink sink' top taken last slots stamp fault frame is fresh unfailed handed h =
    let stopped : Puts {T = Unit {0}} told sink sink' (Err fault) (version_text show u top) =
    subst (λ (w : List ℕ). Puts {T = Unit {0}} told sink sink' (Err fault) w) (line_is show u top slots stamp frame) is in
    let lines = outlet_text show u h.lists in
    let line = version_text show u top in
    let front = AppendsFront-is (told.holds sink) (told.holds sink') line stopped.part in
    record {
      newest = top;
      earlier = h.lists;
      chain = chain_on show u (told.holds from) (told.holds sink) top taken last stamp.count frame.count_is fresh h;
      text = rw (lines-newest show u top h.lists)
          (AppendsFront-from (told.holds from) (told.holds sink') (lines ++ line) (length lines + front.0) (rw (take-append-add lines line front.0)
          (Appends-trans (told.holds from) (told.holds sink) (told.holds sink') lines (take front.0 line) h.text front.1)));
      last = sink;
      whole = h.text;
      unfailed = unfailed;
      handed = handed_behind last h.lists h.last_is handed;
      stopped = stopped;
    }

-- nothing more was written, and the list that the lines lead up to went on
pub part_on : {K : Type 0} {told : ToldBySink K} {show : Show} {u : ℕ} {from sink : K} {top top' : List Command} {fault : SinkFault}
    → IsPrefix top top' → HasWrittenPart told show u from sink top fault → HasWrittenPart told show u from sink top' fault
part_on {top} {top'} p h = record {
  newest = h.newest;
  earlier = h.earlier;
  chain = falls_on top top' p (h.newest ∷ h.earlier) h.chain;
  text = h.text;
  last = h.last;
  whole = h.whole;
  unfailed = h.unfailed;
  handed = h.handed;
  stopped = h.stopped;
}

pub none_written : (show : Show) (u : ℕ) (before : Option (List ℕ)) (top : List Command) → HasWritten show u before before top 0 None
unfolding outlet_text
none_written show u before top = record { lists = []; text = Appends-nil before; chain = tt; taken_is = refl; last_is = refl }

whole : (top : List Command) (last : Option ℕ) (lists : List (List Command)) (count : ℕ) → Falling top lists → last ≡ newest_count lists
    → count ≡ length top → IsSomeAnd last (λ n. count ≤ n) → last ≡ Some (length top)
whole top last [] count h e c k = absurd (subst (λ (o : Option ℕ). IsSomeAnd o (λ n. count ≤ n)) e k)
whole top last (list ∷ lists) count h e c k =
    let le : count ≤ length list = subst (λ (o : Option ℕ). IsSomeAnd o (λ n. count ≤ n)) e k in
    let same : length list ≡ length top = omega (arith, le, c, prefix_length list top h.0) in
    e ∙ ap (λ (n : ℕ). Some n) same

-- where nothing newer was taken, the last line is that of the newest list
pub last_stays : {show : Show} {u : ℕ} {before after : Option (List ℕ)} {top : List Command} {taken : ℕ} {last : Option ℕ} (count : ℕ)
    → count ≡ length top → IsSomeAnd last (λ n. count ≤ n) → HasWritten show u before after top taken last → last ≡ Some (length top)
last_stays {top} {last} count c k h = whole top last h.lists count h.chain h.last_is c k

-- a flush puts nothing more
flushed : {K U : Type 0} (told : ToldBySink K) (a b : K) (r : Result U SinkFault) → Keeps (told.holds a) (told.holds b)
    → HasSinkCause told a b r → Puts told a b r []
flushed told a b (Ok u) kept cause = record {
  whole = Appends-kept (told.holds a) (told.holds a) (told.holds b) [] (Appends-nil (told.holds a)) kept;
  part = tt;
  cause = cause;
}
flushed told a b (Err e) kept cause = record {
  whole = tt;
  part = AppendsFront-from (told.holds a) (told.holds b) [] 0
      (Appends-kept (told.holds a) (told.holds a) (told.holds b) [] (Appends-nil (told.holds a)) kept);
  cause = cause;
}

-- a text was put, and the sink flushed
pub puts_flushed : {K T U : Type 0} (told : ToldBySink K) (a b c : K) (t : T) (r : Result U SinkFault)
    (text : List ℕ) → Puts told a b (Ok t) text → Keeps (told.holds b) (told.holds c) → HasSinkCause told b c r → Puts told a c r text
puts_flushed told a b c t r text p kept cause = Puts-is (Puts-then p (flushed told b c r kept cause)) (append-nil text)
