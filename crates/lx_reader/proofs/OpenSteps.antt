-- Lines that say something of the open record are steps of the reading.
use Rattle.lx_reader.proofs.Imports.{◌≡◌, ℕ, Bool, true, false, List, Option, Result, Ok, Err, refl, ap, ◌∙◌, sym, subst, IsTrue, unwrap_or, OnOk}
use Rattle.lx_reader.proofs.Imports.{IsSomeAnd, option_map_or, IsErrAnd, IsOkAnd, Move, Section, InCue, InGroup, InSub, TextFault, Word, Entry}
use Rattle.lx_reader.proofs.Imports.{IsLabelled, is_end, part_named, times, cue_entry, inner_entry, members_entry, Cue, MemberSet, Show, has_entry}
use Rattle.lx_reader.proofs.Imports.{placed, entry_at-placed_here, placed_again, changed, Open, Reader, next_times, ChangesCue, CueSays, HasParts}
use Rattle.lx_reader.proofs.Imports.{LabelSays, facts_at, is_own, IsStep, Said, facts_of, state_of, HasPartIn, IsOpen, ReadingState, cue_with}
use Rattle.lx_reader.proofs.Imports.{facts_in, set_with, state_after, CueFits, OpenFits, SetFits, filled_cue, filled_set, with_open, Ends, HasLevels}
use Rattle.lx_reader.proofs.Imports.{Facts, IsReady, settled}
use Rattle.lx_reader.specs.declared.reading.ShowPass.{ShowPass}
use Rattle.lx_spec.specs.declared.Word.TheVariants as words
use Rattle.lx_reader.specs.declared.open_record.Open.TheVariants as open_records
use Rattle.lx_reader.proofs.LineSteps.{opened, times_are}
use Rattle.lx_reader.proofs.OpenCues.{own_fits}

-- an entry that was placed is changed
pub changed_here : {A : Type 0} (key : A → ℕ) (f : A → A) (x : A) (xs : List A) → key (f x) ≡ key x
    → changed key (key x) f (placed key x xs) ≡ placed key (f x) xs
changed_here key f x xs same =
    ap (λ o. option_map_or (λ z. placed key (f z) (placed key x xs)) o (placed key x xs)) (entry_at-placed_here key (key x) x xs refl)
    ∙ placed_again key x (f x) xs same

-- An entry changes the record that is open, which stands in a list of the show. The list is put in with the count of channels.
pub step_by : {A : Type 0} (key : A → ℕ) (put : ℕ → List A → Show) (change : A → A) (r : Reader) (x : A) (xs : List A) {section : Section}
    {filled : A} {k n q p i : ℕ} {e : Entry} → r.section ≡ section → key (change x) ≡ key x → k ≡ n → filled ≡ change x → q ≡ p
    → r.ended ≡ is_end e
    → state_after i e (state_of (record r { show = put r.show.channels (placed key x xs); section = section }))
    ≡ record (state_of r) { show = put n (changed key (key x) change (placed key x xs)); section = section; part = p }
    → IsStep (record r { show = put r.show.channels (placed key x xs) })
    (record r { show = put k (placed key filled xs); part = q }) i e
step_by key put change r x xs {i} {e} inside same channels is part going after = record {
  state = (λ j. record (state_of r) {
    show = put (channels j) ((ap (λ y. placed key y xs) is ∙ sym (changed_here key change x xs same)) j);
    section = inside j;
    part = part j;
  })
      ∙ sym after ∙ (λ j. state_after i e (state_of (record r { show = put r.show.channels (placed key x xs); section = sym inside j })));
  ended = going;
}

-- what an entry of a cue's own comes to
own_goes_on : (e : Entry) → is_own e ≡ true → false ≡ is_end e
own_goes_on e = elim e as (λ e. is_own e ≡ true → false ≡ is_end e) [ Ends ↦ λ own. cc | _ ↦ λ own. refl ]

own_after : (i n p : ℕ) (e : Entry) (t : ReadingState) → is_own e ≡ true → state_after i e (record t { section = InCue n; part = p })
    ≡ record t {
      show = record t.show { cues = changed (λ c. c.number) n (cue_with p e) t.show.cues };
      section = InCue n;
      part = unwrap_or (part_named e) p;
    }
own_after i n p e t = elim e as (λ e. is_own e ≡ true → state_after i e (record t { section = InCue n; part = p })
    ≡ record t {
      show = record t.show { cues = changed (λ c. c.number) n (cue_with p e) t.show.cues };
      section = InCue n;
      part = unwrap_or (part_named e) p;
    }) [ Ends ↦ λ own. cc | _ ↦ λ own. cc ]

-- it says nothing of the levels
filled_with : (p : ℕ) (e : Entry) (moves : List Move) (cue : Cue) → is_own e ≡ true
    → filled_cue moves (cue_with p e cue) ≡ cue_with p e (filled_cue moves cue)
filled_with p e moves cue = elim e as (λ e. is_own e ≡ true → filled_cue moves (cue_with p e cue) ≡ cue_with p e (filled_cue moves cue))
    [ HasLevels members ↦ λ own. cc | _ ↦ λ own. refl ]

cue_step : (r : Reader) (moves : List Move) {old new : Cue} {q i : ℕ} {e : Entry} → r.section ≡ InCue old.number → r.ended ≡ false
    → ChangesCue old new r.part q e
    → IsStep (opened r (open_records.Cue old) moves) (opened (record r { part = q }) (open_records.Cue new) moves) i e
cue_step r moves {old} {i = i} {e = e} inside going change =
    step_by (λ c. c.number) (λ k cs. record r.show { channels = k; cues = cs }) (cue_with r.part e) r (filled_cue moves old) r.show.cues
    inside refl refl (ap (filled_cue moves) change.cue ∙ filled_with r.part e moves old change.own) change.part
    (going ∙ own_goes_on e change.own) (own_after i old.number r.part e (state_of (opened r (open_records.Cue old) moves)) change.own)

-- What a line says is told by its number alone.
cue_at : (t : ReadingState) (i : ℕ) (line : List ℕ) (word : Word) (rest : List (List ℕ))
    → cue_entry (facts_in t i) line word rest ≡ cue_entry (facts_at i) line word rest
cue_at t i line word rest = elim word as (λ w. cue_entry (facts_in t i) line w rest ≡ cue_entry (facts_at i) line w rest)
    [ words.Chan ↦ refl | _ ↦ refl ]

members_at : (t : ReadingState) (i : ℕ) (line : List ℕ) (word : Word) (rest : List (List ℕ))
    → members_entry (facts_in t i) line word rest ≡ members_entry (facts_at i) line word rest
members_at t i line word rest =
    elim word as (λ w. members_entry (facts_in t i) line w rest ≡ members_entry (facts_at i) line w rest)
    [ words.Chan ↦ refl | _ ↦ refl ]

cue_said_by : (r : Reader) (moves : List Move) (old new : Cue) (q i : ℕ) (result : Result Bool TextFault) (x : Result Entry TextFault)
    → r.section ≡ InCue old.number → r.ended ≡ false → CueSays x old new r.part q result
    → Said (opened r (open_records.Cue old) moves) (opened (record r { part = q }) (open_records.Cue new) moves) i result x
cue_said_by r moves old new q i (Ok true) (Ok e) inside going says = cue_step r moves inside going says
cue_said_by r moves old new q i (Ok true) (Err fault) inside going says = absurd says
cue_said_by r moves old new q i (Ok false) x inside going says =
    (says.0, λ j. opened (record r { part = says.1.1 j }) (open_records.Cue (says.1.0 j)) moves)
cue_said_by r moves old new q i (Err fault) x inside going says = says

-- the open part is one of the cue's
pub open_part : (r : Reader) (moves : List Move) (cue : Cue) → r.section ≡ InCue cue.number
    → IsOpen (with_open (open_records.Cue cue) moves r.show) r.section r.part → IsTrue (has_entry (λ p. p.number) r.part cue.parts)
open_part r moves cue inside there =
    let here : HasPartIn (with_open (open_records.Cue cue) moves r.show) cue.number r.part =
    subst (λ s. IsOpen (with_open (open_records.Cue cue) moves r.show) s r.part) inside there in
    subst (λ (o : Option Cue). IsSomeAnd o (λ c. IsTrue (has_entry (λ p. p.number) r.part c.parts)))
    (entry_at-placed_here (λ c. c.number) cue.number (filled_cue moves cue) r.show.cues refl) here

-- The label of a group or submaster.
abbrev pub relabelled : List ℕ → MemberSet → MemberSet
relabelled label set = record set { label = label }

label_fits : (limit : ℕ) (show : Show) (moves : List Move) (set : MemberSet) (label : List ℕ) (b : Bool) (x : Result Entry TextFault)
    → SetFits limit show moves set → LabelSays x set.label label b → SetFits limit show moves (relabelled label set)
label_fits limit show moves set label true x fits says = record {
  valid = record { number = fits.valid.number; label = says.1; members = fits.valid.members };
  members = fits.members;
  rise = fits.rise;
}
label_fits limit show moves set label false x fits says =
    subst (λ l. SetFits limit show moves (relabelled l set)) (sym says.1) fits

pub group_step : (r : Reader) (moves : List Move) (set : MemberSet) {label : List ℕ} {i : ℕ} → r.section ≡ InGroup set.number
    → r.ended ≡ false
    → IsStep (opened r (open_records.Group set) moves) (opened r (open_records.Group (relabelled label set)) moves) i (IsLabelled label)
group_step r moves set {label} inside going =
    step_by (λ s. s.number) (λ k ss. record r.show { channels = k; groups = ss }) (set_with (IsLabelled label)) r (filled_set moves set)
    r.show.groups inside refl refl refl refl going refl

pub sub_step : (r : Reader) (moves : List Move) (set : MemberSet) {label : List ℕ} {i : ℕ} → r.section ≡ InSub set.number → r.ended ≡ false
    → IsStep (opened r (open_records.Sub set) moves) (opened r (open_records.Sub (relabelled label set)) moves) i (IsLabelled label)
sub_step r moves set {label} inside going =
    step_by (λ s. s.number) (λ k ss. record r.show { channels = k; subs = ss }) (set_with (IsLabelled label)) r (filled_set moves set)
    r.show.subs inside refl refl refl refl going refl

set_said : (make : MemberSet → Open) (r : Reader) (moves : List Move) (set : MemberSet) (label : List ℕ) (i : ℕ) (b : Bool)
    (x : Result Entry TextFault)
    → IsStep (opened r (make set) moves) (opened r (make (relabelled label set)) moves) i (IsLabelled label)
    → LabelSays x set.label label b
    → Said (opened r (make set) moves) (opened r (make (relabelled label set)) moves) i (Ok b) x
set_said make r moves set label i true x took says =
    subst (λ v. IsOkAnd v (IsStep (opened r (make set) moves) (opened r (make (relabelled label set)) moves) i)) (sym says.0) took
set_said make r moves set label i false x took says = (says.0, λ j. opened r (make (relabelled (says.1 j) set)) moves)

-- a fault of a line
pub cue_stops : (old new : Cue) (p q : ℕ) (result : Result Bool TextFault) (x : Result Entry TextFault) (fault : TextFault)
    → IsErrAnd result (λ told. told ≡ fault) → x ≡ Err fault → CueSays x old new p q result
cue_stops old new p q (Ok b) x fault stop is = absurd stop
cue_stops old new p q (Err told) x fault stop is = is ∙ ap Err (sym stop)

-- times
pub times_say : (make : ℕ → ℕ → Entry) (i : ℕ) (rest : List (List ℕ)) (t : ℕ × ℕ) (old new : Cue) (p : ℕ) → Ok t ≡ next_times i rest
    → ChangesCue old new p p (make t.0 t.1) → IsOkAnd (times i make rest) (ChangesCue old new p p)
times_say make i rest t old new p numbers change =
    subst (λ v. IsOkAnd v (ChangesCue old new p p)) (sym (times_are i make rest numbers)) change

-- The same of whatever record is open.
module _ {g : ShowPass} {i : ℕ} (pass : IsReady g i) where
  module _ {cue : Cue} (is : g.held ≡ open_records.Cue cue) where
    held_cue : (g.reader.section ≡ InCue cue.number) × CueFits g.reader.show g.moves cue
    held_cue = subst (OpenFits g.reader.show g.reader.section g.moves) is pass.fits

    pub parts_open : HasParts cue g.reader.part
    parts_open = record {
      sorted = held_cue.1.valid.parts_sorted;
      valid = held_cue.1.valid.parts;
      there = open_part g.reader g.moves cue held_cue.0
          (subst (λ (o : Open). IsOpen (with_open o g.moves g.reader.show) g.reader.section g.reader.part) is pass.ready.open_section);
    }

    pub said_in_cue : (new : Cue) (q : ℕ) (line : List ℕ) (word : Word) (rest : List (List ℕ)) (result : Result Bool TextFault)
        → CueSays (cue_entry (facts_at i) line word rest) cue new g.reader.part q result
        → Said (settled g) (opened (record g.reader { part = q }) (open_records.Cue new) g.moves) i result
        (inner_entry g.reader.section (facts_of (settled g) i) line word rest)
    said_in_cue new q line word rest result says =
        let t : ReadingState = state_of (opened g.reader (open_records.Cue cue) g.moves) in
        rw is (subst (Said (opened g.reader (open_records.Cue cue) g.moves) (opened (record g.reader { part = q })
        (open_records.Cue new) g.moves) i result)
        (sym (ap (λ s. inner_entry s (facts_in t i) line word rest) held_cue.0 ∙ cue_at t i line word rest))
        (cue_said_by g.reader g.moves cue new q i result (cue_entry (facts_at i) line word rest) held_cue.0 pass.ready.going says))

    pub fits_in_cue : (new : Cue) (q : ℕ) (result : Result Bool TextFault) (x : Result Entry TextFault)
        → CueSays x cue new g.reader.part q result → OnOk result ((g.reader.section ≡ InCue new.number) × CueFits g.reader.show g.moves new)
    fits_in_cue new q (Ok true) (Err fault) says = absurd says
    fits_in_cue new q (Ok true) (Ok e) says = (
      held_cue.0 ∙ ap (λ (c : Cue). InCue c.number) (sym says.cue),
      own_fits g.reader.show g.moves cue new g.reader.part q e held_cue.1 says,
    )
    fits_in_cue new q (Ok false) x says =
        subst (λ (c : Cue). (g.reader.section ≡ InCue c.number) × CueFits g.reader.show g.moves c) (sym says.1.0) held_cue
    fits_in_cue new q (Err fault) x says = tt

  -- A group or submaster, as it is seen and as it is.
  module _ (make : MemberSet → Open) (section : ℕ → Section) {set seen : MemberSet} (label : List ℕ) (is : g.held ≡ make set)
      (view : seen ≡ set)
      (inside : g.reader.section ≡ section set.number) where
    pub said_in_set : (line : List ℕ) (word : Word) (rest : List (List ℕ)) (b : Bool)
        → ((facts : Facts) → inner_entry (section set.number) facts line word rest ≡ members_entry facts line word rest)
        → IsStep (opened g.reader (make set) g.moves) (opened g.reader (make (relabelled label set)) g.moves) i (IsLabelled label)
        → LabelSays (members_entry (facts_at i) line word rest) seen.label label b
        → Said (settled g) (opened g.reader (make (relabelled label seen)) g.moves) i (Ok b)
        (inner_entry g.reader.section (facts_of (settled g) i) line word rest)
    said_in_set line word rest b members took says =
        let t : ReadingState = state_of (opened g.reader (make set) g.moves) in
        let now : MemberSet → Reader = λ s. opened g.reader (make (relabelled label s)) g.moves in
        subst (λ (o : Open). Said (opened g.reader o g.moves) (now seen) i (Ok b)
        (inner_entry g.reader.section (facts_of (opened g.reader o g.moves) i) line word rest)) (sym is)
        (subst (λ (s : MemberSet). Said (opened g.reader (make set) g.moves) (now s) i (Ok b)
        (inner_entry g.reader.section (facts_in t i) line word rest)) (sym view)
        (subst (Said (opened g.reader (make set) g.moves) (now set) i (Ok b))
        (sym (ap (λ s. inner_entry s (facts_in t i) line word rest) inside ∙ members (facts_in t i) ∙ members_at t i line word rest))
        (set_said make g.reader g.moves set label i b (members_entry (facts_at i) line word rest) took
        (subst (λ (s : MemberSet). LabelSays (members_entry (facts_at i) line word rest) s.label label b) view says))))

    pub fits_in_set : (limit : ℕ) (b : Bool) (x : Result Entry TextFault) → SetFits limit g.reader.show g.moves set
        → LabelSays x seen.label label b
        → (g.reader.section ≡ section seen.number) × SetFits limit g.reader.show g.moves (relabelled label seen)
    fits_in_set limit b x fits says = rw view (inside, label_fits limit g.reader.show g.moves set label b x fits (rw view at says))
