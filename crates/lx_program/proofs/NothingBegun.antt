-- What holds of a live run and of a crew that were not begun, since memory ran out or the words name none.
use Rattle.std.proofs.Common.{◌⊎◌, ◌≢◌, inr, IsSome}
use Rattle.lx_program.proofs.Imports.{◌≡◌, ◌∙◌, Option, None, Some, List, ℕ, refl, sym, inl, Form, Job, Script, Crew, Live, unwritten}
use Rattle.lx_base.specs.Places.{EachAt}
use Rattle.lx_desk.specs.declared.desk.Status.{Status}
use Rattle.lx_program.specs.NamedJob.{NamesNoCrew, NamesNoRun}
use Rattle.lx_desk.specs.declared.desk.Status.TheVariants as status
use Rattle.lx_desk.specs.Live.{LiveMemory, HasLived, KeepsOutlets}
use Rattle.lx_desk.specs.Crew.{HasCrewEnded, KeepsOperators}
use Rattle.lx_io.specs.Told.{ToldBySink, ToldBySource}

pub none_lived : {K : Type 0} (known : LiveMemory) (told : ToldBySink K) (universes : ℕ) (form : Form)
    (bytes : List ℕ) (left held : Option (List ℕ)) (outlets : List (Option K))
    → HasLived known status.Memory told universes form bytes left held held outlets outlets
none_lived known told universes form bytes left held outlets =
    (unwritten None (Script (Live universes) form) bytes held, inl (refl, λ read. refl))

pub none_served : {S : Type 0} (most : Option ℕ) (told : ToldBySource S) (count : ℕ) (form : Form) (bytes : List ℕ)
    (left held : Option (List ℕ)) (operators : List (Option S))
    → HasCrewEnded most told count form bytes left operators operators held held status.Memory
none_served most told count form bytes left held operators = inl (record {
  isnt_ok = λ odd. cc;
  isnt_live = λ odd. cc;
  ended = unwritten None (Crew count form) bytes held;
  untouched = refl;
})

isnt : (s other : Status) → (s ≡ status.Usage) ⊎ (s ≡ status.Memory) → status.Usage ≢ other → status.Memory ≢ other → s ≢ other
isnt s other which first second is = elim which [ inl usage ↦ first (sym usage ∙ is) | inr memory ↦ second (sym memory ∙ is) ]

-- Each outlet is as it was, and each operator's source.
pub keeps_outlets : {I O K : Type 0} (told : ToldBySink K) (o : Option Job) (s : Status) (input : I) (output : O) (outlets : List (Option K))
    → (s ≡ status.Usage) ⊎ (s ≡ status.Memory) → (s ≡ status.Usage → NamesNoRun o)
    → KeepsOutlets told o s input input output output outlets outlets
keeps_outlets told (Some (Script (Live universes) form)) s input output outlets which none =
    (none, inl refl, isnt s status.Live which (λ e. cc) (λ e. cc), λ ok place start within at. absurd (isnt s status.Ok which (λ e. cc) (λ e. cc) ok))
keeps_outlets told o s input output outlets which none = (which, (refl, (refl, refl)))

pub keeps_operators : {I O S : Type 0} (o : Option Job) (s : Status) (input : I) (output : O) (operators : List (Option S))
    → (s ≡ status.Usage) ⊎ (s ≡ status.Memory) → (s ≡ status.Usage → NamesNoCrew o) → EachAt (λ place source. IsSome source) operators
    → KeepsOperators o s input input output output operators operators
keeps_operators (Some (Crew count form)) s input output operators which none full =
    (none, isnt s status.Live which (λ e. cc) (λ e. cc), record { same_places = refl; full = full; others = refl })
keeps_operators o s input output operators which none full = (which, (refl, (refl, refl)))
