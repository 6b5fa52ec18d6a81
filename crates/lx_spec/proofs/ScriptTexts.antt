-- Whole inputs of the examples: a show's lines and a script's lines, and the text that is written for them.
use Rattle.lx_spec.proofs.Imports.{◌≡◌, ℕ, ◌==◌, List, [], ◌∷◌, ◌++◌, map, codes, if◌then◌else◌, Moves, Render, script_output}

-- the lines that stand between bars
abbrev pub barred : List ℕ → List ℕ
barred row = map (λ b. if b == 124 then 10 else b) row ++ 10 ∷ []

-- what is written for the script over the show whose dimmer 1 follows channel 1, each as lines between bars
abbrev pub played_barred : List ℕ → List ℕ → List ℕ
played_barred lines script = script_output Render Moves (barred (codes "IDENT 3:0|PATCH 1 1<1@FL|" ++ lines ++ codes "|ENDDATA|" ++ script)) []

-- Examples in rows: a show's lines, a script's lines, and what is to be written for both, each as lines between bars.
pub record Row : Type 0 where
  pub show : List ℕ
  pub script : List ℕ
  pub answer : List ℕ

abbrev pub row : List ℕ → List ℕ → List ℕ → Row
row show script answer = record { show = show; script = script; answer = answer }

-- the function writes each row's answer
abbrev pub AllGiven : (List ℕ → List ℕ → List ℕ) → List Row → Type 0
AllGiven written rows = map (λ r. written r.show r.script) rows ≡ map (λ r. barred r.answer) rows

abbrev pub AllPlayed : List Row → Type 0
AllPlayed rows = AllGiven played_barred rows
