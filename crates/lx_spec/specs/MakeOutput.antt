-- What the job `make N` writes: five lines about a session over an input that is made of the number.
use Rattle.std.specs.Prelude.{ℕ, zero, suc, ◌+◌, ◌-◌, ◌*◌, ◌/◌, ◌%◌, Option, List, [], ◌∷◌, ◌++◌, sum, flat_map, codes, decimal}
use Rattle.std.specs.List.{range_with_len}
use Rattle.lx_spec.specs.declared.Form.TheVariants.{Moves}
use Rattle.lx_spec.specs.declared.ScriptKind.TheVariants.{Render}
use Rattle.lx_spec.specs.Output.{frame}
use Rattle.lx_spec.specs.Reading.{reads}
use Rattle.lx_spec.specs.ShowText.{line}
use Rattle.lx_spec.specs.Session.{Session}
use Rattle.lx_spec.specs.DeskSession.{DeskState}
use Rattle.lx_spec.specs.FaultLine.{over_show}
use Rattle.lx_spec.specs.ScriptOutput.{script_session}

-- The generator: its number after i draws, and the i-th draw below k.
abbrev pub drawn_from : ℕ → ℕ → ℕ
drawn_from seed zero = seed
drawn_from seed (suc i) = (1103515245 * drawn_from seed i + 12345) % 2147483648

abbrev pub draw : ℕ → ℕ → ℕ → ℕ
draw seed i k = drawn_from seed i / 65536 % k

-- CHAN c@p, from draws i and i + 1
abbrev pub chan_line : ℕ → ℕ → List ℕ
chan_line seed i = line (codes "CHAN" ∷ (decimal (1 + draw seed i 512) ++ 64 ∷ decimal (draw seed (i + 1) 101)) ∷ [])

-- cue k takes nine draws
abbrev pub made_cue : ℕ → ℕ → List ℕ
made_cue seed k =
    let i = 9 * (k - 1) + 1 in
    line (codes "CUE" ∷ decimal k ∷ []) ++ line (codes "UP" ∷ decimal (draw seed i 10) ∷ [])
    ++ chan_line seed (i + 1) ++ chan_line seed (i + 3) ++ chan_line seed (i + 5) ++ chan_line seed (i + 7)

abbrev pub made_patch : ℕ → List ℕ
made_patch i = line (codes "PATCH" ∷ codes "1" ∷ (decimal i ++ 60 ∷ decimal i ++ 64 ∷ codes "100") ∷ [])

-- turn k of the script takes three draws, after those of the cues
abbrev pub made_turn : ℕ → ℕ → List ℕ
made_turn seed k =
    let i = 9 * seed + 3 * (k - 1) + 1 in
    line (codes "go" ∷ []) ++ line (codes "tick" ∷ decimal (1 + draw seed i 100) ∷ [])
    ++ line (codes "set" ∷ decimal k ∷ codes "chan" ∷ decimal (1 + draw seed (i + 1) 512)
    ∷ codes "at" ∷ decimal (draw seed (i + 2) 101) ∷ [])
    ++ line (codes "frame" ∷ [])

-- the input that is made of a number
abbrev pub made_input : ℕ → List ℕ
made_input n =
    line (codes "IDENT" ∷ codes "3:0" ∷ []) ++ flat_map made_patch (range_with_len 1 512) ++ flat_map (made_cue n) (range_with_len 1 n)
    ++ line (codes "ENDDATA" ∷ [])
    ++ flat_map (made_turn n) (range_with_len 1 n) ++ line (codes "quit" ∷ [])

-- the five lines about the session of that input
abbrev pub made_text : ℕ → Session DeskState → List ℕ
made_text n s =
    line (codes "cues" ∷ decimal n ∷ []) ++ line (codes "moment" ∷ decimal s.state.desk.playback.moment ∷ [])
    ++ line (codes "ok" ∷ decimal s.counts.ok ∷ []) ++ line (codes "refused" ∷ decimal s.counts.refused ∷ [])
    ++ line (codes "sum" ∷ decimal (sum (frame s.state.desk 1)) ∷ [])

abbrev pub make_output : ℕ → List (Option ℕ) → List ℕ
make_output n failures = over_show (reads Moves (made_input n)) (λ reading. made_text n (script_session Render (made_input n) failures reading))
