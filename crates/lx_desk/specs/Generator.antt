-- The numbers that are drawn for `make`, each from the one before, and the texts that are made of them.
use Rattle.std.specs.Prelude.{ℕ, ◌+◌, ◌*◌, ◌/◌, ◌%◌, List, [], ◌∷◌, ◌++◌, flat_map, codes, decimal}
use Rattle.std.specs.List.{range_with_len}
use Rattle.lx_spec.specs.ShowText.{line}
use Rattle.lx_spec.specs.MakeOutput.{made_patch, made_cue}
use Rattle.lx_desk.specs.declared.draws.Setting.{Setting}
use Rattle.lx_desk.specs.declared.draws.DrawnCue.{DrawnCue}
use Rattle.lx_desk.specs.declared.draws.DrawnTurn.{DrawnTurn}

-- the number after a draw
unfoldable pub after_draw : ℕ → ℕ
after_draw x = (1103515245 * x + 12345) % 2147483648

-- a channel and a percentage, by two draws
abbrev pub after_setting : ℕ → ℕ
after_setting x = after_draw (after_draw x)

abbrev pub setting_from : ℕ → Setting
setting_from x = record { channel = 1 + after_draw x / 65536 % 512; percent = after_setting x / 65536 % 101 }

-- a cue, by nine
abbrev pub after_cue : ℕ → ℕ
after_cue x = after_setting (after_setting (after_setting (after_setting (after_draw x))))

abbrev pub drawn_cue : ℕ → DrawnCue
drawn_cue x =
    let a = after_draw x in
    let b = after_setting a in
    let c = after_setting b in
    record { up = a / 65536 % 10; settings = setting_from a ∷ setting_from b ∷ setting_from c ∷ setting_from (after_setting c) ∷ [] }

-- a turn of the script, by three
abbrev pub after_turn : ℕ → ℕ
after_turn x = after_setting (after_draw x)

abbrev pub turn_from : ℕ → DrawnTurn
turn_from x = record { ticks = 1 + after_draw x / 65536 % 100; setting = setting_from (after_draw x) }

-- PATCH 1 c<d@100
abbrev pub patched_text : ℕ → ℕ → List ℕ
patched_text c d = line (codes "PATCH" ∷ codes "1" ∷ (decimal c ++ 60 ∷ decimal d ++ 64 ∷ codes "100") ∷ [])

-- CHAN c@p
abbrev pub chan_text : Setting → List ℕ
chan_text s = line (codes "CHAN" ∷ (decimal s.channel ++ 64 ∷ decimal s.percent) ∷ [])

abbrev pub cue_head : ℕ → ℕ → List ℕ
cue_head k up = line (codes "CUE" ∷ decimal k ∷ []) ++ line (codes "UP" ∷ decimal up ∷ [])

abbrev pub drawn_cue_text : ℕ → DrawnCue → List ℕ
drawn_cue_text k cue = cue_head k cue.up ++ flat_map chan_text cue.settings

-- set k chan c at p
abbrev pub set_text : ℕ → Setting → List ℕ
set_text k s = codes "set " ++ decimal k ++ (codes " chan " ++ decimal s.channel) ++ (codes " at " ++ decimal s.percent ++ 10 ∷ [])

abbrev pub go_text : ℕ → List ℕ
go_text ticks = line (codes "go" ∷ []) ++ line (codes "tick" ∷ decimal ticks ∷ [])

abbrev pub turn_text : ℕ → DrawnTurn → List ℕ
turn_text k turn = go_text turn.ticks ++ set_text k turn.setting ++ line (codes "frame" ∷ [])

-- the show of this many cues
abbrev pub made_show : ℕ → List ℕ
made_show n =
    line (codes "IDENT" ∷ codes "3:0" ∷ []) ++ flat_map made_patch (range_with_len 1 512) ++ flat_map (made_cue n) (range_with_len 1 n)
    ++ line (codes "ENDDATA" ∷ [])
