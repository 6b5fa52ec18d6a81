use Rattle.lx_writer.proofs.Imports.{List, [], ◌∷◌, ◌++◌, ap, flat_map, codes, decimal, Puts-then, Puts-stops, Puts-fails, Puts-is, PatchRow, line}
use Rattle.lx_writer.proofs.Imports.{patch_text, group_text, sub_text, cue_text}
use Rattle.lx_spec.specs.Show.{Cue, Group, Sub}
use Rattle.lx_writer.proofs.show.write_show.Goals as goal

pub returns-in_err-put_head-clause-text : goal.returns-in_err-put_head-clause-text
returns-in_err-put_head-clause-text g c =
    Puts-stops _ (Puts-fails {U = Unit {0}} _
    (Puts-fails {U = Unit {0}} _ (Puts-fails {U = Unit {0}} _
    (Puts-fails {U = Unit {0}} _ (Puts-is c.in_err-put_head.ensures
    (ap (λ n. line (codes "IDENT" ∷ codes "3:0" ∷ []) ++ line (codes "SET" ∷ codes "CHANNELS" ∷ decimal n ∷ []))
    c.channels.ensures.channels))))))
    c.from_residual.ensures

pub returns-in_err-write_each-clause-text : goal.returns-in_err-write_each-clause-text
returns-in_err-write_each-clause-text g c =
    Puts-stops _ (Puts-fails {U = Unit {0}} _
    (Puts-fails {U = Unit {0}} _ (Puts-fails {U = Unit {0}} _
    (Puts-then (Puts-is c.in_ok-put_head.ensures
    (ap (λ n. line (codes "IDENT" ∷ codes "3:0" ∷ []) ++ line (codes "SET" ∷ codes "CHANNELS" ∷ decimal n ∷ []))
    c.channels.ensures.channels))
    (Puts-is c.in_err-write_each.ensures (ap (λ (rows : List PatchRow). flat_map patch_text rows) c.patch.ensures.patch))))))
    c.from_residual-in_err-write_each.ensures

pub returns-in_err-write_each-2-clause-text : goal.returns-in_err-write_each-2-clause-text
returns-in_err-write_each-2-clause-text g c =
    Puts-stops _ (Puts-fails {U = Unit {0}} _
    (Puts-fails {U = Unit {0}} _ (Puts-then (Puts-then
    (Puts-is c.in_ok-put_head.ensures (ap (λ n. line (codes "IDENT" ∷ codes "3:0" ∷ []) ++ line
    (codes "SET" ∷ codes "CHANNELS" ∷ decimal n ∷ [])) c.channels.ensures.channels))
    (Puts-is c.in_ok-write_each.ensures (ap (λ (rows : List PatchRow). flat_map patch_text rows) c.patch.ensures.patch)))
    (Puts-is c.in_err-write_each-2.ensures (ap (λ (groups : List Group). flat_map group_text groups) c.groups.ensures.groups)))))
    c.from_residual-in_err-write_each-2.ensures

pub returns-in_err-write_each-3-clause-text : goal.returns-in_err-write_each-3-clause-text
returns-in_err-write_each-3-clause-text g c =
    Puts-stops _ (Puts-fails {U = Unit {0}} _
    (Puts-then (Puts-then (Puts-then (Puts-is c.in_ok-put_head.ensures
    (ap (λ n. line (codes "IDENT" ∷ codes "3:0" ∷ []) ++ line (codes "SET" ∷ codes "CHANNELS" ∷ decimal n ∷ []))
    c.channels.ensures.channels))
    (Puts-is c.in_ok-write_each.ensures (ap (λ (rows : List PatchRow). flat_map patch_text rows) c.patch.ensures.patch)))
    (Puts-is c.in_ok-write_each-2.ensures (ap (λ (groups : List Group). flat_map group_text groups) c.groups.ensures.groups)))
    (Puts-is c.in_err-write_each-3.ensures (ap (λ (subs : List Sub). flat_map sub_text subs) c.subs.ensures.subs))))
    c.from_residual-in_err-write_each-3.ensures

pub returns-in_err-write_each-4-clause-text : goal.returns-in_err-write_each-4-clause-text
returns-in_err-write_each-4-clause-text g c =
    Puts-stops _ (Puts-then (Puts-then (Puts-then
    (Puts-then (Puts-is c.in_ok-put_head.ensures
    (ap (λ n. line (codes "IDENT" ∷ codes "3:0" ∷ []) ++ line (codes "SET" ∷ codes "CHANNELS" ∷ decimal n ∷ []))
    c.channels.ensures.channels))
    (Puts-is c.in_ok-write_each.ensures (ap (λ (rows : List PatchRow). flat_map patch_text rows) c.patch.ensures.patch)))
    (Puts-is c.in_ok-write_each-2.ensures (ap (λ (groups : List Group). flat_map group_text groups) c.groups.ensures.groups)))
    (Puts-is c.in_ok-write_each-3.ensures (ap (λ (subs : List Sub). flat_map sub_text subs) c.subs.ensures.subs)))
    (Puts-is c.in_err-write_each-4.ensures (ap (λ (cues : List Cue). flat_map cue_text cues) c.cues.ensures.cues)))
    c.from_residual-in_err-write_each-4.ensures

pub returns-clause-text : goal.returns-clause-text
returns-clause-text g c =
    Puts-then (Puts-then (Puts-then (Puts-then
    (Puts-then (Puts-is c.in_ok-put_head.ensures
    (ap (λ n. line (codes "IDENT" ∷ codes "3:0" ∷ []) ++ line (codes "SET" ∷ codes "CHANNELS" ∷ decimal n ∷ []))
    c.channels.ensures.channels))
    (Puts-is c.in_ok-write_each.ensures (ap (λ (rows : List PatchRow). flat_map patch_text rows) c.patch.ensures.patch)))
    (Puts-is c.in_ok-write_each-2.ensures (ap (λ (groups : List Group). flat_map group_text groups) c.groups.ensures.groups)))
    (Puts-is c.in_ok-write_each-3.ensures (ap (λ (subs : List Sub). flat_map sub_text subs) c.subs.ensures.subs)))
    (Puts-is c.in_ok-write_each-4.ensures (ap (λ (cues : List Cue). flat_map cue_text cues) c.cues.ensures.cues)))
    c.put_all.ensures
