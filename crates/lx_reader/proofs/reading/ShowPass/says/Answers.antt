use Rattle.lx_reader.proofs.Imports.{subst, GROUPS, SUBS, InGroup, InSub, left, cue_entry, members_entry, facts_at, refl, OpenFits}
use Rattle.lx_reader.specs.declared.open_record.Open.TheVariants as open_records
use Rattle.lx_reader.proofs.OpenSteps.{fits_in_cue, fits_in_set, group_step, parts_open, said_in_cue, said_in_set, sub_step}
use Rattle.lx_reader.proofs.reading.ShowPass.says.Goals as goal

pub line_of_cue-requires-clause-parts : goal.line_of_cue-requires-clause-parts
line_of_cue-requires-clause-parts c = parts_open c.requires.pass c.in-Cue.is

pub returns-in-Cue-clause-said : goal.returns-in-Cue-clause-said
returns-in-Cue-clause-said c = said_in_cue c.requires.pass c.in-Cue.is c.line_of_cue.new.cue c.line_of_cue.new.part c.args.line.now
    c.args.word
    (left c.args.tokens) c.line_of_cue.result c.line_of_cue.ensures

pub returns-in-Cue-clause-fits : goal.returns-in-Cue-clause-fits
returns-in-Cue-clause-fits c = fits_in_cue c.requires.pass c.in-Cue.is c.line_of_cue.new.cue c.line_of_cue.new.part c.line_of_cue.result
    (cue_entry (facts_at c.args.i) c.args.line.now c.args.word (left c.args.tokens)) c.line_of_cue.ensures

pub returns-in-Group-clause-said : goal.returns-in-Group-clause-said
returns-in-Group-clause-said c =
    let g = c.args.self.now in
    let inside = (subst (OpenFits g.reader.show g.reader.section g.moves) c.in-Group.is c.requires.pass.fits).0 in
    said_in_set c.requires.pass open_records.Group InGroup c.line_of_set.new.old c.in-Group.is c.group.view_is inside c.args.line.now
    c.args.word
    (left c.args.tokens) c.line_of_set.result (λ facts. refl)
    (group_step g.reader g.moves c.in-Group.group inside c.requires.pass.ready.going)
    (c.line_of_set.ensures c.args.i (left c.args.tokens))

pub returns-in-Group-clause-fits : goal.returns-in-Group-clause-fits
returns-in-Group-clause-fits c =
    let g = c.args.self.now in
    let held = subst (OpenFits g.reader.show g.reader.section g.moves) c.in-Group.is c.requires.pass.fits in
    fits_in_set c.requires.pass open_records.Group InGroup c.line_of_set.new.old c.in-Group.is c.group.view_is held.0 GROUPS
    c.line_of_set.result
    (members_entry (facts_at c.args.i) c.args.line.now c.args.word (left c.args.tokens)) held.1 (c.line_of_set.ensures c.args.i
    (left c.args.tokens))

pub returns-in-Sub-clause-said : goal.returns-in-Sub-clause-said
returns-in-Sub-clause-said c =
    let g = c.args.self.now in
    let inside = (subst (OpenFits g.reader.show g.reader.section g.moves) c.in-Sub.is c.requires.pass.fits).0 in
    said_in_set c.requires.pass open_records.Sub InSub c.line_of_set-in-Sub.new.old c.in-Sub.is c.sub.view_is inside c.args.line.now
    c.args.word
    (left c.args.tokens) c.line_of_set-in-Sub.result (λ facts. refl)
    (sub_step g.reader g.moves c.in-Sub.sub inside c.requires.pass.ready.going)
    (c.line_of_set-in-Sub.ensures c.args.i (left c.args.tokens))

pub returns-in-Sub-clause-fits : goal.returns-in-Sub-clause-fits
returns-in-Sub-clause-fits c =
    let g = c.args.self.now in
    let held = subst (OpenFits g.reader.show g.reader.section g.moves) c.in-Sub.is c.requires.pass.fits in
    fits_in_set c.requires.pass open_records.Sub InSub c.line_of_set-in-Sub.new.old c.in-Sub.is c.sub.view_is held.0 SUBS
    c.line_of_set-in-Sub.result
    (members_entry (facts_at c.args.i) c.args.line.now c.args.word (left c.args.tokens)) held.1 (c.line_of_set-in-Sub.ensures c.args.i
    (left c.args.tokens))
