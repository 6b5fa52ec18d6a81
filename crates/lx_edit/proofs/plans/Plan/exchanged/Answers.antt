use Rattle.lx_edit.proofs.Imports.{ap, List, MemberSet, ValidGroup, ValidSub, ValidPatchRow, IsReady}
use Rattle.lx_spec.specs.declared.PatchRow.{PatchRow}
use Rattle.lx_edit.specs.declared.plans.Plan.TheVariants as plans
use Rattle.lx_edit.proofs.TakenBack.{goes_back}
use Rattle.lx_edit.proofs.plans.Plan.exchanged.Goals as goal

pub returns-in-Group-clause-undo : goal.returns-in-Group-clause-undo
returns-in-Group-clause-undo c =
    let show = c.args.show.now in
    let call = c.exchange_group.ensures in
    let ready : IsReady show (plans.Group c.in-Group.number c.in-Group.to) = rw c.in-Group.is at c.requires.ready in
    let entry = goes_back (λ (x : MemberSet). x.number) (ValidGroup show.channels) c.in-Group.number c.in-Group.to show.groups
    call.before.groups call.before.groups_sorted ready.0 in
    rw (call.show, call.replaced) (record { ready = entry.ready; back = ap (λ (xs : List MemberSet). record show { groups = xs }) entry.back })

pub returns-in-Sub-clause-undo : goal.returns-in-Sub-clause-undo
returns-in-Sub-clause-undo c =
    let show = c.args.show.now in
    let call = c.exchange_sub.ensures in
    let ready : IsReady show (plans.Sub c.in-Sub.number c.in-Sub.to) = rw c.in-Sub.is at c.requires.ready in
    let entry = goes_back (λ (x : MemberSet). x.number) (ValidSub show.channels) c.in-Sub.number c.in-Sub.to show.subs
    call.before.subs call.before.subs_sorted ready.0 in
    rw (call.show, call.replaced) (record { ready = entry.ready; back = ap (λ (xs : List MemberSet). record show { subs = xs }) entry.back })

pub returns-in-Row-clause-undo : goal.returns-in-Row-clause-undo
returns-in-Row-clause-undo c =
    let show = c.args.show.now in
    let call = c.exchange_patch.ensures in
    let ready : IsReady show (plans.Row c.in-Row.dimmer c.in-Row.to) = rw c.in-Row.is at c.requires.ready in
    let entry = goes_back (λ (x : PatchRow). x.dimmer) (ValidPatchRow show.channels) c.in-Row.dimmer c.in-Row.to show.patch
    call.before.patch call.before.patch_sorted ready.0 in
    rw (call.show, call.replaced) (record { ready = entry.ready; back = ap (λ (xs : List PatchRow). record show { patch = xs }) entry.back })
