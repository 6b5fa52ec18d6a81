use Rattle.lx_show.proofs.Imports.{arith}
use Rattle.lx_show.proofs.StoredShows.{few_kept}
use Rattle.lx_show.proofs.show.Show.copy_in.Goals as goal

pub copy_in_room-requires-2 : goal.copy_in_room-requires-2
copy_in_room-requires-2 g c =
    let valid = c.self.invariant.valid in
    omega (arith, few_kept _ (λ x h. h.number) valid.groups valid.groups_sorted, c.as_slice-2.ensures.len)

pub copy_in_room-requires-3 : goal.copy_in_room-requires-3
copy_in_room-requires-3 g c =
    let valid = c.self.invariant.valid in
    omega (arith, few_kept _ (λ x h. h.number) valid.subs valid.subs_sorted, c.as_slice-3.ensures.len)

pub copy_in_room-requires-4 : goal.copy_in_room-requires-4
copy_in_room-requires-4 g c =
    let valid = c.self.invariant.valid in
    omega (arith, few_kept _ (λ x h. h.dimmer) valid.patch valid.patch_sorted, c.as_slice-4.ensures.len)
