-- The block reaches over the cues' own rows, whatever comes or goes, and what it grows by is at 0.
use Rattle.lx_sheet.proofs.Imports.{◌≡◌, ℕ, ◌+◌, ◌-◌, ◌*◌, ◌<◌, ◌≤◌, List, ◌++◌, length, get_or, refl, ◌∙◌, sym, inl, inr, arith, replicate, cases_lt}
use Rattle.lx_sheet.proofs.Imports.{length-map, length-replicate, get_or-replicate, get_or-append_right, get_or_append_left, get_or_past, Place}
use Rattle.lx_sheet.proofs.Imports.{IsBlock, cell, row_at_place, width}
use Rattle.lx_sheet.proofs.Cells.{cell_same}

-- over the row at a place
pub covered_at : {channels : ℕ} {levels : List ℕ} {order : List Place} (k : ℕ) → IsBlock channels levels order → k < length order
    → (row_at_place order k + 1) * width channels ≤ length levels
covered_at {order = order} k block within = block.covered k 0 (omega (arith, length-map order (λ (p : Place). p.row)))

-- what isn't there reads as 0, and so does what is new
pub grown : (levels : List ℕ) (n i : ℕ) → get_or (levels ++ replicate n 0) i 0 ≡ get_or levels i 0
grown levels n i =
    elim (cases_lt i (length levels)) [
      | inl within ↦ get_or_append_left levels (replicate n 0) 0 i within
      | inr past ↦
          let new : get_or (replicate n 0) (i - length levels) 0 ≡ 0 = elim (cases_lt (i - length levels) n) [
            | inl less ↦ get_or-replicate n (i - length levels) 0 0 less
            | inr more ↦ get_or_past (replicate n 0) (i - length levels) 0 (omega (arith, length-replicate {A = ℕ} n 0, more))
          ] in
          get_or-append_right levels (replicate n 0) (length levels) i 0 refl past ∙ new ∙ sym (get_or_past levels i 0 past)
    ]

pub cell_grown : (channels : ℕ) (levels : List ℕ) (n r c : ℕ) → cell channels (levels ++ replicate n 0) r c ≡ cell channels levels r c
cell_grown channels levels n r c = cell_same channels _ levels r c (λ _ _. grown levels n (r * width channels + (c - 1)))
