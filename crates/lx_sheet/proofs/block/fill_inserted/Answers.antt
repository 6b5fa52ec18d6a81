use Rattle.lx_sheet.proofs.Imports.{◌≡◌, ◌≢◌, ◌+◌, ◌<◌, ℕ, Bool, cond, List, length, take, ap, sym, ◌∙◌, inl, inr, arith, cases_eq, Cue, level_in}
use Rattle.lx_sheet.proofs.Imports.{Place, cue_level, row_at_place, level_after}
use Rattle.lx_sheet.proofs.BlockReach.{covered_at}
use Rattle.lx_sheet.proofs.LevelsAfter.{level_after-take}
use Rattle.lx_sheet.proofs.RightRows.{right_on}
use Rattle.lx_sheet.proofs.RowPool.{rows_differ}
use Rattle.lx_sheet.proofs.block.fill_inserted.Goals as goal

pub returns-then-decides_none : goal.returns-then-decides_none
returns-then-decides_none c = λ passed.
    let n : ℕ = length c.args.look.now in
    let order : List Place = c.args.order.now in
    let cues : List Cue = c.args.cues.now in
    let levels : List ℕ = c.args.levels.now in
    let filled : List ℕ = c.write_row.new.levels in
    let at : ℕ = c.args.at in
    let there : at < length order = omega (arith, c.requires.at, c.requires.places.places) in
    let here = rw (c.recall.auto.look, c.own_row.ensures.row) at c.write_row.ensures.here in
    let others : (k x : ℕ) → k ≢ at → k < length order → cue_level n order filled k x ≡ cue_level n order levels k x = λ k x other within.
    (rw (c.recall.auto.look, c.own_row.ensures.row) at c.write_row.ensures.others) (row_at_place order k) x
    (rows_differ k at c.requires.places.block within there other) in
    let idle : (x : ℕ) → level_after (take (at + 1) cues) x ≡ level_after (take at cues) x = λ x.
    level_after-take cues at c.index-cues-at.result x c.requires.at c.index-cues-at.is
    ∙ ap (λ (b : Bool). cond b (level_in c.index-cues-at.result x) (level_after (take at cues) x))
    (c.decides_none.ensures c.if-decides_none.true x) in
    record {
      front = λ k x less within. others k x (λ e. omega arith) within;
      rows = λ start follows k chan least within. elim (cases_eq k at) [
        | inl e ↦ rw e (here chan ∙ c.recall.ensures chan ∙ start chan ∙ sym (idle chan))
        | inr apart ↦ others k chan apart (omega (arith, c.requires.places.places))
            ∙ right_on n order cues levels (at + 1) (at + 1) chan follows (omega arith) (passed idle chan (omega arith)) k (omega arith)
            within
      ];
    }

pub write_row-requires-clause-room : goal.write_row-requires-clause-room
write_row-requires-clause-room c =
    rw (c.recall.auto.look, c.own_row.ensures.row) (covered_at c.args.at c.requires.places.block
    (omega (arith, c.requires.at, c.requires.places.places)))

pub fill_rows-requires : goal.fill_rows-requires
fill_rows-requires c = record { places = rw c.recall.auto.look c.requires.places }
