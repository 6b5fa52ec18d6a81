-- The marks of rows: by their places in the order, and by the numbers of the cues.
use Rattle.lx_sheet.proofs.Imports.{◌≡◌, ◌≢◌, ℕ, zero, suc, ◌+◌, ◌*◌, ◌/◌, ◌<◌, ◌≤◌, Bool, true, List, ◌∷◌, HoldsRows, Valid, HasPlaces, Sheet}
use Rattle.lx_sheet.proofs.Imports.{IsOrder, insert, remove, length-map, own_rows, IsPermutation-insert, IsPermutation-remove, All-permutation}
use Rattle.lx_sheet.proofs.Imports.{length, get_or, map, max, Some, None, refl, ◌∙◌, sym, ap, subst, inl, inr, arith, Option, IfSome, ◌==◌, slice_get}
use Rattle.lx_sheet.proofs.Imports.{slice_index_or, option_map_or, range_with_len, mul-le-mul_right, cases_lt, get_or_default, get_or-map}
use Rattle.lx_sheet.proofs.Imports.{get_or_past, All-from_recursion, get_or-map-range_with_len, length-map-range_with_len, slice_get-get_or}
use Rattle.lx_sheet.proofs.Imports.{slice_get_within, get_or_from_slice_get, IsStrictlySorted, entry_at, Cue, InRange, Show, ValidCue, cue_of}
use Rattle.lx_sheet.proofs.Imports.{decides, each, find_mapped, map_or_mapped, StandsAt, stands_where, Marks, Place, CueMarks, AreMarked, marks_of}
use Rattle.lx_sheet.proofs.Imports.{row_at_place, width, IsGrown, IsMarkTable, IsMarkedFor, IsReached, Tells, has_mark, MovesWithin, IsRight}
use Rattle.lx_sheet.proofs.Imports.{IsMarked, HoldsMarks, IsBlock, cell, cue_numbers, IsMarkedAt, RowsStandFor}
use Rattle.std.proofs.lemmas.List.Elements.{All-cons}
use Rattle.lx_sheet.specs.Rows.{marked_by}
use Rattle.lx_sheet.proofs.BlockReach.{covered_at}
use Rattle.lx_sheet.proofs.Found.{at_entry, stands_number}
use Rattle.lx_sheet.proofs.RightRows.{IsOrderOf, column_right, order_length, order_of, right_at}
use Rattle.lx_sheet.proofs.RowPool.{own-insert, own-remove, own_apart, row_is, rows_differ}
use Rattle.lx_sheet.proofs.Rows.{numbers-rows_of, sheet_of}

-- the moves of a valid cue
pub moves_within : (channels n : ℕ) (cue : Cue) → channels ≤ n → ValidCue channels cue → MovesWithin n cue
moves_within channels n cue more valid = record {
  each = All-from_recursion (λ m. InRange n m.chan) cue.moves (each _ (λ m. InRange n m.chan) cue.moves
      (λ m h. record { least = h.chan.least; most = omega (arith, h.chan.most, more) }) valid.moves);
  sorted = valid.moves_sorted;
}

-- a table that grew is one still, and reaches as far
table_grown : {channels : ℕ} {old new : Marks} → IsGrown old new → IsMarkTable channels old → IsMarkTable channels new
table_grown grown table = record {
  few = omega (arith, grown.groups, table.few);
  groups = omega (arith, grown.groups, table.groups);
  room = omega (arith, grown.groups, grown.room, table.room);
}

pub reached_grown : {old new : Marks} (row : ℕ) → IsGrown old new → IsReached old row → IsReached new row
reached_grown {old} {new} row grown reached =
    let P : ℕ → Type 0 = λ n. (row / 64 + 1) * n * 64 ≤ length new.words.items in
    subst P (sym grown.groups) (omega (arith, grown.words, reached))

pub grown_on : {a b c : Marks} → IsGrown a b → IsGrown b c → IsGrown a c
grown_on first then = record {
  groups = then.groups ∙ first.groups;
  room = omega (arith, first.room, then.room);
  words = omega (arith, first.words, then.words);
}

pub grown_none : (marks : Marks) → IsGrown marks marks
grown_none marks = record { groups = refl; room = omega arith; words = omega arith }

-- where levels and marks were written, and the look, which is as long as before
pub rows_held : {channels room spare capacity : ℕ} {order : List Place} {free levels filled look now : List ℕ} {was marks : Marks}
    → HoldsRows channels order room free spare levels capacity look was → IsGrown was marks → length filled ≡ length levels
    → length now ≡ length look → HoldsRows channels order room free spare filled capacity now marks
rows_held held grown same long = record {
  kept = held.kept;
  block = record { few = held.block.few; covered = λ k d within. omega (arith, held.block.covered k d within, same); apart = held.block.apart };
  level_room = held.level_room;
  look_room = long ∙ held.look_room;
  marked = record {
    table = table_grown grown held.marked.table;
    reached = λ r within. reached_grown r grown (held.marked.reached r (omega (arith, within, same)));
  };
}

-- a place of the order for each cue of a valid show
pub has_places : {show : Show} {channels : ℕ} {order : List Place} {levels : List ℕ} → Valid show → channels ≡ show.channels
    → IsBlock channels levels order → length order ≡ length show.cues → HasPlaces channels levels order show.cues
has_places valid same block places = record { block = block; places = places; valid = rw same valid.cues }

-- where both the block and the table reach over more rows
pub marks_reached : {channels : ℕ} {levels new : List ℕ} {was marks : Marks} (rows : ℕ) → HoldsMarks channels levels was → IsGrown was marks
    → ((r : ℕ) → r < rows → IsReached marks r) → length new ≡ max (length levels) (rows * width channels) → HoldsMarks channels new marks
marks_reached {channels} rows marked grown more long = record {
  table = table_grown grown marked.table;
  reached = λ r within. elim (cases_lt r rows) [
    | inl less ↦ more r less
    | inr past ↦ reached_grown r grown
        (marked.reached r (omega (arith, within, long, mul-le-mul_right {m = rows} {n = r} (width channels) past)))
  ];
}

-- where a cue came, over whose row the block and the table reach
pub row_came : {channels room spare capacity space place keep : ℕ} {old new lent : List Place} {free more levels grown look : List ℕ}
    {was marks : Marks} {row : ℕ} (at n : ℕ) → HoldsRows channels old room free spare levels capacity look was → IsOrder new space more place
    → new ≡ insert old at (record { cue = n; row = row_at_place new at }) → lent ≡ new → row ≡ row_at_place lent at
    → length grown ≡ max (length levels) ((row + 1) * width channels) → capacity ≤ keep → IsGrown was marks
    → ((r : ℕ) → r < row + 1 → IsReached marks r) → HoldsRows channels new space more place grown keep look marks
row_came {channels} {old = old} {new} {grown = grown} {row = row} at n held kept added same is long wider table reached =
    let P : ℕ → Type 0 = λ r. (r + 1) * width channels ≤ length grown in
    let own : ℕ = row_at_place new at in
    let here : P own = rw (← same, ← is) (omega (arith, long)) in
    record {
      kept = kept;
      block = record {
        few = held.block.few;
        covered = rw (ap own_rows added ∙ own-insert old at (record { cue = n; row = own }))
            (All-permutation P (own ∷ own_rows old) (insert (own_rows old) at own) (IsPermutation-insert (own_rows old) at own)
            (All-cons P own (own_rows old) here (λ k d within. omega (arith, held.block.covered k d within, long))));
        apart = own_apart kept.pool;
      };
      level_room = omega (arith, wider, held.level_room);
      look_room = held.look_room;
      marked = marks_reached (row + 1) held.marked table reached long;
    }

-- and where one went
pub row_gone : {channels room spare capacity space place : ℕ} {old new : List Place} {free more levels look : List ℕ} {marks : Marks}
    (at : ℕ) → HoldsRows channels old room free spare levels capacity look marks → IsOrder new space more place → new ≡ remove old at
    → at < length old → HoldsRows channels new space more place levels capacity look marks
row_gone {channels} {old = old} {levels = levels} at held kept dropped within =
    let P : ℕ → Type 0 = λ r. (r + 1) * width channels ≤ length levels in
    let there : at < length (own_rows old) = omega (arith, length-map old (λ (p : Place). p.row)) in
    let row : ℕ = get_or (own_rows old) at 0 in
    let all = All-permutation P (own_rows old) (row ∷ remove (own_rows old) at)
    (IsPermutation-remove (own_rows old) at row there (get_or_default (own_rows old) at 0 row there)) held.block.covered in
    record {
      kept = kept;
      block = record {
        few = held.block.few;
        covered = rw (ap own_rows dropped ∙ own-remove old at) (λ k d less. all (suc k) d (omega arith));
        apart = own_apart kept.pool;
      };
      level_room = held.level_room;
      look_room = held.look_room;
      marked = held.marked;
    }

-- What is true of the entry at a place.
pub at_place : {A : Type 0} (o : Option A) (P : A → Type 0) → ((x : A) → o ≡ Some x → P x) → IfSome o P
at_place None P some = tt
at_place (Some x) P some = some x refl

-- a row's mark among those that contracts see
abbrev mark_in : ℕ → Marks → ℕ → ℕ → Bool
mark_in channels marks row c = slice_index_or (true ∷ map (has_mark marks row) (range_with_len 1 channels)) c true

-- it is that of the table, and set past the channels
mark_is : (channels : ℕ) (marks : Marks) (row c : ℕ) (b : Bool) → (1 ≤ c → c ≤ channels → has_mark marks row c ≡ b)
    → ((1 ≤ c → channels < c) → b ≡ true) → mark_in channels marks row c ≡ b
mark_is channels marks row zero b within past = sym (past (λ least. absurd (omega (arith, least))))
mark_is channels marks row (suc c) b within past = elim (cases_lt channels (suc c)) [
  | inl more ↦ get_or_past (map (has_mark marks row) (range_with_len 1 channels)) c true
      (omega (arith, length-map-range_with_len (has_mark marks row) 1 channels)) ∙ sym (past (λ _. more))
  | inr most ↦ get_or-map-range_with_len (has_mark marks row) 1 channels c (suc c) true (omega arith) (omega arith)
      ∙ within (omega arith) most
]

mark_there : (channels : ℕ) (marks : Marks) (row c : ℕ) → 1 ≤ c → c ≤ channels → mark_in channels marks row c ≡ has_mark marks row c
mark_there channels marks row c least most = mark_is channels marks row c _ (λ _ _. refl) (λ past. absurd (omega (arith, past least, most)))

marked_in : (channels : ℕ) (order : List Place) (marks : Marks) (n c : ℕ) → marked_by (marks_of channels order marks) n c
    ≡ option_map_or (λ p. mark_in channels marks p.row c) (entry_at (λ p. p.cue) n order) true
unfolding marked_by
marked_in channels order marks n c =
    let seen : Place → CueMarks = λ p. record { number = p.cue; chans = map (has_mark marks p.row) (range_with_len 1 channels) } in
    rw (find_mapped seen (λ (m : CueMarks). m.number == n) order)
    (map_or_mapped seen (λ (m : CueMarks). slice_index_or (true ∷ m.chans) c true) (entry_at (λ (p : Place). p.cue) n order) true)

-- the marks of the cue at a place
marked_there : {order : List Place} {n k : ℕ} (channels : ℕ) (marks : Marks) (c : ℕ) → StandsAt (λ p. p.cue) n order k
    → marked_by (marks_of channels order marks) n c ≡ mark_in channels marks (row_at_place order k) c
marked_there {order} {n} {k} channels marks c stands =
    let d : Place = record { cue = 0; row = 0 } in
    marked_in channels order marks n c
    ∙ rw (stands.here ∙ slice_get-get_or order k d stands.within, get_or-map (λ (x : Place). x.row) order k d 0 stands.within) refl

-- the channels that a cue decides are marked at its number where they are in its row
marked_number : {order : List Place} {n k : ℕ} (channels : ℕ) (marks : Marks) (cue : Cue) → StandsAt (λ p. p.cue) n order k
    → IsMarkedFor channels marks (row_at_place order k) cue → (c : ℕ) → decides cue c ≡ true → marked_by (marks_of channels order marks) n
    c ≡ true
marked_number {order} {k = k} channels marks cue stands right c is =
    marked_there channels marks c stands
    ∙ mark_is channels marks (row_at_place order k) c true (λ least most. right c least most is) (λ _. refl)

same_place : {show : Show} {order : List Place} (k : ℕ) (cue : Cue) → IsOrderOf show order → k < length show.cues
    → cue ≡ get_or show.cues k cue
    → StandsAt (λ p. p.cue) cue.number order k
same_place {show} {order} k cue is within here =
    let d : Place = record { cue = 0; row = 0 } in
    let there : k < length order = omega (arith, within, order_length is) in
    stands_where (λ (p : Place). p.cue) cue.number order k (get_or order k d) is.sorted there (get_or_default order k d (get_or order k d)
    there)
    (sym (get_or-map (λ (p : Place). p.cue) order k d 0 there) ∙ ap (λ (ns : List ℕ). get_or ns k 0) is.numbers
    ∙ get_or-map (λ (x : Cue). x.number) show.cues k cue 0 within ∙ ap (λ (x : Cue). x.number) (sym here))

-- marks that are right in the rows are so at the numbers
marked_stands : {show : Show} {order : List Place} (channels : ℕ) (levels : List ℕ) (marks : Marks) → IsOrderOf show order
    → AreMarked channels order show.cues marks → IsMarked show (sheet_of channels order levels marks)
marked_stands {show} {order} channels levels marks is right n =
    at_entry (λ (x : Cue). x.number) n show.cues
    (λ o. IfSome o (λ cue. (c : ℕ) → decides cue c ≡ true → marked_by (marks_of channels order marks) n c ≡ true)) tt
    (λ k cue there number.
    let within : k < length show.cues = slice_get_within show.cues k cue there in
    let here : cue ≡ get_or show.cues k cue = sym (get_or_from_slice_get show.cues k cue cue there) in
    rw (← number) (marked_number channels marks cue (same_place k cue is within here) (right k cue within here)))

-- and the other way
pub marks_right : {show : Show} {order : List Place} (channels : ℕ) (levels : List ℕ) (marks : Marks) → IsOrderOf show order
    → IsMarked show (sheet_of channels order levels marks) → AreMarked channels order show.cues marks
marks_right {show} {order} channels levels marks is marked k cue within here c least most decided =
    let stands = stands_where (λ (x : Cue). x.number) cue.number show.cues k cue is.cues_sorted within here refl in
    let right = rw (stands.here ∙ slice_get-get_or show.cues k cue within ∙ ap Some (sym here)) at (marked cue.number) in
    sym (mark_there channels marks (row_at_place order k) c least most)
    ∙ sym (marked_there channels marks c (same_place k cue is within here)) ∙ right c decided

-- Where the marks of one row were written again, those of the other cues are as before.
pub marked_others : {channels : ℕ} {levels : List ℕ} {order : List Place} {n at : ℕ} (old new : Marks) → IsBlock channels levels order
    → StandsAt (λ p. p.cue) n order at
    → ((r c : ℕ) → r ≢ row_at_place order at → 1 ≤ c → c ≤ channels → has_mark new r c ≡ has_mark old r c)
    → (m c : ℕ) → m ≢ n → marked_by (marks_of channels order new) m c ≡ marked_by (marks_of channels order old) m c
marked_others {channels} {order = order} {n} {at} old new block stands same m c other =
    marked_in channels order new m c
    ∙ at_entry (λ (p : Place). p.cue) m order
    (λ o. option_map_or (λ p. mark_in channels new p.row c) o true ≡ option_map_or (λ p. mark_in channels old p.row c) o true) refl
    (λ k p there number.
    let within : k < length order = slice_get_within order k p there in
    let is : p ≡ get_or order k p = sym (get_or_from_slice_get order k p p there) in
    let differ : k ≢ at = λ e. other (sym number ∙ ap (λ (x : Place). x.cue) is ∙ ap (λ i. (get_or order i p).cue) e
    ∙ stands_number p stands) in
    let apart_row : p.row ≢ row_at_place order at = λ e. rows_differ k at block within stands.within differ (row_is order k p within is
    ∙ e) in
    mark_is channels new p.row c _
    (λ least most. same p.row c apart_row least most ∙ sym (mark_there channels old p.row c least most))
    (λ past. mark_is channels old p.row c true (λ least most. absurd (omega (arith, past least, most))) (λ _. refl)))
    ∙ sym (marked_in channels order old m c)

-- and those of the cue are right, if it is there
pub marked_anew : {channels : ℕ} {order : List Place} {n at : ℕ} {cue : Cue} (show : Show) (levels : List ℕ) (marks : Marks)
    → StandsAt (λ p. p.cue) n order at → cue_of show n ≡ Some cue → IsMarkedFor channels marks (row_at_place order at) cue
    → IsMarkedAt show (sheet_of channels order levels marks) n
marked_anew {channels} {cue = cue} show levels marks stands found right = rw found (marked_number channels marks cue stands right)

-- a cue without a row is marked
pub marked_absent : (show : Show) (channels n : ℕ) (order : List Place) (levels : List ℕ) (marks : Marks)
    → entry_at (λ p. p.cue) n order ≡ None → IsMarkedAt show (sheet_of channels order levels marks) n
marked_absent show channels n order levels marks absent =
    at_place (cue_of show n) (λ cue. (c : ℕ) → decides cue c ≡ true → marked_by (marks_of channels order marks) n c ≡ true)
    (λ cue there c is. rw (marked_in channels order marks n c, absent) refl)

-- The rows and the marks at the places of an order are those of the show's cues.
pub record AtPlaces (show : Show) (channels : ℕ) (order : List Place) (levels : List ℕ) (marks : Marks) : Type 0 where
  pub same : channels ≡ show.channels
  pub is : IsOrderOf show order
  pub right : (k c : ℕ) → k < length show.cues → IsRight channels order show.cues levels k c
  pub marked : AreMarked channels order show.cues marks

-- That is so where the sheet stands for the show, and only there.
pub at_places : {show : Show} {channels : ℕ} {order : List Place} (levels : List ℕ) (marks : Marks) {sheet : Sheet}
    → sheet_of channels order levels marks ≡ sheet → IsStrictlySorted (λ p. p.cue) order → RowsStandFor show sheet
    → AtPlaces show channels order levels marks
at_places {show} {channels} {order} levels marks seen sorted stands =
    let stood : RowsStandFor show (sheet_of channels order levels marks) = rw seen stands in
    let is : IsOrderOf show order = order_of show levels marks refl sorted stood.numbers in record {
      same = stood.channels;
      is = is;
      right = λ k c within. right_at is channels levels c k within (stood.columns c (get_or (cue_numbers show) k 0));
      marked = marks_right channels levels marks is stood.marks;
    }

pub stands_of : {show : Show} {channels : ℕ} {order : List Place} {levels : List ℕ} {marks : Marks} → AtPlaces show channels order levels
    marks
    → RowsStandFor show (sheet_of channels order levels marks)
stands_of {show} {channels} {order} {levels} {marks} at = record {
  channels = at.same;
  numbers = numbers-rows_of channels order levels ∙ at.is.numbers;
  columns = λ c. column_right at.is channels levels c (λ k within. at.right k c within);
  marks = marked_stands channels levels marks at.is at.marked;
}

pub grown_places : {show : Show} {channels : ℕ} {order : List Place} {levels new : List ℕ} {marks : Marks}
    → AtPlaces show channels order levels marks → ((r c : ℕ) → cell channels new r c ≡ cell channels levels r c)
    → AtPlaces show channels order new marks
grown_places {order = order} at same = record {
  same = at.same;
  is = at.is;
  right = λ k c within. same (row_at_place order k) c ∙ at.right k c within;
  marked = at.marked;
}

-- what the marks tell of each cue's row
pub tells : {show : Show} {channels : ℕ} {order : List Place} {levels : List ℕ} {marks : Marks} (chan : ℕ) → IsOrderOf show order
    → IsBlock channels levels order → HoldsMarks channels levels marks → IsMarked show (sheet_of channels order levels marks)
    → 1 ≤ chan → chan ≤ channels → (k : ℕ) → IfSome (slice_get show.cues k) (λ cue. Tells marks (row_at_place order k) cue chan)
tells {show} {channels} {order} {levels} {marks} chan is block marked stands least most k =
    at_place (slice_get show.cues k) (λ cue. Tells marks (row_at_place order k) cue chan) (λ cue there.
    let within : k < length show.cues = slice_get_within show.cues k cue there in record {
      few = marked.table.few;
      within = omega (arith, most, marked.table.groups);
      reached = marked.reached (row_at_place order k) (covered_at k block (omega (arith, within, order_length is)));
      marked = marks_right channels levels marks is stands k cue within (sym (get_or_from_slice_get show.cues k cue cue there)) chan least
          most;
    })

-- The marks of the rows at the places from one to another are right, and those at the other places are as before.
pub record IsRemarked (channels : ℕ) (order : List Place) (cues : List Cue) (was marks : Marks) (at b : ℕ) : Type 0 where
  pub kept : (k c : ℕ) → (at ≤ k → b ≤ k) → k < length order → 1 ≤ c → c ≤ channels
      → has_mark marks (row_at_place order k) c ≡ has_mark was (row_at_place order k) c
  pub came : (k : ℕ) (cue : Cue) → at ≤ k → k < b → k < length cues → cue ≡ get_or cues k cue
      → IsMarkedFor channels marks (row_at_place order k) cue

-- so they are where those of one row were written again, for its cue
pub remarked : {channels : ℕ} {levels : List ℕ} {order : List Place} {at row : ℕ} {cues : List Cue} {cue : Cue} {was marks : Marks}
    {most : ℕ}
    → IsBlock channels levels order → at < length order → row ≡ row_at_place order at → cue ≡ get_or cues at cue → channels ≤ most
    → IsMarkedFor most marks row cue → ((r c : ℕ) → r ≢ row → 1 ≤ c → c ≤ most → has_mark marks r c ≡ has_mark was r c)
    → IsRemarked channels order cues was marks at (at + 1)
remarked {channels} {order = order} {at} {cues = cues} {cue} {marks = marks} block there row_is is wide right same = record {
  kept = λ k c other within least most. same (row_at_place order k) c (λ e. rows_differ k at block within there
      (λ here. absurd (omega (arith, here, other (omega arith)))) (e ∙ row_is)) least (omega (arith, most, wide));
  came = λ k x least less within x_is.
      let here : k ≡ at = omega arith in
      let one : x ≡ cue = x_is ∙ get_or_default cues k x cue within ∙ ap (λ i. get_or cues i cue) here ∙ sym is in
      rw (here, one, ← row_is) (λ c least most. right c least (omega (arith, most, wide)));
}

pub unmarked : {channels at : ℕ} {order : List Place} {cues : List Cue} {marks : Marks} → IsRemarked channels order cues marks marks at at
unmarked = record { kept = λ k c other within least most. refl; came = λ k cue least less. absurd (omega (arith, least, less)) }
