-- `into_parts` puts the allocator beside the pointer.
use Rattle.lx_host.proofs.Imports.{◌≡◌, refl, sym, subst, List, [], ◌∷◌, ◌++◌, Ura, Val, vptr, SProp, ent, id⊢, ftrue, fsep, Memory, Routine}
use Rattle.lx_host.proofs.Imports.{WpFn, Tables, Logic, Fun, fact, tables, WpFn-mono, Item, ‵, raw, ◌⊛◌, ◌$◌, ◌∵◌, !, qed, by, move, keep}
use Rattle.lx_host.proofs.Imports.{drop, use1, join, split, fsplit, fjoin, suffices, done, whole, sub, agg, stop, fld, no_more, and_then, of_opd, returns}
use Rattle.lx_host.proofs.Imports.{enter, alloc_all, pass_all, free_all, look_at, get, get_in, sets, yes, block_ptr, part_at, full_share, type_at, heard}
use Rattle.lx_host.proofs.Imports.{nothing, triple_of, entered, says, Stays, stay_dropped, walk_of, ends_at, Goes-dropped, walk_Meets, is_some, true, token}
use Rattle.lx_host.proofs.Imports.{handle_tells, D, R, τ, word, box_typed, box_in}
use contract.Running.{tables_of}
use mir.Raw.{raw as bare}
use Rattle.std.specs.contracts.alloc.Global as Heap
use Rattle.lx_host.specs.contracts.handle.Handle as Handle
use Rattle.lx_host.proofs.AsBox.{E, FromHandle as From, FromHeap, one, value_of, handle_out}
use Rattle.lx_host.specs.contracts.handle.Handle.into_parts as F
use Rattle.lx_host.specs.contracts.handle.Handle.into_parts.Key.{name as #self}
use Rattle.lx_host.proofs.handle.Handle.into_parts.Statement as stated
use Rattle.lx_host.proofs.handle.Handle.into_parts.Code as code

abbrev stayed : Stays (F.ended).signature.params (F.ended).kept
stayed = (stay_dropped From yes, (stay_dropped FromHeap yes, tt))

module _ {M : Type 1} {𝓤 : Ura M} (𝓛 : Logic 𝓤) (at_mem : Memory → SProp 𝓤) (run : Routine → Fun 𝓤) (𝓣 : Tables 𝓤 𝓛.H) where
  open 𝓛 use {H}

  walk : (z : (walk_of 𝓛 F.ended stayed (F.clauses 𝓛 at_mem run)).Ghost)
      → ent 𝓤 ((walk_of 𝓛 F.ended stayed (F.clauses 𝓛 at_mem run)).pre z) (WpFn 𝓤 H 𝓣.C 𝓣.Λ code.function (z.0.4.0 ++ (z.0.4.1.0 ++ [])) ((walk_of 𝓛 F.ended stayed (F.clauses 𝓛 at_mem run)).post z))
  walk z =
      let Post = (walk_of 𝓛 F.ended stayed (F.clauses 𝓛 at_mem run)).post z in
      let d = z.0.3.0 in let a = z.0.3.1.0 in let vs = z.0.4.0 in let hs = z.0.4.1.0 in
      let To = type_at (F.signature).result tt in
      qed 𝓛 ((‵ ftrue ⊛ ‵ (fsep (Handle.the_row.own_val d vs) (fsep (Heap.the_row.own_val a hs) ftrue))) ∷ raw (fact 𝓤 (is_some d.held ≡ true)) ∷ []) ∵ move ! (1 ∷ []) $ heard ! (is_some d.held ≡ true) (λ open_. let found = value_of d.held open_ in let x = found.0 in let held = found.1 in split ! $ drop ! $ fsplit ! $
      handle_out ! d x vs held (λ heap b o e ws. move ! (1 ∷ []) $ fsplit ! $ handle_tells E.al ! a hs (λ hv ea fa.
      let v : D E = record { ptr = block_ptr b o; alloc = a; value = x } in
      let made : To.Denot = record { ptr = block_ptr b o; alloc = a; value = x } in
      let w = word E hv b o in
      let u = one (vptr b o) in
      move ! (2 ∷ []) $ fsplit ! $ use1 𝓛 (‵ (part_at (R E) full_share x b o)) (id⊢ 𝓤 _) $ move ! (1 ∷ []) $ use1 𝓛 (‵ (token E.al a (bare (τ E)) (block_ptr b o))) (id⊢ 𝓤 _) $
      move ! (1 ∷ 0 ∷ 2 ∷ []) $ box_in E ! v b o x refl refl $ use1 𝓛 (‵ (To.own_val made (w ∷ []))) (id⊢ 𝓤 _) $ keep ! (0 ∷ []) $
      let Γ : List (Item 𝓤) = ‵ (To.own_val made (w ∷ [])) ∷ [] in
      by ! (subst (λ (us : List Val). ent 𝓤 (types.Kit.⋆ 𝓛 Γ) (WpFn 𝓤 H 𝓣.C 𝓣.Λ code.function (us ++ (hs ++ [])) Post)) (sym ws)
      (subst (λ (us : List Val). ent 𝓤 (types.Kit.⋆ 𝓛 Γ) (WpFn 𝓤 H 𝓣.C 𝓣.Λ code.function (u ∷ (us ++ [])) Post)) (sym ea)
      (qed 𝓛 Γ ∵ enter ! 𝓣.C 𝓣.Λ code.function (u ∷ hv ∷ []) _ $ alloc_all ! (λ ls. pass_all ! refl ((tt, (tt, tt)), (fa, tt)) $
      sets ! (of_opd ! (get_in ! (fld ! refl (stop !)) (sub ! 0 refl (whole !)))) refl (tt, tt) $
      sets ! (of_opd ! (get ! refl)) refl (tt, tt) $
      sets ! (agg ! (and_then ! (get ! refl) (and_then ! (get ! refl) (no_more !)))) refl (box_typed E hv b o fa) $ returns ! (look_at ! 0 refl) $ free_all ! refl $
      suffices ! _ (ends_at 𝓛 F.ended stayed (F.clauses 𝓛 at_mem run) z w made (tt, (tt, tt)) (tt, (tt, tt))) $ says ! held $
      nothing ! $ nothing ! $ fjoin ! $ nothing ! $ fjoin ! $ join ! $ nothing ! $ join ! $ done !)))))))

pub into_parts_spec : {M : Type 1} → stated.statement M
unfolding tables_of
into_parts_spec 𝓤 𝓛 𝓜 𝓡 wired =
    let 𝓣 : Tables 𝓤 𝓛.H = tables_of 𝓤 𝓛.H 𝓜 (tables 𝓤 𝓛.H 𝓜 𝓡 𝓡.env) in
    entered 𝓤 𝓛.H (triple_of 𝓛 F.signature (F.spec 𝓛 𝓜.mem 𝓡.returns)) 𝓣.C 𝓣.Λ #self code.function (code.unfolded 𝓤 𝓛.H 𝓜 𝓡 wired)
    (walk_Meets 𝓛 F.ended stayed (Goes-dropped 𝓛 0 From yes (λ κs x f. refl), (Goes-dropped 𝓛 0 FromHeap yes (λ κs x f. refl), tt)) (F.clauses 𝓛 𝓜.mem 𝓡.returns) (WpFn 𝓤 𝓛.H 𝓣.C 𝓣.Λ code.function) (WpFn-mono 𝓤 𝓛.H 𝓛.laws 𝓣 code.function)
    (walk 𝓛 𝓜.mem 𝓡.returns 𝓣))
