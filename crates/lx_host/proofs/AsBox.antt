-- What a handle leads to, as a box at its types.
use Rattle.lx_host.proofs.Imports.{◌≡◌, ℕ, List, [], ◌∷◌, ◌++◌, refl, subst, true, is_some, impl, tnil, dnil, Val, vptr, vstruct}
use Rattle.lx_host.proofs.Imports.{vcons, vnil, of_list, never, fst∗, sem, Item, Goal, Seq, Step, step, ‵, ◌$◌, drop, fsplit, fjoin, fpick, fpack}
use Rattle.lx_host.proofs.Imports.{rewrite, feq_i, feq_l, Ura, Logic, Valss, Ptr, block_ptr, null_ptr, ptr_val, in_a_block, Slot, plain, nothing, within, shape}
use Rattle.lx_host.proofs.Imports.{Option, None, Some, Bx, τ, handle_owns, boxed}
use mir.Raw.{raw as bare}
use denote.Builtin.{RawPtr}
use Rattle.std.specs.contracts.alloc.Global as Heap
use Rattle.std.specs.contracts.impls.GlobalAllocator.TheImpl.{ghosts, dict}
use Rattle.std.proofs.alloc.Global.TheLaws as heap
use Rattle.lx_embed.specs.contracts.desk.HostDesk as Host
use Rattle.lx_embed.proofs.desk.HostDesk.TheLaws as host
use Rattle.lx_host.specs.contracts.parts.Parts as Parts
use Rattle.lx_host.specs.contracts.handle.Handle as Handle

abbrev pub E : Bx
E = record { row = Host.the_row; laws = host.the_row_laws; al = record { row = Heap.the_row; laws = heap.the_row_laws; g = ghosts; d = dict; drops = impl [] tnil dnil } }

abbrev pub FromParts : Slot 0
FromParts = plain (λ _. Parts.the_row Host.the_row Heap.the_row ghosts)

abbrev pub FromHandle : Slot 0
FromHandle = plain (λ _. Handle.the_row)

abbrev pub FromHeap : Slot 0
FromHeap = plain (λ _. Heap.the_row)

-- what stands in an option that is told to hold something
pub value_of : {X : Type 0} (o : Option X) → is_some o ≡ true → (x : X) × (o ≡ Some x)
value_of (Some x) e = (x, refl)
value_of None e = absurd cc

-- the machine value of a handle
abbrev pub one : Val → Val
one v = vstruct (vcons v vnil)

module _ {M : Type 1} {𝓤 : Ura M} {𝓛 : Logic 𝓤} {K : Type 0} {Γ : List (Item 𝓤)} {G : Goal 𝓤 𝓛.H} where
  pub handle_in : K → (p : Ptr) (x : Option Host.the_row.Denot)
      → Step K 𝓛 (‵ (Handle.the_row.own_val (record { at = p; held = x }) (one (ptr_val p) ∷ [])) ∷ Γ) G (‵ (handle_owns p x) ∷ Γ) G
  handle_in t p x = step (λ s. let v : Val = one (ptr_val p) in
      nothing t $ feq_i t (List Val) (ptr_val p ∷ []) (ptr_val p ∷ []) refl $ fjoin t $ feq_i t (List Val) (v ∷ []) (v ∷ []) refl $ fjoin t $
      fpack t (Valss (RawPtr ∷ [])) (within (shape Handle.the_type) (p, tt) (v ∷ [])) (ptr_val p ∷ [], tt) $ fjoin t $ s)

  pub handle_out : K → (d : Handle.the_row.Denot) (x : Host.the_row.Denot) (vs : List Val) → d.held ≡ Some x
      → ((heap : Heap.the_row.Denot) (b o : ℕ) → d.at ≡ block_ptr b o → vs ≡ one (vptr b o) ∷ []
      → Seq K 𝓛 (‵ (boxed (block_ptr b o) x heap) ∷ Γ) G)
      → Seq K 𝓛 (‵ (Handle.the_row.own_val d vs) ∷ Γ) G
  handle_out t d x vs held k =
      fsplit t $ fpick t (λ vss. fsplit t $ feq_l t (λ ev. fsplit t $ feq_l t (λ ep. drop t $
      rewrite t 0 (λ (h : Option Host.the_row.Denot). ‵ (handle_owns d.at h)) held refl $
      fpick t (λ heap. in_a_block t d.at (λ p. boxed p x heap)
      (fst∗ 𝓤 (never 𝓤) (sem 𝓛 (ghosts.dealloc_token heap (bare (τ E)) null_ptr))) (λ b o e. k heap b o e
      (subst (λ (p : Ptr). vs ≡ one (ptr_val p) ∷ []) e (subst (λ (ps : List Val). vs ≡ vstruct (of_list (ps ++ [])) ∷ []) ep ev)))))))
