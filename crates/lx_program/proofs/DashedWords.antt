-- Words of which one begins with a dash name no job.
use Rattle.lx_program.proofs.Imports.{◌≡◌, ◌∙◌, ℕ, ◌==◌, Bool, true, false, Option, Some, None, List, [], ◌∷◌, refl, sym, ap, subst}
use Rattle.lx_program.proofs.Imports.{arith, ◌&&◌, ◌||◌, codes, option_map, option_and_then, if◌then◌else◌, list_any, bytes_eq, nat_tests, Form}
use Rattle.lx_program.proofs.Imports.{Job, Check, Sheet, Make, Script, Crew, Render, Live, Undo, Two, job_of, form_of, plain_number, number_alone, counted_job}
use Rattle.lx_program.proofs.Imports.{begins_with_dash}
use Rattle.lx_base.specs.declared.TheConstants.{CUES, UNIVERSES, OPERATORS}
use Rattle.lx_spec.specs.declared.Form.TheVariants.{States}
use Rattle.lx_spec.specs.Phrase.{ended}

abbrev HasDash : List (List ℕ) → Type 0
HasDash ws = list_any begins_with_dash ws ≡ true

is_dash : (x : ℕ) → (x == 45) ≡ true → x ≡ 45
is_dash x e = grind (arith, nat_tests, e)

isnt : (w name : List ℕ) → begins_with_dash w ≡ true → begins_with_dash name ≡ false → bytes_eq w name ≡ false
isnt [] name e other = absurd cc
isnt (x ∷ xs) [] e other = refl
isnt (x ∷ xs) (k ∷ ks) e other = let differs : (x == k) ≡ false = grind (arith, nat_tests, e, other) in ap (λ b. b && bytes_eq xs ks) differs

no_number : (most : ℕ) (w : List ℕ) → begins_with_dash w ≡ true → plain_number most w ≡ None
no_number most [] e = absurd cc
no_number most (x ∷ xs) e = subst (λ y. plain_number most (y ∷ xs) ≡ None) (sym (is_dash x e)) refl

more_words : {A : Type 0} (ws : List (List ℕ)) (answer : A) → HasDash ws → ended ws answer ≡ None
more_words [] answer e = absurd cc
more_words (w ∷ ws) answer e = refl

-- a word, and what follows it
first_or_more : (P : Type 0) (w : List ℕ) (ws : List (List ℕ)) → HasDash (w ∷ ws) → (begins_with_dash w ≡ true → P) → (HasDash ws → P) → P
first_or_more P w ws e first more = go (begins_with_dash w) refl
  where
    go : (b : Bool) → begins_with_dash w ≡ b → P
    go true is = first is
    go false is = more (ap (λ b. b || list_any begins_with_dash ws) (sym is) ∙ e)

either : {A : Type 0} (b : Bool) (x y : Option A) → x ≡ None → y ≡ None → (if b then x else y) ≡ None
either true x y none none' = none
either false x y none none' = none'

-- where the word is this name, which has no dash, a later one has it
if_named : {A : Type 0} (w : List ℕ) (ws : List (List ℕ)) (name : List ℕ) (x y : Option A) → HasDash (w ∷ ws) → begins_with_dash name ≡ false
    → (HasDash ws → x ≡ None) → y ≡ None → (if bytes_eq w name then x else y) ≡ None
if_named w ws name x y e other more none = first_or_more ((if bytes_eq w name then x else y) ≡ None) w ws e
    (λ first. ap (λ t. if t then x else y) (isnt w name first other) ∙ none)
    (λ later. either (bytes_eq w name) x y (more later) none)

no_form : (ws : List (List ℕ)) → HasDash ws → form_of ws ≡ None
no_form [] e = absurd cc
no_form (w ∷ ws) e = if_named w ws (codes "states") _ None e refl (more_words ws States) refl

after_number : {A : Type 0} (o : Option ℕ) (f : ℕ → Option A) → ((n : ℕ) → f n ≡ None) → option_and_then f o ≡ None
after_number None f none = refl
after_number (Some n) f none = none n

no_alone : (most : ℕ) (ws : List (List ℕ)) → HasDash ws → number_alone most ws ≡ None
no_alone most [] e = absurd cc
no_alone most (w ∷ ws) e = first_or_more (number_alone most (w ∷ ws) ≡ None) w ws e
    (λ first. ap (option_and_then (ended ws)) (no_number most w first))
    (λ more. after_number (plain_number most w) (ended ws) (λ n. more_words ws n more))

no_counted : (most : ℕ) (job : ℕ → Form → Job) (ws : List (List ℕ)) → HasDash ws → counted_job most job ws ≡ None
no_counted most job [] e = absurd cc
no_counted most job (w ∷ ws) e = first_or_more (counted_job most job (w ∷ ws) ≡ None) w ws e
    (λ first. ap (option_and_then (λ n. option_map (job n) (form_of ws))) (no_number most w first))
    (λ more. after_number (plain_number most w) (λ n. option_map (job n) (form_of ws)) (λ n. ap (option_map (job n)) (no_form ws more)))

pub no_job : (ws : List (List ℕ)) → HasDash ws → job_of ws ≡ None
no_job [] e = absurd cc
no_job (w ∷ ws) e =
    if_named w ws (codes "check") _ _ e refl (λ more. ap (option_map Check) (no_form ws more))
    (if_named w ws (codes "render") _ _ e refl (λ more. ap (option_map (Script Render)) (no_form ws more))
    (if_named w ws (codes "sheet") _ _ e refl (λ more. ap (option_map Sheet) (no_form ws more))
    (if_named w ws (codes "make") _ _ e refl (λ more. ap (option_map Make) (no_alone CUES ws more))
    (if_named w ws (codes "run") _ _ e refl (no_counted UNIVERSES (λ universes. Script (Live universes)) ws)
    (if_named w ws (codes "undo") _ _ e refl (λ more. ap (option_map (Script Undo)) (no_form ws more))
    (if_named w ws (codes "two") _ _ e refl (λ more. ap (option_map (Script Two)) (no_form ws more))
    (if_named w ws (codes "crew") _ None e refl (no_counted OPERATORS Crew ws) refl)))))))
