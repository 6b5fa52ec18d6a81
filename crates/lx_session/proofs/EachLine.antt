-- The lines of a session in order, and the attempts of them that failed.
use Rattle.lx_session.proofs.Imports.{◌≡◌, ℕ, ◌-◌, Option, None, List, [], ◌∷◌, ◌++◌, take, length, refl, sym, ap, ◌∙◌, arith, append_assoc, length-append}
use Rattle.lx_session.proofs.Imports.{append-nil, Session, Answering, after_each, AreAllowed, ExtendsText, IsLawful}
use Rattle.std.proofs.lemmas.List.{take_at}

-- each only adds to the text
extends_more : (by : Answering (List ℕ)) → IsLawful by → (failed : Option ℕ) (s next : Session by.State) (line : List ℕ)
    → ExtendsText (by.answer failed s line) next → ExtendsText s next
extends_more by lawful failed s next line b =
    let a = lawful.extends failed s line in
    record { more = a.more ++ b.more; text = b.text ∙ ap (λ v. v ++ b.more) a.text ∙ append_assoc s.text a.more b.more }

pub extends_each : (by : Answering (List ℕ)) → IsLawful by → (failures : List (Option ℕ)) (s : Session by.State) (script : List (List ℕ))
    → ExtendsText s (after_each by failures s script)
extends_each by lawful failures s [] = record { more = []; text = sym (append-nil s.text) }
extends_each by lawful [] s (line ∷ script) =
    extends_more by lawful None s (after_each by [] (by.answer None s line) script) line
    (extends_each by lawful [] (by.answer None s line) script)
extends_each by lawful (failed ∷ failures) s (line ∷ script) =
    extends_more by lawful failed s (after_each by failures (by.answer failed s line) script) line
    (extends_each by lawful failures (by.answer failed s line) script)

-- first lines, and those behind them
pub each-split : {A : Type 0} (by : Answering A) (failures : List (Option ℕ)) (s : Session by.State) (xs ys : List A) → (more : List (Option ℕ))
    × (after_each by failures s (xs ++ ys) ≡ after_each by more (after_each by failures s xs) ys)
each-split by failures s [] ys = (failures, refl)
each-split by [] s (x ∷ xs) ys = each-split by [] (by.answer None s x) xs ys
each-split by (f ∷ fs) s (x ∷ xs) ys = each-split by fs (by.answer f s x) xs ys

-- so the text of all lines begins with that of the first ones
pub more_text : (by : Answering (List ℕ)) → IsLawful by → (failures : List (Option ℕ)) (s : Session by.State) (xs ys : List (List ℕ))
    → (more : List ℕ) × ((after_each by failures s (xs ++ ys)).text ≡ (after_each by failures s xs).text ++ more)
more_text by lawful failures s xs ys =
    let split = each-split by failures s xs ys in
    let e = extends_each by lawful split.0 (after_each by failures s xs) ys in (e.more, ap (λ v. v.text) split.1 ∙ e.text)

-- lines, and then others
pub each-append : {A : Type 0} (by : Answering A) (failures more : List (Option ℕ)) (s : Session by.State) (xs ys : List A)
    → length failures ≡ length xs
    → after_each by (failures ++ more) s (xs ++ ys) ≡ after_each by more (after_each by failures s xs) ys
each-append by [] more s [] ys same = refl
each-append by [] more s (x ∷ xs) ys same = absurd (omega (arith, same))
each-append by (f ∷ fs) more s [] ys same = absurd (omega (arith, same))
each-append by (f ∷ fs) more s (x ∷ xs) ys same = each-append by fs more (by.answer f s x) xs ys (omega (arith, same))

-- all but the last of a list
pub but_last : {A : Type 0} (xs : List A) (x : A) → take (length (xs ++ x ∷ []) - 1) (xs ++ x ∷ []) ≡ xs
but_last xs x = take_at xs (x ∷ []) (length (xs ++ x ∷ []) - 1) (omega (arith, length-append xs (x ∷ [])))

-- so what is told of one line more changes nothing of the session before it
pub each-before : {A : Type 0} (by : Answering A) (failures more : List (Option ℕ)) (s : Session by.State) (xs : List A) (x : A)
    → length failures ≡ length xs
    → after_each by (failures ++ more) s (take (length (xs ++ x ∷ []) - 1) (xs ++ x ∷ [])) ≡ after_each by failures s xs
each-before by failures more s xs x same =
    ap (after_each by (failures ++ more) s) (but_last xs x ∙ sym (append-nil xs)) ∙ each-append by failures more s xs [] same

pub allowed-append : {A : Type 0} (by : Answering A) (failures more : List (Option ℕ)) (s : Session by.State) (xs ys : List A)
    → length failures ≡ length xs → AreAllowed by failures s xs → AreAllowed by more (after_each by failures s xs) ys
    → AreAllowed by (failures ++ more) s (xs ++ ys)
allowed-append by [] more s [] ys same a b = b
allowed-append by [] more s (x ∷ xs) ys same a b = absurd (omega (arith, same))
allowed-append by (f ∷ fs) more s [] ys same a b = absurd (omega (arith, same))
allowed-append by (f ∷ fs) more s (x ∷ xs) ys same a b = (a.0, allowed-append by fs more (by.answer f s x) xs ys (omega (arith, same)) a.1 b)

-- attempts of further lines don't fail
pub allowed_further : {A : Type 0} (by : Answering A) (failures : List (Option ℕ)) (s : Session by.State) (xs ys : List A)
    → length failures ≡ length xs → AreAllowed by failures s xs → AreAllowed by failures s (xs ++ ys)
allowed_further by [] s xs ys same a = tt
allowed_further by (f ∷ fs) s [] ys same a = absurd (omega (arith, same))
allowed_further by (f ∷ fs) s (x ∷ xs) ys same a = (a.0, allowed_further by fs (by.answer f s x) xs ys (omega (arith, same)) a.1)
